-- Numbers of one kind are compared with each other, and with no other kind. Assumes nothing.
use Rattle.std.specs.Prelude.{ℕ, Bool, eqb}
use Rattle.records.specs.declared.AgentNo.{AgentNo}
use Rattle.records.specs.declared.SiteNo.{SiteNo}
use Rattle.records.specs.declared.MailNo.{MailNo}

abbrev pub agent_no : ℕ → AgentNo
agent_no n = record { 0 = n }

abbrev pub site_no : ℕ → SiteNo
site_no n = record { 0 = n }

abbrev pub mail_no : ℕ → MailNo
mail_no n = record { 0 = n }

abbrev pub same_agent : AgentNo → AgentNo → Bool
same_agent a b = eqb a.0 b.0

abbrev pub same_site : SiteNo → SiteNo → Bool
same_site s u = eqb s.0 u.0

abbrev pub same_mail : MailNo → MailNo → Bool
same_mail m n = eqb m.0 n.0
