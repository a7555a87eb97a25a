-- What the rules ask of the lock. Assumes nothing.
use Rattle.std.specs.Prelude.{Bool, true, false}
use Rattle.records.specs.declared.AgentNo.{AgentNo}
use Rattle.records.specs.declared.MailNo.{MailNo}
use Rattle.records.specs.declared.Lock.{Lock}
use Rattle.records.specs.declared.Lock.TheVariants.{Unheld, ForMove, ForMail}
use Rattle.records.specs.Numbers.{same_agent, same_mail}

abbrev pub is_unheld : Lock → Bool
is_unheld Unheld = true
is_unheld (ForMove a) = false
is_unheld (ForMail m) = false

abbrev pub held_for_move : Lock → AgentNo → Bool
held_for_move Unheld a = false
held_for_move (ForMove b) a = same_agent b a
held_for_move (ForMail m) a = false

abbrev pub held_for_mail : Lock → MailNo → Bool
held_for_mail Unheld m = false
held_for_mail (ForMove a) m = false
held_for_mail (ForMail n) m = same_mail n m
