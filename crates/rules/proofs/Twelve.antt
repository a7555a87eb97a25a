-- Document 01's twelve, P1 to P12, as one list with one statement: what each session tells, answer by answer, and the table it leaves.
use Rattle.std.proofs.Common.{Some, None, ℕ, zero, suc, ◌≡◌, refl, List, [], ◌∷◌, map, length, replicate}
use Rattle.records.specs.declared.MailNo.{MailNo}
use Rattle.records.specs.declared.Agent.{Agent}
use Rattle.records.specs.declared.Phase.TheVariants.{Free, Spawning, Born, Asking, Booked}
use Rattle.records.specs.declared.Message.{Message}
use Rattle.records.specs.declared.Status.TheVariants.{Queued, Closed}
use Rattle.records.specs.declared.Lock.TheVariants.{Unheld}
use Rattle.records.specs.Numbers.{agent_no, site_no, mail_no}
use Rattle.records.specs.Agents.{empty_agent}
use Rattle.records.specs.Messages.{empty_entry}
use Rattle.rules.specs.declared.State.{State}
use Rattle.rules.specs.declared.Step.{Step}
use Rattle.rules.specs.declared.Step.TheVariants.{Spawn, Ask, Send, Enrol, Greet, Grant, Leap, Book, Forward, Hand, Close}
use Rattle.rules.specs.Holding.{no_state}
use Rattle.rules.specs.Sessions.{Told, Ran, session}

-- a list, filled up to the room with the empty filling
unfoldable pub filled {ℓ} : {A : Type ℓ} → ℕ → A → List A → List A
filled room empty [] = replicate room empty
filled zero empty (x ∷ xs) = []
filled (suc room) empty (x ∷ xs) = x ∷ filled room empty xs

-- the table with these agents, messages and log, and nothing else
unfoldable pub holds : ℕ → List Agent → List Message → List MailNo → State
unfolding filled
holds sites agents messages log =
    record {
      sites = sites;
      agents = length agents;
      messages = length messages;
      handed = length log;
      lock = Unheld;
      agent = filled 64 empty_agent agents;
      sender = filled 512 (agent_no 0) (map (λ (m : Message). m.sender) messages);
      number = filled 512 0 (map (λ (m : Message). m.number) messages);
      addressee = filled 512 (agent_no 0) (map (λ (m : Message). m.addressee) messages);
      value = filled 512 0 (map (λ (m : Message). m.value) messages);
      status = filled 512 Queued (map (λ (m : Message). m.status) messages);
      log = filled 512 empty_entry log;
    }

-- agent 0 as it is after opening, and a table of three sites with that agent alone
unfoldable pub first : Agent
first = record { site = site_no 0; phase = Free; map = Some (site_no 0) }

unfoldable pub fresh : State
unfolding holds first
fresh = holds 3 (first ∷ []) [] []

abbrev pub says : ℕ → ℕ → Told
says code number = record { code = code; number = number }

-- the steps of session S, after its opening line
abbrev pub steps_s : List Step
steps_s =
    Spawn (agent_no 0)
    ∷ Enrol (agent_no 1)
    ∷ Greet (agent_no 1)
    ∷ Send (agent_no 0) 1 (agent_no 1) 77
    ∷ Ask (agent_no 1) (site_no 2)
    ∷ Send (agent_no 0) 1 (agent_no 1) 77
    ∷ Send (agent_no 0) 1 (agent_no 1) 78
    ∷ Grant (agent_no 1)
    ∷ Forward (mail_no 0)
    ∷ Leap (agent_no 1)
    ∷ Book (agent_no 1)
    ∷ Forward (mail_no 0)
    ∷ Hand (mail_no 0)
    ∷ Close (mail_no 0)
    ∷ []

abbrev pub fifteen : List Told
fifteen =
    says 0 0
    ∷ says 0 1
    ∷ says 0 0
    ∷ says 0 0
    ∷ says 0 0
    ∷ says 0 0
    ∷ says 1 0
    ∷ says 20 0
    ∷ says 0 0
    ∷ says 16 0
    ∷ says 0 0
    ∷ says 0 0
    ∷ says 0 0
    ∷ says 0 0
    ∷ says 0 0
    ∷ []

-- a session, what it is to tell, and the table that it is to leave
pub record Case : Type 0 where
  pub ran : Ran
  pub told : List Told
  pub leaves : State

abbrev pub case : Ran → List Told → State → Case
case ran told leaves = record { ran = ran; told = told; leaves = leaves }

-- every session of a list tells and leaves what it is to
abbrev pub Right : Case → Type 0
Right c = (c.ran.told ≡ c.told) × (c.ran.state ≡ c.leaves)

abbrev pub EachRight : List Case → Type 0
EachRight [] = Unit {0}
EachRight (c ∷ cs) = Right c × EachRight cs

unfoldable pub cases : List Case
unfolding session holds first fresh
cases =
    case (session 3 steps_s) fifteen
    (holds 3
    (first ∷ record { site = site_no 2; phase = Booked; map = Some (site_no 2) } ∷ [])
    (record { sender = agent_no 0; number = 1; addressee = agent_no 1; value = 77; status = Closed } ∷ [])
    (mail_no 0 ∷ []))
    ∷ case (session 0 []) (says 22 0 ∷ []) no_state
    ∷ case (session 17 []) (says 22 0 ∷ []) no_state
    ∷ case (session 16 []) (says 0 0 ∷ []) (holds 16 (first ∷ []) [] [])
    ∷ case (session 3 (Ask (agent_no 0) (site_no 3) ∷ [])) (says 0 0 ∷ says 10 0 ∷ []) fresh
    ∷ case (session 3 (Ask (agent_no 0) (site_no 0) ∷ [])) (says 0 0 ∷ says 0 0 ∷ [])
    (holds 3 (record { site = site_no 0; phase = Asking (site_no 0); map = Some (site_no 0) } ∷ []) [] [])
    ∷ case (session 3 (Send (agent_no 0) 0 (agent_no 0) 5 ∷ [])) (says 0 0 ∷ says 21 0 ∷ []) fresh
    ∷ case (session 3 (Send (agent_no 0) 2 (agent_no 0) 5 ∷ [])) (says 0 0 ∷ says 21 0 ∷ []) fresh
    ∷ case (session 3 (Send (agent_no 0) 1 (agent_no 1) 5 ∷ [])) (says 0 0 ∷ says 11 0 ∷ []) fresh
    ∷ case (session 3 (Hand (mail_no 0) ∷ [])) (says 0 0 ∷ says 12 0 ∷ []) fresh
    ∷ case (session 3 (Greet (agent_no 0) ∷ [])) (says 0 0 ∷ says 15 0 ∷ []) fresh
    ∷ case (session 3 (Spawn (agent_no 0) ∷ Send (agent_no 0) 1 (agent_no 1) 5 ∷ Forward (mail_no 0) ∷ []))
    (says 0 0 ∷ says 0 1 ∷ says 0 0 ∷ says 17 0 ∷ [])
    (holds 3
    (record { site = site_no 0; phase = Spawning (agent_no 1); map = Some (site_no 0) }
    ∷ record { site = site_no 0; phase = Born (agent_no 0); map = None }
    ∷ [])
    (record { sender = agent_no 0; number = 1; addressee = agent_no 1; value = 5; status = Queued } ∷ [])
    [])
    ∷ []

pub twelve : EachRight cases
unfolding cases
twelve =
    ((refl, refl), ((refl, refl), ((refl, refl), ((refl, refl), ((refl, refl), ((refl, refl), ((refl, refl), ((refl, refl), ((refl, refl), ((refl, refl), ((refl, refl), ((refl, refl), tt))))))))))))
