-- What the steps keep, and what no table that they reach comes to. Assumes nothing.
use Rattle.std.specs.Prelude.{◌≡◌, List}
use Rattle.records.specs.declared.MailNo.{MailNo}
use Rattle.records.specs.declared.Status.TheVariants.{Lost}
use Rattle.rules.specs.declared.State.{State}
use Rattle.rules.specs.declared.Reply.{Reply}
use Rattle.rules.specs.declared.Step.{Step}
use Rattle.rules.specs.Holding.{Shaped, IsMessage, status_of}
use Rattle.rules.specs.Soundness.{Sound}
use Rattle.rules.specs.Steps.{step_of}
use Rattle.rules.specs.Sessions.{last_from}

-- every step, refused or not, keeps a sound table sound
abbrev pub StepsKeep : Type 0
StepsKeep =
    (t : State)
    → Shaped t
    → Sound t
    → (s : Step)
    → Shaped (step_of t s).state × Sound (step_of t s).state

-- and so does every sequence of steps
abbrev pub RunsKeep : Type 0
RunsKeep =
    (r : Reply)
    → Shaped r.state
    → Sound r.state
    → (ss : List Step)
    → Shaped (last_from r ss) × Sound (last_from r ss)

-- so no message of a table that is reached is lost
abbrev pub NeverLost : Type 0
NeverLost =
    (r : Reply)
    → Shaped r.state
    → Sound r.state
    → (ss : List Step) (m : MailNo)
    → IsMessage (last_from r ss) m
    → status_of (last_from r ss) m ≡ Lost
    → ⊥
