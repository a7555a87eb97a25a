-- Steps taken one after the other, each on the table that the one before handed back. Assumes nothing.
use Rattle.std.specs.Prelude.{ℕ, List, [], ◌∷◌}
use Rattle.records.specs.Codes.{code_number}
use Rattle.rules.specs.declared.State.{State}
use Rattle.rules.specs.declared.Reply.{Reply}
use Rattle.rules.specs.declared.Step.{Step}
use Rattle.rules.specs.Steps.{open_of, step_of}

-- what a caller is told beside the table: the code's number and the number
pub record Told : Type 0 where
  pub code : ℕ
  pub number : ℕ

abbrev pub told_by : Reply → Told
told_by r = record { code = code_number r.code; number = r.number }

-- what a run of steps tells, and the table that it leaves
pub record Ran : Type 0 where
  pub told : List Told
  pub state : State

unfoldable pub told_from : Reply → List Step → List Told
unfolding step_of
told_from r [] = told_by r ∷ []
told_from r (s ∷ ss) = told_by r ∷ told_from (step_of r.state s) ss

unfoldable pub last_from : Reply → List Step → State
unfolding step_of
last_from r [] = r.state
last_from r (s ∷ ss) = last_from (step_of r.state s) ss

-- a session: an opening, and the steps after it
unfoldable pub session : ℕ → List Step → Ran
unfolding open_of told_from last_from
session sites ss = record { told = told_from (open_of sites) ss; state = last_from (open_of sites) ss }
