-- The table as its callers have it: a state behind a name, and the answers that hand it back. Assumes nothing.
use Rattle.std.specs.Prelude.{ℕ}
use Rattle.rules.specs.declared.State.{State}
use Rattle.rules.specs.declared.Reply.{Reply}
use Rattle.rules.specs.declared.Step.{Step}
use Rattle.rules.specs.Holding.{no_state}
use Rattle.rules.specs.Steps.{open_of, step_of}
use Rattle.table.specs.declared.Table.{Table}
use Rattle.table.specs.declared.Answer.{Answer}

-- the table with this state
abbrev pub table_of : State → Table
table_of t = record { state = t }

-- the table that stands where an answer has none
abbrev pub no_table : Table
no_table = table_of no_state

-- what the rules reply, with the table that it leaves
abbrev pub answer_of : Reply → Answer
answer_of r = record { table = table_of r.state; code = r.code; number = r.number }

-- opening
unfoldable pub open_table : ℕ → Answer
unfolding open_of
open_table s = answer_of (open_of s)

-- each of the twelve steps
unfoldable pub step_table : Table → Step → Answer
unfolding step_of
step_table t s = answer_of (step_of t.state s)
