-- A caller who takes steps one after the other: each answer is the one that the method's contract gives for the table before it. Assumes
-- nothing.
use Rattle.std.specs.Prelude.{◌≡◌, List, [], ◌∷◌}
use Rattle.rules.specs.declared.Step.{Step}
use Rattle.table.specs.declared.Table.{Table}
use Rattle.table.specs.declared.Answer.{Answer}
use Rattle.table.specs.Face.{step_table}

-- the calls of the steps ss lead from the first table to the second
pub data Calls : Table → List Step → Table → Type 0 where
  -- no call
  stop : {t : Table} → Calls t [] t
  -- one call, whose answer r meets the contract `r ≡ step_table self step`, and then the others on its table
  call : {t last : Table} {s : Step} {ss : List Step} (r : Answer) → r ≡ step_table t s → Calls r.table ss last → Calls t (s ∷ ss) last
