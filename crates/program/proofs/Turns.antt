-- A line by what it is not, which is what the else of a `let .. else` knows of it, and the order of a line's refusals.
use Prim.Native.Nat.{ℕ}
use mathlib.Core.Path.{◌≡◌, refl}
use Rattle.std.specs.Prelude.{Option, Some, None}
use Rattle.records.specs.declared.Code.TheVariants.{BadLine, NotOpen, AlreadyOpen}
use Rattle.rules.specs.declared.Step.{Step}
use Rattle.table.specs.declared.Table.{Table}
use Rattle.grammar.specs.declared.Line.{Line}
use Rattle.grammar.specs.declared.Line.TheVariants.{Bad, Opening, Take}
use Rattle.program.specs.Program.{turned_away, take_line}
use Rattle.program.specs.Taking.{take_opening}

-- no step
pub no_step : (d : Option Table) (x : Line) → ((s : Step) → x ≡ Take s → ⊥) → take_opening d x ≡ take_line d x
unfolding take_opening take_line
no_step d Bad h = refl
no_step None (Opening s) h = refl
no_step (Some t) (Opening s) h = refl
no_step d (Take s) h = absurd (h s refl)

-- no opening
pub no-opening : (d : Option Table) (x : Line) → ((s : ℕ) → x ≡ Opening s → ⊥) → turned_away d BadLine ≡ take_opening d x
unfolding take_opening
no-opening d Bad h = refl
no-opening d (Opening s) h = absurd (h s refl)
no-opening d (Take s) h = refl

-- A line that is not in the grammar is 24 whatever the script has come to; then a step before an opening was Done is 25, and an opening
-- after one is 26.
pub bad-first : (d : Option Table) → (take_line d Bad).code ≡ BadLine
unfolding take_line
bad-first d = refl

pub step-before : (s : Step) → (take_line None (Take s)).code ≡ NotOpen
unfolding take_line
step-before s = refl

pub opening-again : (t : Table) (s : ℕ) → (take_line (Some t) (Opening s)).code ≡ AlreadyOpen
unfolding take_line
opening-again t s = refl
