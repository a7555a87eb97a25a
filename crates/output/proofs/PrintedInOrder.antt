-- The table that a script's output ends with is the one after its steps, from the table that it opened; so all that is shown of a sequence
-- of steps holds of it.
use Prim.Native.Nat.{ℕ, suc, ◌≤◌}
use Rattle.std.specs.Prelude.{Option, Some, None}
use mathlib.Core.Path.{◌≡◌, refl, ap, sym, ◌∙◌, subst}
use mathlib.Core.Bool.{Bool, true, false, cond, ◌&&◌}
use mathlib.Core.List.{List, [], ◌∷◌, ◌++◌, append_assoc}
use lib.ListN.{length}
use lib.Dec.{ltb, leb, eqb}
use borrow.Author.Tests.{le-leb}
use Rattle.records.specs.declared.Code.TheVariants.{Done, BadCount}
use Rattle.records.specs.Codes.{code_number}
use Rattle.rules.specs.declared.State.{State}
use Rattle.records.specs.Limits.{most_sites}
use Rattle.rules.specs.Holding.{no_state}
use Rattle.rules.specs.Answers.{done, unless}
use Rattle.rules.specs.Steps.{opened, open_of, step_of}
use Rattle.table.specs.declared.Table.{Table}
use Rattle.table.specs.Face.{table_of, open_table, step_table}
use Rattle.text.specs.Decimal.{bytes}
use Rattle.text.specs.Text.{written}
use Rattle.grammar.specs.declared.Line.{Line}
use Rattle.grammar.specs.declared.Line.TheVariants.{Bad, Opening, Take}
use Rattle.grammar.specs.Grammar.{line_of}
use Rattle.grammar.specs.Lines.{lines_of}
use Rattle.program.specs.Program.{no_desk, take_line, turn_line, closing, output_from, most_input, output_of}
use Rattle.order.specs.Marks.{table_after}
use Rattle.order.specs.Demand.{AllInOrder}
use Rattle.order.proofs.InOrder.{from-opening}
use Rattle.output.specs.Session.{EndsWith, Opens, here, later, steps_with, steps_in}

-- one answer more in front
further : (answer : List ℕ) {output text : List ℕ} → EndsWith output text → EndsWith (answer ++ output) text
further answer {text = text} r =
    (answer ++ r.0, ap (λ (l : List ℕ). answer ++ l) r.1 ∙ sym (append_assoc answer r.0 text))

abbrev open_desk : State → Option Table
open_desk t = Some (table_of t)

-- from an open table on
open-ends : (t : State) (k : ℕ) (ls : List (List ℕ)) → EndsWith (output_from (open_desk t) k ls) (written (table_after t (steps_in ls)))
unfolding output_from closing table_after steps_in take_line step_table
open-ends t k [] = ([], refl)
open-ends t k (l ∷ ls) = which (λ u. open-ends u (suc k) ls) (line_of l)
  where
    which : ((u : State) → EndsWith (output_from (open_desk u) (suc k) ls) (written (table_after u (steps_in ls))))
        → (x : Line) → EndsWith (turn_line k (take_line (open_desk t) x) ++ output_from (take_line (open_desk t) x).desk (suc k) ls) (written (table_after t (steps_with x (steps_in ls))))
    which rest Bad = further (turn_line k (take_line (open_desk t) Bad)) (rest t)
    which rest (Opening n) = further (turn_line k (take_line (open_desk t) (Opening n))) (rest t)
    which rest (Take s) = further (turn_line k (take_line (open_desk t) (Take s))) (rest (step_of t s).state)

-- a desk is open once an opening was Done, and until then it is as at the beginning
opens-desk : (n : ℕ) → (open_of n).code ≡ Done → (take_line no_desk (Opening n)).desk ≡ open_desk (open_of n).state
unfolding take_line open_table
opens-desk n e = λ i. cond (eqb (code_number (e i)) 0) (open_desk (open_of n).state) None

stays-shut : (n : ℕ) → ((open_of n).code ≡ Done → ⊥) → (take_line no_desk (Opening n)).desk ≡ no_desk
unfolding take_line open_table open_of
stays-shut n = told (ltb 0 n && leb n most_sites)
  where
    told :
        (b : Bool)
        → ((unless b BadCount no_state (done (opened n) 0)).code ≡ Done → ⊥)
        → cond (eqb (code_number (unless b BadCount no_state (done (opened n) 0)).code) 0) (open_desk (unless b BadCount no_state (done (opened n) 0)).state) None ≡ no_desk
    told true h = absurd (h refl)
    told false h = refl

-- from the beginning on
shut-ends : (k : ℕ) {ls rest : List (List ℕ)} {n : ℕ} → Opens ls n rest → EndsWith (output_from no_desk k ls) (written (table_after (open_of n).state (steps_in rest)))
unfolding output_from
shut-ends k {n = n} (here {ls = ls} e d) =
    subst
    (λ (x : Line). EndsWith (turn_line k (take_line no_desk x) ++ output_from (take_line no_desk x).desk (suc k) ls) (written (table_after (open_of n).state (steps_in ls))))
    (sym e)
    (further (turn_line k (take_line no_desk (Opening n)))
    (subst
    (λ (w : Option Table). EndsWith (output_from w (suc k) ls) (written (table_after (open_of n).state (steps_in ls))))
    (sym (opens-desk n d))
    (open-ends (open_of n).state (suc k) ls)))
shut-ends k {n = n} (later {l = l} {ls = ls} {rest = rest} not o) =
    further (turn_line k (take_line no_desk (line_of l)))
    (subst
    (λ (w : Option Table). EndsWith (output_from w (suc k) ls) (written (table_after (open_of n).state (steps_in rest))))
    (sym (same (line_of l) refl))
    (shut-ends (suc k) o))
  where
    same : (x : Line) → line_of l ≡ x → (take_line no_desk x).desk ≡ no_desk
    same Bad e = refl
    same (Opening m) e = stays-shut m (not m e)
    same (Take s) e = refl

pub printed-in-order :
    (input : List ℕ)
    → length input ≤ most_input
    → (sites : ℕ) (rest : List (List ℕ))
    → Opens (lines_of input) sites rest
    → EndsWith (output_of input) (written (table_after (open_of sites).state (steps_in rest))) × AllInOrder (open_of sites).state (steps_in rest)
unfolding output_of
printed-in-order input short sites rest o = (
  subst
      (λ (b : Bool). EndsWith (cond b (output_from no_desk 1 (lines_of input)) (bytes "state=toolong\n")) (written (table_after (open_of sites).state (steps_in rest))))
      (sym (le-leb (length input) most_input short))
      (shut-ends 1 o),
  from-opening sites (opening-done o) (steps_in rest),
)
  where
    opening-done : {ls : List (List ℕ)} → Opens ls sites rest → (open_of sites).code ≡ Done
    opening-done (here e d) = d
    opening-done (later not r) = opening-done r
