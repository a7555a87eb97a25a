-- A run into a buffer that is long enough puts the program's output there, byte for byte, as long as every table that the script comes
-- to is sound. What keeps tables sound is taken as given here, in the form in which it is proved of the steps.
use Prim.Native.Nat.{ℕ, suc, ◌+◌, ◌≤◌, zero-le}
use Rattle.std.specs.Prelude.{Option, Some, None, IfSome}
use Rattle.std.proofs.lemmas.Bool.{cond-true}
use native.Mathlib.Nat.{zero-add, add_assoc}
use native.Mathlib.Omega.{arith}
use mathlib.Core.Path.{◌≡◌, refl, sym, ap, ap₂, ◌∙◌}
use mathlib.Core.Bool.{Bool, true, false, cond}
use mathlib.Core.List.{List, [], ◌∷◌, ◌++◌, append_assoc}
use lib.ListN.{length, take, drop, length-append, length-drop}
use lib.Seq.{sets, sets-eq, length-sets, drop-drop}
use lib.Dec.{leb, eqb}
use borrow.Author.Tests.{le-leb}
use Rattle.records.specs.Codes.{code_number}
use Rattle.rules.specs.declared.State.{State}
use Rattle.rules.specs.declared.Step.{Step}
use Rattle.rules.specs.SoundTest.{sound_test}
use Rattle.rules.specs.Steps.{open_of, step_of}
use Rattle.table.specs.declared.Table.{Table}
use Rattle.table.specs.Face.{table_of, open_table, step_table}
use Rattle.text.specs.Decimal.{bytes}
use Rattle.text.specs.Text.{written}
use Rattle.text.specs.Writing.{Wrote, wrote_text, write_of}
use Rattle.text.proofs.Placing.{sets_then, place-within}
use Rattle.grammar.specs.declared.Line.{Line}
use Rattle.grammar.specs.declared.Line.TheVariants.{Bad, Opening, Take}
use Rattle.program.specs.declared.Turn.{Turn}
use Rattle.grammar.specs.Grammar.{line_of}
use Rattle.grammar.specs.Lines.{lines_of}
use Rattle.program.specs.Program.{no_desk, take_line, turn_line, closing, output_from, most_input, output_of}
use Rattle.program.specs.Running.{Progress, from, at_front, behind, table_behind, run_end, run_lines, run_of}

-- a text behind what was put before, from a place within the buffer
abbrev onward : Progress → List ℕ → Progress
onward r text = from (r.next + length text) (sets r.buffer r.next text)

behind-within : (r : Progress) (text : List ℕ) → r.next ≤ length r.buffer → behind r text ≡ onward r text
behind-within r text h = ap (λ (n : ℕ). from n (sets r.buffer r.next text)) (place-within text r.buffer r.next h)

-- one text and then another is the two together
onward_then : (r : Progress) (x y : List ℕ) → onward (onward r x) y ≡ onward r (x ++ y)
onward_then r x y =
    ap₂ from (add_assoc r.next (length x) (length y) ∙ sym (ap (λ (n : ℕ). r.next + n) (length-append x y))) (sets_then x y r.buffer r.next)

-- at the front
onward-front : (text b : List ℕ) → length text ≤ length b → onward (at_front b) text ≡ from (length text) (text ++ drop (length text) b)
onward-front text b h = ap₂ from (zero-add (length text)) (sets-eq text b 0 (rw zero-add h) ∙ rw zero-add)

-- the written table of a sound table, where it fits
write-is : (t : State) (room : List ℕ) → sound_test t ≡ true → length (written t) ≤ length room → write_of t room ≡ wrote_text (written t) room
unfolding write_of
write-is t room s h = rw (s, le-leb (length (written t)) (length room) h)

module _ (r : Progress) (t : State) (s : sound_test t ≡ true) (h : r.next + length (written t) ≤ length r.buffer) where
  wrote : write_of t (drop r.next r.buffer) ≡ wrote_text (written t) (drop r.next r.buffer)
  wrote = write-is t (drop r.next r.buffer) s (simp length-drop (omega arith))

  table_fits : table_behind r t ≡ onward r (written t)
  unfolding table_behind
  table_fits =
      cond-true (leb r.next (length r.buffer)) _ r (le-leb r.next (length r.buffer) (omega arith))
      ∙ ap (λ (w : Wrote). from (r.next + w.answer.length) (take r.next r.buffer ++ w.buffer)) wrote
      ∙ ap (λ (l : List ℕ). from (r.next + length (written t)) (take r.next r.buffer ++ (written t ++ l))) (drop-drop (length (written t)) r.next r.buffer)
      ∙ ap (from (r.next + length (written t)))
      (sym (append_assoc (take r.next r.buffer) (written t) (drop (r.next + length (written t)) r.buffer))
      ∙ sym (sets-eq (written t) r.buffer r.next h))

module _ (Fine : State → Type 0)
    (sound : (t : State) → Fine t → sound_test t ≡ true)
    (kept : (t : State) (s : Step) → Fine t → Fine (step_of t s).state)
    (opens : (s : ℕ) → eqb (code_number (open_of s).code) 0 ≡ true → Fine (open_of s).state) where
  -- what a script has come to is fine where it is open
  abbrev FineDesk : Option Table → Type 0
  FineDesk d = IfSome d (λ t. Fine t.state)

  opened-fine : (s : ℕ) (b : Bool) → eqb (code_number (open_of s).code) 0 ≡ b → FineDesk (cond b (Some (table_of (open_of s).state)) None)
  opened-fine s true e = opens s e
  opened-fine s false e = tt

  line-fine : (d : Option Table) (x : Line) → FineDesk d → FineDesk (take_line d x).desk
  unfolding take_line open_table step_table
  line-fine None Bad f = f
  line-fine (Some t) Bad f = f
  line-fine None (Opening s) f = opened-fine s (eqb (code_number (open_of s).code) 0) refl
  line-fine (Some t) (Opening s) f = f
  line-fine None (Take s) f = f
  line-fine (Some t) (Take s) f = kept t.state s f

  -- the end of a run
  ends : (r : Progress) (d : Option Table) → FineDesk d → r.next + length (closing d) ≤ length r.buffer → run_end r d ≡ onward r (closing d)
  unfolding run_end closing
  ends r None f h = behind-within r (bytes "state=none\n") (omega arith)
  ends r (Some t) f h = table_fits r t.state (sound t.state f) h

  -- the lines
  room-left : (r : Progress) (x y : List ℕ) → r.next + length (x ++ y) ≤ length r.buffer → (onward r x).next + length y ≤ length (onward r x).buffer
  room-left r x y h = simp length-sets (omega (arith, simp length-append at h))

  lines-onward :
      (ls : List (List ℕ)) (r : Progress) (d : Option Table) (k : ℕ)
      → FineDesk d
      → r.next + length (output_from d k ls) ≤ length r.buffer
      → run_lines r d k ls ≡ onward r (output_from d k ls)
  unfolding run_lines output_from
  lines-onward [] r d k f h = ends r d f h
  lines-onward (l ∷ ls) r d k f h =
      let turn : Turn = take_line d (line_of l) in
      let answer : List ℕ = turn_line k turn in
      let more : List ℕ = output_from turn.desk (suc k) ls in
      ap (λ (s : Progress). run_lines s turn.desk (suc k) ls) (behind-within r answer (omega arith))
      ∙ lines-onward ls (onward r answer) turn.desk (suc k) (line-fine d (line_of l) f) (room-left r answer more h)
      ∙ onward_then r answer more

  run_by :
      (input b : List ℕ) (t : Bool)
      → leb (length input) most_input ≡ t
      → length (output_of input) ≤ length b
      → run_of input b ≡ onward (at_front b) (output_of input)
  unfolding run_of output_of
  run_by input b true e h = rw e (lines-onward (lines_of input) (at_front b) no_desk 1 tt (rw zero-add (rw e at h)))
  run_by input b false e h = rw e (behind-within (at_front b) (bytes "state=toolong\n") zero-le)

  pub run-output :
      (input b : List ℕ)
      → length (output_of input) ≤ length b
      → run_of input b ≡ from (length (output_of input)) (output_of input ++ drop (length (output_of input)) b)
  run-output input b h = run_by input b (leb (length input) most_input) refl h ∙ onward-front (output_of input) b h
