-- A run of a script, one line at a time.
use Prim.Native.Nat.{ℕ, ◌+◌, ◌-◌, ◌≤◌, ◌<◌}
use native.Mathlib.Omega.{arith}
use native.Mathlib.Numerals.{add-one}
use Rattle.std.specs.Prelude.{Option}
use Rattle.std.proofs.lemmas.List.{take_rest}
use mathlib.Core.Path.{◌≡◌, refl, ap, ap₂, ◌∙◌}
use mathlib.Core.Bool.{Bool, true, false}
use mathlib.Core.List.{List, [], ◌∷◌, ◌++◌, append-nil}
use lib.ListN.{length, take, drop, length-drop, drop_of_length-le}
use lib.Dec.{leb}
use borrow.Author.Tests.{le-leb, lt-leb, leb-true}
use Rattle.records.specs.declared.Code.TheVariants.{NoRoom, BadState}
use Rattle.rules.specs.declared.State.{State}
use Rattle.rules.specs.SoundTest.{sound_test}
use Rattle.table.specs.declared.Table.{Table}
use Rattle.text.specs.declared.Written.{Written}
use Rattle.text.specs.Placing.{PutWithin}
use Rattle.text.specs.Text.{written}
use Rattle.text.specs.Writing.{unless_writing, wrote_text, write_of}
use Rattle.grammar.specs.declared.Line.{Line}
use Rattle.program.specs.declared.Turn.{Turn}
use Rattle.grammar.specs.Grammar.{line_of}
use Rattle.program.specs.Program.{take_line, answer_line, turn_line}
use Rattle.program.specs.Running.{Progress, Came, from, behind, table_behind, run_end, run_lines}

-- the same run by another description, and a text that was put
pub came_same : {x y : Progress} {n : ℕ} {b : List ℕ} → x ≡ y → Came x n b → Came y n b
came_same e c = record { place = c.place ∙ ap (λ (r : Progress). r.next) e; held = c.held ∙ ap (λ (r : Progress). r.buffer) e }

-- what came so far, as one value
pub came-is : {r : Progress} {n : ℕ} {b : List ℕ} → Came r n b → from n b ≡ r
came-is c = ap₂ from c.place c.held

pub came-put : {text b after : List ℕ} {at next : ℕ} → PutWithin text b after at next → Came (behind (from at b) text) next after
came-put p = record { place = p.place; held = p.held }

-- the table's text, where there is no room from the place on, and where there is
pub table-no-room : (at : ℕ) (b : List ℕ) (t : State) → length b < at → Came (table_behind (from at b) t) at b
unfolding table_behind
table-no-room at b t h = rw (lt-leb at (length b) h) (record { place = refl; held = refl })

within_by : (text room : List ℕ) (sound fits : Bool) → leb (length text) (length room) ≡ fits
    → (unless_writing sound BadState room (unless_writing fits NoRoom room (wrote_text text room))).answer.length ≤ length room
within_by text room false fits f = omega arith
within_by text room true false f = omega arith
within_by text room true true f = leb-true (length text) (length room) f

writing-within : (t : State) (room : List ℕ) → (write_of t room).answer.length ≤ length room
unfolding write_of
writing-within t room = within_by (written t) room (sound_test t) (leb (length (written t)) (length room)) refl

module _ (at : ℕ) (b : List ℕ) (t : State) (h : at ≤ length b) {w : Written} (e : w ≡ (write_of t (take (length b - at) (drop at b))).answer) where
  answer-from : w ≡ (write_of t (drop at b)).answer
  answer-from = e ∙ ap (λ (l : List ℕ). (write_of t l).answer) (take_rest b at)

  pub table-within : at + w.length ≤ length b
  table-within = omega (arith, writing-within t (drop at b), ap (λ (x : Written). x.length) answer-from, length-drop at b)

  nothing-after : (part : List ℕ) → part ++ drop (length b - at) (drop at b) ≡ part
  nothing-after part =
      let all : length (drop at b) ≤ length b - at = simp length-drop (omega arith) in
      rw (drop_of_length-le (drop at b) all) (append-nil part)

  pub table-put :
      {part : List ℕ}
      → part ≡ (write_of t (take (length b - at) (drop at b))).buffer
      → Came (table_behind (from at b) t) (at + w.length) (take at b ++ (part ++ drop (length b - at) (drop at b)))
  unfolding table_behind
  table-put {part} f =
      rw (le-leb at (length b) h)
      (record {
        place = ap (λ (x : Written). at + x.length) answer-from;
        held = ap (λ (l : List ℕ). take at b ++ l) (nothing-after part ∙ f ∙ ap (λ (l : List ℕ). (write_of t l).buffer) (take_rest b at));
      })

-- one line further, and no line left
module _ (start : ℕ) (p : Progress) (d : Option Table) {k then : ℕ} {ls more : List (List ℕ)} {line : List ℕ} {x : Line} {r : Turn} {q : Progress} where
  pub turn_on : (k ≡ start) × (then ≡ k + 1) → ls ≡ line ∷ more → x ≡ line_of line → r ≡ take_line d x → q ≡ behind p (turn_line k r)
      → run_lines p d start ls ≡ run_lines q r.desk then more
  unfolding run_lines answer_line
  turn_on (same, counted) e f g put =
      let turn : r ≡ take_line d (line_of line) = g ∙ ap (take_line d) f in
      rw (e, put, turn, counted, same, add-one start)

pub run_ends : (r : Progress) (d : Option Table) (k : ℕ) {ls : List (List ℕ)} → ls ≡ [] → run_end r d ≡ run_lines r d k ls
unfolding run_lines
run_ends r d k e = rw e
