-- A run of a script into a lent buffer. Assumes nothing.
use Rattle.std.specs.Prelude.{ℕ, suc, ◌+◌, ◌≡◌, cond, Option, Some, None, List, [], ◌∷◌, ◌++◌, length, take, drop, leb}
use Rattle.std.proofs.lemmas.List.Edits.{sets}
use Rattle.rules.specs.declared.State.{State}
use Rattle.table.specs.declared.Table.{Table}
use Rattle.text.specs.Decimal.{bytes}
use Rattle.text.specs.Placing.{place_after}
use Rattle.text.specs.Writing.{write_of}
use Rattle.grammar.specs.Grammar.{line_of}
use Rattle.grammar.specs.Lines.{lines_of}
use Rattle.program.specs.Program.{no_desk, take_line, answer_line, turn_line, most_input}

-- how far a run has come: the place after what it has put into the buffer, and the buffer
pub record Progress : Type 0 where
  pub next : ℕ
  pub buffer : List ℕ

-- a run that came so far answers this place and leaves this buffer
pub record Came (ran : Progress) (next : ℕ) (buffer : List ℕ) : Type 0 where
  pub place : next ≡ ran.next
  pub held : buffer ≡ ran.buffer

abbrev pub from : ℕ → List ℕ → Progress
from next buffer = record { next = next; buffer = buffer }

abbrev pub at_front : List ℕ → Progress
at_front buffer = from 0 buffer

-- a text behind what was put before, as far as the buffer has room; once the place is past its end nothing more is put
abbrev pub behind : Progress → List ℕ → Progress
behind r text = record { next = place_after r.buffer r.next text; buffer = sets r.buffer r.next text }

-- the written table behind what was put before, where there is room for the whole of it
unfoldable pub table_behind : Progress → State → Progress
unfolding write_of
table_behind r t =
    cond (leb r.next (length r.buffer))
    (record {
      next = r.next + (write_of t (drop r.next r.buffer)).answer.length;
      buffer = take r.next r.buffer ++ (write_of t (drop r.next r.buffer)).buffer;
    })
    r

-- the end of a run: the written table, or state=none if never opened
unfoldable pub run_end : Progress → Option Table → Progress
unfolding table_behind
run_end r None = behind r (bytes "state=none\n")
run_end r (Some t) = table_behind r t.state

-- an answer for each line, counted from k, and then the end
unfoldable pub run_lines : Progress → Option Table → ℕ → List (List ℕ) → Progress
unfolding take_line answer_line run_end line_of
run_lines r d k [] = run_end r d
run_lines r d k (l ∷ ls) =
    run_lines (behind r (turn_line k (take_line d (line_of l)))) (take_line d (line_of l)).desk (suc k) ls

unfoldable pub run_of : List ℕ → List ℕ → Progress
unfolding run_lines lines_of
run_of input buffer =
    cond (leb (length input) most_input)
    (run_lines (at_front buffer) no_desk 1 (lines_of input))
    (behind (at_front buffer) (bytes "state=toolong\n"))
