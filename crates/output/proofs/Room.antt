-- The program's output has at most 1,212,416 bytes, whatever the script, so a run into a buffer of so many leaves the whole of it.
-- A line has a byte at least, so there are at most 65,536; the answer to each has at most 18 bytes, and the table's text at most 32,768.
use Prim.Native.Nat.{ℕ, suc, ◌+◌, ◌*◌, ◌≤◌}
use Rattle.std.specs.Prelude.{Option, Some, None}
use native.Mathlib.Omega.{arith}
use mathlib.Core.Path.{◌≡◌, refl}
use mathlib.Core.Bool.{Bool, true, false, cond}
use mathlib.Core.List.{List, [], ◌∷◌, ◌++◌}
use lib.ListN.{length, take, drop, length-append}
use lib.Seq.{take-append_seam}
use lib.Dec.{leb}
use borrow.Author.Tests.{leb-true}
use Rattle.records.specs.Codes.{code_number}
use Rattle.records.specs.Numbers.{mail_no}
use Rattle.records.proofs.CodeLaws.{code-within}
use Rattle.table.specs.declared.Table.{Table}
use Rattle.text.specs.Decimal.{decimal, bytes}
use Rattle.text.specs.Text.{fields}
use Rattle.text.proofs.Decimals.{decimal-length}
use Rattle.text.proofs.TextLength.{two_digits, three-digits, row-length, text-fits}
use Rattle.program.specs.declared.Turn.{Turn}
use Rattle.grammar.specs.Grammar.{line_of}
use Rattle.grammar.specs.Lines.{lines_of}
use Rattle.grammar.proofs.LineEnds.{lines-within}
use Rattle.program.specs.Program.{no_desk, take_line, answer_line, turn_line, closing, output_from, most_input, output_of}
use Rattle.program.specs.Running.{Came, from, run_of}
use Rattle.output.specs.Session.{most_output}
use Rattle.output.proofs.Printed.{prints}
use Rattle.output.proofs.Values.{line-value}
use Rattle.output.proofs.Fits.{FineDesk, Fits, line-fits}

fields-length : (x y : List ℕ) → length (fields (x ∷ y ∷ [])) ≡ length x + length y + 1
unfolding fields
fields-length x y = simp length-append (omega arith)

-- line.K=CODE,NUMBER with at most 5, 2 and 3 digits
answer-length : (k : ℕ) (r : Turn) → k ≤ 99999 → r.number ≤ 999 → length (turn_line k r) ≤ 18
unfolding answer_line
answer-length k r few small =
    let code : List ℕ = decimal (code_number r.code) in
    let number : List ℕ = decimal r.number in
    omega (
      arith,
      row-length (bytes "line") k (fields (code ∷ number ∷ [])),
      fields-length code number,
      decimal-length 4 k (omega arith),
      two_digits (code_number r.code) (code-within r.code),
      three-digits r.number small,
    )

closing-length : (d : Option Table) → FineDesk d → length (closing d) ≤ 32768
unfolding closing
closing-length None f = omega arith
closing-length (Some t) f = text-fits t.state f.good.1 (λ i h. omega (arith, f.values (mail_no i)))

-- an answer and what follows it
answer-then : (x y : List ℕ) (n : ℕ) → length x ≤ 18 → length y ≤ 18 * n + 32768 → length (x ++ y) ≤ 18 * suc n + 32768
answer-then x y n one more = simp length-append (omega arith)

-- the lines from the k-th on, which are few enough for K to have five digits
lines-length : (ls : List (List ℕ)) (d : Option Table) (k : ℕ) → FineDesk d → k + length ls ≤ 100000 → length (output_from d k ls) ≤ 18 * length ls + 32768
unfolding output_from
lines-length [] d k f h = omega (arith, closing-length d f)
lines-length (l ∷ ls) d k f h =
    let turn : Turn = take_line d (line_of l) in
    let fits : Fits turn = line-fits d (line_of l) f (line-value l) in
    answer-then
    (turn_line k turn)
    (output_from turn.desk (suc k) ls)
    (length ls)
    (answer-length k turn (omega arith) fits.number)
    (lines-length ls turn.desk (suc k) fits.desk (omega arith))

pub output-fits : (input : List ℕ) → length (output_of input) ≤ most_output
unfolding output_of
output-fits input = by (leb (length input) most_input) refl
  where
    by : (b : Bool) → leb (length input) most_input ≡ b → length (cond b (output_from no_desk 1 (lines_of input)) (bytes "state=toolong\n")) ≤ most_output
    by true e =
        let lines : length (lines_of input) ≤ length input = lines-within input in
        let short : length input ≤ most_input = leb-true (length input) most_input e in
        omega (arith, lines-length (lines_of input) no_desk 1 tt (omega arith))
    by false e = omega arith

-- So a run into a buffer of so many bytes or more leaves exactly the output.
pub prints-all : (input buffer : List ℕ) → most_output ≤ length buffer → run_of input buffer ≡ from (length (output_of input)) (output_of input ++ drop (length (output_of input)) buffer)
prints-all input buffer h = prints input buffer (omega (arith, output-fits input))

-- What it says that it put there is within the buffer, and is the output.
pub run-leaves : (input buffer : List ℕ) {next : ℕ} {after : List ℕ} → most_output ≤ length buffer → Came (run_of input buffer) next after → (next ≤ length after) × (take next after ≡ output_of input)
run-leaves input buffer {next} {after} h came =
    let all : run_of input buffer ≡ from (length (output_of input)) (output_of input ++ drop (length (output_of input)) buffer) = prints-all input buffer h in
    let long : next ≡ length (output_of input) = cc in
    let held : after ≡ output_of input ++ drop (length (output_of input)) buffer = cc in
    rw (long, held) (simp length-append (omega arith), take-append_seam (output_of input) (drop (length (output_of input)) buffer))
