-- `written::answers::answer_line` meets its contract.
use Prim.Native.Nat.{ℕ, ◌+◌, ◌^◌, ◌<◌, ◌≤◌}
use mathlib.Core.Path.{◌≡◌}
use mathlib.Core.List.{[], ◌∷◌}
use native.Mathlib.Omega.{arith}
use lib.ListN.{length, length-append}
use Rattle.std.proofs.Common.{rules}
use Rattle.text.specs.Decimal.{decimal, bytes}
use Rattle.text.specs.Text.{fields, row}
use Rattle.text.proofs.Decimals.{decimal-at-most-ten}
use Rattle.text.proofs.RowParts.{answer-parts}
use Rattle.text.proofs.TextLength.{row-length}
use Rattle.written.proofs.Pens.{penned_then, penned_same, penned_put}
use Rattle.written.proofs.answers.answer_line.Goals as goal

two-fields : (code number : ℕ) → length (fields (decimal code ∷ decimal number ∷ [])) ≡ length (decimal code) + length (decimal number) + 1
unfolding fields
two-fields code number = simp length-append (omega arith)

-- three numbers of at most ten digits each
short : (k code number : ℕ) → k < 2 ^ 32 → code < 2 ^ 32 → number < 2 ^ 32
    → length (row (bytes "line") k (fields (decimal code ∷ decimal number ∷ []))) ≤ 43
short k code number a b c =
    omega (
      arith,
      row-length (bytes "line") k (fields (decimal code ∷ decimal number ∷ [])),
      two-fields code number,
      decimal-at-most-ten k a,
      decimal-at-most-ten code b,
      decimal-at-most-ten number c,
    )

pub returns : goal.returns
returns c =
    let args = c.args in
    let few = short args.k args.code args.number (omega arith) (omega arith) (omega arith) in
    let wrote = penned_same
    (answer-parts args.k args.code args.number)
    (penned_then c.numbered.ensures (penned_then c.ended.ensures c.ended-2.ensures)) in
    let put = penned_put wrote (omega arith) in
    (record { place = put.place; held = search rules }, omega (arith, put.place))
