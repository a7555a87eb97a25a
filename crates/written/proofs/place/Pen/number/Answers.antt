-- `written::place::Pen::number` meets its contract.
use Prim.Native.Nat.{ℕ, ◌<◌, ◌≤◌}
use mathlib.Core.Path.{◌∙◌}
use native.Mathlib.Nat.{zero-add}
use native.Mathlib.Omega.{arith}
use lib.ListN.{length}
use Rattle.text.specs.Decimal.{decimal}
use Rattle.text.proofs.Decimals.{decimal-at-most-ten}
use Rattle.text.proofs.Placing.{put_front, put-length}
use Rattle.written.proofs.Pens.{penned_same}
use Rattle.written.proofs.place.Pen.number.Goals as goal

-- the digits are at most ten
short : (n : ℕ) → n < 4294967296 → length (decimal n) ≤ 10
short n fits = decimal-at-most-ten n fits

pub slice_bounds-room-end : goal.slice_bounds-room-end
slice_bounds-room-end c =
    omega (arith, c.digits-count.ensures.place, put-length c.digits-count.ensures, short c.args.n (omega arith))

pub slice_bounds-word-end : goal.slice_bounds-word-end
slice_bounds-word-end c =
    let few = short c.args.n (omega arith) in
    rw (put_front few c.digits-count.ensures) (c.digits-count.ensures.place ∙ zero-add _)

pub returns : goal.returns
returns c = penned_same (put_front (short c.args.n (omega arith)) c.digits-count.ensures) c.word.ensures
