-- `written::digits::digits` meets its contract.
use Prim.Native.Nat.{ℕ, ◌<◌, ◌/◌}
use mathlib.Core.Path.{sym}
use native.Mathlib.Nat.{div-add-mod}
use native.Mathlib.Omega.{arith}
use lib.ListN.{length}
use Rattle.text.specs.Decimal.{decimal}
use Rattle.text.proofs.Decimals.{decimal-ones, decimal-tens, decimal-length}
use Rattle.text.proofs.Placing.{put_one, put_then, put_same}
use Rattle.written.proofs.digits.+digits.Goals as goal

-- the digits of the tens are at most nine
tens-short : (n : ℕ) → n < 4294967296 → length (decimal (n / 10)) < 10
tens-short n h = omega (arith, decimal-length 8 (n / 10) (omega (arith, div-add-mod n 10)))

pub returns-then-n-lt10 : goal.returns-then-n-lt10
returns-then-n-lt10 t c = put_same (sym (decimal-ones c.args.n c.if-n-lt10.true)) (put_one _ _ 0)

pub bounds-out-tens : goal.bounds-out-tens
bounds-out-tens t c = omega (arith, c.digits-tens.ensures.place, tens-short c.args.n (omega arith))

pub overflow_add-result : goal.overflow_add-result
overflow_add-result t c = omega (arith, c.digits-tens.ensures.place, tens-short c.args.n (omega arith))

pub returns : goal.returns
returns t c =
    put_same
    (sym (decimal-tens c.args.n c.if-n-lt10.false))
    (put_then c.digits-tens.ensures (put_one _ _ _))
