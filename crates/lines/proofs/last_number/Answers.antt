-- `lines::last_number` meets its contract.
use Rattle.std.proofs.Common.{arith, refl}
use Rattle.grammar.proofs.NumberParts.{none-read, last-is, last-more}
use Rattle.lines.proofs.last_number.Goals as goal

pub returns-in_err-number : goal.returns-in_err-number
returns-in_err-number c = rw (c.from_residual.ensures, none-read 1 _ c.in_err-number.ensures) refl

pub returns-then-number-text : goal.returns-then-number-text
returns-then-number-text c = last-more _ _ c.in_ok-number.ensures c.if-number-text.true

pub returns : goal.returns
returns c = last-is _ _ c.in_ok-number.ensures (omega arith)
