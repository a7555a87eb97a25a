-- `scanning::numerals::read_number` meets its contract.
use Rattle.std.proofs.Common.{◌≡◌, ◌∙◌, arith}
use Rattle.grammar.proofs.Digits.{value-taken, not-so_many, too_large, a-number}
use Rattle.scanning.proofs.numerals.read_number.Goals as goal

pub returns-then-not-contains : goal.returns-then-not-contains
returns-then-not-contains c = not-so_many _ _ c.digit_run-taken.ensures.0 (grind arith)

pub returns-in_err-value : goal.returns-in_err-value
returns-in_err-value c =
    c.from_residual.ensures ∙ too_large _ _ c.digit_run-taken.ensures.0 _ (c.value_of.ensures ∙ value-taken 0 _ _) (grind arith)

pub returns : goal.returns
returns c =
    let value : c.in_ok-value.value ≡ c.value_of.result = grind arith in
    a-number _ _ c.digit_run-taken.ensures.0 _ (value ∙ (c.value_of.ensures ∙ value-taken 0 _ _)) (grind arith) (grind arith) (grind arith)
