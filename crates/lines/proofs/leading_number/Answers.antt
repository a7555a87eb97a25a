-- `lines::leading_number` meets its contract.
use Rattle.std.proofs.lemmas.List.{take_rest}
use Rattle.grammar.proofs.Digits.{number-within}
use Rattle.grammar.proofs.NumberParts.{none-read, leading-is, leading-other}
use Rattle.lines.proofs.leading_number.Goals as goal

pub returns-in_err-number : goal.returns-in_err-number
returns-in_err-number c = rw c.from_residual.ensures (λ m. none-read _ _ c.in_err-number.ensures)

pub slice_bounds-strip_prefix-count : goal.slice_bounds-strip_prefix-count
slice_bounds-strip_prefix-count c = number-within _ _ c.in_ok-number.ensures

pub slice_bounds-strip_prefix-start : goal.slice_bounds-strip_prefix-start
slice_bounds-strip_prefix-start c = number-within _ _ c.in_ok-number.ensures

pub returns-in_err-rest : goal.returns-in_err-rest
returns-in_err-rest c =
    let told = simp take_rest at c.strip_prefix.ensures.cases in
    rw c.from_residual-in_err-rest.ensures (leading-other _ _ c.in_ok-number.ensures told c.in_err-rest.was)

pub returns : goal.returns
returns c =
    let told = simp take_rest at c.strip_prefix.ensures.cases in
    leading-is _ _ c.in_ok-number.ensures told c.in_ok-rest.was
