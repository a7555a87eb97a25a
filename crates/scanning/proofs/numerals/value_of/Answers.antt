-- `scanning::numerals::value_of` meets its contract.
use Rattle.std.proofs.Common.{length, sym, ◌∙◌, arith}
use Rattle.grammar.proofs.Digits.{small-on, value_on, value-ends}
use Rattle.scanning.proofs.numerals.value_of.Goals as goal

pub loop-b-preserved : goal.loop-b-preserved
loop-b-preserved c =
    let digits = c.args.digits.now in
    let loop = c.loop-b in (
      (loop.invariant.0 ∙ value_on digits loop.value (length digits) loop.b-index (omega arith) (omega arith)) ∙ simp (c.from.ensures, c.saturating_sub.ensures),
      small-on loop.value _ loop.b-index loop.invariant.1 (omega arith),
    )

pub returns : goal.returns
returns c =
    let digits = c.args.digits.now in
    let loop = c.loop-b in
    sym (loop.invariant.0 ∙ value-ends digits loop.value (length digits) loop.b-index (omega arith))
