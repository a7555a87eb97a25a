-- `scanning::numerals::digit_run` meets its contract.
use Rattle.std.proofs.Common.{◌≡◌, ◌∙◌, ap, refl, rules, tests}
use Rattle.std.proofs.lemmas.Iterator.{YieldsList-from_slice}
use Rattle.std.proofs.lemmas.Iterator.Consumers.{count_from_yields_List}
use Rattle.std.proofs.lemmas.Iterator.Search.{YieldsList-from_take_while}
use Rattle.std.proofs.lemmas.List.Folds.{length-prefix_len}
use Rattle.std.proofs.lemmas.List.Sums.{prefix_len-le-length}
use Rattle.std.specs.Char.{is_ascii_digit}
use Rattle.std.specs.Iterator.Adapters.{take_while_source}
use Rattle.std.specs.List.{prefix_len}
use Rattle.std.specs.Slice.Iter.{iter_rest}
use Rattle.grammar.proofs.Digits.{run-counted}
use Rattle.scanning.proofs.numerals.digit_run.Goals as goal

pub returns : goal.returns
returns c =
    let text = c.args.text.now in
    let source : iter_rest (take_while_source c.take_while.result) ≡ text = ap iter_rest c.take_while.ensures.source ∙ c.iter.ensures.rest in
    let count : c.count.result ≡ prefix_len is_ascii_digit text =
    count_from_yields_List c.take_while.result _ c.count.ensures.ran (YieldsList-from_take_while _ is_ascii_digit (YieldsList-from_slice text source) c.take_while.ensures.closure c.take_while.ensures.done (λ x b q k. search (rules, tests))) ∙ length-prefix_len is_ascii_digit text in
    rw (count, run-counted text) (refl, rw (← run-counted text) (prefix_len-le-length is_ascii_digit text))
