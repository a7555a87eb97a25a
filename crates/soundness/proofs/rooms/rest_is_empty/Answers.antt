-- `soundness::rooms::rest_is_empty` meets its contract.
use Rattle.std.proofs.Common.{◌≡◌, ◌≤◌, ◌&&◌, true, drop, length, arith, rules, tests, ap, ◌∙◌}
use Rattle.std.proofs.lemmas.Iterator.{YieldsList-from_slice}
use Rattle.std.proofs.lemmas.Iterator.Consumers.{fold_from_yields_List}
use Rattle.std.proofs.lemmas.Slice.{between_to_end}
use lib.ListN.{drop_of_length-le}
use Rattle.records.specs.Places.{all_of}
use Rattle.records.proofs.LoopLaws.{fold-all}
use Rattle.soundness.proofs.rooms.rest_is_empty.Goals as goal

pub returns-in-Some : goal.returns-in-Some
returns-in-Some g c =
    let xs = c.args.xs.now in
    let rest = c.in-Some.rest.now in
    let is_empty = g.T.Filled.is_empty in
    let folded = fold_from_yields_List _ (λ a x. a && is_empty x) true c.fold.result c.fold.ensures.ran (YieldsList-from_slice rest (search rules)) (λ a x b q k. search (rules, tests)) in
    let cut : rest ≡ drop c.args.from xs = grind (arith, between_to_end xs c.args.from (length xs), c.in-Some.ensures.lookup) in
    folded ∙ fold-all is_empty true rest ∙ ap (all_of is_empty) cut

pub returns-in-None : goal.returns-in-None
unfolding all_of
returns-in-None g c =
    let past : length c.args.xs.now ≤ c.args.from = omega (arith, c.in-None.ensures.lookup) in
    rw (drop_of_length-le c.args.xs.now past)
