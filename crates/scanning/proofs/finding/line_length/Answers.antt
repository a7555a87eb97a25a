-- `scanning::finding::line_length` meets its contract.
use Rattle.std.proofs.Common.{◌≡◌, eqb, refl, rules, tests}
use Rattle.std.proofs.lemmas.Iterator.{YieldsList-from_slice}
use Rattle.std.proofs.lemmas.Iterator.Search.{position_from_yields_List}
use Rattle.std.specs.List.{position}
use Rattle.grammar.proofs.LineEnds.{length-found, length-within}
use Rattle.scanning.proofs.finding.line_length.Goals as goal

pub returns : goal.returns
returns c =
    let text = c.args.text.now in
    let found : c.position.result ≡ position (λ b. eqb b 10) text =
    position_from_yields_List _ _ _ _ c.position.ensures.ran (YieldsList-from_slice text c.iter.ensures.rest) (λ x b q k. search (rules, tests)) in
    rw (c.unwrap_or.ensures, length-found text _ found) (refl, length-within text)
