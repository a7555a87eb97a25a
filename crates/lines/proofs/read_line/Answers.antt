-- `lines::read_line` meets its contract.
use Rattle.std.proofs.Common.{◌∙◌, rules}
use Rattle.grammar.specs.Grammar.{line_of}
use Rattle.grammar.specs.LineParts.{kind_at}
use Rattle.grammar.proofs.LineKinds.{passed, met}
use Rattle.lines.proofs.read_line.Goals as goal

pub returns-in-Some : goal.returns-in-Some
unfolding line_of
returns-in-Some c = search (met, c.read_one.ensures (kind_at 0) (λ v l q. search rules))

pub returns-in-Some-behind : goal.returns-in-Some-behind
unfolding line_of
returns-in-Some-behind c = search (passed, met, c.read_one-in-Some-behind.ensures (kind_at 1) (λ v l q. search rules))

pub returns-in-Some-behind-2 : goal.returns-in-Some-behind-2
unfolding line_of
returns-in-Some-behind-2 c = search (passed, met, c.step_line.ensures ∙ c.read_ask.ensures)

pub returns-in-Some-behind-3 : goal.returns-in-Some-behind-3
unfolding line_of
returns-in-Some-behind-3 c = search (passed, met, c.step_line-in-Some-behind-3.ensures ∙ c.read_send.ensures)

pub returns : goal.returns
unfolding line_of
returns c = search passed
