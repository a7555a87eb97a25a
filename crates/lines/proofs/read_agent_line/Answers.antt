-- `lines::read_agent_line` meets its contract.
use Rattle.std.proofs.Common.{rules}
use Rattle.grammar.specs.LineParts.{kind_at}
use Rattle.grammar.proofs.LineKinds.{passed, met}
use Rattle.lines.proofs.read_agent_line.Goals as goal

pub returns-in-Some : goal.returns-in-Some
returns-in-Some c = search (met, c.read_one.ensures (kind_at 4) (λ v l q. search rules))

pub returns-in-Some-behind : goal.returns-in-Some-behind
returns-in-Some-behind c = search (passed, met, c.read_one-in-Some-behind.ensures (kind_at 5) (λ v l q. search rules))

pub returns-in-Some-behind-2 : goal.returns-in-Some-behind-2
returns-in-Some-behind-2 c = search (passed, met, c.read_one-in-Some-behind-2.ensures (kind_at 6) (λ v l q. search rules))

pub returns-in-Some-behind-3 : goal.returns-in-Some-behind-3
returns-in-Some-behind-3 c = search (passed, met, c.read_one-in-Some-behind-3.ensures (kind_at 7) (λ v l q. search rules))

pub returns-in-Some-behind-4 : goal.returns-in-Some-behind-4
returns-in-Some-behind-4 c = search (passed, met, c.read_one-in-Some-behind-4.ensures (kind_at 8) (λ v l q. search rules))

pub returns-in-Some-behind-5 : goal.returns-in-Some-behind-5
returns-in-Some-behind-5 c = search (passed, met, c.read_one-in-Some-behind-5.ensures (kind_at 9) (λ v l q. search rules)) depth 7 fits 4000

pub returns : goal.returns
returns c = search passed depth 7 fits 4000
