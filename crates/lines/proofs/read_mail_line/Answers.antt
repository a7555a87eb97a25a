-- `lines::read_mail_line` meets its contract.
use Rattle.std.proofs.Common.{rules}
use Rattle.grammar.specs.Grammar.{line_among}
use Rattle.grammar.specs.LineParts.{kind_at}
use Rattle.grammar.proofs.LineKinds.{passed, met}
use Rattle.lines.proofs.read_mail_line.Goals as goal

pub returns-in-Some : goal.returns-in-Some
returns-in-Some c = search (met, c.read_one.ensures (kind_at 10) (λ v l q. search rules))

pub returns-in-Some-behind : goal.returns-in-Some-behind
returns-in-Some-behind c = search (passed, met, c.read_one-in-Some-behind.ensures (kind_at 11) (λ v l q. search rules))

pub returns-in-Some-behind-2 : goal.returns-in-Some-behind-2
returns-in-Some-behind-2 c = search (passed, met, c.read_one-in-Some-behind-2.ensures (kind_at 12) (λ v l q. search rules))

pub returns : goal.returns
unfolding line_among
returns c = search passed
