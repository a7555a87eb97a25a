-- `lines::behind` meets its contract.
use Rattle.grammar.proofs.Words.{other-first, stripped}
use Rattle.lines.proofs.behind.Goals as goal

pub returns-then-first-other : goal.returns-then-first-other
returns-then-first-other c =
    let read = c.in-Some-Some in
    other-first _ _ _ _ read.ensures'.value read.ensures.value c.if-first-other.true

pub returns : goal.returns
returns c = stripped _ _ _ c.strip_prefix.ensures.cases
