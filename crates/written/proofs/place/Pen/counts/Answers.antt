-- `written::place::Pen::counts` meets its contract.
use Rattle.written.proofs.Pens.{penned_then}
use Rattle.written.proofs.place.Pen.counts.Goals as goal

pub returns : goal.returns
returns c =
    penned_then c.numbered.ensures (penned_then c.numbered-2.ensures (penned_then c.numbered-3.ensures c.numbered-4.ensures))
