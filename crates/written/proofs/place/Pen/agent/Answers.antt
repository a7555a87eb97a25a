-- `written::place::Pen::agent` meets its contract.
use Rattle.text.proofs.RowParts.{agent-parts}
use Rattle.written.proofs.Pens.{penned_then, penned_same}
use Rattle.written.proofs.place.Pen.agent.Goals as goal

pub returns : goal.returns
returns c =
    penned_same (agent-parts c.args.i c.args.one)
    (penned_then c.numbered.ensures (penned_then c.ended.ensures (penned_then c.phase.ensures c.map.ensures)))
