-- `written::place::Pen::table` meets its contract.
use Rattle.text.proofs.RowParts.{table-parts}
use Rattle.written.proofs.Pens.{penned_then, penned_same}
use Rattle.written.proofs.place.Pen.table.Goals as goal

pub returns : goal.returns
returns c =
    penned_same (table-parts c.args.t.now)
    (penned_then c.counts.ensures (penned_then c.lock.ensures (penned_then c.agents.ensures (penned_then c.messages.ensures c.log.ensures))))
