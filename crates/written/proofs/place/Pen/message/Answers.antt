-- `written::place::Pen::message` meets its contract.
use Rattle.text.proofs.RowParts.{message-parts}
use Rattle.written.proofs.Pens.{penned_then, penned_same}
use Rattle.written.proofs.place.Pen.message.Goals as goal

pub returns : goal.returns
returns c =
    penned_same (message-parts c.args.i c.args.one)
    (penned_then c.numbered.ensures
    (penned_then c.ended.ensures
    (penned_then c.ended-2.ensures (penned_then c.ended-3.ensures (penned_then c.ended-4.ensures c.status.ensures)))))
