-- `written::place::Pen::entry` meets its contract.
use Rattle.text.proofs.RowParts.{entry-parts}
use Rattle.written.proofs.Pens.{penned_then, penned_same}
use Rattle.written.proofs.place.Pen.entry.Goals as goal

pub returns : goal.returns
returns c = penned_same (entry-parts c.args.i c.args.m.0) (penned_then c.numbered.ensures c.ended.ensures)
