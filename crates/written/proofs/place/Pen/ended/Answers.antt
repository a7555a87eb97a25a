-- `written::place::Pen::ended` meets its contract.
use Rattle.written.proofs.Pens.{penned_then}
use Rattle.written.proofs.place.Pen.ended.Goals as goal

pub returns : goal.returns
returns c = penned_then c.number.ensures c.word.ensures
