-- `written::place::Pen::numbered` meets its contract.
use Rattle.written.proofs.Pens.{penned_then}
use Rattle.written.proofs.place.Pen.numbered.Goals as goal

pub returns : goal.returns
returns c = penned_then c.word.ensures c.ended.ensures
