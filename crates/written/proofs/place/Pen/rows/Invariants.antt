use Rattle.text.specs.Text.{rows_below}
use Rattle.written.specs.Pens.{Penned}
use Rattle.written.proofs.place.Pen.rows.Given as goal

abbrev pub invariant-loop-i : goal.invariant-loop-i
invariant-loop-i g l = Penned (rows_below l.i g.text) l.initial.self l.self
