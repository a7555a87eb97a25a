-- `written::place::Pen::rows` meets its contract.
use native.Mathlib.Omega.{arith}
use Rattle.written.proofs.Pens.{penned_no_rows, penned_row}
use Rattle.written.proofs.place.Pen.rows.Goals as goal

pub loop-i-init : goal.loop-i-init
loop-i-init g c = penned_no_rows _ _ (omega arith) (omega arith)

pub loop-i-preserved : goal.loop-i-preserved
loop-i-preserved g c =
    penned_row g.text c.loop-i.i c.loop-i.invariant (c.requires.1.1 _ c.loop-i.i _ c.loop-i-test.true c.row.ensures)
