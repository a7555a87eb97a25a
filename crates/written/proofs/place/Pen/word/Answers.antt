-- `written::place::Pen::word` meets its contract.
use mathlib.Core.Path.{ap, ◌∙◌}
use native.Mathlib.Omega.{arith}
use Rattle.std.proofs.Common.{rules}
use Rattle.text.proofs.Placing.{put-past}
use Rattle.written.specs.declared.place.Pen.{Pen}
use Rattle.written.proofs.Pens.{overwritten}
use Rattle.written.proofs.place.Pen.word.Goals as goal
use Rattle.written.proofs.place.Pen.word.Goals.{then-self, else-self}

pub returns : goal.returns
returns c =
    let pen = c.args.self.now in
    let word = c.args.word.now in
    let next = c.saturating_add-self.ensures in
    elim c.if-self.branch [
      | then-self w ↦ record {
        same = ap (λ (p : Pen). p.buf.ghost_name) w.self-is;
        short = omega arith;
        place = rw w.self-is at next;
        held = ap (λ (p : Pen). p.buf.now) w.self-is
            ∙ overwritten word pen.buf.now w.copy_from_slice.new.self pen.at _ w.min-fits.result (omega arith) w.min-fits.ensures (omega arith) (search rules);
      }
      | else-self w ↦ record {
        same = ap (λ (p : Pen). p.buf.ghost_name) w.self-is;
        short = omega arith;
        place = rw w.self-is at next;
        held = ap (λ (p : Pen). p.buf.now) w.self-is ∙ put-past word pen.buf.now pen.at w.if-self.false;
      }
    ]
