-- `written::write` meets its contract.
use mathlib.Core.Path.{refl, sym, ◌∙◌}
use Rattle.text.proofs.Refused.{write-unsound, write-sound}
use Rattle.written.proofs.write.Goals as goal

pub returns-then-not-is_sound : goal.returns-then-not-is_sound
returns-then-not-is_sound c =
    rw (write-unsound c.args.t c.args.buf.now (sym c.is_sound.ensures ∙ c.if-not-is_sound.true)) (refl, refl)

pub returns : goal.returns
returns c = rw (write-sound c.args.t c.args.buf.now (sym c.is_sound.ensures ∙ c.if-not-is_sound.false)) c.write_sound.ensures
