-- What a pen puts into its buffer. Assumes nothing.
use Rattle.std.specs.Prelude.{ℕ, List, ◌+◌, ◌-◌, ◌^◌, ◌≡◌, ◌≤◌, min, length}
use Rattle.std.proofs.lemmas.List.Edits.{sets}
use Rattle.written.specs.declared.place.Pen.{Pen}

-- the largest place, past the end of every buffer
abbrev pub last_place : ℕ
last_place = 2 ^ 64 - 1

-- A text was put where the pen stood, as far as its buffer has room, and the pen stands where the text ended, or at the last place where
-- that is past it.
pub record Penned (text : List ℕ) (before after : Pen) : Type 0 where
  pub same : after.buf.ghost_name ≡ before.buf.ghost_name
  pub short : length before.buf.now ≤ last_place
  pub place : after.at ≡ min (before.at + length text) last_place
  pub held : after.buf.now ≡ sets before.buf.now before.at text
