-- Bytes put into a buffer from a place on. Assumes nothing.
use Rattle.std.specs.Prelude.{ℕ, ◌+◌, ◌≡◌, cond, List, length, leb}
use Rattle.std.proofs.lemmas.List.Edits.{sets}

-- A text was put from a place on, as far as the buffer has room, and the place after it is `next`. In a buffer with no room the text
-- is only measured.
pub record Put (text before after : List ℕ) (at next : ℕ) : Type 0 where
  pub place : next ≡ at + length text
  pub held : after ≡ sets before at text

-- the place after a text that is put from any place on: one past the buffer's end stays as it is
abbrev pub place_after : List ℕ → ℕ → List ℕ → ℕ
place_after buffer at text = cond (leb at (length buffer)) (at + length text) at

-- A text was put from a place within the buffer, as far as the buffer has room; from a place past its end nothing was put.
pub record PutWithin (text before after : List ℕ) (at next : ℕ) : Type 0 where
  pub place : next ≡ place_after before at text
  pub held : after ≡ sets before at text
