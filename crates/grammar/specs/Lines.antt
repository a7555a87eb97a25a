-- The lines of a text, each without its byte 10. Assumes nothing.
use Rattle.std.specs.Prelude.{ℕ, cond, List, [], ◌∷◌, eqb}

-- a byte at the front of the first line
abbrev pub ahead : ℕ → List (List ℕ) → List (List ℕ)
ahead b [] = (b ∷ []) ∷ []
ahead b (l ∷ ls) = (b ∷ l) ∷ ls

-- Byte 10 ends a line, and every other byte is part of one. So the last line may lack byte 10, an empty line is a line, and no line
-- follows a final byte 10.
unfoldable pub lines_of : List ℕ → List (List ℕ)
lines_of [] = []
lines_of (b ∷ bs) = cond (eqb b 10) ([] ∷ lines_of bs) (ahead b (lines_of bs))
