-- The first line of a text, and where the next one begins. Assumes nothing.
use Rattle.std.specs.Prelude.{ℕ, zero, suc, cond, List, [], ◌∷◌, length, take, drop, eqb, ltb}

-- how many bytes stand before the first byte 10, or before the end
unfoldable pub line_length : List ℕ → ℕ
line_length [] = zero
line_length (b ∷ bs) = cond (eqb b 10) zero (suc (line_length bs))

-- the first line, without its byte 10
abbrev pub first_line : List ℕ → List ℕ
first_line text = take (line_length text) text

-- how many bytes it takes, its byte 10 among them where it has one
abbrev pub line_taken : List ℕ → ℕ
line_taken text = cond (ltb (line_length text) (length text)) (suc (line_length text)) (line_length text)

abbrev pub after_line : List ℕ → List ℕ
after_line text = drop (line_taken text) text
