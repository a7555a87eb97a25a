-- Where the first line of a text ends, and what the lines of a text are by it.
use Rattle.std.proofs.Common.{ℕ, zero, suc, ◌≤◌, ◌<◌, Bool, true, false, cond, List, [], ◌∷◌, Option, Some, None, length, eqb, ltb, ◌≡◌, refl, ap, arith}
use Rattle.std.proofs.lemmas.Bool.{lt-ltb, ltb-true, ltb-false}
use Rattle.std.proofs.lemmas.List.Recursion.{is_position_or_len}
use Rattle.std.proofs.Math.Dec.{leb-suc-suc}
use Rattle.std.proofs.Math.Nat.{lt_irrefl}
use Rattle.std.specs.List.{position}
use Rattle.std.specs.Option.{unwrap_or}
use Rattle.grammar.specs.Lines.{ahead, lines_of}
use Rattle.grammar.specs.Finding.{line_length, first_line, line_taken, after_line}

-- the first line is no longer than the text
length-by : (bs : List ℕ) (b : ℕ) (t : Bool) → line_length bs ≤ length bs → cond t zero (suc (line_length bs)) ≤ suc (length bs)
length-by bs b true h = omega arith
length-by bs b false h = omega arith

pub length-within : (bs : List ℕ) → line_length bs ≤ length bs
unfolding line_length
length-within [] = omega arith
length-within (b ∷ bs) = length-by bs b (eqb b 10) (length-within bs)

-- the line's length is the first place of a byte 10, or the text's length
pub length-found : (bs : List ℕ) (r : Option ℕ) → r ≡ position (λ b. eqb b 10) bs → unwrap_or r (length bs) ≡ line_length bs
unfolding line_length
length-found bs r e =
    let place = is_position_or_len line_length (λ b. eqb b 10) refl (λ b rest. ap (λ n. cond (eqb b 10) 0 n) (omega arith)) bs in
    rw (e, ← place) (by (ltb (line_length bs) (length bs)) refl)
  where
    by : (t : Bool) → ltb (line_length bs) (length bs) ≡ t → unwrap_or (cond t (Some (line_length bs)) None) (length bs) ≡ line_length bs
    by true inside = refl
    by false past = omega (arith, length-within bs, ltb-false (line_length bs) (length bs) past)

-- at byte 10 the first line is over; at another byte it is that byte and the first line of the rest
taken-stops : (b : ℕ) (bs : List ℕ) → eqb b 10 ≡ true → line_taken (b ∷ bs) ≡ 1
unfolding line_length
taken-stops b bs e = rw (e, lt-ltb 0 (suc (length bs)) (omega arith))

suc-in : (t : Bool) (n : ℕ) → cond t (suc (suc n)) (suc n) ≡ suc (cond t (suc n) n)
suc-in true n = refl
suc-in false n = refl

taken-on : (b : ℕ) (bs : List ℕ) → eqb b 10 ≡ false → line_taken (b ∷ bs) ≡ suc (line_taken bs)
unfolding line_length
taken-on b bs e = rw (e, leb-suc-suc (suc (line_length bs)) (length bs)) (suc-in (ltb (line_length bs) (length bs)) (line_length bs))

lines-at-end : (b : ℕ) (bs : List ℕ) → eqb b 10 ≡ true → lines_of (b ∷ bs) ≡ first_line (b ∷ bs) ∷ lines_of (after_line (b ∷ bs))
unfolding lines_of line_length
lines-at-end b bs e = rw (taken-stops b bs e, e)

lines-first : (bs : List ℕ) (b : ℕ) (t : Bool) → eqb b 10 ≡ t → lines_of (b ∷ bs) ≡ first_line (b ∷ bs) ∷ lines_of (after_line (b ∷ bs))
unfolding lines_of line_length
lines-first [] b true e = lines-at-end b [] e
lines-first (x ∷ xs) b true e = lines-at-end b (x ∷ xs) e
lines-first [] b false e = rw (taken-on b [] e, e)
lines-first (x ∷ xs) b false e = rw (taken-on b (x ∷ xs) e, e, lines-first xs x (eqb x 10) refl)

-- The lines of a text that is not empty are its first line and the lines of what stands after it.
pub lines-by-first : (b : ℕ) (bs : List ℕ) → lines_of (b ∷ bs) ≡ first_line (b ∷ bs) ∷ lines_of (after_line (b ∷ bs))
lines-by-first b bs = lines-first bs b (eqb b 10) refl

pub lines-of-some : (bs : List ℕ) → 0 < length bs → lines_of bs ≡ first_line bs ∷ lines_of (after_line bs)
lines-of-some [] h = elim (lt_irrefl 0 h) [ ]
lines-of-some (b ∷ bs) h = lines-by-first b bs

-- a line takes no more bytes than there are, and some where there are any
taken-by : (n m : ℕ) (t : Bool) → ltb n m ≡ t → n ≤ m → cond t (suc n) n ≤ m
taken-by n m true e h = ltb-true n m e
taken-by n m false e h = h

pub taken-within : (bs : List ℕ) → line_taken bs ≤ length bs
taken-within bs = taken-by (line_length bs) (length bs) (ltb (line_length bs) (length bs)) refl (length-within bs)

some-by : (n m : ℕ) (t : Bool) → ltb n m ≡ t → 0 < m → 0 < cond t (suc n) n
some-by n m true e h = omega arith
some-by n m false e h = omega (arith, ltb-false n m e)

pub taken-some : (bs : List ℕ) → 0 < length bs → 0 < line_taken bs
taken-some bs h = some-by (line_length bs) (length bs) (ltb (line_length bs) (length bs)) refl h

-- no more lines than bytes
pub lines-within : (bs : List ℕ) → length (lines_of bs) ≤ length bs
unfolding lines_of
lines-within [] = omega arith
lines-within (b ∷ bs) = by (eqb b 10) (lines_of bs) (lines-within bs)
  where
    by : (t : Bool) (ls : List (List ℕ)) → length ls ≤ length bs → length (cond t ([] ∷ ls) (ahead b ls)) ≤ suc (length bs)
    by true ls h = omega arith
    by false [] h = omega arith
    by false (l ∷ ls) h = omega arith
