-- Numbers as decimal digits with no leading zero, and words as bytes. Assumes nothing.
use Rattle.std.specs.Prelude.{ℕ, zero, suc, ◌+◌, ◌/◌, ◌%◌, cond, List, [], ◌∷◌, ◌++◌, ltb}
use Prim.Native.Char.{code}
use Prim.Native.String.{String, [] as no_text, ◌∷◌ as ◌then◌}

-- the byte of a digit
abbrev pub digit : ℕ → ℕ
digit d = 48 + d

-- The digits of n: below ten it is a digit, else the digits of its tens and then the digit of its ones. The first number bounds how
-- often it has tens.
unfoldable pub digits_of : ℕ → ℕ → List ℕ
digits_of zero n = digit n ∷ []
digits_of (suc most) n =
    let tens = digits_of most (n / 10) ++ (digit (n % 10) ∷ []) in
    cond (ltb n 10) (digit n ∷ []) tens

unfoldable pub decimal : ℕ → List ℕ
unfolding digits_of
decimal n = digits_of n n

-- the bytes of a word
abbrev pub bytes : String → List ℕ
bytes no_text = []
bytes (c then s) = code c ∷ bytes s
