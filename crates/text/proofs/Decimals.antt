-- Laws of decimal digits.
use Rattle.std.proofs.Common.{All, ℕ, zero, suc, ◌+◌, ◌*◌, ◌-◌, ◌/◌, ◌%◌, ◌^◌, ◌≤◌, ◌<◌, ◌≡◌, refl, sym, ap, ◌∙◌, cond}
use Rattle.std.proofs.Common.{⊎_elim, List, [], ◌∷◌, ◌++◌, mod-lt, div-lt_iff_lt-mul, pow-suc, arith, length, length-append, get_or, ltb, lt-ltb, le-ltb}
use Rattle.std.proofs.Math.ListN.{get_or-append}
use Rattle.std.proofs.Math.Nat.{div-add-mod}
use Rattle.std.proofs.lemmas.Bool.{cases_lt}
use Rattle.std.proofs.lemmas.List.Elements.{All-nil, All-push}
use Rattle.text.specs.Decimal.{digit, digits_of, decimal}

tens-fewer : (n k : ℕ) → n ≤ suc k → n / 10 ≤ k
tens-fewer n k h = omega (arith, div-add-mod n 10)

-- the bound on how often a number has tens does not matter
digits-bound : (k m n : ℕ) → n ≤ k → n ≤ m → digits_of k n ≡ digits_of m n
unfolding digits_of
digits-bound zero zero n h g = refl
digits-bound zero (suc m) n h g = sym (rw (lt-ltb n 10 (omega arith)))
digits-bound (suc k) zero n h g = rw (lt-ltb n 10 (omega arith))
digits-bound (suc k) (suc m) n h g =
    ap (λ (l : List ℕ). cond (ltb n 10) (digit n ∷ []) (l ++ (digit (n % 10) ∷ [])))
    (digits-bound k m (n / 10) (tens-fewer n k h) (tens-fewer n m g))

pub decimal-ones : (n : ℕ) → n < 10 → decimal n ≡ digit n ∷ []
unfolding decimal digits_of
decimal-ones zero h = refl
decimal-ones (suc n) h = rw (lt-ltb (suc n) 10 h)

pub decimal-tens : (n : ℕ) → 10 ≤ n → decimal n ≡ decimal (n / 10) ++ (digit (n % 10) ∷ [])
unfolding decimal digits_of
decimal-tens zero h = absurd (omega arith)
decimal-tens (suc n) h =
    rw (le-ltb (suc n) 10 h)
    (ap (λ (l : List ℕ). l ++ (digit (suc n % 10) ∷ [])) (digits-bound n (suc n / 10) (suc n / 10) (tens-fewer (suc n) n (omega arith)) (omega arith)))

-- What holds below ten, and of a number where it holds of its tens, holds of every number.
by-tens : (P : ℕ → Type 0) → ((n : ℕ) → n < 10 → P n) → ((n : ℕ) → 10 ≤ n → P (n / 10) → P n) → (n : ℕ) → P n
by-tens P ones tens n = below n n (omega arith) where
  below : (k n : ℕ) → n ≤ k → P n
  below zero n h = ones n (omega arith)
  below (suc k) n h = ⊎_elim (ones n) (λ g. tens n g (below k (n / 10) (tens-fewer n k h))) (cases_lt n 10)

-- a number below a power of ten has at most so many digits
pub decimal-length : (k n : ℕ) → n < 10 ^ suc k → length (decimal n) ≤ suc k
decimal-length zero n h = rw (decimal-ones n h) (omega arith)
decimal-length (suc k) n h =
    ⊎_elim
    (λ g. rw (decimal-ones n g) (omega arith))
    (λ g. rw (decimal-tens n g, length-append) (omega (arith, decimal-length k (n / 10) ((div-lt_iff_lt-mul (omega arith)).1 (rw (pow-suc 10 (suc k)) at h)))))
    (cases_lt n 10)

pub decimal-at-most-ten : (n : ℕ) → n < 2 ^ 32 → length (decimal n) ≤ 10
decimal-at-most-ten n h = decimal-length 9 n (omega arith)

pub decimal-some : (n : ℕ) → 1 ≤ length (decimal n)
decimal-some = by-tens (λ n. 1 ≤ length (decimal n)) (λ n h. rw (decimal-ones n h) (omega arith)) (λ n h s. rw (decimal-tens n h, length-append) (omega arith))

-- every byte is a digit's
abbrev pub IsDigit : ℕ → Type 0
IsDigit b = (48 ≤ b) × (b ≤ 57)

pub decimal-digits : (n : ℕ) → All IsDigit (decimal n)
decimal-digits =
    by-tens
    (λ n. All IsDigit (decimal n))
    (λ n h. rw (decimal-ones n h) (All-push IsDigit [] (digit n) (All-nil IsDigit) (omega arith)))
    (λ n h s. rw (decimal-tens n h) (All-push IsDigit (decimal (n / 10)) (digit (n % 10)) s (omega (arith, mod-lt n {m = 10} (omega arith)))))

-- the number that digits say, after those of a number before them
unfoldable pub read_after : ℕ → List ℕ → ℕ
read_after n [] = n
read_after n (b ∷ l) = read_after (n * 10 + (b - 48)) l

read-append : (n : ℕ) (x y : List ℕ) → read_after n (x ++ y) ≡ read_after (read_after n x) y
unfolding read_after
read-append n [] y = refl
read-append n (b ∷ x) y = read-append (n * 10 + (b - 48)) x y

-- reading the digits gives the number back, so different numbers have different digits
pub decimal-read : (n : ℕ) → read_after 0 (decimal n) ≡ n
unfolding read_after
decimal-read =
    by-tens
    (λ n. read_after 0 (decimal n) ≡ n)
    (λ n h. rw (decimal-ones n h) (omega arith))
    (λ n h s. rw (decimal-tens n h, read-append, s) (omega (arith, div-add-mod n 10)))

pub decimal_injective : (m n : ℕ) → decimal m ≡ decimal n → m ≡ n
decimal_injective m n e = sym (decimal-read m) ∙ ap (read_after 0) e ∙ decimal-read n

-- only 0 begins with the digit 0
pub no-leading-zero : (n : ℕ) → get_or (decimal n) 0 0 ≡ digit 0 → n ≡ 0
no-leading-zero =
    by-tens
    (λ n. get_or (decimal n) 0 0 ≡ digit 0 → n ≡ 0)
    (λ n h e. omega (arith, rw (decimal-ones n h) at e))
    (λ n h s e.
    let z : n / 10 ≡ 0 = s (sym (get_or-append (decimal (n / 10)) (digit (n % 10) ∷ []) 0 0 (decimal-some (n / 10))) ∙ (rw (decimal-tens n h) at e)) in
    omega (arith, div-add-mod n 10, mod-lt n {m = 10} (omega arith)))
