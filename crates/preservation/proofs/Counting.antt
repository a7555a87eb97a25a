-- Laws of counting: what a count below a number depends on, and that a list whose entries are different numbers below n is no longer
-- than n.
use Rattle.std.proofs.Common.{ℕ, zero, suc, ◌<◌, ◌≤◌, ◌+◌, ◌≡◌, refl, ap, ap₂, sym, ◌∙◌, Bool, false, eqb, not-suc-le-zero, zero-add, arith, eq-eqb, ne_eqb}
use Rattle.std.proofs.Math.Decide.{ℕ_discrete}
use Rattle.records.specs.Places.{count_below}
use Rattle.records.proofs.PlaceLaws.{count-hit, count-miss}

-- a test that passes nowhere counts nothing
pub count_none : (n : ℕ) (f : ℕ → Bool) → ((i : ℕ) → i < n → f i ≡ false) → count_below n f ≡ 0
count_none zero f h = unfold count_below in refl
count_none (suc n) f h = count-miss n f (h n (omega arith)) ∙ count_none n f (λ i b. h i (omega arith))

-- what a function gives at all places below n, added up
sum_below : ℕ → (ℕ → ℕ) → ℕ
sum_below zero f = zero
sum_below (suc n) f = f n + sum_below n f

sum_same : (n : ℕ) (f g : ℕ → ℕ) → ((i : ℕ) → i < n → f i ≡ g i) → sum_below n f ≡ sum_below n g
unfolding sum_below
sum_same zero f g h = refl
sum_same (suc n) f g h = ap₂ ◌+◌ (h n (omega arith)) (sum_same n f g (λ i b. h i (omega arith)))

sum-zero : (n : ℕ) → sum_below n (λ i. 0) ≡ 0
unfolding sum_below
sum-zero zero = refl
sum-zero (suc n) = zero-add (sum_below n (λ i. 0)) ∙ sum-zero n

-- one more at one place
sum_more : (n : ℕ) (f g : ℕ → ℕ) (k : ℕ) → k < n → g k ≡ suc (f k) → ((i : ℕ) → (i ≡ k → ⊥) → g i ≡ f i) → sum_below n g ≡ suc (sum_below n f)
unfolding sum_below
sum_more zero f g k b e h = absurd (not-suc-le-zero b)
sum_more (suc n) f g k b e h = which (ℕ_discrete n k) (λ c. sum_more n f g k c e h)
  where
    which : Dec (n ≡ k) → (k < n → sum_below n g ≡ suc (sum_below n f)) → g n + sum_below n g ≡ suc (f n + sum_below n f)
    which (yes q) rest =
        let s : sum_below n g ≡ sum_below n f = sum_same n g f (λ i c. h i (λ r. omega arith)) in
        let d : g n ≡ suc (f n) = rw q e in
        omega arith
    which (no d) rest =
        let s : sum_below n g ≡ suc (sum_below n f) = rest (omega arith) in
        let w : g n ≡ f n = h n d in
        omega arith

-- no place gives more than one
sum-most : (n : ℕ) (f : ℕ → ℕ) → ((i : ℕ) → i < n → f i ≤ 1) → sum_below n f ≤ n
unfolding sum_below
sum-most zero f h = omega arith
sum-most (suc n) f h = omega (arith, h n (omega arith), sum-most n f (λ i b. h i (omega arith)))

-- no place gives more than one, and one gives nothing
sum_below_lem : (n : ℕ) (f : ℕ → ℕ) (k : ℕ) → k < n → f k ≡ 0 → ((i : ℕ) → i < n → f i ≤ 1) → sum_below n f < n
unfolding sum_below
sum_below_lem zero f k b e h = absurd (not-suc-le-zero b)
sum_below_lem (suc n) f k b e h = which (ℕ_discrete n k) (λ c. sum_below_lem n f k c e (λ i d. h i (omega arith)))
  where
    which : Dec (n ≡ k) → (k < n → sum_below n f < n) → f n + sum_below n f < suc n
    which (yes q) rest =
        let z : f n ≡ 0 = rw q e in
        omega (arith, sum-most n f (λ i d. h i (omega arith)))
    which (no d) rest = omega (arith, rest (omega arith), h n (omega arith))

-- how often each number below n stands among the first h entries, added up: all of the entries, where each is below n
sum-times : (n h : ℕ) (entry : ℕ → ℕ) → ((i : ℕ) → i < h → entry i < n) → sum_below n (λ j. count_below h (λ i. eqb (entry i) j)) ≡ h
sum-times n zero entry b = unfold count_below in sum-zero n
sum-times n (suc h) entry b =
    sum_more
    n
    (λ j. count_below h (λ i. eqb (entry i) j))
    (λ j. count_below (suc h) (λ i. eqb (entry i) j))
    (entry h)
    (b h (omega arith))
    (count-hit h (λ i. eqb (entry i) (entry h)) (eq-eqb (entry h) (entry h) refl))
    (λ j d. count-miss h (λ i. eqb (entry i) j) (ne_eqb (entry h) j (λ e. d (sym e))))
    ∙ ap suc (sum-times n h entry (λ i c. b i (omega arith)))

-- entries that are all below n, none twice, with one number below n missing, are fewer than n
pub fewer : (n h : ℕ) (entry : ℕ → ℕ) (k : ℕ)
    → ((i : ℕ) → i < h → entry i < n)
    → ((j : ℕ) → j < n → count_below h (λ i. eqb (entry i) j) ≤ 1)
    → k < n
    → count_below h (λ i. eqb (entry i) k) ≡ 0
    → h < n
fewer n h entry k b once c missing =
    omega (arith, sum_below_lem n (λ j. count_below h (λ i. eqb (entry i) j)) k c missing once, sum-times n h entry b)
