-- What `all_of`, `all_below`, `count_below` and `last_below` say place by place.
use Rattle.std.proofs.Common.{Some, ℕ, zero, suc, ◌+◌, ◌-◌, ◌≤◌, ◌<◌, not-suc-le-zero, le_of_suc-le-suc, le_trans, le_of_eq, arith, ◌≡◌, refl, sym, ap, ap₂, ◌∙◌, subst, ⊎_elim, Bool, true, false, cond, List, [], ◌∷◌, get_or, drop}
use Rattle.std.proofs.Math.Decide.{ℕ_discrete, dec_lt}
use Rattle.std.proofs.lemmas.Bool.{false≢true, and_parts, and_from, cases_Bool}
use Rattle.records.specs.declared.MailNo.{MailNo}
use Rattle.records.specs.Numbers.{mail_no}
use Rattle.records.specs.Places.{all_of, all_below, count_below, last_below}

pub below_each : (n : ℕ) (f : ℕ → Bool) → all_below n f ≡ true → (i : ℕ) → i < n → f i ≡ true
unfolding all_below
below_each zero f h i lt = absurd (not-suc-le-zero lt)
below_each (suc n) f h i lt =
    elim (ℕ_discrete i n) [
      | yes e ↦ subst (λ (j : ℕ). f j ≡ true) (sym e) (and_parts _ _ h).0
      | no e ↦ below_each n f (and_parts _ _ h).1 i (omega arith)
    ]

pub each_below : (n : ℕ) (f : ℕ → Bool) → ((i : ℕ) → i < n → f i ≡ true) → all_below n f ≡ true
unfolding all_below
each_below zero f h = refl
each_below (suc n) f h = and_from _ _ (h n (omega arith)) (each_below n f (λ i lt. h i (omega arith)))

-- the room past n: what holds of each element of the rest holds of each place from n on
module _ {ℓ} {A : Type ℓ} (f : A → Bool) (d : A) (empty : f d ≡ true) where
  rest-each : (l : List A) → all_of f l ≡ true → (i : ℕ) → f (get_or l i d) ≡ true
  unfolding all_of
  rest-each [] h i = empty
  rest-each (x ∷ xs) h zero = (and_parts _ _ h).0
  rest-each (x ∷ xs) h (suc i) = rest-each xs (and_parts _ _ h).1 i

  pub room-each : (l : List A) (n : ℕ) → all_of f (drop n l) ≡ true → (i : ℕ) → n ≤ i → f (get_or l i d) ≡ true
  unfolding all_of
  room-each [] n h i le = empty
  room-each (x ∷ xs) zero h i le = rest-each (x ∷ xs) h i
  room-each (x ∷ xs) (suc n) h zero le = absurd (not-suc-le-zero le)
  room-each (x ∷ xs) (suc n) h (suc i) le = room-each xs n h i (le_of_suc-le-suc le)

  each-rest : (l : List A) → ((i : ℕ) → f (get_or l i d) ≡ true) → all_of f l ≡ true
  unfolding all_of
  each-rest [] h = refl
  each-rest (x ∷ xs) h = and_from _ _ (h zero) (each-rest xs (λ i. h (suc i)))

  pub each-room : (l : List A) (n : ℕ) → ((i : ℕ) → n ≤ i → f (get_or l i d) ≡ true) → all_of f (drop n l) ≡ true
  unfolding all_of
  each-room [] zero h = refl
  each-room [] (suc n) h = refl
  each-room (x ∷ xs) zero h = each-rest (x ∷ xs) (λ i. h i (omega arith))
  each-room (x ∷ xs) (suc n) h = each-room xs n (λ i le. h (suc i) (omega arith))

-- one place more
pub count-hit : (n : ℕ) (f : ℕ → Bool) → f n ≡ true → count_below (suc n) f ≡ suc (count_below n f)
unfolding count_below
count-hit n f h = ap (λ b. cond b (suc (count_below n f)) (count_below n f)) h

pub count-miss : (n : ℕ) (f : ℕ → Bool) → f n ≡ false → count_below (suc n) f ≡ count_below n f
unfolding count_below
count-miss n f h = ap (λ b. cond b (suc (count_below n f)) (count_below n f)) h

count-step : (n : ℕ) (f : ℕ → Bool) → count_below n f ≤ count_below (suc n) f
count-step n f =
    ⊎_elim
    (λ h. omega (arith, count-hit n f h))
    (λ h. omega (arith, count-miss n f h))
    (cases_Bool (f n))

-- the count only grows, and is at least 1 where the test passes somewhere
pub count-grows : (n k : ℕ) (f : ℕ → Bool) → count_below n f ≤ count_below (n + k) f
count-grows n zero f = le_of_eq (ap (λ (m : ℕ). count_below m f) (omega arith))
count-grows n (suc k) f =
    le_trans (count-grows n k f) (le_trans (count-step (n + k) f) (le_of_eq (ap (λ (m : ℕ). count_below m f) (omega arith))))

pub count-some : (n : ℕ) (f : ℕ → Bool) (i : ℕ) → i < n → f i ≡ true → 1 ≤ count_below n f
count-some n f i lt h =
    le_trans
    (omega (arith, count-hit i f h))
    (le_trans
    (count-grows (suc i) (n - suc i) f)
    (le_of_eq (ap (λ (m : ℕ). count_below m f) (omega arith))))

pub some-count : (n : ℕ) (f : ℕ → Bool) → 1 ≤ count_below n f → (i : ℕ) × (i < n) × (f i ≡ true)
unfolding count_below
some-count zero f h = absurd (not-suc-le-zero h)
some-count (suc n) f h =
    ⊎_elim
    (λ (hit : f n ≡ true). (n, omega arith, hit))
    (λ (miss : f n ≡ false).
    let r = some-count n f (omega (arith, count-miss n f miss)) in
    (r.0, omega (arith, r.1), r.2))
    (cases_Bool (f n))

-- tests that agree below n count alike
pub count-alike : (n : ℕ) (f g : ℕ → Bool) → ((i : ℕ) → i < n → f i ≡ g i) → count_below n f ≡ count_below n g
unfolding count_below
count-alike zero f g h = refl
count-alike (suc n) f g h =
    ap₂ (λ (b : Bool) (k : ℕ). cond b (suc k) k) (h n (omega arith)) (count-alike n f g (λ i lt. h i (omega arith)))

-- where the test passes for the n-th time, counted from 0
pub nth-place : (most : ℕ) (f : ℕ → Bool) (n : ℕ) → n < count_below most f → (i : ℕ) × (i < most) × (f i ≡ true) × (count_below i f ≡ n)
unfolding count_below
nth-place zero f n h = absurd (not-suc-le-zero h)
nth-place (suc most) f n h =
    ⊎_elim
    (λ (hit : f most ≡ true).
    elim (ℕ_discrete (count_below most f) n) [
      | yes e ↦ (most, omega arith, hit, e)
      | no e ↦
          let r = nth-place most f n (omega (arith, count-hit most f hit)) in
          (r.0, omega (arith, r.1), r.2, r.3)
    ])
    (λ (miss : f most ≡ false).
    let r = nth-place most f n (omega (arith, count-miss most f miss)) in
    (r.0, omega (arith, r.1), r.2, r.3))
    (cases_Bool (f most))

pub later-counts : (f : ℕ → Bool) (i j : ℕ) → f i ≡ true → i < j → count_below i f < count_below j f
later-counts f i j h lt =
    omega (
      arith,
      count-hit i f h,
      count-grows (suc i) (j - suc i) f,
      ap (λ (m : ℕ). count_below m f) (sum_back (suc i) j lt),
    )
  where
    sum_back : (a b : ℕ) → a ≤ b → a + (b - a) ≡ b
    sum_back a b le = omega arith

-- and it passes for the n-th time at one place only
pub same_place : (f : ℕ → Bool) (i j : ℕ) → f i ≡ true → f j ≡ true → count_below i f ≡ count_below j f → i ≡ j
same_place f i j hi hj e =
    elim (dec_lt i j) [
      | yes lt ↦ absurd (omega (arith, later-counts f i j hi lt))
      | no ge ↦ elim (dec_lt j i) [ yes lt ↦ absurd (omega (arith, later-counts f j i hj lt)) | no ge' ↦ omega arith ]
    ]

-- a search finds a message that passes, where there is one
pub last-there : (n : ℕ) (f : MailNo → Bool) (i : ℕ) → i < n → f (mail_no i) ≡ true → (m : MailNo) × (last_below n f ≡ Some m) × (m.0 < n) × (f m ≡ true)
unfolding last_below
last-there zero f i lt h = absurd (not-suc-le-zero lt)
last-there (suc n) f i lt h =
    ⊎_elim
    (λ (hit : f (mail_no n) ≡ true). (mail_no n, ap (λ b. cond b (Some (mail_no n)) (last_below n f)) hit, omega arith, hit))
    (λ (miss : f (mail_no n) ≡ false).
    let r = last-there n f i (before miss) h in
    (r.0, ap (λ b. cond b (Some (mail_no n)) (last_below n f)) miss ∙ r.1, omega (arith, r.2), r.3))
    (cases_Bool (f (mail_no n)))
  where
    before : f (mail_no n) ≡ false → i < n
    before miss =
        elim (ℕ_discrete i n)
        [ yes e ↦ absurd (false≢true (sym miss ∙ ap (λ (x : ℕ). f (mail_no x)) (sym e) ∙ h)) | no e ↦ omega arith ]
