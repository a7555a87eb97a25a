-- What loops and iterators make of the test of a list, or of the places below a number.
use Prim.Native.Nat.{ℕ, zero, suc, ◌+◌, ◌≤◌, ◌<◌}
use mathlib.Core.Bool.{Bool, true, false, ◌&&◌, and_assoc, and_comm, and-true}
use mathlib.Core.List.{List, [], ◌∷◌}
use mathlib.Core.Path.{◌≡◌, refl, sym, ap, ◌∙◌}
use denote.Param.Members.{Mut}
use Rattle.std.specs.Fn.{Called}
use Rattle.std.specs.Iterator.{YieldsThen}
use Rattle.std.specs.List.{fold, list_all, range_with_len, FoldsTo}
use Rattle.std.specs.Option.{MatchOption}
use Rattle.std.proofs.Common.{Option}
use Rattle.std.specs.declared.ops.Range.{Range}
use Rattle.std.proofs.iter.Yields.{nat_range_steps}
use Rattle.std.proofs.lemmas.Iterator.{YieldsList-from_range}
use Rattle.std.proofs.lemmas.Iterator.Search.{all_from_yields_List}
use native.Mathlib.Numerals.{add-one}
use native.Mathlib.Omega.{arith}
use native.Mathlib.Decide.{ℕ_discrete}
use Rattle.records.specs.Places.{all_of, all_below}

-- the flag of a loop over places takes in one more place
pub below_on : (f : ℕ → Bool) (i : ℕ) (fine : Bool) → fine ≡ all_below i f → (fine && f i) ≡ all_below (i + 1) f
unfolding all_below
below_on f i fine so = rw (so, add-one) (and_comm (all_below i f) (f i))

-- a fold that goes through a whole list is the test of all of it
pub fold-all : {A : Type 0} (f : A → Bool) (fine : Bool) (l : List A) → fold (λ a x. a && f x) fine l ≡ (fine && all_of f l)
unfolding all_of
fold-all f fine [] = sym (and-true fine)
fold-all f fine (x ∷ l) = fold-all f (fine && f x) l ∙ and_assoc fine (f x) (all_of f l)

-- the test of the numbers from a on, with one number more at the end
range-more : (f : ℕ → Bool) (a n : ℕ) → list_all f (range_with_len a (suc n)) ≡ (list_all f (range_with_len a n) && f (a + n))
range-more f a zero = grind arith
range-more f a (suc n) = grind (arith, range-more f (a + 1) n)

-- the test of the numbers below n is that of the places below n
pub range-all : (n : ℕ) (f : ℕ → Bool) → list_all f (range_with_len 0 n) ≡ all_below n f
unfolding all_below
range-all zero f = refl
range-all (suc n) f = grind (arith, range-more f 0 n, range-all n f)

-- what std's `all` answers over the numbers below n, where each call answers as the test does
pub all-below :
    {F : Type 0} {g : Mut F (ℕ × Unit {0}) Bool} (test : ℕ → Bool) (n : ℕ) (u : Range ℕ) (f : F) (r : Bool)
    → (xs : List ℕ)
    × (o : Option ℕ)
    × (j : F)
    × YieldsThen nat_range_steps (record { start = 0; end = n }) xs o u
    × FoldsTo (λ p x q. Called g p (x, tt) true q) f xs j
    × MatchOption o (r ≡ true) (λ x. (r ≡ false) × ((h : F) × Called g j (x, tt) false h))
    → ((x : ℕ) (b : Bool) (q : F) → Called g f (x, tt) b q → (q ≡ f) × (b ≡ test x))
    → r ≡ all_below n test
all-below test n u f r ran acts =
    all_from_yields_List test u f r ran (YieldsList-from_range 0 n n refl (omega arith)) acts ∙ range-all n test

-- a test that passes at each place from n up to k is the same below both
pub below-past : (f : ℕ → Bool) (n k : ℕ) → ((i : ℕ) → n ≤ i → i < k → f i ≡ true) → n ≤ k → all_below k f ≡ all_below n f
unfolding all_below
below-past f zero zero past more = refl
below-past f (suc n) zero past more = absurd (omega arith)
below-past f n (suc k) past more =
    elim (ℕ_discrete n (suc k)) [
      | yes e ↦ ap (λ (j : ℕ). all_below j f) (sym e)
      | no e ↦
          ap (λ b. b && all_below k f) (past k (omega arith) (omega arith))
          ∙ below-past f n k (λ i le lt. past i le (omega arith)) (omega arith)
    ]
