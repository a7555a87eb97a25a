-- One more mark at the end: what stands at each place, and how many moves have begun before it.
use Rattle.std.proofs.Common.{ℕ, suc, ◌<◌, ◌≤◌, ◌+◌, ◌≡◌, refl, ap, sym, ◌∙◌, ◌⊎◌, inl, inr, Bool, true, false, cond, List, [], ◌∷◌, ◌++◌, length, get_or, take, drop, length-append, take-append-drop, add_assoc, zero-add, arith, eq-eqb}
use Rattle.std.proofs.Math.Decide.{dec_lt, ℕ_discrete}
use Rattle.std.proofs.Math.ListN.{get_or-append, get_or-eq_default}
use Rattle.std.proofs.Math.Seq.{get_or-append_seam, take-append-le, take-append_seam, split_at}
use Rattle.records.specs.declared.AgentNo.{AgentNo}
use Rattle.records.specs.declared.SiteNo.{SiteNo}
use Rattle.rules.specs.declared.State.{State}
use Rattle.order.specs.Marks.{Mark, nothing, asks, asks_of, asks_in, At, moves_begun}

-- a mark that says something stands at a place of the sequence
pub at-below : (ms : List Mark) (i : ℕ) (y : Mark) → (y ≡ nothing → ⊥) → At ms i y → i < length ms
at-below ms i y n h = which (dec_lt i (length ms))
  where
    which : Dec (i < length ms) → i < length ms
    which (yes k) = k
    which (no k) = absurd (n (sym h ∙ get_or-eq_default ms nothing (omega arith)))

module _ (ms : List Mark) (x : Mark) where
  abbrev pub more : List Mark
  more = ms ++ (x ∷ [])

  pub at-keeps : (i : ℕ) → i < length ms → get_or more i nothing ≡ get_or ms i nothing
  at-keeps i h = get_or-append ms (x ∷ []) nothing i h

  pub at_old : (i : ℕ) (y : Mark) → (y ≡ nothing → ⊥) → At ms i y → At more i y
  at_old i y n h = at-keeps i (at-below ms i y n h) ∙ h

  pub at_last : At more (length ms) x
  at_last = get_or-append_seam ms x [] nothing

  pub at_snoc : (i : ℕ) (y : Mark) → (y ≡ nothing → ⊥) → At more i y → ((i < length ms) × At ms i y) ⊎ ((i ≡ length ms) × (x ≡ y))
  at_snoc i y n h = which (dec_lt i (length ms)) (ℕ_discrete i (length ms))
    where
      size : length more ≡ length ms + 1
      size = length-append ms (x ∷ [])

      which : Dec (i < length ms) → Dec (i ≡ length ms) → ((i < length ms) × At ms i y) ⊎ ((i ≡ length ms) × (x ≡ y))
      which (yes k) d = inl (k, sym (at-keeps i k) ∙ h)
      which (no k) (yes e) = inr (e, sym at_last ∙ ap (λ (j : ℕ). get_or more j nothing) (sym e) ∙ h)
      which (no k) (no d) = absurd (n (sym h ∙ get_or-eq_default more nothing (omega (arith, size))))

  pub take-old : (i : ℕ) → i ≤ length ms → take i more ≡ take i ms
  take-old i h = take-append-le i ms (x ∷ []) h

  pub take_last : take (length ms) more ≡ ms
  take_last = take-append_seam ms (x ∷ [])

pub asks_append : (a : AgentNo) (xs ys : List Mark) → asks_in a (xs ++ ys) ≡ asks_in a xs + asks_in a ys
unfolding asks_in
asks_append a [] ys = sym (zero-add (asks_in a ys))
asks_append a (x ∷ xs) ys =
    ap (λ (n : ℕ). cond (asks_of a x) 1 0 + n) (asks_append a xs ys) ∙ sym (add_assoc (cond (asks_of a x) 1 0) (asks_in a xs) (asks_in a ys))

-- what one mark adds
asks-one : (a : AgentNo) (x : Mark) (xs : List Mark) (b : Bool) → asks_of a x ≡ b → asks_in a (x ∷ xs) ≡ cond b 1 0 + asks_in a xs
unfolding asks_in
asks-one a x xs b e = ap (λ (c : Bool). cond c 1 0 + asks_in a xs) e

asks-itself : (a : AgentNo) (u : SiteNo) → asks_of a (asks a u) ≡ true
asks-itself a u = eq-eqb a.0 a.0 refl

asks_none : (a : AgentNo) → asks_in a [] ≡ 0
unfolding asks_in
asks_none a = refl

module _ (t : State) (a : AgentNo) where
  -- fewer have begun at an earlier place
  pub begun-most : (ms : List Mark) (i : ℕ) → moves_begun t (take i ms) a ≤ moves_begun t ms a
  begun-most ms i =
      omega (arith, asks_append a (take i ms) (drop i ms), ap (asks_in a) (take-append-drop i ms))

  pub begun-other : (ms : List Mark) (x : Mark) → asks_of a x ≡ false → moves_begun t (ms ++ (x ∷ [])) a ≡ moves_begun t ms a
  begun-other ms x e =
      omega (arith, asks_append a ms (x ∷ []), asks-one a x [] false e, asks_none a)

  pub begun-asked : (ms : List Mark) (u : SiteNo) → moves_begun t (ms ++ (asks a u ∷ [])) a ≡ suc (moves_begun t ms a)
  begun-asked ms u =
      omega (arith, asks_append a ms (asks a u ∷ []), asks-one a (asks a u) [] true (asks-itself a u), asks_none a)

  -- the move that begins at a place has not begun before it
  pub begun-less : (ms : List Mark) (i : ℕ) (u : SiteNo) → At ms i (asks a u) → moves_begun t (take i ms) a < moves_begun t ms a
  begun-less ms i u h =
      omega (
        arith,
        ap (asks_in a) (split_at ms i nothing (at-below ms i (asks a u) (λ e. cc) h)),
        asks_append a (take i ms) (get_or ms i nothing ∷ drop (suc i) ms),
        asks-one a (get_or ms i nothing) (drop (suc i) ms) true (ap (asks_of a) h ∙ asks-itself a u),
      )
