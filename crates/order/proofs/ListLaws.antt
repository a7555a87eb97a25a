-- One more at the end of a list: what stands in it, that nothing stands twice, and what stands before what.
use Rattle.std.proofs.Common.{◌≡◌, refl, ap, sym, ◌⊎◌, inl, inr, List, [], ◌∷◌, ◌++◌, map}
use Rattle.order.specs.Lists.{In, Distinct, StandsBefore}

module _ {A : Type 0} where
  pub in_left : (x y : A) (xs : List A) → In x xs → In x (xs ++ (y ∷ []))
  in_left x y [] h = absurd h
  in_left x y (z ∷ zs) (inl e) = inl e
  in_left x y (z ∷ zs) (inr h) = inr (in_left x y zs h)

  pub in-last : (x : A) (xs : List A) → In x (xs ++ (x ∷ []))
  in-last x [] = inl refl
  in-last x (z ∷ zs) = inr (in-last x zs)

  pub in-snoc : (x y : A) (xs : List A) → In x (xs ++ (y ∷ [])) → In x xs ⊎ (x ≡ y)
  in-snoc x y [] (inl e) = inr e
  in-snoc x y [] (inr h) = absurd h
  in-snoc x y (z ∷ zs) (inl e) = inl (inl e)
  in-snoc x y (z ∷ zs) (inr h) = told (in-snoc x y zs h)
    where
      told : In x zs ⊎ (x ≡ y) → In x (z ∷ zs) ⊎ (x ≡ y)
      told (inl k) = inl (inr k)
      told (inr e) = inr e

  pub distinct_snoc : (y : A) (xs : List A) → Distinct xs → (In y xs → ⊥) → Distinct (xs ++ (y ∷ []))
  distinct_snoc y [] d n = (λ h. h, tt)
  distinct_snoc y (z ∷ zs) d n = (λ h. told (in-snoc z y zs h), distinct_snoc y zs d.1 (λ h. n (inr h)))
    where
      told : In z zs ⊎ (z ≡ y) → ⊥
      told (inl h) = d.0 h
      told (inr e) = n (inl (sym e))

  pub before-left : (x y z : A) (xs : List A) → StandsBefore x y xs → StandsBefore x y (xs ++ (z ∷ []))
  before-left x y z [] h = absurd h
  before-left x y z (w ∷ ws) (inl h) = inl (h.0, in_left y z ws h.1)
  before-left x y z (w ∷ ws) (inr h) = inr (before-left x y z ws h)

  -- what stands in the list stands before what joins it
  pub before_last : (x y : A) (xs : List A) → In x xs → StandsBefore x y (xs ++ (y ∷ []))
  before_last x y [] h = absurd h
  before_last x y (z ∷ zs) (inl e) = inl (e, in-last y zs)
  before_last x y (z ∷ zs) (inr h) = inr (before_last x y zs h)

module _ {A B : Type 0} (f : A → B) where
  pub in_map : (y : B) (xs : List A) → In y (map f xs) → (x : A) × In x xs × (f x ≡ y)
  in_map y [] h = absurd h
  in_map y (x ∷ xs) (inl e) = (x, inl refl, sym e)
  in_map y (x ∷ xs) (inr h) = let found = in_map y xs h in (found.0, inr found.1, found.2)

  pub map_snoc : (y : A) (xs : List A) → map f (xs ++ (y ∷ [])) ≡ map f xs ++ (f y ∷ [])
  map_snoc y [] = refl
  map_snoc y (x ∷ xs) = ap (λ (zs : List B). f x ∷ zs) (map_snoc y xs)
