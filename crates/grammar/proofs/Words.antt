-- A word at the front of a text, and what it leaves.
use Rattle.std.proofs.Common.{ℕ, List, [], ◌∷◌, ◌++◌, ◌+◌, Bool, true, false, cond, Option, Some, None, MatchOption, length, take, drop, slice_get, eqb, ne_eqb, ◌≡◌, refl, sym, ◌∙◌}
use Rattle.std.proofs.lemmas.Bool.{eq-eqb, eqb-true}
use Rattle.std.proofs.lemmas.Bool.Decides.{Decides-eqb}
use Rattle.std.proofs.lemmas.Option.{none-some, same_Some}
use Rattle.std.proofs.lemmas.Slice.Eq.{strip_prefix_is}
use Rattle.std.specs.Cmp.Lexicographic.{pointwise}
use denote.Ref.{Bor}
use Rattle.grammar.specs.Grammar.{after_word}

-- what `strip_prefix` says: the bytes differ, or they are the same and the rest is what stands behind the word
abbrev pub Stripped : List ℕ → List ℕ → Option (Bor (List ℕ)) → Type 0
Stripped w bs found =
    MatchOption
    found
    (pointwise eqb (take (length w) bs) w ≡ false)
    (λ x. (pointwise eqb (take (length w) bs) w ≡ true) × (x.now ≡ drop (length w) bs) × (length x.now + length w ≡ length bs))

-- a text that begins with a word: what is left stands behind the word
pub begun : (w rest : List ℕ) → after_word w (w ++ rest) ≡ Some rest
unfolding after_word
begun [] rest = refl
begun (w ∷ ws) rest = rw (eq-eqb w w refl) (begun ws rest)

-- a text that does not
pub not-begun : (w bs : List ℕ) → ((rest : List ℕ) → bs ≡ w ++ rest → ⊥) → after_word w bs ≡ None
unfolding after_word
not-begun [] bs other = elim (other bs refl) [ ]
not-begun (w ∷ ws) [] other = refl
not-begun (w ∷ ws) (b ∷ bs) other = by (eqb w b) refl (λ same. not-begun ws bs (λ rest e. other rest (rw (eqb-true w b same, e))))
  where
    by : (t : Bool) → eqb w b ≡ t → (eqb w b ≡ true → after_word ws bs ≡ None) → cond t (after_word ws bs) None ≡ None
    by true same rest = rest same
    by false same rest = refl

-- a text that begins with another byte
pub other-first :
    (w bs : List ℕ) (x y : ℕ)
    → Some y ≡ slice_get w 0
    → Some x ≡ slice_get bs 0
    → (x ≡ y → ⊥)
    → after_word w bs ≡ None
unfolding after_word
other-first [] bs x y e f other = absurd (none-some y (sym e))
other-first (w ∷ ws) [] x y e f other = refl
other-first (w ∷ ws) (b ∷ bs) x y e f other = rw (ne_eqb w b (λ same. other (same_Some x b f ∙ (sym same ∙ sym (same_Some y w e))))) refl

-- what `strip_prefix` says, as what stands behind the word
pub stripped :
    (w bs : List ℕ)
    (found : Option (Bor (List ℕ)))
    → Stripped w bs found
    → MatchOption found (after_word w bs ≡ None) (λ rest. after_word w bs ≡ Some rest.now)
stripped w bs None told = not-begun w bs (strip_prefix_is Decides-eqb bs w None told)
stripped w bs (Some rest) told =
    let whole : bs ≡ w ++ rest.now = strip_prefix_is Decides-eqb bs w (Some rest) told in
    rw (whole, begun w rest.now) refl
