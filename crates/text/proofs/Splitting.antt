-- A text is split in one way only: at the first byte that is not plain.
use Rattle.std.proofs.Common.{le_antisymm, le_of_suc-le-suc, ℕ, zero, suc, ◌<◌, ◌≡◌, refl, sym, ap, ◌∙◌, subst, false, ⊎_elim, List, [], ◌∷◌, ◌++◌, append_assoc, arith}
use Rattle.std.proofs.lemmas.Bool.{cases_lt, false≢true, and_parts}
use mathlib.Core.List.{append_cancel_left, head-eq_of_cons-eq, tail-eq_of_cons-eq}
use Rattle.records.specs.Places.{all_of}
use Rattle.text.specs.Text.{fields, line, rows_below}
use Rattle.text.proofs.Plain.{is_plain, Plain, AllPlain}

-- two texts that agree: the plain fields before their first other bytes agree, and so do the rests
pub split_plain : (x y : List ℕ) {s z : ℕ} {rest last : List ℕ}
    → Plain x → Plain y → is_plain s ≡ false → is_plain z ≡ false → x ++ (s ∷ rest) ≡ y ++ (z ∷ last)
    → (x ≡ y) × (s ∷ rest ≡ z ∷ last)
unfolding all_of
split_plain [] [] p q g h e = (refl, e)
split_plain [] (b ∷ y) p q g h e =
    absurd
    (false≢true (sym g ∙ ap is_plain (head-eq_of_cons-eq e) ∙ (and_parts _ _ q).0))
split_plain (a ∷ x) [] p q g h e =
    absurd
    (false≢true (sym h ∙ ap is_plain (sym (head-eq_of_cons-eq e)) ∙ (and_parts _ _ p).0))
split_plain (a ∷ x) (b ∷ y) p q g h e =
    let more =
    split_plain x y
    (and_parts (is_plain a) (all_of is_plain x) p).1
    (and_parts (is_plain b) (all_of is_plain y) q).1
    g
    h
    (tail-eq_of_cons-eq e) in
    (cc (head-eq_of_cons-eq e, more.0), more.1)

-- the fields of a line, up to its end
pub split-fields : (x : List ℕ) (xs : List (List ℕ)) (y : List ℕ) (ys : List (List ℕ)) {rest last : List ℕ}
    → AllPlain (x ∷ xs) → AllPlain (y ∷ ys) → fields (x ∷ xs) ++ (10 ∷ rest) ≡ fields (y ∷ ys) ++ (10 ∷ last)
    → (◌≡◌ {A = List (List ℕ)} (x ∷ xs) (y ∷ ys)) × (rest ≡ last)
unfolding all_of fields
split-fields x [] y [] p q e =
    let parts = split_plain x y (and_parts _ _ p).0 (and_parts _ _ q).0 refl refl e in
    (ap (λ (z : List ℕ). z ∷ []) parts.0, tail-eq_of_cons-eq parts.1)
split-fields x [] y (y' ∷ ys) {rest} {last} p q e =
    let parts =
    split_plain x y
    (and_parts _ _ p).0
    (and_parts _ _ q).0
    refl
    refl
    (e ∙ append_assoc y (44 ∷ fields (y' ∷ ys)) (10 ∷ last)) in
    absurd (omega (arith, head-eq_of_cons-eq parts.1))
split-fields x (x' ∷ xs) y [] {rest} {last} p q e =
    let parts =
    split_plain x y
    (and_parts _ _ p).0
    (and_parts _ _ q).0
    refl
    refl
    (sym (append_assoc x (44 ∷ fields (x' ∷ xs)) (10 ∷ rest)) ∙ e) in
    absurd (omega (arith, head-eq_of_cons-eq parts.1))
split-fields x (x' ∷ xs) y (y' ∷ ys) {rest} {last} p q e =
    let parts =
    split_plain x y
    (and_parts _ _ p).0
    (and_parts _ _ q).0
    refl
    refl
    (sym (append_assoc x (44 ∷ fields (x' ∷ xs)) (10 ∷ rest))
    ∙ e
    ∙ append_assoc y (44 ∷ fields (y' ∷ ys)) (10 ∷ last)) in
    let more =
    split-fields x' xs y' ys
    (and_parts (all_of is_plain x) (all_of (all_of is_plain) (x' ∷ xs)) p).1
    (and_parts (all_of is_plain y) (all_of (all_of is_plain) (y' ∷ ys)) q).1
    (tail-eq_of_cons-eq parts.1) in
    (cc (parts.0, more.0), more.1)

line-open : (key value rest : List ℕ) → line key value ++ rest ≡ key ++ (61 ∷ (value ++ (10 ∷ rest)))
line-open key value rest = simp append_assoc

-- a line's fields, and what follows the line
pub split-line : (key x : List ℕ) (xs : List (List ℕ)) (y : List ℕ) (ys : List (List ℕ)) {rest last : List ℕ}
    → AllPlain (x ∷ xs) → AllPlain (y ∷ ys) → line key (fields (x ∷ xs)) ++ rest ≡ line key (fields (y ∷ ys)) ++ last
    → (◌≡◌ {A = List (List ℕ)} (x ∷ xs) (y ∷ ys)) × (rest ≡ last)
split-line key x xs y ys {rest} {last} p q e =
    split-fields x xs y ys p q
    (tail-eq_of_cons-eq
    (append_cancel_left key
    (61 ∷ (fields (x ∷ xs) ++ (10 ∷ rest)))
    (61 ∷ (fields (y ∷ ys) ++ (10 ∷ last)))
    (sym (line-open key (fields (x ∷ xs)) rest) ∙ e ∙ line-open key (fields (y ∷ ys)) last)))

-- as many rows of each, where a row can be told from what follows it
pub split_rows : (f g : ℕ → List ℕ) (Same : ℕ → Type 0)
    → ((i : ℕ) (rest last : List ℕ) → f i ++ rest ≡ g i ++ last → Same i × (rest ≡ last))
    → (n : ℕ) (rest last : List ℕ) → rows_below n f ++ rest ≡ rows_below n g ++ last
    → ((i : ℕ) → i < n → Same i) × (rest ≡ last)
unfolding rows_below
split_rows f g Same split zero rest last e = (λ i h. absurd (omega arith), e)
split_rows f g Same split (suc n) rest last e =
    let before =
    split_rows f g Same split n (f n ++ rest) (g n ++ last)
    (sym (append_assoc (rows_below n f) (f n) rest) ∙ e ∙ append_assoc (rows_below n g) (g n) last) in
    let one = split n rest last before.1 in
    (λ i h. ⊎_elim (before.0 i) (λ top. subst Same (le_antisymm top (le_of_suc-le-suc h)) one.0) (cases_lt i n), one.1)
