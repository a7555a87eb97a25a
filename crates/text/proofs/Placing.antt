-- Laws of texts put one after another.
use Rattle.std.proofs.Common.{ℕ, suc, ◌+◌, ◌<◌, ◌≤◌, ◌≡◌, refl, sym, ap, ◌∙◌, List, [], ◌∷◌, ◌++◌, add-zero, zero-add, add-suc, suc-add, arith, length, length-append, set, take, drop, le-leb}
use Rattle.std.proofs.Math.Seq.{set_out, length-sets, take-append_seam}
use Rattle.std.proofs.lemmas.Bool.{lt-leb}
use Rattle.std.proofs.lemmas.List.Edits.{sets, sets-eq}
use Rattle.text.specs.Placing.{Put, place_after}

pub sets_then : (x y l : List ℕ) (i : ℕ) → sets (sets l i x) (i + length x) y ≡ sets l i (x ++ y)
sets_then [] y l i = rw add-zero
sets_then (a ∷ x) y l i =
    ap (λ (k : ℕ). sets (sets (set l i a) (suc i) x) k y) (add-suc i (length x) ∙ sym (suc-add i (length x)))
    ∙ sets_then x y (set l i a) (suc i)

-- one text, and then another where it ended
pub put_then : {x y b₀ b₁ b₂ : List ℕ} {p₀ p₁ p₂ : ℕ} → Put x b₀ b₁ p₀ p₁ → Put y b₁ b₂ p₁ p₂ → Put (x ++ y) b₀ b₂ p₀ p₂
put_then {x} {y} {b₀} {p₀ = p₀} {p₁ = p₁} p q =
    record {
      place = simp length-append (omega (arith, p.place, q.place));
      held =
          q.held
          ∙ ap (λ (b : List ℕ). sets b p₁ y) p.held
          ∙ ap (λ (k : ℕ). sets (sets b₀ p₀ x) k y) p.place
          ∙ sets_then x y b₀ p₀;
    }

-- the same text by another description
pub put_same : {x y b₀ b₁ : List ℕ} {p₀ p₁ : ℕ} → x ≡ y → Put x b₀ b₁ p₀ p₁ → Put y b₀ b₁ p₀ p₁
put_same {b₀ = b₀} {p₀ = p₀} e p =
    record {
      place = p.place ∙ ap (λ (x : List ℕ). p₀ + length x) e;
      held = p.held ∙ ap (sets b₀ p₀) e;
    }

-- a text past the end
pub put-past : (x b : List ℕ) (p : ℕ) → length b ≤ p → b ≡ sets b p x
put-past [] b p h = refl
put-past (a ∷ x) b p h = put-past x b (suc p) (omega arith) ∙ ap (λ (l : List ℕ). sets l (suc p) x) (sym (set_out b p a h))

-- the place after a text, from a place within the buffer and from one past its end
pub place-within : (x b : List ℕ) (p : ℕ) → p ≤ length b → place_after b p x ≡ p + length x
place-within x b p h = rw (le-leb p (length b) h)

pub place-past : (x b : List ℕ) (p : ℕ) → length b < p → place_after b p x ≡ p
place-past x b p h = rw (lt-leb p (length b) h)

-- a buffer keeps its length
pub put-length : {x b₀ b₁ : List ℕ} {p₀ p₁ : ℕ} → Put x b₀ b₁ p₀ p₁ → length b₁ ≡ length b₀
put-length {x} {b₀} {p₀ = p₀} p = ap length p.held ∙ length-sets b₀ p₀ x

-- a byte stored
pub put_one : (a : ℕ) (b : List ℕ) (p : ℕ) → Put (a ∷ []) b (set b p a) p (p + 1)
put_one a b p = record { place = refl; held = refl }

-- a text put at the front, read back
pub put_front : {x b₀ b₁ : List ℕ} {p : ℕ} → length x ≤ length b₀ → Put x b₀ b₁ 0 p → take p b₁ ≡ x
put_front {x} {b₀} {b₁} {p} h q =
    let n : p ≡ length x = q.place ∙ zero-add (length x) in
    ap (λ (k : ℕ). take k b₁) n
    ∙ ap (take (length x)) (q.held ∙ sets-eq x b₀ 0 (rw zero-add h))
    ∙ take-append_seam x (drop (0 + length x) b₀)
