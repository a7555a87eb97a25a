-- Laws of texts that a pen puts one after another.
use Prim.Native.Nat.{ℕ, ◌+◌, ◌-◌, ◌≤◌, min}
use mathlib.Core.Path.{◌≡◌, refl, sym, ap, ◌∙◌}
use mathlib.Core.List.{List, ◌++◌, append_assoc}
use mathlib.Core.Logic.{◌⊎◌, inl, inr, ⊎_elim}
use native.Mathlib.Nat.{min-eq_left, min-eq_right}
use native.Mathlib.Numerals.{add-one}
use native.Mathlib.Omega.{arith}
use lib.ListN.{length, length-append, take, drop}
use lib.Seq.{sets, length-sets, sets-eq}
use Rattle.std.proofs.lemmas.Bool.{cases_lt}
use Rattle.std.proofs.lemmas.List.{drop_all, drop-drop, length-take-le, take-append-drop}
use Rattle.text.specs.Placing.{Put}
use Rattle.text.specs.Text.{rows_below}
use Rattle.text.proofs.Placing.{sets_then, put-past}
use Rattle.written.specs.declared.place.Pen.{Pen}
use Rattle.written.specs.Pens.{Penned, last_place}

-- a text behind another, from the largest place where the first ends past it
sets-onward : (x y b : List ℕ) (p : ℕ) → length b ≤ last_place
    → sets (sets b p x) (min (p + length x) last_place) y ≡ sets b p (x ++ y)
sets-onward x y b p h =
    ⊎_elim
    (λ past.
    ap (λ (k : ℕ). sets (sets b p x) k y) (min-eq_right (omega arith))
    ∙ sym (put-past y (sets b p x) last_place (omega (arith, length-sets b p x)))
    ∙ put-past y (sets b p x) (p + length x) (omega (arith, length-sets b p x))
    ∙ sets_then x y b p)
    (λ within. ap (λ (k : ℕ). sets (sets b p x) k y) (min-eq_left within) ∙ sets_then x y b p)
    (cases_lt last_place (p + length x))

-- the place after a word of which only a front part has room
no-more : (w l : List ℕ) (k i : ℕ) → (length l ≤ i) ⊎ (length w ≤ k) → sets l i (drop k w) ≡ l
no-more w l k i (inl h) = sym (put-past (drop k w) l i h)
no-more w l k i (inr h) = rw (drop_all k w h)

-- what a copy of the front part leaves
pub overwritten : (w b y : List ℕ) (p j k : ℕ) → p ≤ length b → k ≡ min (length w) (length b - p) → j ≡ k → y ≡ take k w
    → take p b ++ (y ++ drop j (drop p b)) ≡ sets b p w
overwritten w b y p j k h e same copied =
    let few : length (take k w) ≡ k = length-take-le k w (omega arith) in
    let ends : (length (sets b p (take k w)) ≤ p + length (take k w)) ⊎ (length w ≤ k)
    = ⊎_elim (λ less. inl (omega (arith, few, length-sets b p (take k w)))) (λ all. inr (omega arith)) (cases_lt (length b - p) (length w)) in
    let front : sets b p (take k w) ≡ take p b ++ (take k w ++ drop (p + k) b)
    = sets-eq (take k w) b p (omega (arith, few))
    ∙ append_assoc (take p b) (take k w) (drop (p + length (take k w)) b)
    ∙ ap (λ (n : ℕ). take p b ++ (take k w ++ drop (p + n) b)) few in
    rw (copied, same, drop-drop k p b)
    (sym front
    ∙ sym (no-more w (sets b p (take k w)) k (p + length (take k w)) ends)
    ∙ sets_then (take k w) (drop k w) b p
    ∙ ap (sets b p) (take-append-drop k w))

-- one text, and then another where it ended
pub penned_then : {x y : List ℕ} {p q r : Pen} → Penned x p q → Penned y q r → Penned (x ++ y) p r
penned_then {x} {y} {p} {q} {r} a b =
    record {
      same = b.same ∙ a.same;
      short = a.short;
      place = simp length-append (omega (arith, a.place, b.place));
      held =
          b.held
          ∙ ap (λ (l : List ℕ). sets l q.at y) a.held
          ∙ ap (λ (k : ℕ). sets (sets p.buf.now p.at x) k y) a.place
          ∙ sets-onward x y p.buf.now p.at a.short;
    }

-- the same text by another description
pub penned_same : {x y : List ℕ} {p q : Pen} → x ≡ y → Penned x p q → Penned y p q
penned_same {p = p} e a =
    record {
      same = a.same;
      short = a.short;
      place = a.place ∙ ap (λ (x : List ℕ). min (p.at + length x) last_place) e;
      held = a.held ∙ ap (sets p.buf.now p.at) e;
    }

-- a text that ends before the last place
pub penned_put : {x : List ℕ} {p q : Pen} → Penned x p q → p.at + length x ≤ last_place → Put x p.buf.now q.buf.now p.at q.at
penned_put a h = record { place = a.place ∙ min-eq_left h; held = a.held }

-- the rows below a number, put one after another: none, and one more
pub penned_no_rows : (f : ℕ → List ℕ) (p : Pen) → length p.buf.now ≤ last_place → p.at ≤ last_place → Penned (rows_below 0 f) p p
unfolding rows_below
penned_no_rows f p short h = record { same = refl; short = short; place = omega arith; held = refl }

pub penned_row : (f : ℕ → List ℕ) (i : ℕ) {p q r : Pen}
    → Penned (rows_below i f) p q → Penned (f i) q r → Penned (rows_below (i + 1) f) p r
unfolding rows_below
penned_row f i a b = rw add-one (penned_then a b)
