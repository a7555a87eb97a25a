-- Laws of a writing: a text that is too long is refused, and one that fits stands at the buffer's front.
use Rattle.std.proofs.Common.{ℕ, ◌≤◌, ◌<◌, ◌≡◌, ap, ◌∙◌, List, ◌++◌, zero-add, arith, length, drop, le-leb}
use Rattle.std.proofs.lemmas.Bool.{lt-leb}
use Rattle.std.proofs.lemmas.List.Edits.{sets-eq}
use Rattle.records.specs.declared.Code.TheVariants.{NoRoom}
use Rattle.rules.specs.declared.State.{State}
use Rattle.text.specs.Text.{written}
use Rattle.text.specs.Writing.{wrote_text, write_fitting}
use Rattle.text.specs.Placing.{Put}

pub too_long : (t : State) (b : List ℕ) {b₀ b₁ : List ℕ} {n : ℕ}
    → Put (written t) b₀ b₁ 0 n → length b < n
    → write_fitting t b ≡ record { answer = record { code = NoRoom; number = 0; length = 0 }; buffer = b }
too_long t b p h = rw (lt-leb (length (written t)) (length b) (omega (arith, p.place)))

pub fits : (t : State) (b : List ℕ) {b₀ b₁ : List ℕ} {n : ℕ}
    → Put (written t) b₀ b₁ 0 n → n ≤ length b → write_fitting t b ≡ wrote_text (written t) b
fits t b p h = rw (le-leb (length (written t)) (length b) (omega (arith, p.place)))

pub at_front_lem : {x b₀ b₁ : List ℕ} {n : ℕ} → length x ≤ length b₀ → Put x b₀ b₁ 0 n → b₁ ≡ x ++ drop (length x) b₀
at_front_lem {x} {b₀} h p =
    p.held ∙ sets-eq x b₀ 0 (rw zero-add h) ∙ ap (λ (k : ℕ). x ++ drop k b₀) (zero-add (length x))
