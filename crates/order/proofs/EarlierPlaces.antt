-- One more mark at the end: beginnings, effects and ends at the places before it are what they were.
use Rattle.std.proofs.Common.{ℕ, suc, ◌<◌, ◌≤◌, ◌≡◌, refl, ap, sym, ◌∙◌, ◌⊎◌, inl, inr, List, length, take, arith}
use Rattle.records.specs.declared.AgentNo.{AgentNo}
use Rattle.records.specs.declared.SiteNo.{SiteNo}
use Rattle.records.specs.declared.MailNo.{MailNo}
use Rattle.records.specs.declared.Item.{Item}
use Rattle.rules.specs.declared.State.{State}
use Rattle.rules.specs.Holding.{IsMessage}
use Rattle.order.specs.Marks.{Mark, nothing, creates, asks, leaves, settles, takes, hands, closes, At, moves_begun}
use Rattle.order.specs.Operations.{Operation, creation, move, message, Targets, Taken, BeginsAt, EffectAt, OverAt}
use Rattle.order.proofs.MarkLaws.{at-below, more, at-keeps, at_old, at_snoc, take-old, take_last, begun-most}
use Rattle.order.proofs.Links.{MailLinks, New}

-- where an operation begins or has its effect is a place of the sequence
pub begins-below : (first : State) (ms : List Mark) (y : Operation) (i : ℕ) → BeginsAt first ms y i → i < length ms
begins-below first ms (creation p c) i h = at-below ms i (creates p c) (λ e. cc) h
begins-below first ms (move a k u) i h = at-below ms i (asks a u) (λ e. cc) h.0
begins-below first ms (message b y) i h = at-below ms i (takes h.0 b y) (λ e. cc) h.1

pub effect-below : (first : State) (ms : List Mark) (y : Operation) (i : ℕ) → EffectAt first ms y i → i < length ms
effect-below first ms (creation p c) i h = at-below ms i (creates p c) (λ e. cc) h
effect-below first ms (move a k u) i h = at-below ms i (leaves a) (λ e. cc) h.1
effect-below first ms (message b y) i h = at-below ms i (hands h.0) (λ e. cc) h.2

module _ (first : State) (ms : List Mark) (x : Mark) where
  pub begun-old : (i : ℕ) (a : AgentNo) → i ≤ length ms → moves_begun first (take i (more ms x)) a ≡ moves_begun first (take i ms) a
  begun-old i a h = ap (λ (l : List Mark). moves_begun first l a) (take-old ms x i h)

  pub begun-then : (a : AgentNo) → moves_begun first (take (length ms) (more ms x)) a ≡ moves_begun first ms a
  begun-then a = ap (λ (l : List Mark). moves_begun first l a) (take_last ms x)

  -- a mark with the count of moves begun before it
  counted-old :
      (i : ℕ) (a : AgentNo) (y : Mark) (k : ℕ)
      → (y ≡ nothing → ⊥)
      → At ms i y × (moves_begun first (take i ms) a ≡ k)
      → At (more ms x) i y × (moves_begun first (take i (more ms x)) a ≡ k)
  counted-old i a y k n h =
      let low : i < length ms = at-below ms i y n h.0 in
      (at_old ms x i y n h.0, begun-old i a (omega arith) ∙ h.1)

  pub counted_back :
      (i : ℕ) (a : AgentNo) (y : Mark) (k : ℕ)
      → i < length ms
      → At (more ms x) i y × (moves_begun first (take i (more ms x)) a ≡ k)
      → At ms i y × (moves_begun first (take i ms) a ≡ k)
  counted_back i a y k low h = (sym (at-keeps ms x i low) ∙ h.0, sym (begun-old i a (omega arith)) ∙ h.1)

  pub targets-old : (a : AgentNo) (k : ℕ) (u : SiteNo) → Targets first ms a k u → Targets first (more ms x) a k u
  targets-old a k u (inl h) = inl h
  targets-old a k u (inr h) = inr (h.0, counted-old h.0 a (asks a u) k (λ e. cc) h.1)

  -- a move for which more have begun at some place did not begin at the new one
  pub targets-back :
      (a : AgentNo) (k : ℕ) (u : SiteNo) (i : ℕ)
      → moves_begun first (take i ms) a ≡ suc k
      → Targets first (more ms x) a k u
      → Targets first ms a k u
  targets-back a k u i e (inl h) = inl h
  targets-back a k u i e (inr h) = told (at_snoc ms x h.0 (asks a u) (λ e. cc) h.1.0)
    where
      told :
          ((h.0 < length ms) × At ms h.0 (asks a u)) ⊎ ((h.0 ≡ length ms) × (x ≡ asks a u))
          → Targets first ms a k u
      told (inl w) = inr (h.0, counted_back h.0 a (asks a u) k w.0 h.1)
      told (inr w) =
          let now : moves_begun first ms a ≡ k =
          sym (begun-then a) ∙ ap (λ (j : ℕ). moves_begun first (take j (more ms x)) a) (sym w.0) ∙ h.1.1 in
          absurd (omega (arith, begun-most first a ms i))

  pub taken-old : (m : MailNo) (b : AgentNo) (y : Item) → Taken first ms m b y → Taken first (more ms x) m b y
  taken-old m b y (inl h) = inl h
  taken-old m b y (inr h) = inr (h.0, at_old ms x h.0 (takes m b y) (λ e. cc) h.1)

  -- a message that the new mark does not take was taken before it
  pub taken_back : (m : MailNo) (b : AgentNo) (y : Item) → (x ≡ takes m b y → ⊥) → Taken first (more ms x) m b y → Taken first ms m b y
  taken_back m b y other (inl h) = inl h
  taken_back m b y other (inr h) = told (at_snoc ms x h.0 (takes m b y) (λ e. cc) h.1)
    where
      told : ((h.0 < length ms) × At ms h.0 (takes m b y)) ⊎ ((h.0 ≡ length ms) × (x ≡ takes m b y)) → Taken first ms m b y
      told (inl w) = inr (h.0, w.1)
      told (inr w) = absurd (other w.1)

  -- and one that was there is not taken anew
  pub taken-there : (t : State) → New t x → (m : MailNo) (b : AgentNo) (y : Item) → IsMessage t m → Taken first (more ms x) m b y → Taken first ms m b y
  taken-there t new m b y here = taken_back m b y (λ e. (new.take m b y e m here).0 refl)

  -- what had its effect has had it
  pub effect-old : (y : Operation) (i : ℕ) → EffectAt first ms y i → EffectAt first (more ms x) y i
  effect-old (creation p c) i h = at_old ms x i (creates p c) (λ e. cc) h
  effect-old (move a k u) i h =
      let then = counted-old i a (leaves a) (suc k) (λ e. cc) (h.1, h.2) in
      (targets-old a k u h.0, then.0, then.1)
  effect-old (message b y) i h = (h.0, taken-old h.0 b y h.1, at_old ms x i (hands h.0) (λ e. cc) h.2)

  pub begins-back : (y : Operation) (i : ℕ) → i < length ms → BeginsAt first (more ms x) y i → BeginsAt first ms y i
  begins-back (creation p c) i low h = sym (at-keeps ms x i low) ∙ h
  begins-back (move a k u) i low h = counted_back i a (asks a u) k low h
  begins-back (message b y) i low h = (h.0, sym (at-keeps ms x i low) ∙ h.1)

module _ (first : State) (ms : List Mark) (x : Mark) (t : State) (links : MailLinks first ms t) (new : New t x) where
  pub effect-back : (y : Operation) (i : ℕ) → i < length ms → EffectAt first (more ms x) y i → EffectAt first ms y i
  effect-back (creation p c) i low h = sym (at-keeps ms x i low) ∙ h
  effect-back (move a k u) i low h =
      let then = counted_back first ms x i a (leaves a) (suc k) low (h.1, h.2) in
      (targets-back first ms x a k u i then.1 h.0, then.0, then.1)
  effect-back (message b y) i low h =
      let then : At ms i (hands h.0) = sym (at-keeps ms x i low) ∙ h.2 in
      (h.0, taken-there first ms x t new h.0 b y (links.handed i h.0 then).0 h.1, then)

  pub over-back : (y : Operation) (i : ℕ) → i < length ms → OverAt first (more ms x) y i → OverAt first ms y i
  over-back (creation p c) i low h = sym (at-keeps ms x i low) ∙ h
  over-back (move a k u) i low h = counted_back first ms x i a (settles a) (suc k) low h
  over-back (message b y) i low h =
      let then : At ms i (closes h.0) = sym (at-keeps ms x i low) ∙ h.2 in
      (h.0, taken-there first ms x t new h.0 b y (links.closed i h.0 then).0 h.1, then)
