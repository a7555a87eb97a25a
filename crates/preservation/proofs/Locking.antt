-- The lock is right again after it was taken, given back, or left alone, where at most one agent or one message changed.
use Rattle.std.proofs.Common.{ℕ, ◌≡◌, refl, ap, sym, ◌∙◌, subst, ◌↔◌}
use Rattle.std.proofs.Math.Decide.{ℕ_discrete}
use Rattle.records.specs.declared.Lock.{Lock}
use Rattle.records.specs.declared.Lock.TheVariants.{Unheld, ForMove, ForMail}
use Rattle.records.specs.Numbers.{agent_no, mail_no}
use Rattle.rules.specs.declared.State.{State}
use Rattle.rules.specs.Holding.{IsAgent, IsMessage, lock_of}
use Rattle.rules.specs.Soundness.{LockRight, Moving, UnderWay}

-- what wants the lock to be held so
abbrev pub Wants : State → Lock → Type 0
Wants t Unheld = ⊥
Wants t (ForMove a) = IsAgent t a × Moving t a
Wants t (ForMail m) = IsMessage t m × UnderWay t m

-- the lock is held so exactly where that is wanted
abbrev pub HeldRight : Lock → (Lock → Type 0) → Type 0
HeldRight l P = (j : Lock) → (j ≡ Unheld → ⊥) → (l ≡ j) ↔ P j

pub held-right : (t : State) → LockRight t → HeldRight (lock_of t) (Wants t)
held-right t r Unheld n = absurd (n refl)
held-right t r (ForMove a) n = r.move a
held-right t r (ForMail m) n = r.mail m

pub lock-right : (t : State) → HeldRight (lock_of t) (Wants t) → LockRight t
lock-right t h =
    record {
      move = λ a. h (ForMove a) (λ e. cc);
      mail = λ m. h (ForMail m) (λ e. cc);
    }

pub lock-same : (j k : Lock) → Dec (j ≡ k)
lock-same Unheld Unheld = yes refl
lock-same Unheld (ForMove a) = no (λ e. cc)
lock-same Unheld (ForMail m) = no (λ e. cc)
lock-same (ForMove b) Unheld = no (λ e. cc)
lock-same (ForMove b) (ForMove a) = which (ℕ_discrete b.0 a.0)
  where
    which : Dec (b.0 ≡ a.0) → Dec (ForMove b ≡ ForMove a)
    which (yes e) = yes (ap (λ (n : ℕ). ForMove (agent_no n)) e)
    which (no n) = no (λ e. n (cc))
lock-same (ForMove b) (ForMail m) = no (λ e. cc)
lock-same (ForMail n) Unheld = no (λ e. cc)
lock-same (ForMail n) (ForMove a) = no (λ e. cc)
lock-same (ForMail n) (ForMail m) = which (ℕ_discrete n.0 m.0)
  where
    which : Dec (n.0 ≡ m.0) → Dec (ForMail n ≡ ForMail m)
    which (yes e) = yes (ap (λ (n : ℕ). ForMail (mail_no n)) e)
    which (no d) = no (λ e. d (cc))

module _ (P P' : Lock → Type 0) (l k : Lock) where
  -- left alone
  pub lock-left : ((j : Lock) → P j ↔ P' j) → HeldRight l P → HeldRight l P'
  lock-left f h j n = (λ e. (f j).0 ((h j n).0 e), λ x. (h j n).1 ((f j).1 x))

  -- taken for k
  pub lock-taken : l ≡ Unheld → P' k → ((j : Lock) → (j ≡ k → ⊥) → P' j → P j) → HeldRight l P → HeldRight k P'
  lock-taken free it others h j n = (λ e. subst P' e it, λ x. which x (lock-same j k))
    where
      which : P' j → Dec (j ≡ k) → k ≡ j
      which x (yes e) = sym e
      which x (no d) = absurd (n (sym ((h j n).1 (others j d x)) ∙ free))

  -- given back by k
  pub lock-freed : l ≡ k → (P' k → ⊥) → ((j : Lock) → (j ≡ k → ⊥) → P' j → P j) → HeldRight l P → HeldRight Unheld P'
  lock-freed held it others h j n = (λ e. absurd (n (sym e)), λ x. which x (lock-same j k))
    where
      which : P' j → Dec (j ≡ k) → Unheld ≡ j
      which x (yes e) = absurd (it (subst P' e x))
      which x (no d) = absurd (d (sym ((h j n).1 (others j d x)) ∙ held))
