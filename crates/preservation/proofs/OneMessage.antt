-- A step that changes one message's status: what is read of every message then, and the lock that is right again.
use Rattle.std.proofs.Common.{ℕ, ◌≤◌, ◌≡◌, refl, ap, sym, ◌∙◌, subst, ◌⊎◌, ◌↔◌, false, true≢false, length-set, arith}
use mathlib.Core.Logic.Iff
use Rattle.records.specs.declared.SiteNo.{SiteNo}
use Rattle.records.specs.declared.MailNo.{MailNo}
use Rattle.records.specs.declared.Message.{Message}
use Rattle.records.specs.declared.Status.{Status}
use Rattle.records.specs.declared.Status.TheVariants.{Out, Handed}
use Rattle.records.specs.declared.Lock.{Lock}
use Rattle.records.specs.declared.Lock.TheVariants.{Unheld, ForMove, ForMail}
use Rattle.records.specs.Numbers.{mail_no}
use Rattle.records.proofs.ReaderLaws.{is-under-way}
use Rattle.records.specs.Messages.{empty_message, is_under_way}
use Rattle.rules.specs.declared.State.{State}
use Rattle.rules.specs.Holding.{Shaped, IsMessage, message_at, status_of, lock_of, with_status, with_lock}
use Rattle.rules.specs.Soundness.{LockRight}
use Rattle.preservation.proofs.Shapes.{shaped-messages}
use Rattle.preservation.proofs.AfterChange.{Seen, changed, kept, in_status, seen-status}
use Rattle.preservation.proofs.Locking.{Wants, lock-same, held-right, lock-right, lock-left, lock-taken, lock-freed}
use Rattle.preservation.proofs.OneAgent.{Good}

pub status-shaped : (t : State) (m : MailNo) (x : Status) → Shaped t → Shaped (with_status t m x)
status-shaped t m x s =
    shaped-messages t s t.messages _ _ _ _ _ refl refl refl refl (length-set t.status m.0 x)

-- the statuses that the lock is held for
abbrev pub UnderWayIn : Status → Type 0
UnderWayIn x = ((s : SiteNo) × (x ≡ Out s)) ⊎ (x ≡ Handed)

pub not-under-way : (x : Status) → is_under_way x ≡ false → UnderWayIn x → ⊥
not-under-way x e h = true≢false (sym (is-under-way x h) ∙ e)

pub under-way-as : (x z : Status) → x ≡ z → UnderWayIn x ↔ UnderWayIn z
under-way-as x z e = subst (λ (w : Status). UnderWayIn x ↔ UnderWayIn w) e Iff.rfl

module _ (t : State) (g : Good t) (m : MailNo) (there : IsMessage t m) (x : Status) where
  seen : (k : MailNo) → Seen k m (in_status (message_at t m) x) (message_at t k) (message_at (with_status t m x) k)
  seen = seen-status t m x (omega (arith, g.0.status, g.1.counts.messages_fit))

  -- the status of every message now
  pub status-now : (k : MailNo) → Seen k m x (status_of t k) (status_of (with_status t m x) k)
  status-now k = told (seen k)
    where
      told :
          Seen k m (in_status (message_at t m) x) (message_at t k) (message_at (with_status t m x) k)
          → Seen k m x (status_of t k) (status_of (with_status t m x) k)
      told (changed e r) = changed e (ap (λ (y : Message). y.status) r)
      told (kept n r) = kept n (ap (λ (y : Message). y.status) r)

  pub room-kept : (i : ℕ) → t.messages ≤ i → message_at (with_status t m x) (mail_no i) ≡ empty_message
  room-kept i h = told (seen (mail_no i))
    where
      told :
          Seen (mail_no i) m (in_status (message_at t m) x) (message_at t (mail_no i)) (message_at (with_status t m x) (mail_no i))
          → message_at (with_status t m x) (mail_no i) ≡ empty_message
      told (changed e r) = absurd (omega (arith, there, ap (λ (k : MailNo). k.0) e))
      told (kept n r) = r ∙ g.1.room.messages i h

  -- what wants the lock, beside the message changed
  wants-other : (l j : Lock) → (j ≡ ForMail m → ⊥) → Wants (with_lock (with_status t m x) l) j ↔ Wants t j
  wants-other l Unheld n = (λ w. w, λ w. w)
  wants-other l (ForMove a) n = (λ w. w, λ w. w)
  wants-other l (ForMail k) n = told (status-now k)
    where
      told :
          Seen k m x (status_of t k) (status_of (with_status t m x) k)
          → Wants (with_lock (with_status t m x) l) (ForMail k) ↔ Wants t (ForMail k)
      told (changed e r) = absurd (n (ap (λ (c : MailNo). ForMail c) e))
      told (kept d r) =
          let same = under-way-as (status_of (with_status t m x) k) (status_of t k) r in
          (λ w. (w.0, same.0 w.1), λ w. (w.0, same.1 w.1))

  under-way-now : UnderWayIn (status_of (with_status t m x) m) ↔ UnderWayIn x
  under-way-now = told (status-now m)
    where
      told : Seen m m x (status_of t m) (status_of (with_status t m x) m) → UnderWayIn (status_of (with_status t m x) m) ↔ UnderWayIn x
      told (changed e r) = under-way-as (status_of (with_status t m x) m) x r
      told (kept d r) = absurd (d refl)

  -- under way before and now: the lock is left alone
  pub mail-left : UnderWayIn (status_of t m) → UnderWayIn x → LockRight (with_status t m x)
  mail-left was now =
      lock-right (with_status t m x) (lock-left (Wants t) (Wants (with_status t m x)) (lock_of t) Unheld every (held-right t g.1.lock))
    where
      every : (j : Lock) → Wants t j ↔ Wants (with_status t m x) j
      every j = which (lock-same j (ForMail m))
        where
          which : Dec (j ≡ ForMail m) → Wants t j ↔ Wants (with_status t m x) j
          which (yes e) = rw e (λ w. (there, under-way-now.1 now), λ w. (there, was))
          which (no d) = ((wants-other (lock_of t) j d).1, (wants-other (lock_of t) j d).0)

  -- under way now: the lock is taken for it
  pub mail-taken : lock_of t ≡ Unheld → UnderWayIn x → LockRight (with_lock (with_status t m x) (ForMail m))
  mail-taken free now =
      lock-right
      (with_lock (with_status t m x) (ForMail m))
      (lock-taken
      (Wants t)
      (Wants (with_lock (with_status t m x) (ForMail m)))
      (lock_of t)
      (ForMail m)
      free
      (there, under-way-now.1 now)
      (λ j d. (wants-other (ForMail m) j d).0)
      (held-right t g.1.lock))

  -- under way before and no more: the lock that it held is free
  pub mail-freed : UnderWayIn (status_of t m) → is_under_way x ≡ false → LockRight (with_lock (with_status t m x) Unheld)
  mail-freed was now =
      lock-right
      (with_lock (with_status t m x) Unheld)
      (lock-freed
      (Wants t)
      (Wants (with_lock (with_status t m x) Unheld))
      (lock_of t)
      (ForMail m)
      ((g.1.lock.mail m).1 (there, was))
      (λ w. not-under-way x now (under-way-now.0 w.1))
      (λ j d. (wants-other Unheld j d).0)
      (held-right t g.1.lock))
