-- The steps that change messages and have no effect on the board: send, forward and close; and a step that is not Done.
use Rattle.std.proofs.Common.{Some, ◌≤◌, ◌≡◌, refl, ap, sym, ◌∙◌, subst, true, false, List, lit≤, arith}
use Rattle.records.specs.declared.AgentNo.{AgentNo}
use Rattle.records.specs.declared.SiteNo.{SiteNo}
use Rattle.records.specs.declared.MailNo.{MailNo}
use Rattle.records.specs.declared.Status.{Status}
use Rattle.records.specs.declared.Status.TheVariants.{Queued, Out, Handed, Closed}
use Rattle.records.specs.declared.Lock.{Lock}
use Rattle.records.specs.declared.Lock.TheVariants.{Unheld, ForMail}
use Rattle.records.specs.Messages.{is_delivered}
use Rattle.rules.specs.declared.State.{State}
use Rattle.rules.specs.Holding.{IsMessage, map_of, status_of, lock_of, with_status, with_lock}
use Rattle.rules.specs.Steps.{addressee_of}
use Rattle.preservation.proofs.AfterChange.{Seen, changed, kept}
use Rattle.preservation.proofs.OneAgent.{Good}
use Rattle.preservation.proofs.OneMessage.{status-now}
use Rattle.preservation.proofs.Deliveries.{forward-good, close-good}
use Rattle.order.specs.Marks.{Mark, nothing, closes, asks_of}
use Rattle.order.specs.Operations.{Operation}
use Rattle.order.proofs.MarkLaws.{more}
use Rattle.order.proofs.LinkSteps.{mail-on}
use Rattle.order.proofs.BoardLaws.{board-same}
use Rattle.order.proofs.Invariant.{Inv, tag_of, inv-quiet, new-plain, creations-same, move_same}

module _ (start : State) (ms : List Mark) (t : State) (order : List Operation) (v : Inv start ms t order) where
  -- a step that is not Done: the table is as it was
  pub refused-on : Inv start (more ms nothing) t order
  refused-on =
      inv-quiet
      start
      ms
      nothing
      t
      t
      order
      v
      (lit≤ tt)
      (new-plain start ms nothing t (λ e. omega arith) (λ e. omega arith))
      v.good
      (creations-same start ms nothing t t v.creations (omega arith) (λ e. omega arith) (λ e. omega arith))
      (λ a. move_same start ms nothing t a v.moves refl (λ e. cc) (λ e. cc))
      (mail-on
      start
      ms
      nothing
      t
      t
      v.mail
      refl
      (λ m. (refl, refl))
      (λ m h. h)
      (λ m h. h)
      (λ m b y e. cc)
      (λ m e. cc)
      (λ m e. cc))
      refl

  module _ (m : MailNo) (there : IsMessage t m) (x : Status) where
    -- what stood in an inbox or was closed does so still, where the message changed did not
    still-delivered :
        is_delivered (status_of t m) ≡ is_delivered x
        → (k : MailNo)
        → is_delivered (status_of t k) ≡ true
        → is_delivered (status_of (with_status t m x) k) ≡ true
    still-delivered same k h = told (status-now t v.good m there x k)
      where
        told : Seen k m x (status_of t k) (status_of (with_status t m x) k) → is_delivered (status_of (with_status t m x) k) ≡ true
        told (changed q r) = ap is_delivered r ∙ sym same ∙ ap (λ (j : MailNo). is_delivered (status_of t j)) (sym q) ∙ h
        told (kept n r) = ap is_delivered r ∙ h

    pub still-closed : (status_of t m ≡ Closed → ⊥) → (k : MailNo) → status_of t k ≡ Closed → status_of (with_status t m x) k ≡ Closed
    still-closed not k h = told (status-now t v.good m there x k)
      where
        told : Seen k m x (status_of t k) (status_of (with_status t m x) k) → status_of (with_status t m x) k ≡ Closed
        told (changed q r) = absurd (not (ap (status_of t) (sym q) ∙ h))
        told (kept n r) = r ∙ h

    pub status-is : status_of (with_status t m x) m ≡ x
    status-is = told (status-now t v.good m there x m)
      where
        told : Seen m m x (status_of t m) (status_of (with_status t m x) m) → status_of (with_status t m x) m ≡ x
        told (changed q r) = r
        told (kept n r) = absurd (n refl)

    status-quiet :
        (y : Mark) (l : Lock)
        → 4 ≤ tag_of y
        → (tag_of y ≡ 5 → ⊥)
        → (tag_of y ≡ 7 → ⊥)
        → ((a : AgentNo) → asks_of a y ≡ false)
        → ((k : MailNo) → y ≡ closes k → (k ≡ m) × (x ≡ Closed))
        → is_delivered (status_of t m) ≡ is_delivered x
        → (status_of t m ≡ Closed → ⊥)
        → Good (with_lock (with_status t m x) l)
        → Inv start (more ms y) (with_lock (with_status t m x) l) order
    status-quiet y l tag greet settle quiet close same not good =
        inv-quiet
        start
        ms
        y
        t
        (with_lock (with_status t m x) l)
        order
        v
        (omega arith)
        (new-plain start ms y t (λ e. omega arith) (λ e. omega arith))
        good
        (creations-same start ms y t (with_lock (with_status t m x) l) v.creations (omega arith) (λ e. omega arith) greet)
        (λ a. move_same start ms y t a v.moves (quiet a) (λ e. omega (arith, ap tag_of e)) (λ e. settle (ap tag_of e)))
        (mail-on
        start
        ms
        y
        t
        (with_lock (with_status t m x) l)
        v.mail
        refl
        (λ k. (refl, refl))
        (still-delivered same)
        (still-closed not)
        (λ k b z e. omega (arith, ap tag_of e))
        (λ k e. absurd (omega (arith, ap tag_of e)))
        (λ k e.
        let it = close k e in
        (subst (IsMessage t) (sym it.0) there, ap (status_of (with_status t m x)) it.0 ∙ status-is ∙ it.1)))
        (board-same t (with_lock (with_status t m x) l) refl (λ a. refl) refl (λ k h. (refl, refl)))

  pub forward-on :
      (m : MailNo) (s : SiteNo)
      → IsMessage t m
      → status_of t m ≡ Queued
      → lock_of t ≡ Unheld
      → map_of t (addressee_of t m) ≡ Some s
      → Inv start (more ms nothing) (with_lock (with_status t m (Out s)) (ForMail m)) order
  forward-on m s there e free known =
      status-quiet
      m
      there
      (Out s)
      nothing
      (ForMail m)
      (lit≤ tt)
      (λ q. omega arith)
      (λ q. omega arith)
      (λ a. refl)
      (λ k q. cc)
      (ap is_delivered e)
      (λ q. cc)
      (forward-good t v.good m there s e free known)

  pub close-on :
      (m : MailNo)
      → IsMessage t m
      → status_of t m ≡ Handed
      → Inv start (more ms (closes m)) (with_lock (with_status t m Closed) Unheld) order
  close-on m there e =
      status-quiet
      m
      there
      Closed
      (closes m)
      Unheld
      (lit≤ tt)
      (λ q. omega arith)
      (λ q. omega arith)
      (λ a. refl)
      (λ k q. (cc, refl))
      (ap is_delivered e)
      (λ q. cc)
      (close-good t v.good m there e)
