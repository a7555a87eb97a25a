-- Each step's codes, exactly when document 01 says: one table a step, its rows in document 01's order. (send has a file of its own.)
use Rattle.std.proofs.Common.{None, ◌≤◌, ◌≡◌, refl, Bool, true, false, cond, [], ◌∷◌}
use Rattle.records.specs.declared.AgentNo.{AgentNo}
use Rattle.records.specs.declared.SiteNo.{SiteNo}
use Rattle.records.specs.declared.MailNo.{MailNo}
use Rattle.records.specs.declared.Phase.TheVariants.{Free, Born, Enrolled, Asking, Granted, Landed, Booked}
use Rattle.records.specs.declared.Status.TheVariants.{Queued, Out, Handed, Lost}
use Rattle.records.specs.declared.Lock.TheVariants.{Unheld}
use Rattle.records.specs.declared.Code.TheVariants.{Done, NoSite, NoAgent, NoMessage, Busy, OutOfTurn, LockHeld, NotEnrolled, AgentsFull, BadState}
use Rattle.records.specs.Numbers.{same_site}
use Rattle.records.specs.Messages.{travels_to}
use Rattle.rules.specs.declared.State.{State}
use Rattle.rules.specs.declared.Step.TheVariants.{Spawn, Ask, Enrol, Greet, Grant, Leap, Book, Settle, Forward, Hand, Close}
use Rattle.records.specs.Limits.{most_agents}
use Rattle.rules.specs.Holding.{site_of, phase_of, map_of, status_of, lock_of, with_status, with_logged}
use Rattle.rules.specs.Answers.{done}
use Rattle.rules.specs.Soundness.{Sound}
use Rattle.rules.specs.Steps.{addressee_of, step_of}
use Rattle.rules.proofs.CodeRows.{says, ◌when◌else◌, check, rows, unsound, absent, not_free, not-born, not-enrolled, not-asking, not-granted, not-landed, not-booked, not-queued, not-out, not-handed, lock-held, not-mapped}

pub spawn-codes :
    (t : State) (a : AgentNo)
    → (BadState when (Sound t → ⊥)
    else NoAgent when (t.agents ≤ a.0)
    else Busy when (phase_of t a ≡ Free → ⊥)
    else AgentsFull when (most_agents ≤ t.agents)
    else says Done)
    (step_of t (Spawn a))
unfolding step_of
spawn-codes t a =
    rows t
    (check BadState (unsound t)
    ∷ check NoAgent (absent t.agents a.0)
    ∷ check Busy (not_free (phase_of t a))
    ∷ check AgentsFull (absent most_agents t.agents)
    ∷ [])
    _
    (says Done)
    refl

pub ask-codes :
    (t : State) (a : AgentNo) (u : SiteNo)
    → (BadState when (Sound t → ⊥)
    else NoAgent when (t.agents ≤ a.0)
    else NoSite when (t.sites ≤ u.0)
    else Busy when (phase_of t a ≡ Free → ⊥)
    else says Done)
    (step_of t (Ask a u))
unfolding step_of
ask-codes t a u =
    rows t
    (check BadState (unsound t)
    ∷ check NoAgent (absent t.agents a.0)
    ∷ check NoSite (absent t.sites u.0)
    ∷ check Busy (not_free (phase_of t a))
    ∷ [])
    _
    (says Done)
    refl

pub enrol-codes :
    (t : State) (a : AgentNo)
    → (BadState when (Sound t → ⊥)
    else NoAgent when (t.agents ≤ a.0)
    else OutOfTurn when ((p : AgentNo) → phase_of t a ≡ Born p → ⊥)
    else LockHeld when (lock_of t ≡ Unheld → ⊥)
    else says Done)
    (step_of t (Enrol a))
unfolding step_of
enrol-codes t a =
    rows t
    (check BadState (unsound t)
    ∷ check NoAgent (absent t.agents a.0)
    ∷ check OutOfTurn (not-born (phase_of t a))
    ∷ check LockHeld (lock-held (lock_of t))
    ∷ [])
    _
    (says Done)
    refl

pub greet-codes :
    (t : State) (a : AgentNo)
    → (BadState when (Sound t → ⊥)
    else NoAgent when (t.agents ≤ a.0)
    else OutOfTurn when ((p : AgentNo) → phase_of t a ≡ Enrolled p → ⊥)
    else says Done)
    (step_of t (Greet a))
unfolding step_of
greet-codes t a =
    rows t
    (check BadState (unsound t)
    ∷ check NoAgent (absent t.agents a.0)
    ∷ check OutOfTurn (not-enrolled (phase_of t a))
    ∷ [])
    _
    (says Done)
    refl

pub grant-codes :
    (t : State) (a : AgentNo)
    → (BadState when (Sound t → ⊥)
    else NoAgent when (t.agents ≤ a.0)
    else OutOfTurn when ((u : SiteNo) → phase_of t a ≡ Asking u → ⊥)
    else LockHeld when (lock_of t ≡ Unheld → ⊥)
    else says Done)
    (step_of t (Grant a))
unfolding step_of
grant-codes t a =
    rows t
    (check BadState (unsound t)
    ∷ check NoAgent (absent t.agents a.0)
    ∷ check OutOfTurn (not-asking (phase_of t a))
    ∷ check LockHeld (lock-held (lock_of t))
    ∷ [])
    _
    (says Done)
    refl

pub leap-codes :
    (t : State) (a : AgentNo)
    → (BadState when (Sound t → ⊥)
    else NoAgent when (t.agents ≤ a.0)
    else OutOfTurn when ((u : SiteNo) → phase_of t a ≡ Granted u → ⊥)
    else says Done)
    (step_of t (Leap a))
unfolding step_of
leap-codes t a =
    rows t
    (check BadState (unsound t)
    ∷ check NoAgent (absent t.agents a.0)
    ∷ check OutOfTurn (not-granted (phase_of t a))
    ∷ [])
    _
    (says Done)
    refl

pub book-codes :
    (t : State) (a : AgentNo)
    → (BadState when (Sound t → ⊥)
    else NoAgent when (t.agents ≤ a.0)
    else OutOfTurn when (phase_of t a ≡ Landed → ⊥)
    else says Done)
    (step_of t (Book a))
unfolding step_of
book-codes t a =
    rows t
    (check BadState (unsound t)
    ∷ check NoAgent (absent t.agents a.0)
    ∷ check OutOfTurn (not-landed (phase_of t a))
    ∷ [])
    _
    (says Done)
    refl

pub settle-codes :
    (t : State) (a : AgentNo)
    → (BadState when (Sound t → ⊥)
    else NoAgent when (t.agents ≤ a.0)
    else OutOfTurn when (phase_of t a ≡ Booked → ⊥)
    else says Done)
    (step_of t (Settle a))
unfolding step_of
settle-codes t a =
    rows t
    (check BadState (unsound t)
    ∷ check NoAgent (absent t.agents a.0)
    ∷ check OutOfTurn (not-booked (phase_of t a))
    ∷ [])
    _
    (says Done)
    refl

pub forward-codes :
    (t : State) (m : MailNo)
    → (BadState when (Sound t → ⊥)
    else NoMessage when (t.messages ≤ m.0)
    else OutOfTurn when (status_of t m ≡ Queued → ⊥)
    else LockHeld when (lock_of t ≡ Unheld → ⊥)
    else NotEnrolled when (map_of t (addressee_of t m) ≡ None)
    else says Done)
    (step_of t (Forward m))
unfolding step_of
forward-codes t m =
    rows t
    (check BadState (unsound t)
    ∷ check NoMessage (absent t.messages m.0)
    ∷ check OutOfTurn (not-queued (status_of t m))
    ∷ check LockHeld (lock-held (lock_of t))
    ∷ check NotEnrolled (not-mapped (map_of t (addressee_of t m)))
    ∷ [])
    _
    (says Done)
    refl

-- handed or lost, the step is Done
either-done : (b : Bool) (x y : State) → (cond b (done x 0) (done y 0)).code ≡ Done
either-done true x y = refl
either-done false x y = refl

pub hand-codes :
    (t : State) (m : MailNo)
    → (BadState when (Sound t → ⊥)
    else NoMessage when (t.messages ≤ m.0)
    else OutOfTurn when ((s : SiteNo) → status_of t m ≡ Out s → ⊥)
    else says Done)
    (step_of t (Hand m))
unfolding step_of
hand-codes t m =
    rows t
    (check BadState (unsound t)
    ∷ check NoMessage (absent t.messages m.0)
    ∷ check OutOfTurn (not-out (status_of t m))
    ∷ [])
    _
    (says Done)
    (either-done
    (same_site (travels_to (status_of t m)) (site_of t (addressee_of t m)))
    (with_logged (with_status t m Handed) m)
    (with_status t m Lost))

pub close-codes :
    (t : State) (m : MailNo)
    → (BadState when (Sound t → ⊥)
    else NoMessage when (t.messages ≤ m.0)
    else OutOfTurn when (status_of t m ≡ Handed → ⊥)
    else says Done)
    (step_of t (Close m))
unfolding step_of
close-codes t m =
    rows t
    (check BadState (unsound t)
    ∷ check NoMessage (absent t.messages m.0)
    ∷ check OutOfTurn (not-handed (status_of t m))
    ∷ [])
    _
    (says Done)
    refl
