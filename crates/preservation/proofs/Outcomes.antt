-- What becomes of a step on any table: either the table is as it was, the code is not Done and the number is 0 or a message's, or the step went, from a table as its rule
-- asks for to the next one that its rule gives.
use Rattle.std.proofs.Common.{Some, Option, None, ℕ, suc, ◌<◌, ◌≤◌, ◌≡◌, refl, ap, Bool, true, false, cond, ◌&&◌, eqb, leb, arith, ltb-true, eqb-true}
use Rattle.std.proofs.lemmas.Bool.{eqb-false, and_parts}
use Rattle.records.specs.declared.AgentNo.{AgentNo}
use Rattle.records.specs.declared.SiteNo.{SiteNo}
use Rattle.records.specs.declared.MailNo.{MailNo}
use Rattle.records.specs.declared.Phase.TheVariants.{Free, Spawning, Born, Enrolled, Asking, Granted, Landed, Booked}
use Rattle.records.specs.declared.Status.TheVariants.{Queued, Out, Handed, Closed, Lost}
use Rattle.records.specs.declared.Lock.TheVariants.{Unheld, ForMove, ForMail}
use Rattle.records.specs.declared.Code.{Code}
use Rattle.records.specs.declared.Code.TheVariants.{Done, Repeat, NoSite, NoAgent, NoMessage, Busy, NotUp, OutOfTurn, LockHeld, NotEnrolled, AgentsFull, MessagesFull, Changed, Gap, BadState}
use Rattle.records.specs.Codes.{IsRefusal}
use Rattle.records.specs.Numbers.{site_no, same_site}
use Rattle.records.specs.Agents.{born_of, with_phase, moved_to, mapped_here}
use Rattle.records.specs.Messages.{travels_to}
use Rattle.rules.specs.declared.State.{State}
use Rattle.rules.specs.declared.Reply.{Reply}
use Rattle.rules.specs.declared.Step.{Step}
use Rattle.rules.specs.declared.Step.TheVariants.{Spawn, Ask, Send, Enrol, Greet, Grant, Leap, Book, Settle, Forward, Hand, Close}
use Rattle.records.specs.Limits.{most_agents, most_messages}
use Rattle.rules.specs.Holding.{IsAgent, IsSite, IsMessage, is_agent, agent_at, site_of, phase_of, map_of, message_at, status_of, lock_of, with_agent, next_agent, with_new_agent, with_lock, with_status, with_new_message, with_logged}
use Rattle.rules.specs.SoundTest.{sound_test}
use Rattle.rules.specs.Answers.{done, repeated, unless}
use Rattle.rules.specs.Steps.{to_phase, sent_by, new_message, take_new, find_sent, same_letter, compare_sent, retry, addressee_of, rule_of, step_of}
use Rattle.records.proofs.ReaderLaws.{mapped-is, unheld-is}
use Rattle.rules.proofs.SentSearch.{last-below}
use Rattle.preservation.proofs.Tested.{free-is, born-is, enrolled-is, asking-is, granted-is, landed-is, booked-is, up_is, queued-is, out-is, handed-is}
use Rattle.preservation.proofs.Families.{ChildOf}

-- The steps that are Done: what held before, the number returned, and the next table.
pub data Went (t : State) : Step → ℕ → State → Type 0 where
  spawned :
      (a : AgentNo)
      → IsAgent t a
      → phase_of t a ≡ Free
      → t.agents < most_agents
      → Went t (Spawn a) t.agents (with_new_agent (to_phase t a (Spawning (next_agent t))) (born_of a (site_of t a)))
  asked :
      (a : AgentNo) (u : SiteNo)
      → IsAgent t a
      → IsSite t u
      → phase_of t a ≡ Free
      → Went t (Ask a u) 0 (to_phase t a (Asking u))
  sent :
      (a : AgentNo) (n : ℕ) (b : AgentNo) (v : ℕ)
      → IsAgent t a
      → IsAgent t b
      → ((q : AgentNo) → ChildOf (phase_of t a) q → ⊥)
      → n ≡ suc (sent_by t a)
      → t.messages < most_messages
      → Went t (Send a n b v) t.messages (with_new_message t (new_message a n b v))
  enrolled :
      (b p : AgentNo)
      → IsAgent t b
      → phase_of t b ≡ Born p
      → lock_of t ≡ Unheld
      → Went t (Enrol b) 0 (with_agent t b (mapped_here (with_phase (agent_at t b) (Enrolled p))))
  greeted :
      (b p : AgentNo)
      → IsAgent t b
      → phase_of t b ≡ Enrolled p
      → Went t (Greet b) 0 (to_phase (to_phase t b Free) p Free)
  granted :
      (a : AgentNo) (u : SiteNo)
      → IsAgent t a
      → phase_of t a ≡ Asking u
      → lock_of t ≡ Unheld
      → Went t (Grant a) 0 (with_lock (to_phase t a (Granted u)) (ForMove a))
  leapt :
      (a : AgentNo) (u : SiteNo)
      → IsAgent t a
      → phase_of t a ≡ Granted u
      → Went t (Leap a) 0 (with_agent t a (moved_to (with_phase (agent_at t a) Landed) u))
  booked :
      (a : AgentNo)
      → IsAgent t a
      → phase_of t a ≡ Landed
      → Went t (Book a) 0 (with_lock (with_agent t a (mapped_here (with_phase (agent_at t a) Booked))) Unheld)
  settled : (a : AgentNo) → IsAgent t a → phase_of t a ≡ Booked → Went t (Settle a) 0 (to_phase t a Free)
  forwarded :
      (m : MailNo) (s : SiteNo)
      → IsMessage t m
      → status_of t m ≡ Queued
      → lock_of t ≡ Unheld
      → map_of t (addressee_of t m) ≡ Some s
      → Went t (Forward m) 0 (with_lock (with_status t m (Out s)) (ForMail m))
  handed :
      (m : MailNo) (s : SiteNo)
      → IsMessage t m
      → status_of t m ≡ Out s
      → s ≡ site_of t (addressee_of t m)
      → Went t (Hand m) 0 (with_logged (with_status t m Handed) m)
  lost :
      (m : MailNo) (s : SiteNo)
      → IsMessage t m
      → status_of t m ≡ Out s
      → (s ≡ site_of t (addressee_of t m) → ⊥)
      → Went t (Hand m) 0 (with_status t m Lost)
  closed :
      (m : MailNo)
      → IsMessage t m
      → status_of t m ≡ Handed
      → Went t (Close m) 0 (with_lock (with_status t m Closed) Unheld)

pub data Outcome (t : State) (s : Step) (r : Reply) : Type 0 where
  stayed : r.state ≡ t → (r.code ≡ Done → ⊥) → (IsRefusal r.code → r.number ≡ 0) → r.number ≤ t.messages → Outcome t s r
  went : r.code ≡ Done → Went t s r.number r.state → Outcome t s r

-- one test of a rule
tested : (t : State) (s : Step) (b : Bool) (c : Code) (r : Reply) → (c ≡ Done → ⊥) → (b ≡ true → Outcome t s r) → Outcome t s (unless b c t r)
tested t s true c r n f = f refl
tested t s false c r n f = stayed refl n (λ h. refl) (omega arith)

spawn-outcome : (t : State) (a : AgentNo) → Outcome t (Spawn a) (rule_of t (Spawn a))
unfolding rule_of
spawn-outcome t a =
    tested t (Spawn a) _ NoAgent _ (λ e. cc) (λ here.
    tested t (Spawn a) _ Busy _ (λ e. cc) (λ free.
    tested t (Spawn a) _ AgentsFull _ (λ e. cc) (λ room.
    went refl (spawned a (ltb-true _ _ here) (free-is _ free) (ltb-true _ _ room)))))

ask-outcome : (t : State) (a : AgentNo) (u : SiteNo) → Outcome t (Ask a u) (rule_of t (Ask a u))
unfolding rule_of
ask-outcome t a u =
    tested t (Ask a u) _ NoAgent _ (λ e. cc) (λ here.
    tested t (Ask a u) _ NoSite _ (λ e. cc) (λ site.
    tested t (Ask a u) _ Busy _ (λ e. cc) (λ free.
    went refl (asked a u (ltb-true _ _ here) (ltb-true _ _ site) (free-is _ free)))))

enrol-outcome : (t : State) (b : AgentNo) → Outcome t (Enrol b) (rule_of t (Enrol b))
unfolding rule_of
enrol-outcome t b =
    tested t (Enrol b) _ NoAgent _ (λ e. cc) (λ here.
    tested t (Enrol b) _ OutOfTurn _ (λ e. cc) (λ born.
    tested t (Enrol b) _ LockHeld _ (λ e. cc) (λ free.
    went refl (enrolled b _ (ltb-true _ _ here) (born-is _ born) (unheld-is _ free)))))

greet-outcome : (t : State) (b : AgentNo) → Outcome t (Greet b) (rule_of t (Greet b))
unfolding rule_of
greet-outcome t b =
    tested t (Greet b) _ NoAgent _ (λ e. cc) (λ here.
    tested t (Greet b) _ OutOfTurn _ (λ e. cc) (λ turn.
    went refl (greeted b _ (ltb-true _ _ here) (enrolled-is _ turn))))

grant-outcome : (t : State) (a : AgentNo) → Outcome t (Grant a) (rule_of t (Grant a))
unfolding rule_of
grant-outcome t a =
    tested t (Grant a) _ NoAgent _ (λ e. cc) (λ here.
    tested t (Grant a) _ OutOfTurn _ (λ e. cc) (λ turn.
    tested t (Grant a) _ LockHeld _ (λ e. cc) (λ free.
    went refl (granted a _ (ltb-true _ _ here) (asking-is _ turn) (unheld-is _ free)))))

leap-outcome : (t : State) (a : AgentNo) → Outcome t (Leap a) (rule_of t (Leap a))
unfolding rule_of
leap-outcome t a =
    tested t (Leap a) _ NoAgent _ (λ e. cc) (λ here.
    tested t (Leap a) _ OutOfTurn _ (λ e. cc) (λ turn.
    went refl (leapt a _ (ltb-true _ _ here) (granted-is _ turn))))

book-outcome : (t : State) (a : AgentNo) → Outcome t (Book a) (rule_of t (Book a))
unfolding rule_of
book-outcome t a =
    tested t (Book a) _ NoAgent _ (λ e. cc) (λ here.
    tested t (Book a) _ OutOfTurn _ (λ e. cc) (λ turn.
    went refl (booked a (ltb-true _ _ here) (landed-is _ turn))))

settle-outcome : (t : State) (a : AgentNo) → Outcome t (Settle a) (rule_of t (Settle a))
unfolding rule_of
settle-outcome t a =
    tested t (Settle a) _ NoAgent _ (λ e. cc) (λ here.
    tested t (Settle a) _ OutOfTurn _ (λ e. cc) (λ turn.
    went refl (settled a (ltb-true _ _ here) (booked-is _ turn))))

forward-outcome : (t : State) (m : MailNo) → Outcome t (Forward m) (rule_of t (Forward m))
unfolding rule_of
forward-outcome t m =
    tested t (Forward m) _ NoMessage _ (λ e. cc) (λ here.
    tested t (Forward m) _ OutOfTurn _ (λ e. cc) (λ turn.
    tested t (Forward m) _ LockHeld _ (λ e. cc) (λ free.
    tested t (Forward m) _ NotEnrolled _ (λ e. cc) (λ known.
    went refl (forwarded m _ (ltb-true _ _ here) (queued-is _ turn) (unheld-is _ free) (mapped-is _ known))))))

-- the addressee is at the site travelled to, or it is not
met :
    (t : State) (m : MailNo)
    → IsMessage t m
    → status_of t m ≡ Out (travels_to (status_of t m))
    → (b : Bool)
    → same_site (travels_to (status_of t m)) (site_of t (addressee_of t m)) ≡ b
    → Outcome t (Hand m) (cond b (done (with_logged (with_status t m Handed) m) 0) (done (with_status t m Lost) 0))
met t m here out true e = went refl (handed m _ here out (ap site_no (eqb-true _ _ e)))
met t m here out false e = went refl (lost m _ here out (λ q. eqb-false _ _ e (ap (λ (s : SiteNo). s.0) q)))

hand-outcome : (t : State) (m : MailNo) → Outcome t (Hand m) (rule_of t (Hand m))
unfolding rule_of
hand-outcome t m =
    tested t (Hand m) _ NoMessage _ (λ e. cc) (λ here.
    tested t (Hand m) _ OutOfTurn _ (λ e. cc) (λ turn.
    met t m (ltb-true _ _ here) (out-is _ turn) _ refl))

close-outcome : (t : State) (m : MailNo) → Outcome t (Close m) (rule_of t (Close m))
unfolding rule_of
close-outcome t m =
    tested t (Close m) _ NoMessage _ (λ e. cc) (λ here.
    tested t (Close m) _ OutOfTurn _ (λ e. cc) (λ turn.
    went refl (closed m (ltb-true _ _ here) (handed-is _ turn))))

-- a retry changes nothing, whatever it finds
found : (t : State) (a : AgentNo) (n : ℕ) (b : AgentNo) (v : ℕ) (f : Option MailNo) → ((m : MailNo) → Some m ≡ f → IsMessage t m) → Outcome t (Send a n b v) (compare_sent t b v f)
found t a n b v None there = stayed refl (λ e. cc) (λ h. refl) (omega arith)
found t a n b v (Some m) there =
    tested t (Send a n b v) (same_letter (message_at t m) b v) Changed (repeated t m) (λ e. cc) (λ same.
    stayed refl (λ (e : Repeat ≡ Done). cc) (λ (h : 10 ≤ 1). absurd (omega arith)) (omega (arith, there m refl)))

numbered :
    (t : State) (a : AgentNo) (n : ℕ) (b : AgentNo) (v : ℕ)
    → IsAgent t a
    → IsAgent t b
    → ((q : AgentNo) → ChildOf (phase_of t a) q → ⊥)
    → (new : Bool)
    → eqb n (suc (sent_by t a)) ≡ new
    → Outcome t (Send a n b v) (cond new (take_new t a n b v) (unless (leb 1 n && leb n (sent_by t a)) Gap t (retry t a n b v)))
unfolding take_new retry
numbered t a n b v from to up true e =
    tested t (Send a n b v) _ MessagesFull _ (λ e. cc) (λ room.
    went refl (sent a n b v from to up (eqb-true _ _ e) (ltb-true _ _ room)))
numbered t a n b v from to up false e =
    tested t (Send a n b v) (leb 1 n && leb n (sent_by t a)) Gap _ (λ e. cc) (λ old.
    found t a n b v (find_sent t a n) (last-below _ t.messages))

send-outcome : (t : State) (a : AgentNo) (n : ℕ) (b : AgentNo) (v : ℕ) → Outcome t (Send a n b v) (rule_of t (Send a n b v))
unfolding rule_of
send-outcome t a n b v =
    tested t (Send a n b v) (is_agent t a && is_agent t b) NoAgent _ (λ e. cc) (λ here.
    tested t (Send a n b v) _ NotUp _ (λ e. cc) (λ up.
    numbered
    t
    a
    n
    b
    v
    (ltb-true _ _ (and_parts _ _ here).0)
    (ltb-true _ _ (and_parts _ _ here).1)
    (up_is _ up)
    _
    refl))

outcome : (t : State) (s : Step) → Outcome t s (rule_of t s)
outcome t (Spawn a) = spawn-outcome t a
outcome t (Ask a u) = ask-outcome t a u
outcome t (Send a n b v) = send-outcome t a n b v
outcome t (Enrol b) = enrol-outcome t b
outcome t (Greet b) = greet-outcome t b
outcome t (Grant a) = grant-outcome t a
outcome t (Leap a) = leap-outcome t a
outcome t (Book a) = book-outcome t a
outcome t (Settle a) = settle-outcome t a
outcome t (Forward m) = forward-outcome t m
outcome t (Hand m) = hand-outcome t m
outcome t (Close m) = close-outcome t m

-- the step itself asks first whether the table is sound
pub step-outcome : (t : State) (s : Step) → Outcome t s (step_of t s)
unfolding step_of
step-outcome t s = tested t s (sound_test t) BadState (rule_of t s) (λ e. cc) (λ sound. outcome t s)
