-- The five slips of earlier drafts: the rules do otherwise.
use Rattle.std.proofs.Common.{Some, ℕ, zero, suc, ◌≤◌, arith, ◌≡◌, refl, sym, ap, ◌∙◌, subst, inl, Bool, true, false, not, cond, ◌&&◌, List, [], ◌∷◌, get_or, set, get_or-set_other, leb, eqb, lit≤, eq-eqb, ne_eqb, eqb-true, lt-ltb, le-leb}
use Rattle.std.proofs.lemmas.Bool.{false≢true, and_parts, and_from, false_from_ne_true, not_from_false}
use Rattle.records.specs.declared.AgentNo.{AgentNo}
use Rattle.records.specs.declared.MailNo.{MailNo}
use Rattle.records.specs.declared.Agent.{Agent}
use Rattle.records.specs.declared.Phase.TheVariants.{Spawning, Born}
use Rattle.records.specs.declared.Lock.TheVariants.{ForMail}
use Rattle.records.specs.declared.Code.{Code}
use Rattle.records.specs.declared.Code.TheVariants.{Done, NoAgent, NoMessage, NotUp, OutOfTurn, LockHeld, NotEnrolled, Changed, Gap, BadState}
use Rattle.records.specs.Codes.{code_number, IsRefusal}
use Rattle.records.specs.Numbers.{agent_no, mail_no, same_agent}
use Rattle.records.specs.Agents.{empty_agent, is_born, is_asking, is_child, is_mapped, peer_of}
use Rattle.records.specs.Messages.{is_queued}
use Rattle.records.specs.Locks.{is_unheld}
use Rattle.records.proofs.PlaceLaws.{later-counts}
use Rattle.records.proofs.ReaderLaws.{agent-same, same-agent, child-is}
use Rattle.rules.specs.declared.State.{State}
use Rattle.rules.specs.declared.Reply.{Reply}
use Rattle.rules.specs.declared.Step.TheVariants.{Send, Enrol, Grant, Forward}
use Rattle.rules.specs.Holding.{IsAgent, is_agent, is_message, agent_at, site_of, phase_of, map_of, message_at, status_of, lock_of}
use Rattle.rules.specs.Answers.{repeated, refuse, unless}
use Rattle.rules.specs.Soundness.{Child, Sound}
use Rattle.rules.specs.SoundTest.{sound_test}
use Rattle.rules.specs.Steps.{sent_by, take_new, same_letter, compare_sent, retry, by_number, addressee_of, send_rule, step_of}
use Rattle.rules.proofs.SoundIff.{sound-to}
use Rattle.rules.proofs.Retry.{Sent, sent-once, retry-found, runs_on}

-- what holds of the table of every Done answer under a check holds under the check
if-done : (Q : State → Type 0) (b : Bool) (c : Code) (t : State) (r : Reply) → IsRefusal c → (r.code ≡ Done → Q r.state) → (unless b c t r).code ≡ Done → Q (unless b c t r).state
if-done Q true c t r h f e = f e
if-done Q false c t r h f e = let z : code_number c ≡ 0 = ap code_number e in absurd (omega arith)

-- Slip 1, freeing the lock at forward: after a Done forward it is held for that message.
pub forward-holds : (t : State) (m : MailNo) → (step_of t (Forward m)).code ≡ Done → lock_of (step_of t (Forward m)).state ≡ ForMail m
unfolding step_of
forward-holds t m =
    if-done Q (sound_test t) BadState t _ (lit≤ tt)
    (if-done Q (is_message t m) NoMessage t _ (lit≤ tt)
    (if-done Q (is_queued (status_of t m)) OutOfTurn t _ (lit≤ tt)
    (if-done Q (is_unheld (lock_of t)) LockHeld t _ (lit≤ tt)
    (if-done Q (is_mapped (map_of t (addressee_of t m))) NotEnrolled t _ (lit≤ tt) (λ e. refl)))))
  where
    Q : State → Type 0
    Q x = lock_of x ≡ ForMail m

-- what a list's element at any place says does not change where the element put in says what the old one said
read_kept : {X : Type 0} (f : Agent → X) (l : List Agent) (i j : ℕ) (y : Agent) → f y ≡ f (get_or l i empty_agent) → f (get_or (set l i y) j empty_agent) ≡ f (get_or l j empty_agent)
read_kept f [] i j y h = refl
read_kept f (x ∷ xs) zero zero y h = h
read_kept f (x ∷ xs) zero (suc j) y h = refl
read_kept f (x ∷ xs) (suc i) zero y h = refl
read_kept f (x ∷ xs) (suc i) (suc j) y h = read_kept f xs i j y h

-- Slip 2, mapping the new site at grant: a Done grant leaves every map entry as it was.
pub grant-keeps-map : (t : State) (a b : AgentNo) → (step_of t (Grant a)).code ≡ Done → map_of (step_of t (Grant a)).state b ≡ map_of t b
unfolding step_of
grant-keeps-map t a b =
    if-done Q (sound_test t) BadState t _ (lit≤ tt)
    (if-done Q (is_agent t a) NoAgent t _ (lit≤ tt)
    (if-done Q (is_asking (phase_of t a)) OutOfTurn t _ (lit≤ tt)
    (if-done Q (is_unheld (lock_of t)) LockHeld t _ (lit≤ tt)
    (λ e. read_kept (λ (x : Agent). x.map) t.agent a.0 b.0 _ refl))))
  where
    Q : State → Type 0
    Q x = map_of x b ≡ map_of t b

-- Slip 4, freeing the parent at enrol: a Done enrol leaves every other agent as it was, the parent among them.
pub enrol-keeps-others : (t : State) (b a : AgentNo) → (a ≡ b → ⊥) → (step_of t (Enrol b)).code ≡ Done → agent_at (step_of t (Enrol b)).state a ≡ agent_at t a
unfolding step_of
enrol-keeps-others t b a ne =
    if-done Q (sound_test t) BadState t _ (lit≤ tt)
    (if-done Q (is_agent t b) NoAgent t _ (lit≤ tt)
    (if-done Q (is_born (phase_of t b)) OutOfTurn t _ (lit≤ tt)
    (if-done Q (is_unheld (lock_of t)) LockHeld t _ (lit≤ tt)
    (λ e. get_or-set_other t.agent b.0 a.0 _ empty_agent (λ p. ne (ap agent_no p))))))
  where
    Q : State → Type 0
    Q x = agent_at x a ≡ agent_at t a

pub parent-still-spawning : (t : State) (b p : AgentNo) → Sound t → IsAgent t b → phase_of t b ≡ Born p → (step_of t (Enrol b)).code ≡ Done → phase_of (step_of t (Enrol b)).state p ≡ Spawning b
parent-still-spawning t b p s there e h =
    ap (λ (x : Agent). x.phase) (enrol-keeps-others t b p other h) ∙ parent.1
  where
    parent : IsAgent t p × (phase_of t p ≡ Spawning b) × (site_of t p ≡ site_of t b)
    parent = s.families.parent p b there (inl e)

    other : p ≡ b → ⊥
    other q = false≢true (sym (ap is_born parent.1) ∙ ap is_born (ap (phase_of t) q ∙ e))

-- Slips 3 and 5, taking a retry as a new message, comparing only its number, or only with messages still queued: a retry of any
-- message of a sound table, whatever its status, is compared by addressee and value, and leaves the table as it is.
module _ (t : State) (s : Sound t) (a : AgentNo) (n : ℕ) (b : AgentNo) (v : ℕ) (m : MailNo) (x : Sent t a n m) (to : IsAgent t b) where
  abbrev compared : Reply
  compared = unless (same_letter (message_at t m) b v) Changed t (repeated t m)

  number-used : (1 ≤ n) × (n ≤ sent_by t a)
  number-used =
      let e = runs_on t s a n m x in (
        omega arith,
        omega (
          arith,
          e,
          later-counts
              (λ i. same_agent (message_at t (mail_no i)).sender a)
              m.0
              t.messages
              (agent-same (message_at t m).sender a x.sender)
              x.there,
        ),
      )

  retry-compares : retry t a n b v ≡ compared
  unfolding retry
  retry-compares =
      let r = retry-found t s a n number-used.0 number-used.1 in
      ap (compare_sent t b v) r.1 ∙ ap (λ (q : MailNo). compare_sent t b v (Some q)) (sent-once t s a n r.0 m r.2 x)

  by_number_lem : by_number t a n b v ≡ compared
  unfolding by_number
  by_number_lem =
      ap (λ (c : Bool). cond c (take_new t a n b v) (unless (leb 1 n && leb n (sent_by t a)) Gap t (retry t a n b v))) (ne_eqb n (suc (sent_by t a)) (λ e. omega (arith, number-used.1)))
      ∙ ap (λ (c : Bool). unless c Gap t (retry t a n b v)) (and_from _ _ (le-leb 1 n number-used.0) (le-leb n (sent_by t a) number-used.1))
      ∙ retry-compares

  there : IsAgent t a
  there = subst (λ (y : AgentNo). IsAgent t y) x.sender (s.parties.sender m x.there)

  up : not (is_child (phase_of t a)) ≡ true
  up =
      not_from_false _
      (false_from_ne_true
      (is_child (phase_of t a))
      (λ c. s.parties.sender_up m x.there (peer_of (phase_of t a)) (subst (λ (y : AgentNo). Child t (peer_of (phase_of t a)) y) (sym x.sender) (child-is (phase_of t a) c))))

  pub retry-is : step_of t (Send a n b v) ≡ compared
  unfolding step_of
  retry-is =
      ap (λ (c : Bool). unless c BadState t (send_rule t a n b v)) (sound-to t s)
      ∙ ap (λ (c : Bool). unless c NoAgent t (unless (not (is_child (phase_of t a))) NotUp t (by_number t a n b v))) (and_from _ _ (lt-ltb a.0 t.agents there) (lt-ltb b.0 t.agents to))
      ∙ ap (λ (c : Bool). unless c NotUp t (by_number t a n b v)) up
      ∙ by_number_lem

  -- the same addressee and value: a repeat of that message
  pub retry-same : (message_at t m).addressee ≡ b → (message_at t m).value ≡ v → step_of t (Send a n b v) ≡ repeated t m
  retry-same e f =
      retry-is
      ∙ ap (λ (c : Bool). unless c Changed t (repeated t m)) (and_from _ _ (agent-same (message_at t m).addressee b e) (eq-eqb (message_at t m).value v f))

  -- another addressee or another value: refused
  pub retry-other-value : ((message_at t m).value ≡ v → ⊥) → step_of t (Send a n b v) ≡ refuse t Changed
  retry-other-value f = retry-is ∙ ap (λ (c : Bool). unless c Changed t (repeated t m)) differs
    where
      differs : same_letter (message_at t m) b v ≡ false
      differs =
          false_from_ne_true
          (same_letter (message_at t m) b v)
          (λ h. f (eqb-true (message_at t m).value v (and_parts (same_agent (message_at t m).addressee b) (eqb (message_at t m).value v) h).1))

  pub retry-other-addressee : ((message_at t m).addressee ≡ b → ⊥) → step_of t (Send a n b v) ≡ refuse t Changed
  retry-other-addressee f = retry-is ∙ ap (λ (c : Bool). unless c Changed t (repeated t m)) differs
    where
      differs : same_letter (message_at t m) b v ≡ false
      differs =
          false_from_ne_true
          (same_letter (message_at t m) b v)
          (λ h. f (same-agent (message_at t m).addressee b (and_parts (same_agent (message_at t m).addressee b) (eqb (message_at t m).value v) h).0))
