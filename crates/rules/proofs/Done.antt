-- What each rule comes to once its tests have passed.
use Rattle.std.proofs.Common.{ℕ, suc, ◌≡◌, ◌∙◌, ◌≤◌, ◌<◌, arith, Some, None, true, false, set, ltb, eq-eqb, ne_eqb, le-leb}
use Rattle.std.proofs.lemmas.Bool.{lt-leb}
use Rattle.records.specs.declared.AgentNo.{AgentNo}
use Rattle.records.specs.declared.SiteNo.{SiteNo}
use Rattle.records.specs.declared.MailNo.{MailNo}
use Rattle.records.specs.declared.Phase.TheVariants.{Free, Spawning, Enrolled, Asking, Granted, Landed, Booked}
use Rattle.records.specs.declared.Status.TheVariants.{Queued, Out, Handed, Closed, Lost}
use Rattle.records.specs.declared.Lock.TheVariants.{Unheld, ForMove, ForMail}
use Rattle.records.specs.declared.Code.TheVariants.{MessagesFull, Changed, Gap}
use Rattle.records.specs.Limits.{most_agents, most_messages}
use Rattle.records.specs.Numbers.{same_site}
use Rattle.records.specs.Agents.{is_free, is_born, is_enrolled, is_asking, is_granted, is_landed, is_booked, peer_of, target_of, is_child, is_mapped, map_site, born_of, with_phase, moved_to, mapped_here}
use Rattle.records.specs.Messages.{is_queued, is_out, is_handed, travels_to}
use Rattle.records.specs.Locks.{is_unheld}
use Rattle.rules.specs.declared.State.{State}
use Rattle.rules.specs.Holding.{is_agent, is_site, is_message, agent_at, message_at, site_of, phase_of, map_of, status_of, lock_of, next_agent, with_agent, with_new_agent, with_lock, with_status, with_messages, with_logged}
use Rattle.rules.specs.Answers.{done, refuse, repeated}
use Rattle.rules.specs.Steps.{to_phase, spawn_rule, ask_rule, sent_by, take_new, find_sent, same_letter, retry, by_number, send_rule, enrol_rule, greet_rule, grant_rule, leap_rule, book_rule, settle_rule, addressee_of, forward_rule, hand_rule, close_rule}

module _ (t : State) (a : AgentNo) (there : is_agent t a ≡ true) where
  pub spawn-done :
      is_free (phase_of t a) ≡ true
      → ltb t.agents most_agents ≡ true
      → spawn_rule t a ≡ done (with_new_agent (to_phase t a (Spawning (next_agent t))) (born_of a (site_of t a))) t.agents
  unfolding spawn_rule
  spawn-done turn room = rw (there, turn, room)

  pub ask-done : (u : SiteNo) → is_site t u ≡ true → is_free (phase_of t a) ≡ true → ask_rule t a u ≡ done (to_phase t a (Asking u)) 0
  unfolding ask_rule
  ask-done u site turn = rw (there, site, turn)

  pub enrol-done :
      is_born (phase_of t a) ≡ true
      → is_unheld (lock_of t) ≡ true
      → enrol_rule t a ≡ done (with_agent t a (mapped_here (with_phase (agent_at t a) (Enrolled (peer_of (phase_of t a)))))) 0
  unfolding enrol_rule
  enrol-done turn unlocked = rw (there, turn, unlocked)

  pub greet-done : is_enrolled (phase_of t a) ≡ true → greet_rule t a ≡ done (to_phase (to_phase t a Free) (peer_of (phase_of t a)) Free) 0
  unfolding greet_rule
  greet-done turn = rw (there, turn)

  pub grant-done :
      is_asking (phase_of t a) ≡ true
      → is_unheld (lock_of t) ≡ true
      → grant_rule t a ≡ done (with_lock (to_phase t a (Granted (target_of (phase_of t a)))) (ForMove a)) 0
  unfolding grant_rule
  grant-done turn unlocked = rw (there, turn, unlocked)

  pub leap-done :
      is_granted (phase_of t a) ≡ true
      → leap_rule t a ≡ done (with_agent t a (moved_to (with_phase (agent_at t a) Landed) (target_of (phase_of t a)))) 0
  unfolding leap_rule
  leap-done turn = rw (there, turn)

  pub book-done :
      is_landed (phase_of t a) ≡ true
      → book_rule t a ≡ done (with_lock (with_agent t a (mapped_here (with_phase (agent_at t a) Booked))) Unheld) 0
  unfolding book_rule
  book-done turn = rw (there, turn)

  pub settle-done : is_booked (phase_of t a) ≡ true → settle_rule t a ≡ done (to_phase t a Free) 0
  unfolding settle_rule
  settle-done turn = rw (there, turn)

module _ (t : State) (m : MailNo) (there : is_message t m ≡ true) where
  pub forward-done :
      is_queued (status_of t m) ≡ true
      → is_unheld (lock_of t) ≡ true
      → is_mapped (map_of t (addressee_of t m)) ≡ true
      → forward_rule t m ≡ done (with_lock (with_status t m (Out (map_site (map_of t (addressee_of t m))))) (ForMail m)) 0
  unfolding forward_rule
  forward-done turn unlocked known = rw (there, turn, unlocked, known)

  -- the addressee stands where the message went, or it does not
  pub hand-done :
      is_out (status_of t m) ≡ true
      → same_site (travels_to (status_of t m)) (site_of t (addressee_of t m)) ≡ true
      → hand_rule t m ≡ done (with_logged (with_status t m Handed) m) 0
  unfolding hand_rule
  hand-done turn met = rw (there, turn, met)

  pub hand-lost :
      is_out (status_of t m) ≡ true
      → same_site (travels_to (status_of t m)) (site_of t (addressee_of t m)) ≡ false
      → hand_rule t m ≡ done (with_status t m Lost) 0
  unfolding hand_rule
  hand-lost turn missed = rw (there, turn, missed)

  pub close-done : is_handed (status_of t m) ≡ true → close_rule t m ≡ done (with_lock (with_status t m Closed) Unheld) 0
  unfolding close_rule
  close-done turn = rw (there, turn)

-- send, from its tests down to a new message and to a retry
module _ (t : State) (a : AgentNo) (n : ℕ) (b : AgentNo) (v : ℕ) where
  pub send-on : is_agent t a ≡ true → is_agent t b ≡ true → is_child (phase_of t a) ≡ false → send_rule t a n b v ≡ by_number t a n b v
  unfolding send_rule
  send-on sender addressee up = rw (sender, addressee, up)

  pub number-next : n ≡ suc (sent_by t a) → by_number t a n b v ≡ take_new t a n b v
  unfolding by_number
  number-next next = rw (eq-eqb n (suc (sent_by t a)) next)

  pub number-used : 1 ≤ n → n ≤ sent_by t a → by_number t a n b v ≡ retry t a n b v
  unfolding by_number
  number-used some below =
      rw (ne_eqb n (suc (sent_by t a)) (λ e. omega arith), le-leb 1 n some, le-leb n (sent_by t a) below)

  pub number-zero : n ≡ 0 → by_number t a n b v ≡ refuse t Gap
  unfolding by_number
  number-zero none =
      rw (ne_eqb n (suc (sent_by t a)) (λ e. omega arith), lt-leb 1 n (omega arith))

  pub number-gap : suc (sent_by t a) < n → by_number t a n b v ≡ refuse t Gap
  unfolding by_number
  number-gap above =
      rw (ne_eqb n (suc (sent_by t a)) (λ e. omega arith), le-leb 1 n (omega arith), lt-leb n (sent_by t a) (omega arith))

  -- the table with one more message, which stands last and queued
  abbrev pub taken_in : State
  taken_in =
      with_messages t
      (suc t.messages)
      (set t.sender t.messages a)
      (set t.number t.messages n)
      (set t.addressee t.messages b)
      (set t.value t.messages v)
      (set t.status t.messages Queued)

  pub take-done : ltb t.messages most_messages ≡ true → take_new t a n b v ≡ done taken_in t.messages
  unfolding take_new
  take-done room = rw room

  pub take-full : ltb t.messages most_messages ≡ false → take_new t a n b v ≡ refuse t MessagesFull
  unfolding take_new
  take-full full = rw full

  pub retry-missing : find_sent t a n ≡ None → retry t a n b v ≡ refuse t Changed
  unfolding retry
  retry-missing none = rw none

  module _ (m : MailNo) (found : find_sent t a n ≡ Some m) where
    pub retry-repeats : same_letter (message_at t m) b v ≡ true → retry t a n b v ≡ repeated t m
    unfolding retry
    retry-repeats same = rw (found, same)

    pub retry-changed : same_letter (message_at t m) b v ≡ false → retry t a n b v ≡ refuse t Changed
    unfolding retry
    retry-changed other = rw (found, other)

  module _ (sender : is_agent t a ≡ true) (addressee : is_agent t b ≡ true) (up : is_child (phase_of t a) ≡ false) where
    -- the next number is a new message
    pub send-done : n ≡ suc (sent_by t a) → ltb t.messages most_messages ≡ true → send_rule t a n b v ≡ done taken_in t.messages
    send-done next room = send-on sender addressee up ∙ (number-next next ∙ take-done room)

    -- a number that was taken, with the same addressee and value, is a repeat of that message
    pub send-repeated :
        1 ≤ n
        → n ≤ sent_by t a
        → (m : MailNo)
        → find_sent t a n ≡ Some m
        → same_letter (message_at t m) b v ≡ true
        → send_rule t a n b v ≡ repeated t m
    send-repeated some below m found same = send-on sender addressee up ∙ (number-used some below ∙ retry-repeats m found same)
