-- Opening, and the twelve steps: each with its codes in their order, its number and its next table. Assumes nothing.
use Rattle.std.specs.Prelude.{ℕ, suc, Bool, cond, not, ◌&&◌, set, leb, ltb, eqb, Some, Option, None}
use Rattle.records.specs.declared.AgentNo.{AgentNo}
use Rattle.records.specs.declared.SiteNo.{SiteNo}
use Rattle.records.specs.declared.MailNo.{MailNo}
use Rattle.records.specs.declared.Phase.{Phase}
use Rattle.records.specs.declared.Phase.TheVariants.{Free, Spawning, Enrolled, Asking, Granted, Landed, Booked}
use Rattle.records.specs.declared.Message.{Message}
use Rattle.records.specs.declared.Status.TheVariants.{Queued, Out, Handed, Closed, Lost}
use Rattle.records.specs.declared.Lock.TheVariants.{Unheld, ForMove, ForMail}
use Rattle.records.specs.declared.Code.TheVariants.{NoSite, NoAgent, NoMessage, Busy, NotUp, OutOfTurn, LockHeld, NotEnrolled, AgentsFull, MessagesFull, Changed, Gap, BadCount, BadState}
use Rattle.records.specs.Numbers.{site_no, mail_no, same_agent, same_site}
use Rattle.records.specs.Agents.{is_free, is_born, is_enrolled, is_asking, is_granted, is_landed, is_booked, is_child, peer_of, target_of, is_mapped, map_site, born_of, with_phase, moved_to, mapped_here}
use Rattle.records.specs.Messages.{is_queued, is_out, is_handed, travels_to}
use Rattle.records.specs.Locks.{is_unheld}
use Rattle.records.specs.Places.{count_below, last_below}
use Rattle.rules.specs.declared.State.{State}
use Rattle.rules.specs.declared.Reply.{Reply}
use Rattle.rules.specs.declared.Step.{Step}
use Rattle.rules.specs.declared.Step.TheVariants.{Spawn, Ask, Send, Enrol, Greet, Grant, Leap, Book, Settle, Forward, Hand, Close}
use Rattle.records.specs.Limits.{most_sites, most_agents, most_messages}
use Rattle.rules.specs.Holding.{is_agent, is_site, is_message, agent_at, site_of, phase_of, map_of, message_at, status_of, lock_of, no_state, with_agent, next_agent, with_new_agent, with_lock, with_status, with_new_message, with_logged}
use Rattle.rules.specs.Answers.{done, refuse, repeated, unless}
use Rattle.rules.specs.SoundTest.{sound_test}

-- Opening with 1 to 16 sites: agent 0, free at site 0, mapped there; no messages, the lock free, the log empty. Else there is no table.
abbrev pub opened : ℕ → State
opened s =
    record {
      sites = s;
      agents = 1;
      messages = 0;
      handed = 0;
      lock = no_state.lock;
      agent = set no_state.agent 0 (record { site = site_no 0; phase = Free; map = Some (site_no 0) });
      sender = no_state.sender;
      number = no_state.number;
      addressee = no_state.addressee;
      value = no_state.value;
      status = no_state.status;
      log = no_state.log;
    }

unfoldable pub open_of : ℕ → Reply
open_of s = unless (ltb 0 s && leb s most_sites) BadCount no_state (done (opened s) 0)

-- an agent's record with another phase, in its place
abbrev pub to_phase : State → AgentNo → Phase → State
to_phase t a p = with_agent t a (with_phase (agent_at t a) p)

-- spawn a: a is free. The next agent stands at a's site, born, unmapped; a is spawning. The number is the child's.
unfoldable pub spawn_rule : State → AgentNo → Reply
spawn_rule t a =
    unless (is_agent t a) NoAgent t
    (unless (is_free (phase_of t a)) Busy t
    (unless (ltb t.agents most_agents) AgentsFull t
    (done (with_new_agent (to_phase t a (Spawning (next_agent t))) (born_of a (site_of t a))) t.agents)))

-- ask a u: a is free, and is then asking for u.
unfoldable pub ask_rule : State → AgentNo → SiteNo → Reply
ask_rule t a u =
    unless (is_agent t a) NoAgent t
    (unless (is_site t u) NoSite t
    (unless (is_free (phase_of t a)) Busy t
    (done (to_phase t a (Asking u)) 0)))

-- send a n b v, for a sender that is neither born nor enrolled, with k messages already taken from it:
-- n = k + 1 is a new message, queued; 1 ≤ n ≤ k is a retry; any other n leaves a gap.
abbrev pub sent_by : State → AgentNo → ℕ
sent_by t a = count_below t.messages (λ i. same_agent (message_at t (mail_no i)).sender a)

abbrev pub new_message : AgentNo → ℕ → AgentNo → ℕ → Message
new_message a n b v = record { sender = a; number = n; addressee = b; value = v; status = Queued }

unfoldable pub take_new : State → AgentNo → ℕ → AgentNo → ℕ → Reply
take_new t a n b v =
    unless (ltb t.messages most_messages) MessagesFull t
    (done (with_new_message t (new_message a n b v)) t.messages)

-- A retry is found by its sender and number, whatever has become of the message. With the addressee and value that were taken it is a
-- repeat, and with others it is refused.
abbrev pub find_sent : State → AgentNo → ℕ → Option MailNo
find_sent t a n =
    last_below t.messages (λ m. same_agent (message_at t m).sender a && eqb (message_at t m).number n)

abbrev pub same_letter : Message → AgentNo → ℕ → Bool
same_letter x b v = same_agent x.addressee b && eqb x.value v

abbrev pub compare_sent : State → AgentNo → ℕ → Option MailNo → Reply
compare_sent t b v None = refuse t Changed
compare_sent t b v (Some m) = unless (same_letter (message_at t m) b v) Changed t (repeated t m)

unfoldable pub retry : State → AgentNo → ℕ → AgentNo → ℕ → Reply
unfolding last_below
retry t a n b v = compare_sent t b v (find_sent t a n)

unfoldable pub by_number : State → AgentNo → ℕ → AgentNo → ℕ → Reply
unfolding count_below take_new retry
by_number t a n b v =
    cond (eqb n (suc (sent_by t a))) (take_new t a n b v)
    (unless (leb 1 n && leb n (sent_by t a)) Gap t
    (retry t a n b v))

unfoldable pub send_rule : State → AgentNo → ℕ → AgentNo → ℕ → Reply
unfolding by_number
send_rule t a n b v =
    unless (is_agent t a && is_agent t b) NoAgent t
    (unless (not (is_child (phase_of t a))) NotUp t
    (by_number t a n b v))

-- enrol b: born, and the lock is free. Its map entry becomes its site, and it is enrolled.
unfoldable pub enrol_rule : State → AgentNo → Reply
enrol_rule t b =
    unless (is_agent t b) NoAgent t
    (unless (is_born (phase_of t b)) OutOfTurn t
    (unless (is_unheld (lock_of t)) LockHeld t
    (done (with_agent t b (mapped_here (with_phase (agent_at t b) (Enrolled (peer_of (phase_of t b)))))) 0)))

-- greet b: enrolled. It and its parent become free.
unfoldable pub greet_rule : State → AgentNo → Reply
greet_rule t b =
    unless (is_agent t b) NoAgent t
    (unless (is_enrolled (phase_of t b)) OutOfTurn t
    (done (to_phase (to_phase t b Free) (peer_of (phase_of t b)) Free) 0))

-- grant a: asking, and the lock is free. It is granted, and the lock is held for a.
unfoldable pub grant_rule : State → AgentNo → Reply
grant_rule t a =
    unless (is_agent t a) NoAgent t
    (unless (is_asking (phase_of t a)) OutOfTurn t
    (unless (is_unheld (lock_of t)) LockHeld t
    (done (with_lock (to_phase t a (Granted (target_of (phase_of t a)))) (ForMove a)) 0)))

-- leap a: granted. Its site becomes the target, and it is landed.
unfoldable pub leap_rule : State → AgentNo → Reply
leap_rule t a =
    unless (is_agent t a) NoAgent t
    (unless (is_granted (phase_of t a)) OutOfTurn t
    (done (with_agent t a (moved_to (with_phase (agent_at t a) Landed) (target_of (phase_of t a)))) 0))

-- book a: landed. Its map entry becomes its site, the lock is free, and it is booked.
unfoldable pub book_rule : State → AgentNo → Reply
book_rule t a =
    unless (is_agent t a) NoAgent t
    (unless (is_landed (phase_of t a)) OutOfTurn t
    (done (with_lock (with_agent t a (mapped_here (with_phase (agent_at t a) Booked))) Unheld) 0))

-- settle a: booked. It is free.
unfoldable pub settle_rule : State → AgentNo → Reply
settle_rule t a =
    unless (is_agent t a) NoAgent t
    (unless (is_booked (phase_of t a)) OutOfTurn t
    (done (to_phase t a Free) 0))

-- forward m: queued, the lock is free, the addressee is mapped. It is out, to the mapped site, and the lock is held for m.
abbrev pub addressee_of : State → MailNo → AgentNo
addressee_of t m = (message_at t m).addressee

unfoldable pub forward_rule : State → MailNo → Reply
forward_rule t m =
    unless (is_message t m) NoMessage t
    (unless (is_queued (status_of t m)) OutOfTurn t
    (unless (is_unheld (lock_of t)) LockHeld t
    (unless (is_mapped (map_of t (addressee_of t m))) NotEnrolled t
    (done (with_lock (with_status t m (Out (map_site (map_of t (addressee_of t m))))) (ForMail m)) 0))))

-- hand m: out. Where the addressee stands at the site travelled to, m is handed and joins the log. Where it does not, m is lost, and
-- nothing else changes.
unfoldable pub hand_rule : State → MailNo → Reply
hand_rule t m =
    unless (is_message t m) NoMessage t
    (unless (is_out (status_of t m)) OutOfTurn t
    (cond (same_site (travels_to (status_of t m)) (site_of t (addressee_of t m)))
    (done (with_logged (with_status t m Handed) m) 0)
    (done (with_status t m Lost) 0)))

-- close m: handed. It is closed, and the lock is free.
unfoldable pub close_rule : State → MailNo → Reply
close_rule t m =
    unless (is_message t m) NoMessage t
    (unless (is_handed (status_of t m)) OutOfTurn t
    (done (with_lock (with_status t m Closed) Unheld) 0))

-- each step by its rule
unfoldable pub rule_of : State → Step → Reply
unfolding spawn_rule ask_rule send_rule enrol_rule greet_rule grant_rule leap_rule book_rule settle_rule forward_rule hand_rule close_rule
rule_of t (Spawn a) = spawn_rule t a
rule_of t (Ask a u) = ask_rule t a u
rule_of t (Send a n b v) = send_rule t a n b v
rule_of t (Enrol b) = enrol_rule t b
rule_of t (Greet b) = greet_rule t b
rule_of t (Grant a) = grant_rule t a
rule_of t (Leap a) = leap_rule t a
rule_of t (Book a) = book_rule t a
rule_of t (Settle a) = settle_rule t a
rule_of t (Forward m) = forward_rule t m
rule_of t (Hand m) = hand_rule t m
rule_of t (Close m) = close_rule t m

-- a table that is not sound refuses every step, before all else
unfoldable pub step_of : State → Step → Reply
unfolding sound_test rule_of
step_of t s = unless (sound_test t) BadState t (rule_of t s)
