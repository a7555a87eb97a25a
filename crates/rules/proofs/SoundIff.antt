-- The soundness test passes exactly where the table is sound.
use Rattle.std.proofs.Common.{ℕ, lt_of_lt_of_le, ◌≡◌, refl, sym, subst, ◌↔◌, Bool, true, ltb-true, lt-ltb, arith}
use Rattle.std.proofs.lemmas.Bool.{and_from}
use Rattle.records.specs.declared.AgentNo.{AgentNo}
use Rattle.records.specs.declared.SiteNo.{SiteNo}
use Rattle.records.specs.declared.MailNo.{MailNo}
use Rattle.records.specs.declared.Lock.{Lock}
use Rattle.records.specs.declared.Lock.TheVariants.{Unheld, ForMove, ForMail}
use Rattle.records.specs.Numbers.{agent_no, mail_no}
use Rattle.records.specs.Places.{all_below}
use Rattle.records.proofs.PlaceLaws.{below_each, each_below}
use Rattle.rules.specs.Tests.{agent_fine, lock_there, message_fine, each_fine, numbers_run, log_runs, book_fine, parts_sound, no_counts, no_marks}
use Rattle.rules.specs.declared.State.{State}
use Rattle.rules.specs.Holding.{IsAgent, IsSite, IsMessage, message_at, lock_of}
use Rattle.rules.specs.Soundness.{CountsInRange, Sound}
use Rattle.rules.specs.SoundTest.{sound_test}
use Rattle.rules.proofs.CountsIff.{counts-from, counts-to}
use Rattle.rules.proofs.RoomIff.{RoomTests, room-from, room-to}
use Rattle.rules.proofs.AgentIff.{AgentRight, agent-from, agent-to}
use Rattle.rules.proofs.MessageIff.{MessageRight, message-from, message-to}
use Rattle.rules.proofs.BookIff.{numbers-from, numbers-to, log-from, log-to}

module _ (t : State) where
  abbrev agent_test : ℕ → Bool
  agent_test = agent_fine t.sites t.agents (lock_of t) t.agent

  abbrev message_test : ℕ → Bool
  message_test = message_fine t.agents (lock_of t) t.agent t.sender t.addressee t.status

  -- a sound table, from what the parts of the test say
  gathered :
      CountsInRange t
      → RoomTests t
      → ((a : AgentNo) → IsAgent t a → AgentRight t a)
      → lock_there t.agents t.messages (lock_of t) ≡ true
      → ((m : MailNo) → IsMessage t m → MessageRight t m)
      → numbers_run t.sender t.number t.messages 0 no_counts ≡ true
      → log_runs t.messages t.status t.log t.handed 0 no_marks ≡ true
      → Sound t
  gathered counts room agent there message numbers log =
      record {
        counts = counts;
        room = room-from t room;
        sites =
            record {
              own = λ a lt. (agent a lt).own;
              asked = λ a lt. (agent a lt).asked;
              granted = λ a lt. (agent a lt).granted;
              mapped = λ a lt. (agent a lt).mapped;
              out =
                  λ m lt s e.
                  subst
                  (λ (x : SiteNo). IsSite t x)
                  (sym ((message m lt).out s e))
                  (agent (message_at t m).addressee (message m lt).addressee).own;
            };
        families =
            record {
              child = λ a c lt. (agent a lt).child c;
              parent = λ a c lt. (agent c lt).parent a;
            };
        born = λ a lt. (agent a lt).born;
        map = λ a lt. (agent a lt).map;
        lock =
            record {
              move =
                  λ a.
                  (λ e. (moves a e, (agent a (moves a e)).lock.0 e), λ x. (agent a x.0).lock.1 x.1);
              mail =
                  λ m.
                  (λ e. (mails m e, (message m (mails m e)).lock.0 e), λ x. (message m x.0).lock.1 x.1);
            };
        out = λ m lt. (message m lt).out;
        lost = λ m lt. (message m lt).lost;
        parties =
            record {
              sender = λ m lt. (message m lt).sender;
              addressee = λ m lt. (message m lt).addressee;
              sender_up = λ m lt. (message m lt).sender_up;
            };
        numbers = numbers-from t (λ m lt. lt_of_lt_of_le (message m lt).sender counts.agents_fit) numbers;
        log = log-from t counts.messages_fit log;
      }
    where
      moves : (a : AgentNo) → lock_of t ≡ ForMove a → IsAgent t a
      moves a e =
          ltb-true a.0 t.agents (subst (λ (l : Lock). lock_there t.agents t.messages l ≡ true) e there)

      mails : (m : MailNo) → lock_of t ≡ ForMail m → IsMessage t m
      mails m e =
          ltb-true m.0 t.messages (subst (λ (l : Lock). lock_there t.agents t.messages l ≡ true) e there)

  pub sound-from : sound_test t ≡ true → Sound t
  unfolding sound_test parts_sound each_fine book_fine
  sound-from h =
      gathered
      (counts-from t (grind arith))
      (record {
        agents = grind arith;
        senders = grind arith;
        numbers = grind arith;
        addressees = grind arith;
        values = grind arith;
        statuses = grind arith;
        entries = grind arith;
      })
      (λ a lt. agent-from t a (below_each t.agents agent_test agents a.0 lt))
      (grind arith)
      (λ m lt. message-from t m (below_each t.messages message_test messages m.0 lt))
      (grind arith)
      (grind arith)
    where
      agents : all_below t.agents agent_test ≡ true
      agents = grind arith

      messages : all_below t.messages message_test ≡ true
      messages = grind arith

  lock-there : Sound t → (l : Lock) → lock_of t ≡ l → lock_there t.agents t.messages l ≡ true
  lock-there s Unheld e = refl
  lock-there s (ForMove a) e = lt-ltb a.0 t.agents ((s.lock.move a).0 e).0
  lock-there s (ForMail m) e = lt-ltb m.0 t.messages ((s.lock.mail m).0 e).0

  agent-right : Sound t → (a : AgentNo) → IsAgent t a → AgentRight t a
  agent-right s a lt =
      record {
        own = s.sites.own a lt;
        asked = s.sites.asked a lt;
        granted = s.sites.granted a lt;
        mapped = s.sites.mapped a lt;
        child = λ c. s.families.child a c lt;
        parent = λ p. s.families.parent p a lt;
        born = s.born a lt;
        map = s.map a lt;
        lock = (λ e. ((s.lock.move a).0 e).1, λ m. (s.lock.move a).1 (lt, m));
      }

  message-right : Sound t → (m : MailNo) → IsMessage t m → MessageRight t m
  message-right s m lt =
      record {
        sender = s.parties.sender m lt;
        addressee = s.parties.addressee m lt;
        sender_up = s.parties.sender_up m lt;
        out = s.out m lt;
        lost = s.lost m lt;
        lock = (λ e. ((s.lock.mail m).0 e).1, λ u. (s.lock.mail m).1 (lt, u));
      }

  pub sound-to : Sound t → sound_test t ≡ true
  unfolding sound_test parts_sound each_fine book_fine
  sound-to s =
      and_from _ _
      (counts-to t s.counts)
      (and_from _ _
      (and_from _ _
      (and_from _ _
      (each_below t.agents agent_test (λ i lt. agent-to t (agent_no i) (agent-right s (agent_no i) lt)))
      room.agents)
      (and_from _ _
      (lock-there s (lock_of t) refl)
      (and_from _ _
      (each_below t.messages message_test (λ i lt. message-to t (mail_no i) (message-right s (mail_no i) lt)))
      (and_from _ _ room.senders room.addressees))))
      (and_from _ _
      room.values
      (and_from _ _
      (and_from _ _
      (numbers-to t (λ m lt. lt_of_lt_of_le (s.parties.sender m lt) s.counts.agents_fit) s.numbers)
      room.numbers)
      (and_from _ _ (log-to t s.counts.messages_fit s.log) (and_from _ _ room.statuses room.entries)))))
    where
      room : RoomTests t
      room = room-to t s.room

  pub sound-iff : (sound_test t ≡ true) ↔ Sound t
  sound-iff = (sound-from, sound-to)
