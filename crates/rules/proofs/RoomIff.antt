-- The room's test and the clause that it stands for.
use Rattle.std.proofs.Common.{ℕ, ◌≤◌, ◌≡◌, refl, ap, Bool, true, eqb, eqb-true}
use Rattle.records.specs.declared.AgentNo.{AgentNo}
use Rattle.records.specs.declared.MailNo.{MailNo}
use Rattle.records.specs.declared.Message.{Message}
use Rattle.records.specs.declared.Status.TheVariants.{Queued}
use Rattle.records.specs.Numbers.{agent_no, mail_no}
use Rattle.records.specs.Agents.{empty_agent, is_empty_agent}
use Rattle.records.specs.Messages.{is_queued, empty_message, empty_entry}
use Rattle.records.proofs.PlaceLaws.{room-each, each-room}
use Rattle.records.proofs.ReaderLaws.{empty-agent-is, status-is}
use Rattle.rules.specs.Tests.{agent_room, party_room, number_room, status_room, log_room}
use Rattle.rules.specs.declared.State.{State}
use Rattle.rules.specs.Holding.{agent_at, message_at, log_at}
use Rattle.rules.specs.Soundness.{RoomEmpty}

-- the tests of the empty filling
abbrev no_party : AgentNo → Bool
no_party a = eqb a.0 0

abbrev no_number : ℕ → Bool
no_number x = eqb x 0

abbrev no_entry : MailNo → Bool
no_entry m = eqb m.0 0

module _ (t : State) where
  -- the tests of the room past each list
  pub record RoomTests : Type 0 where
    pub agents : agent_room t.agents t.agent ≡ true
    pub senders : party_room t.messages t.sender ≡ true
    pub numbers : number_room t.messages t.number ≡ true
    pub addressees : party_room t.messages t.addressee ≡ true
    pub values : number_room t.messages t.value ≡ true
    pub statuses : status_room t.messages t.status ≡ true
    pub entries : log_room t.handed t.log ≡ true

  message-empty :
      party_room t.messages t.sender ≡ true
      → number_room t.messages t.number ≡ true
      → party_room t.messages t.addressee ≡ true
      → number_room t.messages t.value ≡ true
      → status_room t.messages t.status ≡ true
      → (i : ℕ)
      → t.messages ≤ i
      → message_at t (mail_no i) ≡ empty_message
  unfolding party_room number_room status_room
  message-empty hs hn ha hv hu i le =
      λ k.
      record {
        sender = agent_no (eqb-true (message_at t (mail_no i)).sender.0 0 (room-each no_party (agent_no 0) refl t.sender t.messages hs i le) k);
        number = eqb-true (message_at t (mail_no i)).number 0 (room-each no_number 0 refl t.number t.messages hn i le) k;
        addressee = agent_no (eqb-true (message_at t (mail_no i)).addressee.0 0 (room-each no_party (agent_no 0) refl t.addressee t.messages ha i le) k);
        value = eqb-true (message_at t (mail_no i)).value 0 (room-each no_number 0 refl t.value t.messages hv i le) k;
        status = status-is 0 (message_at t (mail_no i)).status (room-each is_queued Queued refl t.status t.messages hu i le) k;
      }

  pub room-from : RoomTests → RoomEmpty t
  unfolding agent_room log_room
  room-from h =
      record {
        agents = λ i le. empty-agent-is (agent_at t (agent_no i)) (room-each is_empty_agent empty_agent refl t.agent t.agents h.agents i le);
        messages = message-empty h.senders h.numbers h.addressees h.values h.statuses;
        log = λ i le. ap mail_no (eqb-true (log_at t i).0 0 (room-each no_entry empty_entry refl t.log t.handed h.entries i le));
      }

  pub room-to : RoomEmpty t → RoomTests
  unfolding agent_room party_room number_room status_room log_room
  room-to r =
      record {
        agents = each-room is_empty_agent empty_agent refl t.agent t.agents (λ i le. ap is_empty_agent (r.agents i le));
        senders = each-room no_party (agent_no 0) refl t.sender t.messages (λ i le. ap (λ (x : Message). no_party x.sender) (r.messages i le));
        numbers = each-room no_number 0 refl t.number t.messages (λ i le. ap (λ (x : Message). no_number x.number) (r.messages i le));
        addressees = each-room no_party (agent_no 0) refl t.addressee t.messages (λ i le. ap (λ (x : Message). no_party x.addressee) (r.messages i le));
        values = each-room no_number 0 refl t.value t.messages (λ i le. ap (λ (x : Message). no_number x.value) (r.messages i le));
        statuses = each-room is_queued Queued refl t.status t.messages (λ i le. ap (λ (x : Message). is_queued x.status) (r.messages i le));
        entries = each-room no_entry empty_entry refl t.log t.handed (λ i le. ap no_entry (r.log i le));
      }
