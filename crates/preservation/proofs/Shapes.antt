-- The arrays keep their lengths: one law for each of the four ways in which a table is made anew.
use Rattle.std.proofs.Common.{ℕ, ◌≡◌, ◌∙◌, List, length}
use Rattle.records.specs.declared.Lock.{Lock}
use Rattle.records.specs.declared.Status.{Status}
use Rattle.records.specs.declared.AgentNo.{AgentNo}
use Rattle.records.specs.declared.MailNo.{MailNo}
use Rattle.records.specs.declared.Agent.{Agent}
use Rattle.rules.specs.declared.State.{State}
use Rattle.rules.specs.Holding.{Shaped, with_agents, with_lock, with_messages, with_log}

module _ (t : State) (s : Shaped t) where
  pub shaped-agents : (n : ℕ) (agent : List Agent) → length agent ≡ length t.agent → Shaped (with_agents t n agent)
  shaped-agents n agent e =
      record {
        agent = e ∙ s.agent;
        sender = s.sender;
        number = s.number;
        addressee = s.addressee;
        value = s.value;
        status = s.status;
        log = s.log;
      }

  pub shaped-lock : (h : Lock) → Shaped (with_lock t h)
  shaped-lock h =
      record {
        agent = s.agent;
        sender = s.sender;
        number = s.number;
        addressee = s.addressee;
        value = s.value;
        status = s.status;
        log = s.log;
      }

  pub shaped-messages :
      (n : ℕ) (sender : List AgentNo) (number : List ℕ) (addressee : List AgentNo) (value : List ℕ) (status : List Status)
      → length sender ≡ length t.sender
      → length number ≡ length t.number
      → length addressee ≡ length t.addressee
      → length value ≡ length t.value
      → length status ≡ length t.status
      → Shaped (with_messages t n sender number addressee value status)
  shaped-messages n sender number addressee value status e f h i j =
      record {
        agent = s.agent;
        sender = e ∙ s.sender;
        number = f ∙ s.number;
        addressee = h ∙ s.addressee;
        value = i ∙ s.value;
        status = j ∙ s.status;
        log = s.log;
      }

  pub shaped-log : (n : ℕ) (log : List MailNo) → length log ≡ length t.log → Shaped (with_log t n log)
  shaped-log n log e =
      record {
        agent = s.agent;
        sender = s.sender;
        number = s.number;
        addressee = s.addressee;
        value = s.value;
        status = s.status;
        log = e ∙ s.log;
      }
