-- What the table holds, how it is read, and the one place for each kind of change to it. Assumes nothing.
use Rattle.std.specs.Prelude.{ℕ, suc, ◌<◌, ◌≡◌, Bool, cond, List, [], ◌∷◌, length, set, take, replicate, ltb, Option}
use Rattle.records.specs.declared.AgentNo.{AgentNo}
use Rattle.records.specs.declared.SiteNo.{SiteNo}
use Rattle.records.specs.declared.MailNo.{MailNo}
use Rattle.records.specs.declared.Agent.{Agent}
use Rattle.records.specs.declared.Phase.{Phase}
use Rattle.records.specs.declared.Message.{Message}
use Rattle.records.specs.declared.Status.{Status}
use Rattle.records.specs.declared.Status.TheVariants.{Queued}
use Rattle.records.specs.declared.Item.{Item}
use Rattle.records.specs.declared.Lock.{Lock}
use Rattle.records.specs.declared.Lock.TheVariants.{Unheld}
use Rattle.records.specs.Limits.{most_agents, most_messages}
use Rattle.records.specs.Numbers.{agent_no, mail_no, same_agent}
use Rattle.records.specs.Agents.{empty_agent}
use Rattle.records.specs.Messages.{empty_entry, item_of}
use Rattle.rules.specs.Tests.{agent_in, message_in, entry_in}
use Rattle.rules.specs.declared.State.{State}

-- what every table of the program has, and a list of antt need not: arrays of these lengths
pub record Shaped (t : State) : Type 0 where
  pub agent : length t.agent ≡ most_agents
  pub sender : length t.sender ≡ most_messages
  pub number : length t.number ≡ most_messages
  pub addressee : length t.addressee ≡ most_messages
  pub value : length t.value ≡ most_messages
  pub status : length t.status ≡ most_messages
  pub log : length t.log ≡ most_messages

-- an agent, a site or a message is there where its number is below the count
abbrev pub IsAgent : State → AgentNo → Type 0
IsAgent t a = a.0 < t.agents

abbrev pub IsSite : State → SiteNo → Type 0
IsSite t s = s.0 < t.sites

abbrev pub IsMessage : State → MailNo → Type 0
IsMessage t m = m.0 < t.messages

abbrev pub is_agent : State → AgentNo → Bool
is_agent t a = ltb a.0 t.agents

abbrev pub is_site : State → SiteNo → Bool
is_site t s = ltb s.0 t.sites

abbrev pub is_message : State → MailNo → Bool
is_message t m = ltb m.0 t.messages

-- each agent: its site, its phase, the server's map entry for it
abbrev pub agent_at : State → AgentNo → Agent
agent_at t a = agent_in t.agent a

abbrev pub site_of : State → AgentNo → SiteNo
site_of t a = (agent_at t a).site

abbrev pub phase_of : State → AgentNo → Phase
phase_of t a = (agent_at t a).phase

abbrev pub map_of : State → AgentNo → Option SiteNo
map_of t a = (agent_at t a).map

-- each message: sender, sender's number, addressee, value, status
abbrev pub message_at : State → MailNo → Message
message_at t m = message_in t.sender t.number t.addressee t.value t.status m

abbrev pub status_of : State → MailNo → Status
status_of t m = (message_at t m).status

abbrev pub lock_of : State → Lock
lock_of t = t.lock

-- the log: message numbers in order of handing
abbrev pub log_at : State → ℕ → MailNo
log_at t i = entry_in t.log i

abbrev pub log_of : State → List MailNo
log_of t = take t.handed t.log

-- an agent's inbox: the log's messages addressed to it, in that order
unfoldable pub inbox_from : State → AgentNo → List MailNo → List Item
inbox_from t a [] = []
inbox_from t a (m ∷ ms) =
    cond (same_agent (message_at t m).addressee a) (item_of (message_at t m) ∷ inbox_from t a ms) (inbox_from t a ms)

unfoldable pub inbox_of : State → AgentNo → List Item
unfolding inbox_from
inbox_of t a = inbox_from t a (log_of t)

-- the table that stands where an answer has none: every count 0, the lock free, all room empty
abbrev pub no_state : State
no_state =
    record {
      sites = 0;
      agents = 0;
      messages = 0;
      handed = 0;
      lock = Unheld;
      agent = replicate most_agents empty_agent;
      sender = replicate most_messages (agent_no 0);
      number = replicate most_messages 0;
      addressee = replicate most_messages (agent_no 0);
      value = replicate most_messages 0;
      status = replicate most_messages Queued;
      log = replicate most_messages empty_entry;
    }

-- What a step changes it makes anew in one of four ways, and whatever that way does not name is as it was.
-- The same table with other agents, and so many of them.
abbrev pub with_agents : State → ℕ → List Agent → State
with_agents t count agent =
    record {
      sites = t.sites;
      agents = count;
      messages = t.messages;
      handed = t.handed;
      lock = t.lock;
      agent = agent;
      sender = t.sender;
      number = t.number;
      addressee = t.addressee;
      value = t.value;
      status = t.status;
      log = t.log;
    }

-- the same table with the lock in another state
abbrev pub with_lock : State → Lock → State
with_lock t l =
    record {
      sites = t.sites;
      agents = t.agents;
      messages = t.messages;
      handed = t.handed;
      lock = l;
      agent = t.agent;
      sender = t.sender;
      number = t.number;
      addressee = t.addressee;
      value = t.value;
      status = t.status;
      log = t.log;
    }

-- the same table with other messages, and so many of them
abbrev pub with_messages : State → ℕ → List AgentNo → List ℕ → List AgentNo → List ℕ → List Status → State
with_messages t count sender number addressee value status =
    record {
      sites = t.sites;
      agents = t.agents;
      messages = count;
      handed = t.handed;
      lock = t.lock;
      agent = t.agent;
      sender = sender;
      number = number;
      addressee = addressee;
      value = value;
      status = status;
      log = t.log;
    }

-- the same table with another log of this length
abbrev pub with_log : State → ℕ → List MailNo → State
with_log t count log =
    record {
      sites = t.sites;
      agents = t.agents;
      messages = t.messages;
      handed = count;
      lock = t.lock;
      agent = t.agent;
      sender = t.sender;
      number = t.number;
      addressee = t.addressee;
      value = t.value;
      status = t.status;
      log = log;
    }

-- the same table with another record for one agent
abbrev pub with_agent : State → AgentNo → Agent → State
with_agent t a x = with_agents t t.agents (set t.agent a.0 x)

-- the number of the next agent, and the same table with a record for it
abbrev pub next_agent : State → AgentNo
next_agent t = agent_no t.agents

abbrev pub with_new_agent : State → Agent → State
with_new_agent t x = with_agents t (suc t.agents) (set t.agent t.agents x)

-- the same table with other statuses, and with another status for one message
abbrev pub with_statuses : State → List Status → State
with_statuses t status = with_messages t t.messages t.sender t.number t.addressee t.value status

abbrev pub with_status : State → MailNo → Status → State
with_status t m s = with_statuses t (set t.status m.0 s)

-- the number of the next message, and the same table with that message
abbrev pub next_message : State → MailNo
next_message t = mail_no t.messages

abbrev pub with_new_message : State → Message → State
with_new_message t x =
    with_messages t
    (suc t.messages)
    (set t.sender t.messages x.sender)
    (set t.number t.messages x.number)
    (set t.addressee t.messages x.addressee)
    (set t.value t.messages x.value)
    (set t.status t.messages x.status)

-- the same table with one more message in the log
abbrev pub with_logged : State → MailNo → State
with_logged t m = with_log t (suc t.handed) (set t.log t.handed m)
