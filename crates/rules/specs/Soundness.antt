-- When a table is sound: the clauses, in document 01's order. Assumes nothing.
use Rattle.std.specs.Prelude.{ℕ, suc, ◌≤◌, ◌<◌, ◌≡◌, ◌⊎◌, ◌↔◌, Some, None}
use Rattle.records.specs.declared.AgentNo.{AgentNo}
use Rattle.records.specs.declared.SiteNo.{SiteNo}
use Rattle.records.specs.declared.MailNo.{MailNo}
use Rattle.records.specs.declared.Phase.TheVariants.{Spawning, Born, Enrolled, Asking, Granted, Landed}
use Rattle.records.specs.declared.Status.TheVariants.{Out, Handed, Closed, Lost}
use Rattle.records.specs.declared.Lock.TheVariants.{ForMove, ForMail}
use Rattle.records.specs.Numbers.{agent_no, mail_no, same_agent, same_mail}
use Rattle.records.specs.Agents.{empty_agent}
use Rattle.records.specs.Messages.{empty_message, empty_entry}
use Rattle.records.specs.Places.{count_below}
use Rattle.rules.specs.declared.State.{State}
use Rattle.records.specs.Limits.{most_sites, most_agents, most_messages}
use Rattle.rules.specs.Holding.{IsAgent, IsSite, IsMessage, agent_at, site_of, phase_of, map_of, message_at, status_of, lock_of, log_at}

-- a's creation has come to the child c
abbrev pub Child : State → AgentNo → AgentNo → Type 0
Child t a c = (phase_of t c ≡ Born a) ⊎ (phase_of t c ≡ Enrolled a)

abbrev pub Moving : State → AgentNo → Type 0
Moving t a = ((u : SiteNo) × (phase_of t a ≡ Granted u)) ⊎ (phase_of t a ≡ Landed)

abbrev pub UnderWay : State → MailNo → Type 0
UnderWay t m = ((s : SiteNo) × (status_of t m ≡ Out s)) ⊎ (status_of t m ≡ Handed)

abbrev pub Delivered : State → MailNo → Type 0
Delivered t m = (status_of t m ≡ Handed) ⊎ (status_of t m ≡ Closed)

-- how many messages of a sender were taken before m, and how often the log holds m
abbrev pub sent_before : State → AgentNo → MailNo → ℕ
sent_before t a m = count_below m.0 (λ i. same_agent (message_at t (mail_no i)).sender a)

abbrev pub times_logged : State → MailNo → ℕ
times_logged t m = count_below t.handed (λ i. same_mail (log_at t i) m)

-- the counts are in their ranges
pub record CountsInRange (t : State) : Type 0 where
  pub some_site : 1 ≤ t.sites
  pub sites_fit : t.sites ≤ most_sites
  pub some_agent : 1 ≤ t.agents
  pub agents_fit : t.agents ≤ most_agents
  pub messages_fit : t.messages ≤ most_messages
  pub log_fits : t.handed ≤ most_messages

-- all room past the counts holds the empty filling
pub record RoomEmpty (t : State) : Type 0 where
  pub agents : (i : ℕ) → t.agents ≤ i → agent_at t (agent_no i) ≡ empty_agent
  pub messages : (i : ℕ) → t.messages ≤ i → message_at t (mail_no i) ≡ empty_message
  pub log : (i : ℕ) → t.handed ≤ i → log_at t i ≡ empty_entry

-- every site named is below the number of sites: an agent's own, its target, its map entry, and a message's on its way
pub record SitesThere (t : State) : Type 0 where
  pub own : (a : AgentNo) → IsAgent t a → IsSite t (site_of t a)
  pub asked : (a : AgentNo) → IsAgent t a → (u : SiteNo) → phase_of t a ≡ Asking u → IsSite t u
  pub granted : (a : AgentNo) → IsAgent t a → (u : SiteNo) → phase_of t a ≡ Granted u → IsSite t u
  pub mapped : (a : AgentNo) → IsAgent t a → (s : SiteNo) → map_of t a ≡ Some s → IsSite t s
  pub out : (m : MailNo) → IsMessage t m → (s : SiteNo) → status_of t m ≡ Out s → IsSite t s

-- each spawning agent and its born or enrolled child name each other, both ways, and share a site
pub record FamiliesMatch (t : State) : Type 0 where
  pub child : (a c : AgentNo) → IsAgent t a → phase_of t a ≡ Spawning c → IsAgent t c × Child t a c × (site_of t c ≡ site_of t a)
  pub parent : (a c : AgentNo) → IsAgent t c → Child t a c → IsAgent t a × (phase_of t a ≡ Spawning c) × (site_of t a ≡ site_of t c)

-- exactly the born agents have no map entry
abbrev pub BornUnmapped : State → Type 0
BornUnmapped t = (a : AgentNo) → IsAgent t a → (map_of t a ≡ None) ↔ ((p : AgentNo) × (phase_of t a ≡ Born p))

-- the map equals the site for every other agent that isn't landed
abbrev pub MapRight : State → Type 0
MapRight t =
    (a : AgentNo)
    → IsAgent t a
    → ((p : AgentNo) → phase_of t a ≡ Born p → ⊥)
    → (phase_of t a ≡ Landed → ⊥)
    → map_of t a ≡ Some (site_of t a)

-- the lock is held for an agent exactly when it is there and granted or landed, for a message exactly when it is there and out or
-- handed; so it is free where there is none of these
pub record LockRight (t : State) : Type 0 where
  pub move : (a : AgentNo) → (lock_of t ≡ ForMove a) ↔ (IsAgent t a × Moving t a)
  pub mail : (m : MailNo) → (lock_of t ≡ ForMail m) ↔ (IsMessage t m × UnderWay t m)

-- an out message's site is its addressee's
abbrev pub OutToAddressee : State → Type 0
OutToAddressee t =
    (m : MailNo) → IsMessage t m → (s : SiteNo) → status_of t m ≡ Out s → s ≡ site_of t (message_at t m).addressee

-- no message is lost
abbrev pub NoneLost : State → Type 0
NoneLost t = (m : MailNo) → IsMessage t m → status_of t m ≡ Lost → ⊥

-- sender and addressee exist, and no sender is born or enrolled
pub record PartiesThere (t : State) : Type 0 where
  pub sender : (m : MailNo) → IsMessage t m → IsAgent t (message_at t m).sender
  pub addressee : (m : MailNo) → IsMessage t m → IsAgent t (message_at t m).addressee
  pub sender_up : (m : MailNo) → IsMessage t m → (p : AgentNo) → Child t p (message_at t m).sender → ⊥

-- each sender's numbers run 1, 2, 3 .. in order of taking
abbrev pub NumbersRun : State → Type 0
NumbersRun t = (m : MailNo) → IsMessage t m → (message_at t m).number ≡ suc (sent_before t (message_at t m).sender m)

-- the log holds each handed or closed message once and nothing more
pub record LogExact (t : State) : Type 0 where
  pub once : (m : MailNo) → IsMessage t m → Delivered t m → times_logged t m ≡ 1
  pub only : (i : ℕ) → i < t.handed → IsMessage t (log_at t i) × Delivered t (log_at t i)

pub record Sound (t : State) : Type 0 where
  pub counts : CountsInRange t
  pub room : RoomEmpty t
  pub sites : SitesThere t
  pub families : FamiliesMatch t
  pub born : BornUnmapped t
  pub map : MapRight t
  pub lock : LockRight t
  pub out : OutToAddressee t
  pub lost : NoneLost t
  pub parties : PartiesThere t
  pub numbers : NumbersRun t
  pub log : LogExact t
