-- What a table reads at a place after one change: at the place changed what was put there, and elsewhere what it read before.
use Rattle.std.proofs.Common.{ℕ, ◌<◌, ◌≡◌, ap, ◌∙◌, List, length, get_or, set, get_or-set_same, get_or-set_other, lt-length-set, arith}
use Rattle.std.proofs.Math.Decide.{ℕ_discrete}
use Rattle.records.specs.declared.AgentNo.{AgentNo}
use Rattle.records.specs.declared.MailNo.{MailNo}
use Rattle.records.specs.declared.Agent.{Agent}
use Rattle.records.specs.declared.Status.{Status}
use Rattle.records.specs.declared.Status.TheVariants.{Queued}
use Rattle.records.specs.declared.Message.{Message}
use Rattle.records.specs.Numbers.{agent_no, mail_no}
use Rattle.records.specs.Agents.{empty_agent}
use Rattle.records.specs.Messages.{empty_entry}
use Rattle.rules.specs.Tests.{agent_in}
use Rattle.rules.specs.declared.State.{State}
use Rattle.records.specs.Limits.{most_messages}
use Rattle.rules.specs.Holding.{Shaped, message_at, log_at, with_status, next_message, with_new_message, with_logged}

-- whether i is the place changed, and what is read at i now: y where it is, and what was read before where it is not
pub data Seen {K A : Type 0} (i place : K) (y before now : A) : Type 0 where
  changed : i ≡ place → now ≡ y → Seen i place y before now
  kept : (i ≡ place → ⊥) → now ≡ before → Seen i place y before now

-- one store into a list
seen-set : {A : Type 0} (l : List A) (p : ℕ) (y d : A) → p < length l → (i : ℕ) → Seen i p y (get_or l i d) (get_or (set l p y) i d)
seen-set l p y d h i = which (ℕ_discrete i p)
  where
    which : Dec (i ≡ p) → Seen i p y (get_or l i d) (get_or (set l p y) i d)
    which (yes e) = changed e (ap (λ (j : ℕ). get_or (set l p y) j d) e ∙ get_or-set_same l p y d h)
    which (no n) = kept n (get_or-set_other l p i y d n)

-- another record for one agent
pub seen-agent :
    (l : List Agent) (a : AgentNo) (y : Agent)
    → a.0 < length l
    → (b : AgentNo)
    → Seen b a y (agent_in l b) (agent_in (set l a.0 y) b)
seen-agent l a y h b = told (seen-set l a.0 y empty_agent h b.0)
  where
    told :
        Seen b.0 a.0 y (agent_in l b) (agent_in (set l a.0 y) b)
        → Seen b a y (agent_in l b) (agent_in (set l a.0 y) b)
    told (changed e r) = changed (ap agent_no e) r
    told (kept n r) = kept (λ e. n (ap (λ (c : AgentNo). c.0) e)) r

-- other records for two agents
pub data SeenTwo (c a b : AgentNo) (y z before now : Agent) : Type 0 where
  first : c ≡ a → now ≡ y → SeenTwo c a b y z before now
  second : c ≡ b → now ≡ z → SeenTwo c a b y z before now
  neither : (c ≡ a → ⊥) → (c ≡ b → ⊥) → now ≡ before → SeenTwo c a b y z before now

pub seen-two :
    (l : List Agent) (a b : AgentNo) (y z : Agent)
    → (a ≡ b → ⊥)
    → a.0 < length l
    → b.0 < length l
    → (c : AgentNo)
    → SeenTwo c a b y z (agent_in l c) (agent_in (set (set l a.0 y) b.0 z) c)
seen-two l a b y z n ha hb c =
    told (seen-agent l a y ha c) (seen-agent (set l a.0 y) b z (lt-length-set l a.0 y hb) c)
  where
    told :
        Seen c a y (agent_in l c) (agent_in (set l a.0 y) c)
        → Seen c b z (agent_in (set l a.0 y) c) (agent_in (set (set l a.0 y) b.0 z) c)
        → SeenTwo c a b y z (agent_in l c) (agent_in (set (set l a.0 y) b.0 z) c)
    told (changed e r) (changed f q) = second f q
    told (changed e r) (kept f q) = first e (q ∙ r)
    told (kept e r) (changed f q) = second f q
    told (kept e r) (kept f q) = neither e f (q ∙ r)

-- the same message with another status
abbrev pub in_status : Message → Status → Message
in_status x s =
    record { sender = x.sender; number = x.number; addressee = x.addressee; value = x.value; status = s }

-- another status for one message
pub seen-status :
    (t : State) (m : MailNo) (s : Status)
    → m.0 < length t.status
    → (k : MailNo)
    → Seen k m (in_status (message_at t m) s) (message_at t k) (message_at (with_status t m s) k)
seen-status t m s h k = told (seen-set t.status m.0 s Queued h k.0)
  where
    told :
        Seen k.0 m.0 s (get_or t.status k.0 Queued) (get_or (set t.status m.0 s) k.0 Queued)
        → Seen k m (in_status (message_at t m) s) (message_at t k) (message_at (with_status t m s) k)
    told (changed e r) = changed (ap mail_no e) (λ i. in_status (message_at t (mail_no (e i))) (r i))
    told (kept n r) = kept (λ e. n (ap (λ (c : MailNo). c.0) e)) (λ i. in_status (message_at t k) (r i))

-- a new message: its five fields at the end of the five lists
pub seen-message :
    (t : State) (x : Message)
    → Shaped t
    → t.messages < most_messages
    → (k : MailNo)
    → Seen k (next_message t) x (message_at t k) (message_at (with_new_message t x) k)
seen-message t x sh h k = which (ℕ_discrete k.0 t.messages)
  where
    fits : {A : Type 0} (l : List A) → length l ≡ most_messages → t.messages < length l
    fits l e = omega arith

    same : {A : Type 0} (l : List A) (y d : A) → length l ≡ most_messages → k.0 ≡ t.messages → get_or (set l t.messages y) k.0 d ≡ y
    same l y d e q = ap (λ (j : ℕ). get_or (set l t.messages y) j d) q ∙ get_or-set_same l t.messages y d (fits l e)

    which : Dec (k.0 ≡ t.messages) → Seen k (next_message t) x (message_at t k) (message_at (with_new_message t x) k)
    which (yes q) =
        changed
        (ap mail_no q)
        (λ i.
        record {
          sender = same t.sender x.sender (agent_no 0) sh.sender q i;
          number = same t.number x.number 0 sh.number q i;
          addressee = same t.addressee x.addressee (agent_no 0) sh.addressee q i;
          value = same t.value x.value 0 sh.value q i;
          status = same t.status x.status Queued sh.status q i;
        })
    which (no n) =
        kept
        (λ e. n (ap (λ (c : MailNo). c.0) e))
        (λ i.
        record {
          sender = get_or-set_other t.sender t.messages k.0 x.sender (agent_no 0) n i;
          number = get_or-set_other t.number t.messages k.0 x.number 0 n i;
          addressee = get_or-set_other t.addressee t.messages k.0 x.addressee (agent_no 0) n i;
          value = get_or-set_other t.value t.messages k.0 x.value 0 n i;
          status = get_or-set_other t.status t.messages k.0 x.status Queued n i;
        })

-- one more entry in the log
pub seen_entry :
    (t : State) (m : MailNo)
    → t.handed < length t.log
    → (i : ℕ)
    → Seen i t.handed m (log_at t i) (log_at (with_logged t m) i)
seen_entry t m h i = seen-set t.log t.handed m empty_entry h i
