-- The operations of a sequence that runs from a table t and leaves the marks ms: how they are told apart, and at which places each
-- begins, has its effect and is over. Those that t finds under way began before the first place. Assumes nothing.
use Rattle.std.specs.Prelude.{ℕ, suc, ◌≡◌, ◌⊎◌, List, take}
use Rattle.records.specs.declared.AgentNo.{AgentNo}
use Rattle.records.specs.declared.SiteNo.{SiteNo}
use Rattle.records.specs.declared.MailNo.{MailNo}
use Rattle.records.specs.declared.Item.{Item}
use Rattle.records.specs.declared.Phase.TheVariants.{Asking, Granted}
use Rattle.records.specs.Messages.{item_of}
use Rattle.rules.specs.declared.State.{State}
use Rattle.rules.specs.Holding.{IsMessage, phase_of, message_at}
use Rattle.rules.specs.Steps.{addressee_of}
use Rattle.order.specs.Marks.{Mark, creates, greets, asks, leaves, settles, takes, hands, closes, At, moves_begun}

pub data Operation : Type 0 where
  -- parent, child
  creation : AgentNo → AgentNo → Operation
  -- agent, which of its moves (from 0), target
  move : AgentNo → ℕ → SiteNo → Operation
  -- addressee, and what is read of it: sender, sender's number, value
  message : AgentNo → Item → Operation

-- A creation is told apart by its child, a move by its agent and which of its moves it is, a message by its sender and sender's number.
pub data Name : Type 0 where
  child : AgentNo → Name
  turn : AgentNo → ℕ → Name
  letter : AgentNo → ℕ → Name

abbrev pub name_of : Operation → Name
name_of (creation p c) = child c
name_of (move a k u) = turn a k
name_of (message b x) = letter x.sender x.number

-- at place i the agent asks for its k-th move, to u
abbrev pub AsksAt : State → List Mark → AgentNo → ℕ → SiteNo → ℕ → Type 0
AsksAt t ms a k u i = At ms i (asks a u) × (moves_begun t (take i ms) a ≡ k)

-- the agent's k-th move is to u: the first table finds it asking or granted, or it asks at some place
abbrev pub Targets : State → List Mark → AgentNo → ℕ → SiteNo → Type 0
Targets t ms a k u =
    ((k ≡ 0) × ((phase_of t a ≡ Asking u) ⊎ (phase_of t a ≡ Granted u))) ⊎ ((i : ℕ) × AsksAt t ms a k u i)

-- the message that is m on the table goes to b and is read as x: the first table has it, or it is taken at some place
abbrev pub Taken : State → List Mark → MailNo → AgentNo → Item → Type 0
Taken t ms m b x =
    (IsMessage t m × (addressee_of t m ≡ b) × (item_of (message_at t m) ≡ x)) ⊎ ((i : ℕ) × At ms i (takes m b x))

abbrev pub BeginsAt : State → List Mark → Operation → ℕ → Type 0
BeginsAt t ms (creation p c) i = At ms i (creates p c)
BeginsAt t ms (move a k u) i = AsksAt t ms a k u i
BeginsAt t ms (message b x) i = (m : MailNo) × At ms i (takes m b x)

-- What an agent leaves for or settles from is the last move that it began.
abbrev pub EffectAt : State → List Mark → Operation → ℕ → Type 0
EffectAt t ms (creation p c) i = At ms i (creates p c)
EffectAt t ms (move a k u) i = Targets t ms a k u × At ms i (leaves a) × (moves_begun t (take i ms) a ≡ suc k)
EffectAt t ms (message b x) i = (m : MailNo) × Taken t ms m b x × At ms i (hands m)

abbrev pub OverAt : State → List Mark → Operation → ℕ → Type 0
OverAt t ms (creation p c) i = At ms i (greets c)
OverAt t ms (move a k u) i = At ms i (settles a) × (moves_begun t (take i ms) a ≡ suc k)
OverAt t ms (message b x) i = (m : MailNo) × Taken t ms m b x × At ms i (closes m)
