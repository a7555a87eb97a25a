-- What the marks of a sequence say of the table that it has come to.
use Rattle.std.proofs.Common.{ℕ, suc, ◌<◌, ◌≡◌, ◌⊎◌, true, List, take}
use Rattle.records.specs.declared.AgentNo.{AgentNo}
use Rattle.records.specs.declared.SiteNo.{SiteNo}
use Rattle.records.specs.declared.MailNo.{MailNo}
use Rattle.records.specs.declared.Item.{Item}
use Rattle.records.specs.declared.Phase.{Phase}
use Rattle.records.specs.declared.Phase.TheVariants.{Asking, Granted}
use Rattle.records.specs.declared.Status.TheVariants.{Closed}
use Rattle.records.specs.Messages.{item_of, is_delivered}
use Rattle.rules.specs.declared.State.{State}
use Rattle.rules.specs.Holding.{IsMessage, phase_of, message_at, status_of}
use Rattle.rules.specs.Steps.{addressee_of}
use Rattle.order.specs.Marks.{Mark, creates, greets, leaves, settles, takes, hands, closes, At, in_move, moves_begun}
use Rattle.order.specs.Operations.{Targets, Taken}

-- children that were created or greeted are there
pub record CreationLinks (ms : List Mark) (t : State) : Type 0 where
  pub created : (i : ℕ) (p c : AgentNo) → At ms i (creates p c) → c.0 < t.agents
  pub greeted : (i : ℕ) (c : AgentNo) → At ms i (greets c) → c.0 < t.agents

-- asking or granted, for u
abbrev pub PendingTo : Phase → SiteNo → Type 0
PendingTo p u = (p ≡ Asking u) ⊎ (p ≡ Granted u)

-- Of an agent that is asking or granted the last move is to its target, and it has not left since it asked; one that is in a move has
-- not settled since it asked.
pub record MoveLink (first : State) (ms : List Mark) (a : AgentNo) (p : Phase) : Type 0 where
  pub pending :
      (u : SiteNo)
      → PendingTo p u
      → (k : ℕ)
      × (moves_begun first ms a ≡ suc k)
      × Targets first ms a k u
      × ((v : SiteNo) → Targets first ms a k v → v ≡ u)
  pub unleft :
      (u : SiteNo)
      → PendingTo p u
      → (i : ℕ)
      → At ms i (leaves a)
      → moves_begun first (take i ms) a < moves_begun first ms a
  pub unsettled :
      in_move p ≡ true
      → (i : ℕ)
      → At ms i (settles a)
      → moves_begun first (take i ms) a < moves_begun first ms a

abbrev pub MoveLinks : State → List Mark → State → Type 0
MoveLinks first ms t = (a : AgentNo) → MoveLink first ms a (phase_of t a)

-- The table's messages are those taken; those handed over stand in an inbox, those closed are closed.
pub record MailLinks (first : State) (ms : List Mark) (t : State) : Type 0 where
  pub taken : (m : MailNo) → IsMessage t m → Taken first ms m (addressee_of t m) (item_of (message_at t m))
  pub known :
      (m : MailNo) (b : AgentNo) (x : Item)
      → Taken first ms m b x
      → IsMessage t m × (addressee_of t m ≡ b) × (item_of (message_at t m) ≡ x)
  pub handed : (i : ℕ) (m : MailNo) → At ms i (hands m) → IsMessage t m × (is_delivered (status_of t m) ≡ true)
  pub closed : (i : ℕ) (m : MailNo) → At ms i (closes m) → IsMessage t m × (status_of t m ≡ Closed)

-- what a new mark must be for the table it is made on: a new child is the next agent, a new message is none that is there
pub record New (t : State) (x : Mark) : Type 0 where
  pub create : (p c : AgentNo) → x ≡ creates p c → c.0 ≡ t.agents
  pub take : (m : MailNo) (b : AgentNo) (y : Item) → x ≡ takes m b y → (k : MailNo) → IsMessage t k → (k ≡ m → ⊥) × (item_of (message_at t k) ≡ y → ⊥)
