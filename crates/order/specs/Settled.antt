-- What becomes of every message taken, and how far the map is right, after a sequence of steps. Assumes nothing.
use Rattle.std.specs.Prelude.{ℕ, ◌+◌, ◌≡◌, cond, ◌&&◌, ◌⊎◌, ◌↔◌, List, [], ◌∷◌, eqb, Some}
use Rattle.records.specs.declared.AgentNo.{AgentNo}
use Rattle.records.specs.declared.SiteNo.{SiteNo}
use Rattle.records.specs.declared.MailNo.{MailNo}
use Rattle.records.specs.declared.Item.{Item}
use Rattle.records.specs.declared.Phase.TheVariants.{Born, Landed}
use Rattle.records.specs.declared.Status.TheVariants.{Queued, Out}
use Rattle.records.specs.Numbers.{same_agent}
use Rattle.records.specs.Messages.{item_of}
use Rattle.rules.specs.declared.State.{State}
use Rattle.rules.specs.declared.Step.{Step}
use Rattle.rules.specs.Holding.{IsAgent, IsMessage, site_of, phase_of, map_of, message_at, status_of, inbox_of}
use Rattle.rules.specs.Soundness.{Delivered}
use Rattle.rules.specs.Steps.{addressee_of}
use Rattle.order.specs.Lists.{In}
use Rattle.order.specs.Marks.{marks_of, table_after}
use Rattle.order.specs.Operations.{Taken}

-- how many items of an inbox have this sender and sender's number
unfoldable pub times_in : Item → List Item → ℕ
times_in x [] = 0
times_in x (y ∷ ys) = cond (same_agent y.sender x.sender && eqb y.number x.number) 1 0 + times_in x ys

-- queued or out
abbrev pub Waiting : State → MailNo → Type 0
Waiting t m = (status_of t m ≡ Queued) ⊎ ((s : SiteNo) × (status_of t m ≡ Out s))

-- m is waiting and stands in no inbox
pub record NotYet (t : State) (m : MailNo) : Type 0 where
  pub waiting : Waiting t m
  pub nowhere : (a : AgentNo) → times_in (item_of (message_at t m)) (inbox_of t a) ≡ 0

-- m stands once in its addressee's inbox, and in no other
pub record InPlace (t : State) (m : MailNo) : Type 0 where
  pub delivered : Delivered t m
  pub there : In (item_of (message_at t m)) (inbox_of t (addressee_of t m))
  pub once : times_in (item_of (message_at t m)) (inbox_of t (addressee_of t m)) ≡ 1
  pub nowhere_else : (a : AgentNo) → (a ≡ addressee_of t m → ⊥) → times_in (item_of (message_at t m)) (inbox_of t a) ≡ 0

pub record MailSettled (t : State) (ss : List Step) : Type 0 where
  -- the messages of the table are those taken, as they were taken
  pub taken :
      (m : MailNo) (b : AgentNo) (x : Item)
      → Taken t (marks_of t ss) m b x
      ↔ (IsMessage (table_after t ss) m × (addressee_of (table_after t ss) m ≡ b) × (item_of (message_at (table_after t ss) m) ≡ x))
  -- each is still waiting, or stands once, in its addressee's inbox alone
  pub each : (m : MailNo) → IsMessage (table_after t ss) m → NotYet (table_after t ss) m ⊎ InPlace (table_after t ss) m
  -- and nothing stands in an inbox that was not taken for it
  pub no_other : (a : AgentNo) (x : Item) → In x (inbox_of (table_after t ss) a) → (m : MailNo) × Taken t (marks_of t ss) m a x

-- the map names the site of every agent that is enrolled, save one that has landed and isn't yet booked
pub record MapSettled (t : State) : Type 0 where
  pub right :
      (a : AgentNo)
      → IsAgent t a
      → ((p : AgentNo) → phase_of t a ≡ Born p → ⊥)
      → (map_of t a ≡ Some (site_of t a)) ⊎ (phase_of t a ≡ Landed)
  pub one : (a b : AgentNo) → IsAgent t a → IsAgent t b → phase_of t a ≡ Landed → phase_of t b ≡ Landed → a ≡ b
