-- One order of the operations of a sequence. Assumes nothing.
use Rattle.std.specs.Prelude.{ℕ, ◌<◌, ◌≡◌, ◌↔◌, List, map}
use Rattle.records.specs.declared.AgentNo.{AgentNo}
use Rattle.rules.specs.declared.State.{State}
use Rattle.rules.specs.declared.Step.{Step}
use Rattle.rules.specs.Holding.{site_of, inbox_of}
use Rattle.order.specs.Lists.{In, Distinct, StandsBefore}
use Rattle.order.specs.Marks.{marks_of, table_after}
use Rattle.order.specs.Operations.{Operation, name_of, BeginsAt, EffectAt, OverAt}
use Rattle.order.specs.Boards.{board_of, put_all, FindsAll}

pub record OneOrder (t : State) (ss : List Step) (order : List Operation) : Type 0 where
  -- the creations begun, the moves that have left and the messages handed over, and nothing else
  pub exactly : (x : Operation) → In x order ↔ ((i : ℕ) × EffectAt t (marks_of t ss) x i)
  -- each once
  pub once : Distinct (map name_of order)
  -- an operation over before another began stands before it
  pub in_time :
      (x y : Operation)
      → In x order
      → In y order
      → (i j : ℕ)
      → OverAt t (marks_of t ss) x i
      → BeginsAt t (marks_of t ss) y j
      → i < j
      → StandsBefore x y order
  -- done whole, one after the other, on the board that the sequence starts from, they give the same sites and the same inboxes
  pub finds : FindsAll (board_of t) order
  pub count : (put_all (board_of t) order).count ≡ (table_after t ss).agents
  pub sites : (a : AgentNo) → (put_all (board_of t) order).site a ≡ site_of (table_after t ss) a
  pub inboxes : (a : AgentNo) → (put_all (board_of t) order).inbox a ≡ inbox_of (table_after t ss) a
