-- What is shown of a sequence of steps ss, with any numbers and refused ones among them, that runs from a table t. Assumes nothing.
use Rattle.std.specs.Prelude.{◌≡◌, List}
use Rattle.rules.specs.declared.State.{State}
use Rattle.rules.specs.declared.Step.{Step}
use Rattle.rules.specs.Steps.{rule_of, step_of}
use Rattle.order.specs.Marks.{table_after}
use Rattle.order.specs.Operations.{Operation}
use Rattle.order.specs.Ordering.{OneOrder}
use Rattle.order.specs.Settled.{MailSettled, MapSettled}

pub record AllInOrder (t : State) (ss : List Step) : Type 0 where
  -- the order of the operations
  pub order : List Operation
  pub one : OneOrder t ss order
  -- every message taken waits, or stands once, in its addressee's inbox alone
  pub mail : MailSettled t ss
  -- the map is right for every agent enrolled, save one landed and not yet booked
  pub map : MapSettled (table_after t ss)
  -- and a further step is answered by its rule: no table on the way is refused as not sound
  pub goes_on : (s : Step) → step_of (table_after t ss) s ≡ rule_of (table_after t ss) s
