-- What a table that has passed its test keeps to: its counts stay within its arrays. Assumes nothing.
use Rattle.std.specs.Prelude.{◌≤◌}
use Rattle.rules.specs.declared.State.{State}
use Rattle.records.specs.Limits.{most_agents, most_messages}

pub record CountsFit (t : State) : Type 0 where
  pub agents : t.agents ≤ most_agents
  pub messages : t.messages ≤ most_messages
  pub handed : t.handed ≤ most_messages
