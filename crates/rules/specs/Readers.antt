-- What a host reads of a table: an agent, a message, an entry of an inbox, or that there is none under the number. Assumes nothing.
use Rattle.std.specs.Prelude.{ℕ, Bool, Option, slice_get}
use Rattle.std.specs.Bool.{then_some}
use Rattle.records.specs.declared.AgentNo.{AgentNo}
use Rattle.records.specs.declared.MailNo.{MailNo}
use Rattle.records.specs.declared.Agent.{Agent}
use Rattle.records.specs.declared.Message.{Message}
use Rattle.records.specs.declared.Item.{Item}
use Rattle.records.specs.Numbers.{same_agent}
use Rattle.rules.specs.declared.State.{State}
use Rattle.rules.specs.Holding.{is_agent, is_message, agent_at, message_at, inbox_of}

-- an agent, a message: there where the number is below the count
abbrev pub read_agent : State → AgentNo → Option Agent
read_agent t a = then_some (is_agent t a) (agent_at t a)

abbrev pub read_message : State → MailNo → Option Message
read_message t m = then_some (is_message t m) (message_at t m)

-- a message is addressed to the agent
abbrev pub is_to : State → AgentNo → MailNo → Bool
is_to t a m = same_agent (message_at t m).addressee a

-- an entry of an inbox, by its place from 0
unfoldable pub read_inbox : State → AgentNo → ℕ → Option Item
unfolding inbox_of
read_inbox t a i = slice_get (inbox_of t a) i
