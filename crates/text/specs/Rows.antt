-- The parts of the written table that have a writer of their own: of a line, one row of each kind, the lines before the rows, and all
-- rows of a kind.
-- Assumes nothing.
use Rattle.std.specs.Prelude.{ℕ, List, [], ◌∷◌, ◌++◌, Option}
use Rattle.records.specs.declared.SiteNo.{SiteNo}
use Rattle.records.specs.declared.AgentNo.{AgentNo}
use Rattle.records.specs.declared.MailNo.{MailNo}
use Rattle.records.specs.declared.Agent.{Agent}
use Rattle.records.specs.declared.Phase.{Phase}
use Rattle.records.specs.declared.Status.{Status}
use Rattle.records.specs.declared.Lock.{Lock}
use Rattle.records.specs.Numbers.{agent_no, mail_no}
use Rattle.rules.specs.declared.State.{State}
use Rattle.rules.specs.Tests.{agent_in, message_in, entry_in}
use Rattle.text.specs.Decimal.{decimal, bytes}
use Rattle.text.specs.Text.{line, row, rows_below, lock_text, phase_word, phase_number, map_text, status_word, status_site, agent_text, message_text}

-- a number and the byte after it
abbrev pub ended : ℕ → ℕ → List ℕ
ended n after = decimal n ++ (after ∷ [])

-- a phase in an agent's line, with the commas after its word and after its number
abbrev pub phase_part : Phase → List ℕ
phase_part p = phase_word p ++ (44 ∷ phase_number p ++ (44 ∷ []))

-- a map entry and a status at the end of their lines
abbrev pub map_part : Option SiteNo → List ℕ
map_part m = map_text m ++ (10 ∷ [])

abbrev pub status_part : Status → List ℕ
status_part s = status_word s ++ (44 ∷ status_site s ++ (10 ∷ []))

abbrev pub lock_line : Lock → List ℕ
lock_line l = line (bytes "lock") (lock_text l)

abbrev pub count_lines : ℕ → ℕ → ℕ → ℕ → List ℕ
count_lines sites agents messages handed =
    line (bytes "sites") (decimal sites)
    ++ (line (bytes "agents") (decimal agents)
    ++ (line (bytes "messages") (decimal messages) ++ line (bytes "handed") (decimal handed)))

-- the row of the agent, the message or the log entry at a place
abbrev pub agent_row : List Agent → ℕ → List ℕ
agent_row agent i = row (bytes "agent") i (agent_text (agent_in agent (agent_no i)))

abbrev pub message_row : List AgentNo → List ℕ → List AgentNo → List ℕ → List Status → ℕ → List ℕ
message_row sender number addressee value status i =
    row (bytes "message") i (message_text (message_in sender number addressee value status (mail_no i)))

abbrev pub log_row : List MailNo → ℕ → List ℕ
log_row log i = row (bytes "log") i (decimal (entry_in log i).0)

-- the rows of a table's agents, of its messages and of its log
abbrev pub agent_rows : State → List ℕ
agent_rows t = rows_below t.agents (agent_row t.agent)

abbrev pub message_rows : State → List ℕ
message_rows t = rows_below t.messages (message_row t.sender t.number t.addressee t.value t.status)

abbrev pub log_rows : State → List ℕ
log_rows t = rows_below t.handed (log_row t.log)
