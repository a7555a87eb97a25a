-- Each row is the parts that its writer puts, one after another, and so is the line of an answer.
use Rattle.std.proofs.Common.{ℕ, ◌≡◌, List, [], ◌∷◌, ◌++◌, append_assoc}
use Rattle.records.specs.declared.Agent.{Agent}
use Rattle.records.specs.declared.Message.{Message}
use Rattle.rules.specs.declared.State.{State}
use Rattle.rules.specs.Holding.{lock_of}
use Rattle.text.specs.Decimal.{decimal, bytes}
use Rattle.text.specs.Text.{fields, line, row, agent_text, message_text, written}
use Rattle.text.specs.Rows.{ended, phase_part, map_part, status_part, lock_line, count_lines, agent_rows, message_rows, log_rows}

-- a row's key, as it is put
abbrev pub keyed : List ℕ → ℕ → List ℕ
keyed word i = word ++ ended i 61

pub agent-parts : (i : ℕ) (x : Agent)
    → keyed (bytes "agent.") i ++ (ended x.site.0 44 ++ (phase_part x.phase ++ map_part x.map))
    ≡ row (bytes "agent") i (agent_text x)
unfolding agent_text fields
agent-parts i x = simp append_assoc

pub message-parts : (i : ℕ) (x : Message)
    → keyed (bytes "message.") i
    ++ (ended x.sender.0 44
    ++ (ended x.number 44 ++ (ended x.addressee.0 44 ++ (ended x.value 44 ++ status_part x.status))))
    ≡ row (bytes "message") i (message_text x)
unfolding message_text fields
message-parts i x = simp append_assoc

pub entry-parts : (i m : ℕ) → keyed (bytes "log.") i ++ ended m 10 ≡ row (bytes "log") i (decimal m)
entry-parts i m = simp append_assoc

pub answer-parts : (k code number : ℕ)
    → keyed (bytes "line.") k ++ (ended code 44 ++ ended number 10) ≡ row (bytes "line") k (fields (decimal code ∷ decimal number ∷ []))
unfolding fields
answer-parts k code number = simp append_assoc

four-first : (a b c d rest : List ℕ) → a ++ (b ++ (c ++ d)) ++ rest ≡ a ++ (b ++ (c ++ (d ++ rest)))
four-first a b c d rest = simp append_assoc

-- the table's text is its parts, one after another
pub table-parts : (t : State)
    → count_lines t.sites t.agents t.messages t.handed
    ++ (lock_line (lock_of t) ++ (agent_rows t ++ (message_rows t ++ log_rows t)))
    ≡ written t
unfolding written
table-parts t =
    four-first
    (line (bytes "sites") (decimal t.sites))
    (line (bytes "agents") (decimal t.agents))
    (line (bytes "messages") (decimal t.messages))
    (line (bytes "handed") (decimal t.handed))
    _
