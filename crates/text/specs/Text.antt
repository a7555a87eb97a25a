-- The written table: key=value lines, each ended by byte 10. Assumes nothing.
use Rattle.std.specs.Prelude.{ℕ, zero, suc, List, [], ◌∷◌, ◌++◌, Option, Some, None}
use Rattle.records.specs.declared.SiteNo.{SiteNo}
use Rattle.records.specs.declared.Agent.{Agent}
use Rattle.records.specs.declared.Phase.{Phase}
use Rattle.records.specs.declared.Phase.TheVariants.{Free, Spawning, Born, Enrolled, Asking, Granted, Landed, Booked}
use Rattle.records.specs.declared.Message.{Message}
use Rattle.records.specs.declared.Status.{Status}
use Rattle.records.specs.declared.Status.TheVariants.{Queued, Out, Handed, Closed, Lost}
use Rattle.records.specs.declared.Lock.{Lock}
use Rattle.records.specs.declared.Lock.TheVariants.{Unheld, ForMove, ForMail}
use Rattle.records.specs.Numbers.{agent_no, mail_no}
use Rattle.rules.specs.declared.State.{State}
use Rattle.rules.specs.Holding.{agent_at, message_at, lock_of, log_at}
use Rattle.text.specs.Decimal.{decimal, bytes}

-- fields with commas between them
unfoldable pub fields : List (List ℕ) → List ℕ
fields [] = []
fields (x ∷ []) = x
fields (x ∷ y ∷ rest) = x ++ (44 ∷ fields (y ∷ rest))

-- key=value and byte 10
abbrev pub line : List ℕ → List ℕ → List ℕ
line key value = key ++ (61 ∷ value ++ (10 ∷ []))

-- key.N=value and byte 10
abbrev pub row : List ℕ → ℕ → List ℕ → List ℕ
row key n value = line (key ++ (46 ∷ decimal n)) value

-- the rows of the places below n, from 0 upward
unfoldable pub rows_below : ℕ → (ℕ → List ℕ) → List ℕ
rows_below zero f = []
rows_below (suc n) f = rows_below n f ++ f n

abbrev pub dash : List ℕ
dash = bytes "-"

-- the lock: free, move:A or mail:M
abbrev pub lock_text : Lock → List ℕ
lock_text Unheld = bytes "free"
lock_text (ForMove a) = bytes "move:" ++ decimal a.0
lock_text (ForMail m) = bytes "mail:" ++ decimal m.0

-- a phase's word, and its number or a dash
abbrev pub phase_word : Phase → List ℕ
phase_word Free = bytes "free"
phase_word (Spawning c) = bytes "spawning"
phase_word (Born p) = bytes "born"
phase_word (Enrolled p) = bytes "enrolled"
phase_word (Asking u) = bytes "asking"
phase_word (Granted u) = bytes "granted"
phase_word Landed = bytes "landed"
phase_word Booked = bytes "booked"

abbrev pub phase_number : Phase → List ℕ
phase_number Free = dash
phase_number (Spawning c) = decimal c.0
phase_number (Born p) = decimal p.0
phase_number (Enrolled p) = decimal p.0
phase_number (Asking u) = decimal u.0
phase_number (Granted u) = decimal u.0
phase_number Landed = dash
phase_number Booked = dash

abbrev pub map_text : Option SiteNo → List ℕ
map_text None = dash
map_text (Some s) = decimal s.0

-- an agent: site, phase, the phase's number or a dash, map or a dash
unfoldable pub agent_text : Agent → List ℕ
unfolding fields decimal
agent_text x =
    fields (decimal x.site.0 ∷ phase_word x.phase ∷ phase_number x.phase ∷ map_text x.map ∷ [])

-- a status's word, and the site travelled to or a dash
abbrev pub status_word : Status → List ℕ
status_word Queued = bytes "queued"
status_word (Out s) = bytes "out"
status_word Handed = bytes "handed"
status_word Closed = bytes "closed"
status_word Lost = bytes "lost"

abbrev pub status_site : Status → List ℕ
status_site Queued = dash
status_site (Out s) = decimal s.0
status_site Handed = dash
status_site Closed = dash
status_site Lost = dash

-- a message: sender, number, addressee, value, status, site or a dash
unfoldable pub message_text : Message → List ℕ
unfolding fields decimal
message_text x =
    fields
    (decimal x.sender.0
    ∷ decimal x.number
    ∷ decimal x.addressee.0
    ∷ decimal x.value
    ∷ status_word x.status
    ∷ status_site x.status
    ∷ [])

-- sites, agents, messages, handed and lock, then each agent, each message and each entry of the log
unfoldable pub written : State → List ℕ
unfolding decimal rows_below agent_text message_text
written t =
    line (bytes "sites") (decimal t.sites)
    ++ (line (bytes "agents") (decimal t.agents)
    ++ (line (bytes "messages") (decimal t.messages)
    ++ (line (bytes "handed") (decimal t.handed)
    ++ (line (bytes "lock") (lock_text (lock_of t))
    ++ (rows_below t.agents (λ i. row (bytes "agent") i (agent_text (agent_at t (agent_no i))))
    ++ (rows_below t.messages (λ i. row (bytes "message") i (message_text (message_at t (mail_no i))))
    ++ rows_below t.handed (λ i. row (bytes "log") i (decimal (log_at t i).0))))))))
