-- The text has as many lines as the counts say: five, and one for each agent, each message and each entry of the log.
use Rattle.std.proofs.Common.{ℕ, zero, suc, ◌+◌, ◌≡◌, refl, sym, ap, ◌∙◌, true, false, cond, List, [], ◌∷◌, ◌++◌, arith, eqb, ne_eqb}
use Rattle.std.proofs.lemmas.Bool.{false≢true, and_parts}
use Rattle.records.specs.declared.Status.{Status}
use Rattle.records.specs.declared.Agent.{Agent}
use Rattle.records.specs.declared.AgentNo.{AgentNo}
use Rattle.records.specs.declared.MailNo.{MailNo}
use Rattle.records.specs.Numbers.{agent_no, mail_no}
use Rattle.records.specs.Places.{all_of}
use Rattle.rules.specs.Tests.{agent_in, message_in, entry_in}
use Rattle.rules.specs.declared.State.{State}
use Rattle.rules.specs.Holding.{lock_of}
use Rattle.text.specs.Decimal.{decimal, bytes}
use Rattle.text.specs.Text.{fields, line, row, rows_below, lock_text, agent_text, message_text, written}
use Rattle.text.specs.Rows.{lock_line, count_lines, agent_row, message_row, log_row, agent_rows, message_rows, log_rows}
use Rattle.text.proofs.RowParts.{table-parts}
use Rattle.text.proofs.Plain.{is_plain, Plain, AllPlain, decimal-plain, lock-plain, agent_fields, message_fields, agent-plain, message-plain}

-- how many line ends a text has
unfoldable pub line_ends : List ℕ → ℕ
line_ends [] = 0
line_ends (b ∷ x) = cond (eqb b 10) 1 0 + line_ends x

ends-append : (x y : List ℕ) → line_ends (x ++ y) ≡ line_ends x + line_ends y
unfolding line_ends
ends-append [] y = omega arith
ends-append (b ∷ x) y = omega (arith, ends-append x y)

plain-no-end : (b : ℕ) → is_plain b ≡ true → eqb b 10 ≡ false
plain-no-end b e = ne_eqb b 10 (λ q. false≢true (ap is_plain (sym q) ∙ e))

-- a plain text has none
plain-ends : (x : List ℕ) → Plain x → line_ends x ≡ 0
unfolding line_ends all_of
plain-ends [] e = refl
plain-ends (b ∷ x) e =
    rw (plain-no-end b (and_parts _ _ e).0) (omega (arith, plain-ends x (and_parts _ _ e).1))

-- nor have plain fields
fields-ends : (xs : List (List ℕ)) → AllPlain xs → line_ends (fields xs) ≡ 0
unfolding line_ends all_of fields
fields-ends [] e = refl
fields-ends (x ∷ []) e = plain-ends x (and_parts _ _ e).0
fields-ends (x ∷ y ∷ rest) e =
    ends-append x (44 ∷ fields (y ∷ rest))
    ∙ omega (
      arith,
      plain-ends x (and_parts _ _ e).0,
      fields-ends (y ∷ rest) (and_parts _ _ e).1,
    )

-- a line has one
line-ends : (key value : List ℕ) → Plain key → line_ends value ≡ 0 → line_ends (line key value) ≡ 1
unfolding line_ends
line-ends key value k v =
    ends-append key (61 ∷ value ++ (10 ∷ [])) ∙ omega (arith, plain-ends key k, v, ends-append value (10 ∷ []))

row_ends : (key : List ℕ) (i : ℕ) (value : List ℕ) → Plain key → line_ends value ≡ 0 → line_ends (row key i value) ≡ 1
unfolding line_ends
row_ends key i value k v =
    ends-append (key ++ (46 ∷ decimal i)) (61 ∷ value ++ (10 ∷ []))
    ∙ omega (
      arith,
      ends-append key (46 ∷ decimal i),
      plain-ends key k,
      plain-ends (decimal i) (decimal-plain i),
      v,
      ends-append value (10 ∷ []),
    )

-- rows of one line each have as many as they are
rows-ends : (f : ℕ → List ℕ) → ((i : ℕ) → line_ends (f i) ≡ 1) → (n : ℕ) → line_ends (rows_below n f) ≡ n
unfolding line_ends rows_below
rows-ends f one zero = refl
rows-ends f one (suc n) = ends-append (rows_below n f) (f n) ∙ omega (arith, one n, rows-ends f one n)

number-ends : (key : List ℕ) (n : ℕ) → Plain key → line_ends (line key (decimal n)) ≡ 1
number-ends key n k = line-ends key (decimal n) k (plain-ends (decimal n) (decimal-plain n))

counts-ends : (sites agents messages handed : ℕ) → line_ends (count_lines sites agents messages handed) ≡ 4
unfolding all_of
counts-ends sites agents messages handed =
    let first = line (bytes "sites") (decimal sites) in
    let second = line (bytes "agents") (decimal agents) in
    let third = line (bytes "messages") (decimal messages) in
    let fourth = line (bytes "handed") (decimal handed) in
    omega (
      arith,
      ends-append first (second ++ (third ++ fourth)),
      ends-append second (third ++ fourth),
      ends-append third fourth,
      number-ends (bytes "sites") sites refl,
      number-ends (bytes "agents") agents refl,
      number-ends (bytes "messages") messages refl,
      number-ends (bytes "handed") handed refl,
    )

agent-row-ends : (agent : List Agent) (i : ℕ) → line_ends (agent_row agent i) ≡ 1
unfolding all_of agent_text
agent-row-ends agent i =
    let x = agent_in agent (agent_no i) in
    row_ends (bytes "agent") i (fields (agent_fields x)) refl (fields-ends (agent_fields x) (agent-plain x))

message-row-ends : (sender : List AgentNo) (number : List ℕ) (addressee : List AgentNo) (value : List ℕ) (status : List Status) (i : ℕ)
    → line_ends (message_row sender number addressee value status i) ≡ 1
unfolding all_of message_text
message-row-ends sender number addressee value status i =
    let x = message_in sender number addressee value status (mail_no i) in
    row_ends (bytes "message") i (fields (message_fields x)) refl (fields-ends (message_fields x) (message-plain x))

log-row-ends : (log : List MailNo) (i : ℕ) → line_ends (log_row log i) ≡ 1
unfolding all_of
log-row-ends log i =
    let m = (entry_in log i).0 in row_ends (bytes "log") i (decimal m) refl (plain-ends (decimal m) (decimal-plain m))

pub text-lines : (t : State) → line_ends (written t) ≡ 5 + t.agents + t.messages + t.handed
unfolding all_of
text-lines t =
    let counts = count_lines t.sites t.agents t.messages t.handed in
    let lock = lock_line (lock_of t) in
    let agents = agent_rows t in
    let messages = message_rows t in
    let log = log_rows t in
    ap line_ends (sym (table-parts t))
    ∙ omega (
      arith,
      ends-append counts (lock ++ (agents ++ (messages ++ log))),
      ends-append lock (agents ++ (messages ++ log)),
      ends-append agents (messages ++ log),
      ends-append messages log,
      counts-ends t.sites t.agents t.messages t.handed,
      line-ends (bytes "lock") (lock_text (lock_of t)) refl (plain-ends (lock_text (lock_of t)) (lock-plain (lock_of t))),
      rows-ends (agent_row t.agent) (agent-row-ends t.agent) t.agents,
      rows-ends
          (message_row t.sender t.number t.addressee t.value t.status)
          (message-row-ends t.sender t.number t.addressee t.value t.status)
          t.messages,
      rows-ends (log_row t.log) (log-row-ends t.log) t.handed,
    )
