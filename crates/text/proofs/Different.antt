-- Different sound tables have different texts: a text says every count, the lock, each agent, each message and each entry of the log,
-- and the room past the counts is empty in every sound table.
use Rattle.std.proofs.Common.{⊎_elim, ℕ, ◌<◌, ◌≤◌, ◌≡◌, sym, ap, ◌∙◌, List, [], ◌∷◌, ◌++◌, append-nil, ext_get_or}
use mathlib.Core.List.{head-eq_of_cons-eq}
use Rattle.std.proofs.lemmas.Bool.{cases_lt}
use Rattle.records.specs.declared.Agent.{Agent}
use Rattle.records.specs.declared.Message.{Message}
use Rattle.records.specs.declared.Status.TheVariants.{Queued}
use Rattle.records.specs.Numbers.{agent_no, mail_no}
use Rattle.records.specs.Agents.{empty_agent}
use Rattle.records.specs.Messages.{empty_entry}
use Rattle.records.specs.Places.{all_of}
use Rattle.rules.specs.declared.State.{State}
use Rattle.rules.specs.Holding.{Shaped, agent_at, message_at, lock_of, log_at}
use Rattle.rules.specs.Soundness.{RoomEmpty, Sound}
use Rattle.text.specs.Decimal.{decimal, bytes}
use Rattle.text.specs.Text.{fields, line, row, rows_below, lock_text, phase_word, phase_number, map_text, status_word, status_site, agent_text, message_text, written}
use Rattle.text.specs.Rows.{agent_row, message_row, log_row}
use Rattle.text.proofs.Decimals.{decimal_injective}
use Rattle.text.proofs.Plain.{Plain, AllPlain, decimal-plain, lock-plain, agent_fields, message_fields, agent-plain, message-plain}
use Rattle.text.proofs.ReadBack.{same-phase, same_map, same-status, same-lock}
use Rattle.text.proofs.Splitting.{split-line, split_rows}

-- an agent and a message from the fields of their lines
same-agent : (x y : Agent) → agent_fields x ≡ agent_fields y → x ≡ y
same-agent x y e =
    let site : decimal x.site.0 ≡ decimal y.site.0 = cc in
    let word : phase_word x.phase ≡ phase_word y.phase = cc in
    let number : phase_number x.phase ≡ phase_number y.phase = cc in
    let map : map_text x.map ≡ map_text y.map = cc in
    let here = decimal_injective x.site.0 y.site.0 site in
    let phase = same-phase x.phase y.phase word number in
    let mapped = same_map x.map y.map map in
    λ i. record { site = record { 0 = here i }; phase = phase i; map = mapped i }

same-message : (x y : Message) → message_fields x ≡ message_fields y → x ≡ y
same-message x y e =
    let sender : decimal x.sender.0 ≡ decimal y.sender.0 = cc in
    let number : decimal x.number ≡ decimal y.number = cc in
    let addressee : decimal x.addressee.0 ≡ decimal y.addressee.0 = cc in
    let value : decimal x.value ≡ decimal y.value = cc in
    let word : status_word x.status ≡ status_word y.status = cc in
    let site : status_site x.status ≡ status_site y.status = cc in
    let from = decimal_injective x.sender.0 y.sender.0 sender in
    let count = decimal_injective x.number y.number number in
    let to = decimal_injective x.addressee.0 y.addressee.0 addressee in
    let said = decimal_injective x.value y.value value in
    let status = same-status x.status y.status word site in
    λ i. record {
      sender = record { 0 = from i };
      number = count i;
      addressee = record { 0 = to i };
      value = said i;
      status = status i;
    }

one_plain : (x : List ℕ) → Plain x → AllPlain (x ∷ [])
unfolding all_of
one_plain x p = rw p

-- a line of one field, an agent's row, a message's row and a row of the log, each with what follows it
split-field : (key x y : List ℕ) {rest last : List ℕ}
    → Plain x → Plain y → line key x ++ rest ≡ line key y ++ last → (x ≡ y) × (rest ≡ last)
unfolding fields
split-field key x y p q e =
    let parts = split-line key x [] y [] (one_plain x p) (one_plain y q) e in
    (head-eq_of_cons-eq parts.0, parts.1)

split-number : (key : List ℕ) (m n : ℕ) {rest last : List ℕ}
    → line key (decimal m) ++ rest ≡ line key (decimal n) ++ last → (m ≡ n) × (rest ≡ last)
split-number key m n e =
    let parts = split-field key (decimal m) (decimal n) (decimal-plain m) (decimal-plain n) e in
    (decimal_injective m n parts.0, parts.1)

abbrev key_of : List ℕ → ℕ → List ℕ
key_of word i = word ++ (46 ∷ decimal i)

split-agent : (i : ℕ) (x y : Agent) {rest last : List ℕ}
    → row (bytes "agent") i (agent_text x) ++ rest ≡ row (bytes "agent") i (agent_text y) ++ last → (x ≡ y) × (rest ≡ last)
unfolding agent_text
split-agent i x y e =
    let parts = split-line (key_of (bytes "agent") i) _ _ _ _ (agent-plain x) (agent-plain y) e in
    (same-agent x y parts.0, parts.1)

split-message : (i : ℕ) (x y : Message) {rest last : List ℕ}
    → row (bytes "message") i (message_text x) ++ rest ≡ row (bytes "message") i (message_text y) ++ last
    → (x ≡ y) × (rest ≡ last)
unfolding message_text
split-message i x y e =
    let parts = split-line (key_of (bytes "message") i) _ _ _ _ (message-plain x) (message-plain y) e in
    (same-message x y parts.0, parts.1)

-- what two tables with one text have in common
pub record SameText (t u : State) : Type 0 where
  pub sites : t.sites ≡ u.sites
  pub agents : t.agents ≡ u.agents
  pub messages : t.messages ≡ u.messages
  pub handed : t.handed ≡ u.handed
  pub lock : lock_of t ≡ lock_of u
  pub agent : (i : ℕ) → i < t.agents → agent_at t (agent_no i) ≡ agent_at u (agent_no i)
  pub message : (i : ℕ) → i < t.messages → message_at t (mail_no i) ≡ message_at u (mail_no i)
  pub log : (i : ℕ) → i < t.handed → log_at t i ≡ log_at u i

-- rows below one count, and below another that is the same
split-counted : (f g : ℕ → List ℕ) (Same : ℕ → Type 0)
    → ((i : ℕ) (rest last : List ℕ) → f i ++ rest ≡ g i ++ last → Same i × (rest ≡ last))
    → (m n : ℕ) → m ≡ n → (rest last : List ℕ) → rows_below m f ++ rest ≡ rows_below n g ++ last
    → ((i : ℕ) → i < m → Same i) × (rest ≡ last)
split-counted f g Same split m n e rest last p =
    split_rows f g Same split m rest last (p ∙ ap (λ (k : ℕ). rows_below k g ++ last) (sym e))

abbrev message_row_of : State → ℕ → List ℕ
message_row_of t = message_row t.sender t.number t.addressee t.value t.status

abbrev message_rows : State → List ℕ
message_rows t = rows_below t.messages (message_row_of t)

abbrev log_rows : State → List ℕ
log_rows t = rows_below t.handed (log_row t.log)

pub text_says : (t u : State) → written t ≡ written u → SameText t u
unfolding written
text_says t u e =
    let sites = split-number (bytes "sites") t.sites u.sites e in
    let agents = split-number (bytes "agents") t.agents u.agents sites.1 in
    let messages = split-number (bytes "messages") t.messages u.messages agents.1 in
    let handed = split-number (bytes "handed") t.handed u.handed messages.1 in
    let lock =
    split-field (bytes "lock") (lock_text (lock_of t)) (lock_text (lock_of u)) (lock-plain (lock_of t)) (lock-plain (lock_of u)) handed.1 in
    let agent =
    split-counted (agent_row t.agent) (agent_row u.agent)
    (λ i. agent_at t (agent_no i) ≡ agent_at u (agent_no i))
    (λ i rest last. split-agent i (agent_at t (agent_no i)) (agent_at u (agent_no i)))
    t.agents
    u.agents
    agents.0
    (message_rows t ++ log_rows t)
    (message_rows u ++ log_rows u)
    lock.1 in
    let message =
    split-counted (message_row_of t) (message_row_of u)
    (λ i. message_at t (mail_no i) ≡ message_at u (mail_no i))
    (λ i rest last. split-message i (message_at t (mail_no i)) (message_at u (mail_no i)))
    t.messages
    u.messages
    messages.0
    (log_rows t)
    (log_rows u)
    agent.1 in
    let log =
    split-counted (log_row t.log) (log_row u.log)
    (λ i. (log_at t i).0 ≡ (log_at u i).0)
    (λ i rest last. split-number (key_of (bytes "log") i) (log_at t i).0 (log_at u i).0)
    t.handed
    u.handed
    handed.0
    []
    []
    (append-nil (log_rows t) ∙ message.1 ∙ sym (append-nil (log_rows u))) in
    record {
      sites = sites.0;
      agents = agents.0;
      messages = messages.0;
      handed = handed.0;
      lock = same-lock (lock_of t) (lock_of u) lock.0;
      agent = agent.0;
      message = message.0;
      log = λ i h. ap mail_no (log.0 i h);
    }

-- what holds below a number and past it holds everywhere
everywhere : (n : ℕ) (P : ℕ → Type 0) → ((i : ℕ) → i < n → P i) → ((i : ℕ) → n ≤ i → P i) → (i : ℕ) → P i
everywhere n P below past i = ⊎_elim (below i) (past i) (cases_lt i n)

-- two tables whose texts and whose empty room agree
same-table : (t u : State) → Shaped t → Shaped u → RoomEmpty t → RoomEmpty u → SameText t u → t ≡ u
same-table t u a b r s same =
    let people =
    everywhere t.agents
    (λ i. agent_at t (agent_no i) ≡ agent_at u (agent_no i))
    same.agent
    (λ i h. r.agents i h ∙ sym (s.agents i (rw (← same.agents) h))) in
    let mail =
    everywhere t.messages
    (λ i. message_at t (mail_no i) ≡ message_at u (mail_no i))
    same.message
    (λ i h. r.messages i h ∙ sym (s.messages i (rw (← same.messages) h))) in
    let entries =
    everywhere t.handed
    (λ i. log_at t i ≡ log_at u i)
    same.log
    (λ i h. r.log i h ∙ sym (s.log i (rw (← same.handed) h))) in
    let agent = ext_get_or empty_agent t.agent u.agent (a.agent ∙ sym b.agent) (λ i h. people i) in
    let sender = ext_get_or (agent_no 0) t.sender u.sender (a.sender ∙ sym b.sender) (λ i h. ap (λ (x : Message). x.sender) (mail i)) in
    let number = ext_get_or 0 t.number u.number (a.number ∙ sym b.number) (λ i h. ap (λ (x : Message). x.number) (mail i)) in
    let addressee = ext_get_or (agent_no 0) t.addressee u.addressee (a.addressee ∙ sym b.addressee) (λ i h. ap (λ (x : Message). x.addressee) (mail i)) in
    let value = ext_get_or 0 t.value u.value (a.value ∙ sym b.value) (λ i h. ap (λ (x : Message). x.value) (mail i)) in
    let status = ext_get_or Queued t.status u.status (a.status ∙ sym b.status) (λ i h. ap (λ (x : Message). x.status) (mail i)) in
    let log = ext_get_or empty_entry t.log u.log (a.log ∙ sym b.log) (λ i h. entries i) in
    λ i. record {
      sites = same.sites i;
      agents = same.agents i;
      messages = same.messages i;
      handed = same.handed i;
      lock = same.lock i;
      agent = agent i;
      sender = sender i;
      number = number i;
      addressee = addressee i;
      value = value i;
      status = status i;
      log = log i;
    }

pub different-texts : (t u : State) → Shaped t → Shaped u → Sound t → Sound u → written t ≡ written u → t ≡ u
different-texts t u a b s r e = same-table t u a b s.room r.room (text_says t u e)
