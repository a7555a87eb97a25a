-- A sound table's text has at most 32,768 bytes, where its messages' values are numbers of 32 bits.
use Rattle.std.proofs.Common.{Option, Some, None, ℕ, zero, suc, ◌+◌, ◌*◌, ◌^◌, ◌≤◌, ◌<◌, ◌≡◌, refl, ap, Bool, true, false, cond, inl, inr, List, ◌++◌, arith, length, length-append}
use Rattle.records.specs.declared.AgentNo.{AgentNo}
use Rattle.records.specs.declared.SiteNo.{SiteNo}
use Rattle.records.specs.declared.MailNo.{MailNo}
use Rattle.records.specs.declared.Agent.{Agent}
use Rattle.records.specs.declared.Phase.{Phase}
use Rattle.records.specs.declared.Phase.TheVariants.{Free, Spawning, Born, Enrolled, Asking, Granted, Landed, Booked}
use Rattle.records.specs.declared.Message.{Message}
use Rattle.records.specs.declared.Status.{Status}
use Rattle.records.specs.declared.Status.TheVariants.{Queued, Out, Handed, Closed, Lost}
use Rattle.records.specs.declared.Lock.{Lock}
use Rattle.records.specs.declared.Lock.TheVariants.{Unheld, ForMove, ForMail}
use Rattle.records.specs.Numbers.{agent_no, mail_no, same_agent}
use Rattle.records.specs.Places.{count_below}
use Rattle.rules.specs.declared.State.{State}
use Rattle.rules.specs.Holding.{IsAgent, IsSite, IsMessage, agent_at, phase_of, message_at, lock_of, log_at}
use Rattle.rules.specs.Soundness.{Sound}
use Rattle.text.specs.Decimal.{decimal, bytes}
use Rattle.text.specs.Text.{fields, line, row, rows_below, lock_text, phase_word, phase_number, map_text, status_word, status_site, agent_text, message_text, written}
use Rattle.text.specs.Rows.{lock_line, count_lines, agent_row, message_row, log_row, agent_rows, message_rows, log_rows}
use Rattle.text.proofs.Decimals.{decimal-length, decimal-at-most-ten}
use Rattle.text.proofs.RowParts.{table-parts}

pub two_digits : (n : ℕ) → n ≤ 99 → length (decimal n) ≤ 2
two_digits n h = decimal-length 1 n (omega arith)

pub three-digits : (n : ℕ) → n ≤ 999 → length (decimal n) ≤ 3
three-digits n h = decimal-length 2 n (omega arith)

phase-word-length : (p : Phase) → length (phase_word p) ≤ 8
phase-word-length Free = omega arith
phase-word-length (Spawning c) = omega arith
phase-word-length (Born p) = omega arith
phase-word-length (Enrolled p) = omega arith
phase-word-length (Asking u) = omega arith
phase-word-length (Granted u) = omega arith
phase-word-length Landed = omega arith
phase-word-length Booked = omega arith

-- what a phase names has at most two digits
pub record Named (p : Phase) : Type 0 where
  pub child : (c : AgentNo) → p ≡ Spawning c → c.0 ≤ 99
  pub born : (a : AgentNo) → p ≡ Born a → a.0 ≤ 99
  pub enrolled : (a : AgentNo) → p ≡ Enrolled a → a.0 ≤ 99
  pub asking : (u : SiteNo) → p ≡ Asking u → u.0 ≤ 99
  pub granted : (u : SiteNo) → p ≡ Granted u → u.0 ≤ 99

phase-number-length : (p : Phase) → Named p → length (phase_number p) ≤ 2
phase-number-length Free n = omega arith
phase-number-length (Spawning c) n = two_digits c.0 (n.child c refl)
phase-number-length (Born a) n = two_digits a.0 (n.born a refl)
phase-number-length (Enrolled a) n = two_digits a.0 (n.enrolled a refl)
phase-number-length (Asking u) n = two_digits u.0 (n.asking u refl)
phase-number-length (Granted u) n = two_digits u.0 (n.granted u refl)
phase-number-length Landed n = omega arith
phase-number-length Booked n = omega arith

map-length : (m : Option SiteNo) → ((s : SiteNo) → m ≡ Some s → s.0 ≤ 99) → length (map_text m) ≤ 2
map-length None h = omega arith
map-length (Some s) h = two_digits s.0 (h s refl)

status-length : (s : Status) → ((u : SiteNo) → s ≡ Out u → u.0 ≤ 99) → length (status_word s) + length (status_site s) ≤ 7
status-length Queued h = omega arith
status-length (Out u) h = omega (arith, two_digits u.0 (h u refl))
status-length Handed h = omega arith
status-length Closed h = omega arith
status-length Lost h = omega arith

lock-length : (l : Lock)
    → ((a : AgentNo) → l ≡ ForMove a → a.0 ≤ 999)
    → ((m : MailNo) → l ≡ ForMail m → m.0 ≤ 999)
    → length (lock_text l) ≤ 8
lock-length Unheld a m = omega arith
lock-length (ForMove x) a m = omega (arith, three-digits x.0 (a x refl))
lock-length (ForMail x) a m = omega (arith, three-digits x.0 (m x refl))

line-length : (key value : List ℕ) → length (line key value) ≡ length key + length value + 2
line-length key value = simp length-append (omega arith)

pub row-length : (key : List ℕ) (i : ℕ) (value : List ℕ)
    → length (row key i value) ≡ length key + length (decimal i) + length value + 3
row-length key i value = simp length-append (omega arith)

rows-length : (f : ℕ → List ℕ) (k n : ℕ) → ((i : ℕ) → i < n → length (f i) ≤ k) → length (rows_below n f) ≤ k * n
unfolding rows_below
rows-length f k zero h = omega arith
rows-length f k (suc n) h =
    simp length-append (omega (arith, h n (omega arith), rows-length f k n (λ i g. h i (omega arith))))

agent-length : (x : Agent)
    → length (agent_text x)
    ≡ length (decimal x.site.0) + length (phase_word x.phase) + length (phase_number x.phase) + length (map_text x.map) + 3
unfolding agent_text fields
agent-length x = simp length-append (omega arith)

message-length : (x : Message)
    → length (message_text x)
    ≡ length (decimal x.sender.0)
    + length (decimal x.number)
    + length (decimal x.addressee.0)
    + length (decimal x.value)
    + (length (status_word x.status) + length (status_site x.status))
    + 5
unfolding message_text fields
message-length x = simp length-append (omega arith)

count-at-most : (n : ℕ) (f : ℕ → Bool) → count_below n f ≤ n
unfolding count_below
count-at-most zero f = omega arith
count-at-most (suc n) f = by (f n) (count-at-most n f) where
  by : (b : Bool) → count_below n f ≤ n → cond b (suc (count_below n f)) (count_below n f) ≤ suc n
  by true h = omega arith
  by false h = omega arith

module _ (t : State) (s : Sound t) where
  agent-small : (a : AgentNo) → IsAgent t a → a.0 ≤ 99
  agent-small a h = omega (arith, h, s.counts.agents_fit)

  site-small : (u : SiteNo) → IsSite t u → u.0 ≤ 99
  site-small u h = omega (arith, h, s.counts.sites_fit)

  mail-small : (m : MailNo) → IsMessage t m → m.0 ≤ 999
  mail-small m h = omega (arith, h, s.counts.messages_fit)

  named : (a : AgentNo) → IsAgent t a → Named (phase_of t a)
  named a h =
      record {
        child = λ c e. agent-small c (s.families.child a c h e).0;
        born = λ p e. agent-small p (s.families.parent p a h (inl e)).0;
        enrolled = λ p e. agent-small p (s.families.parent p a h (inr e)).0;
        asking = λ u e. site-small u (s.sites.asked a h u e);
        granted = λ u e. site-small u (s.sites.granted a h u e);
      }

  agent-row-length : (i : ℕ) → i < t.agents → length (agent_row t.agent i) ≤ 27
  agent-row-length i h =
      let a = agent_no i in
      let x = agent_at t a in
      omega (
        arith,
        row-length (bytes "agent") i (agent_text x),
        agent-length x,
        two_digits i (agent-small a h),
        two_digits x.site.0 (site-small x.site (s.sites.own a h)),
        phase-word-length x.phase,
        phase-number-length x.phase (named a h),
        map-length x.map (λ u e. site-small u (s.sites.mapped a h u e)),
      )

  -- a sender's number is at most one more than the messages before
  number_small : (m : MailNo) → IsMessage t m → (message_at t m).number ≤ 999
  number_small m h =
      omega (
        arith,
        s.numbers m h,
        count-at-most m.0 (λ i. same_agent (message_at t (mail_no i)).sender (message_at t m).sender),
        mail-small m h,
        s.counts.messages_fit,
      )

  message-row-length : (i : ℕ) → i < t.messages → (message_at t (mail_no i)).value < 2 ^ 32
      → length (message_row t.sender t.number t.addressee t.value t.status i) ≤ 42
  message-row-length i h v =
      let m = mail_no i in
      let x = message_at t m in
      omega (
        arith,
        row-length (bytes "message") i (message_text x),
        message-length x,
        three-digits i (mail-small m h),
        two_digits x.sender.0 (agent-small x.sender (s.parties.sender m h)),
        three-digits x.number (number_small m h),
        two_digits x.addressee.0 (agent-small x.addressee (s.parties.addressee m h)),
        decimal-at-most-ten x.value v,
        status-length x.status (λ u e. site-small u (s.sites.out m h u e)),
      )

  log-row-length : (i : ℕ) → i < t.handed → length (log_row t.log i) ≤ 12
  log-row-length i h =
      let m = log_at t i in
      omega (
        arith,
        row-length (bytes "log") i (decimal m.0),
        three-digits i (omega (arith, h, s.counts.log_fits)),
        three-digits m.0 (mail-small m (s.log.only i h).0),
      )

  lock-line-length : length (lock_line (lock_of t)) ≤ 14
  lock-line-length =
      omega (
        arith,
        line-length (bytes "lock") (lock_text (lock_of t)),
        lock-length (lock_of t)
            (λ a e. omega (arith, agent-small a ((s.lock.move a).0 e).0))
            (λ m e. mail-small m ((s.lock.mail m).0 e).0),
      )

  counts-length : length (count_lines t.sites t.agents t.messages t.handed) ≤ 43
  counts-length =
      let first = line (bytes "sites") (decimal t.sites) in
      let second = line (bytes "agents") (decimal t.agents) in
      let third = line (bytes "messages") (decimal t.messages) in
      let fourth = line (bytes "handed") (decimal t.handed) in
      omega (
        arith,
        length-append first (second ++ (third ++ fourth)),
        length-append second (third ++ fourth),
        length-append third fourth,
        line-length (bytes "sites") (decimal t.sites),
        line-length (bytes "agents") (decimal t.agents),
        line-length (bytes "messages") (decimal t.messages),
        line-length (bytes "handed") (decimal t.handed),
        two_digits t.sites (omega (arith, s.counts.sites_fit)),
        two_digits t.agents (omega (arith, s.counts.agents_fit)),
        three-digits t.messages (omega (arith, s.counts.messages_fit)),
        three-digits t.handed (omega (arith, s.counts.log_fits)),
      )

  pub text-fits : ((i : ℕ) → i < t.messages → (message_at t (mail_no i)).value < 2 ^ 32) → length (written t) ≤ 32768
  text-fits values =
      let counts = count_lines t.sites t.agents t.messages t.handed in
      let lock = lock_line (lock_of t) in
      let agents = agent_rows t in
      let messages = message_rows t in
      let log = log_rows t in
      omega (
        arith,
        ap length (table-parts t),
        length-append counts (lock ++ (agents ++ (messages ++ log))),
        length-append lock (agents ++ (messages ++ log)),
        length-append agents (messages ++ log),
        length-append messages log,
        counts-length,
        lock-line-length,
        rows-length (agent_row t.agent) 27 t.agents agent-row-length,
        rows-length
            (message_row t.sender t.number t.addressee t.value t.status)
            42
            t.messages
            (λ i h. message-row-length i h (values i h)),
        rows-length (log_row t.log) 12 t.handed log-row-length,
        s.counts.agents_fit,
        s.counts.messages_fit,
        s.counts.log_fits,
      )
