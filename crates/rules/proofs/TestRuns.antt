-- How the runs over the senders' numbers and over the log go on by one place.
use Prim.Native.Nat.{ℕ, zero, suc, ◌+◌, ◌-◌, ◌≤◌, ◌<◌}
use mathlib.Core.Bool.{Bool, true, false, not, ◌&&◌}
use mathlib.Core.List.{List, [], ◌∷◌}
use mathlib.Core.Path.{◌≡◌}
use native.Mathlib.Numerals.{add-one}
use native.Mathlib.Omega.{arith}
use lib.ListN.{get_or, set}
use lib.Dec.{ltb, eqb}
use Rattle.records.specs.declared.AgentNo.{AgentNo}
use Rattle.records.specs.declared.MailNo.{MailNo}
use Rattle.records.specs.declared.Status.{Status}
use Rattle.records.specs.Numbers.{mail_no}
use Rattle.rules.specs.Tests.{party_in, entry_in, numbers_run, delivered, log_runs}

-- every message is still to come at the start
pub numbers-start :
    (sender : List AgentNo) (number : List ℕ) (m : ℕ) (counts : List ℕ)
    → numbers_run sender number m 0 counts ≡ numbers_run sender number (m - 0) 0 counts
numbers-start sender number m counts = let whole : m - 0 ≡ m = omega arith in rw whole

pub log-start :
    (messages : ℕ) (status : List Status) (log : List MailNo) (h : ℕ) (seen : List Bool)
    → log_runs messages status log h 0 seen ≡ log_runs messages status log (h - 0) 0 seen
log-start messages status log h seen = let whole : h - 0 ≡ h = omega arith in rw whole

one_less : (m i : ℕ) → i < m → m - i ≡ suc (m - (i + 1))
one_less m i h = omega arith

module _ (sender : List AgentNo) (number : List ℕ) (m i : ℕ) (counts : List ℕ) where
  -- the sender of the message at i, and the number that it has to have
  abbrev who : ℕ
  who = (party_in sender (mail_no i)).0

  abbrev due : ℕ
  due = get_or counts who 0 + 1

  pub numbers_on :
      i < m
      → numbers_run sender number (m - i) i counts
      ≡ (eqb (get_or number i 0) due && numbers_run sender number (m - (i + 1)) (i + 1) (set counts who due))
  unfolding numbers_run
  numbers_on h = rw (one_less m i h, add-one (get_or counts who 0), add-one i)

  pub numbers-end : m ≤ i → numbers_run sender number (m - i) i counts ≡ true
  unfolding numbers_run
  numbers-end h = let none : m - i ≡ 0 = omega arith in rw none

-- a count that was at most i and goes up by one is at most i + 1, and so are the others
pub counts-on : (counts : List ℕ) (p i v : ℕ) → v ≤ i + 1 → ((k : ℕ) → get_or counts k 0 ≤ i) → (k : ℕ) → get_or (set counts p v) k 0 ≤ i + 1
counts-on [] p i v new old k = omega (arith, old k)
counts-on (x ∷ l) zero i v new old zero = new
counts-on (x ∷ l) zero i v new old (suc k) = omega (arith, old (suc k))
counts-on (x ∷ l) (suc p) i v new old zero = omega (arith, old zero)
counts-on (x ∷ l) (suc p) i v new old (suc k) = counts-on l p i v new (λ j. old (suc j)) k

pub log-on :
    (messages : ℕ) (status : List Status) (log : List MailNo) (h i : ℕ) (seen : List Bool)
    → i < h
    → log_runs messages status log (h - i) i seen
    ≡ ((ltb (entry_in log i).0 messages && not (get_or seen (entry_in log i).0 false))
    && log_runs messages status log (h - (i + 1)) (i + 1) (set seen (entry_in log i).0 true))
unfolding log_runs
log-on messages status log h i seen more = rw (one_less h i more, add-one i)

pub log-end :
    (messages : ℕ) (status : List Status) (log : List MailNo) (h i : ℕ) (seen : List Bool)
    → h ≤ i
    → log_runs messages status log (h - i) i seen ≡ delivered messages status seen
unfolding log_runs
log-end messages status log h i seen done = let none : h - i ≡ 0 = omega arith in rw none
