-- A refusal hands back the table it was given, with number 0; a repeat hands it back too; and no answer's number is above the table's
-- counts.
use Rattle.std.proofs.Common.{ℕ, ◌+◌, ◌≤◌, arith, ◌≡◌, refl, Bool, true, false, ◌&&◌, ltb, leb}
use Rattle.records.specs.declared.Code.TheVariants.{Done, Repeat, BadCount}
use Rattle.records.specs.Codes.{IsRefusal}
use Rattle.records.proofs.CodeLaws.{not-refused, not-repeated}
use Rattle.rules.specs.declared.State.{State}
use Rattle.rules.specs.declared.Reply.{Reply}
use Rattle.rules.specs.declared.Step.{Step}
use Rattle.records.specs.Limits.{most_sites}
use Rattle.rules.specs.Holding.{no_state}
use Rattle.rules.specs.Answers.{done, unless}
use Rattle.rules.specs.Steps.{opened, open_of, step_of}
use Rattle.preservation.proofs.Outcomes.{Went, spawned, asked, sent, enrolled, greeted, granted, leapt, booked, settled, forwarded, handed, lost, closed, Outcome, stayed, went, step-outcome}

-- every code from 10 up: the same table, and number 0
pub refused-same : (t : State) (s : Step) → IsRefusal (step_of t s).code → ((step_of t s).state ≡ t) × ((step_of t s).number ≡ 0)
refused-same t s = told (step_of t s) (step-outcome t s)
  where
    told : (r : Reply) → Outcome t s r → IsRefusal r.code → (r.state ≡ t) × (r.number ≡ 0)
    told r (stayed same code number below) h = (same, number h)
    told r (went code w) h = absurd (not-refused r.code code h)

-- a repeat changes nothing
pub repeat-same : (t : State) (s : Step) → (step_of t s).code ≡ Repeat → (step_of t s).state ≡ t
repeat-same t s = told (step_of t s) (step-outcome t s)
  where
    told : (r : Reply) → Outcome t s r → r.code ≡ Repeat → r.state ≡ t
    told r (stayed same code number below) h = same
    told r (went code w) h = absurd (not-repeated r.code code h)

-- no number is above the counts: it is 0, a child's or a message's
went-within : (t : State) (s : Step) (n : ℕ) (t' : State) → Went t s n t' → n ≤ t.agents + t.messages
went-within t s n t' (spawned a here free some) = omega arith
went-within t s n t' (asked a u here site free) = omega arith
went-within t s n t' (sent a k b v from to up next some) = omega arith
went-within t s n t' (enrolled b p here born unheld) = omega arith
went-within t s n t' (greeted b p here turn) = omega arith
went-within t s n t' (granted a u here turn unheld) = omega arith
went-within t s n t' (leapt a u here turn) = omega arith
went-within t s n t' (booked a here turn) = omega arith
went-within t s n t' (settled a here turn) = omega arith
went-within t s n t' (forwarded m u here turn unheld known) = omega arith
went-within t s n t' (handed m u here turn met) = omega arith
went-within t s n t' (lost m u here turn missed) = omega arith
went-within t s n t' (closed m here turn) = omega arith

pub number-within : (t : State) (s : Step) → (step_of t s).number ≤ t.agents + t.messages
number-within t s = told (step_of t s) (step-outcome t s)
  where
    told : (r : Reply) → Outcome t s r → r.number ≤ t.agents + t.messages
    told r (stayed same code number below) = omega arith
    told r (went code w) = went-within t s r.number r.state w

-- a refused opening yields no table
pub refused-opening : (n : ℕ) → IsRefusal (open_of n).code → ((open_of n).state ≡ no_state) × ((open_of n).number ≡ 0)
unfolding open_of
refused-opening n = told (ltb 0 n && leb n most_sites)
  where
    told : (b : Bool) → IsRefusal (unless b BadCount no_state (done (opened n) 0)).code → ((unless b BadCount no_state (done (opened n) 0)).state ≡ no_state) × ((unless b BadCount no_state (done (opened n) 0)).number ≡ 0)
    told true h = absurd (not-refused Done refl h)
    told false h = (refl, refl)
