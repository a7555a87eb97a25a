-- Along a script every table that is open is sound and holds values of 32 bits, and every answer's number has at most three digits.
use Prim.Native.Nat.{ℕ, ◌≤◌, ◌<◌}
use Rattle.std.specs.Prelude.{Option, Some, None, IfSome}
use native.Mathlib.Omega.{arith}
use mathlib.Core.Path.{◌≡◌, refl, sym, subst}
use mathlib.Core.Bool.{Bool, true, false, cond, ◌&&◌}
use lib.Dec.{ltb, leb, eqb}
use lib.ListN.{replicate}
use Rattle.std.proofs.lemmas.List.{get_or-replicate, get_or_past}
use Rattle.records.specs.declared.MailNo.{MailNo}
use Rattle.records.specs.declared.Message.{Message}
use Rattle.records.specs.declared.Code.{Code}
use Rattle.records.specs.declared.Code.TheVariants.{BadCount, BadLine, NotOpen, AlreadyOpen}
use Rattle.rules.specs.declared.State.{State}
use Rattle.rules.specs.declared.Reply.{Reply}
use Rattle.rules.specs.declared.Step.{Step}
use Rattle.records.specs.Codes.{code_number}
use Rattle.records.specs.Limits.{most_sites, most_messages}
use Rattle.rules.specs.Holding.{Shaped, message_at, no_state, next_message, with_new_message}
use Rattle.rules.specs.Soundness.{Sound}
use Rattle.rules.specs.Answers.{done, unless}
use Rattle.rules.specs.Steps.{opened, new_message, open_of, step_of}
use Rattle.table.specs.declared.Table.{Table}
use Rattle.table.specs.Face.{open_table, step_table}
use Rattle.preservation.proofs.AfterChange.{Seen, changed, kept, seen-message}
use Rattle.preservation.proofs.Outcomes.{Went, spawned, asked, sent, enrolled, greeted, granted, leapt, booked, settled, forwarded, handed, lost, closed, Outcome, stayed, went, step-outcome}
use Rattle.preservation.proofs.Refusals.{number-within}
use Rattle.preservation.proofs.Keeps.{step_keeps}
use Rattle.preservation.proofs.Opening.{open-good}
use Rattle.grammar.specs.declared.Line.{Line}
use Rattle.grammar.specs.declared.Line.TheVariants.{Bad, Opening, Take}
use Rattle.program.specs.declared.Turn.{Turn}
use Rattle.grammar.specs.Grammar.{most_number}
use Rattle.program.specs.Program.{turned_away, opened_by, stepped_by, take_line}
use Rattle.output.proofs.Printed.{opens}
use Rattle.output.proofs.Values.{step_value, line_value}

-- every message's value is a number of a script
abbrev pub Values : State → Type 0
Values t = (m : MailNo) → (message_at t m).value ≤ most_number

-- so it is with one message more
taken : (t : State) (x : Message) → Shaped t → t.messages < most_messages → x.value ≤ most_number → Values t → Values (with_new_message t x)
taken t x shaped some new old m = told (seen-message t x shaped some m)
  where
    told : Seen m (next_message t) x (message_at t m) (message_at (with_new_message t x) m) → (message_at (with_new_message t x) m).value ≤ most_number
    told (changed e now) = subst (λ (y : Message). y.value ≤ most_number) (sym now) new
    told (kept e now) = subst (λ (y : Message). y.value ≤ most_number) (sym now) (old m)

-- no other step touches a value
went-values : (t : State) (s : Step) (n : ℕ) (t' : State) → Shaped t → step_value s ≤ most_number → Values t → Went t s n t' → Values t'
went-values t s n t' shaped new old (spawned a here free some) = old
went-values t s n t' shaped new old (asked a u here site free) = old
went-values t s n t' shaped new old (sent a k b v from to up next some) = taken t (new_message a k b v) shaped some new old
went-values t s n t' shaped new old (enrolled b p here born unheld) = old
went-values t s n t' shaped new old (greeted b p here turn) = old
went-values t s n t' shaped new old (granted a u here turn unheld) = old
went-values t s n t' shaped new old (leapt a u here turn) = old
went-values t s n t' shaped new old (booked a here turn) = old
went-values t s n t' shaped new old (settled a here turn) = old
went-values t s n t' shaped new old (forwarded m u here turn unheld known) = old
went-values t s n t' shaped new old (handed m u here turn met) = old
went-values t s n t' shaped new old (lost m u here turn missed) = old
went-values t s n t' shaped new old (closed m here turn) = old

step-values : (t : State) (s : Step) (r : Reply) → Shaped t → step_value s ≤ most_number → Values t → Outcome t s r → Values r.state
step-values t s r shaped new old (stayed same code number below) = subst Values (sym same) old
step-values t s r shaped new old (went code w) = went-values t s r.number r.state shaped new old w

pub record Fine (t : State) : Type 0 where
  pub good : Shaped t × Sound t
  pub values : Values t

-- what a script has come to is fine where it is open
abbrev pub FineDesk : Option Table → Type 0
FineDesk d = IfSome d (λ t. Fine t.state)

-- a turn whose answer is short, and that comes to a fine table
pub record Fits (r : Turn) : Type 0 where
  pub number : r.number ≤ 999
  pub desk : FineDesk r.desk

-- a line that is refused before it comes to the table
turned : (d : Option Table) (c : Code) → FineDesk d → Fits (turned_away d c)
turned d c f = record { number = omega arith; desk = f }

-- an opening, whether its test passed or not
unnamed : (n : ℕ) (b : Bool) → (unless b BadCount no_state (done (opened n) 0)).number ≤ 999
unnamed n true = omega arith
unnamed n false = omega arith

fresh : (n : ℕ) (b : Bool) → Values (unless b BadCount no_state (done (opened n) 0)).state
fresh n true m = grind (arith, get_or-replicate {A = ℕ} 512 m.0 0 0, get_or_past {X = ℕ} (replicate 512 0) m.0 0)
fresh n false m = grind (arith, get_or-replicate {A = ℕ} 512 m.0 0 0, get_or_past {X = ℕ} (replicate 512 0) m.0 0)

if_open : (t : Table) (b : Bool) → (b ≡ true → Fine t.state) → FineDesk (cond b (Some t) None)
if_open t true f = f refl
if_open t false f = tt

opening : (n : ℕ) → Fits (opened_by (open_table n))
unfolding open_of open_table
opening n =
    record {
      number = unnamed n (ltb 0 n && leb n most_sites);
      desk =
          if_open (open_table n).table (eqb (code_number (open_of n).code) 0)
          (λ e. record { good = open-good n (opens n e); values = fresh n (ltb 0 n && leb n most_sites) });
    }

-- a step, whose number is 0, a child's or a message's
stepping : (t : Table) (s : Step) → Fine t.state → step_value s ≤ most_number → Fits (stepped_by (step_table t s))
unfolding step_table
stepping t s f new =
    record {
      number = omega (arith, number-within t.state s);
      desk =
          record {
            good = step_keeps t.state f.good.0 f.good.1 s;
            values = step-values t.state s (step_of t.state s) f.good.0 new f.values (step-outcome t.state s);
          };
    }

pub line-fits : (d : Option Table) (x : Line) → FineDesk d → line_value x ≤ most_number → Fits (take_line d x)
unfolding take_line
line-fits d Bad f new = turned d BadLine f
line-fits None (Opening s) f new = opening s
line-fits (Some t) (Opening s) f new = turned (Some t) AlreadyOpen f
line-fits None (Take s) f new = turned None NotOpen f
line-fits (Some t) (Take s) f new = stepping t s f new
