-- Every step, refused or not, keeps a sound table sound; and a sound table never comes to lost.
use Rattle.std.proofs.Common.{ℕ, ◌≡◌, ap, sym, subst, Bool, lt-ltb, eq-eqb, [], ◌∷◌}
use Rattle.records.specs.declared.SiteNo.{SiteNo}
use Rattle.records.specs.declared.MailNo.{MailNo}
use Rattle.records.specs.declared.Status.TheVariants.{Out, Handed}
use Rattle.records.specs.declared.Code.TheVariants.{BadState}
use Rattle.rules.specs.declared.State.{State}
use Rattle.rules.specs.declared.Reply.{Reply}
use Rattle.rules.specs.declared.Step.{Step}
use Rattle.rules.specs.declared.Step.TheVariants.{Hand}
use Rattle.rules.specs.Holding.{IsMessage, site_of, status_of, with_status, with_logged}
use Rattle.rules.specs.Soundness.{Sound}
use Rattle.rules.specs.Answers.{done, unless}
use Rattle.rules.specs.Steps.{addressee_of, rule_of, step_of}
use Rattle.rules.specs.Sessions.{last_from}
use Rattle.rules.proofs.SoundIff.{sound-to}
use Rattle.preservation.specs.Kept.{StepsKeep, RunsKeep, NeverLost}
use Rattle.preservation.proofs.OneAgent.{Good}
use Rattle.preservation.proofs.Outcomes.{Went, spawned, asked, sent, enrolled, greeted, granted, leapt, booked, settled, forwarded, handed, lost, closed, Outcome, stayed, went, step-outcome}
use Rattle.preservation.proofs.Moves.{ask-good, grant-good, leap-good, book-good, settle-good}
use Rattle.preservation.proofs.Enrol.{enrol-good}
use Rattle.preservation.proofs.Greet.{greet-good}
use Rattle.preservation.proofs.Spawn.{spawn-good}
use Rattle.preservation.proofs.Send.{send-good}
use Rattle.preservation.proofs.Deliveries.{forward-good, close-good}
use Rattle.preservation.proofs.Hand.{hand-good}

-- a step that went; that an out message misses its addressee is ruled out by soundness
pub went-good : (t : State) (s : Step) (n : ℕ) (t' : State) → Good t → Went t s n t' → Good t'
went-good t s n t' g (spawned a here free some) = spawn-good t g a here free some
went-good t s n t' g (asked a u here site free) = ask-good t g a here u site free
went-good t s n t' g (sent a k b v from to up next some) = send-good t g a k b v from to up next some
went-good t s n t' g (enrolled b p here born unheld) = enrol-good t g b p here born
went-good t s n t' g (greeted b p here turn) = greet-good t g b p here turn
went-good t s n t' g (granted a u here turn unheld) = grant-good t g a here u turn unheld
went-good t s n t' g (leapt a u here turn) = leap-good t g a here u turn
went-good t s n t' g (booked a here turn) = book-good t g a here turn
went-good t s n t' g (settled a here turn) = settle-good t g a here turn
went-good t s n t' g (forwarded m u here turn unheld known) = forward-good t g m here u turn unheld known
went-good t s n t' g (handed m u here turn met) = hand-good t g m here u turn
went-good t s n t' g (lost m u here turn missed) = absurd (missed (g.1.out m here u turn))
went-good t s n t' g (closed m here turn) = close-good t g m here turn

outcome-good : (t : State) (s : Step) (r : Reply) → Good t → Outcome t s r → Good r.state
outcome-good t s r g (stayed same code number below) = subst Good (sym same) g
outcome-good t s r g (went code w) = went-good t s r.number r.state g w

pub step_keeps : StepsKeep
step_keeps t sh so s = outcome-good t s (step_of t s) (sh, so) (step-outcome t s)

-- and along any sequence of steps
pub run-keeps : RunsKeep
unfolding last_from
run-keeps r sh so [] = (sh, so)
run-keeps r sh so (s ∷ ss) =
    let g = step_keeps r.state sh so s in
    run-keeps (step_of r.state s) g.0 g.1 ss

-- so no message of a table that is reached is lost
pub never-lost : NeverLost
never-lost r sh so ss m h = (run-keeps r sh so ss).1.lost m h

-- and a hand of a message that is out hands it over
pub hand-meets :
    (t : State)
    → Sound t
    → (m : MailNo) (s : SiteNo)
    → IsMessage t m
    → status_of t m ≡ Out s
    → rule_of t (Hand m) ≡ done (with_logged (with_status t m Handed) m) 0
unfolding rule_of
hand-meets t so m s here out =
    simp (
      lt-ltb m.0 t.messages here,
      out,
      eq-eqb s.0 (site_of t (addressee_of t m)).0 (ap (λ (u : SiteNo). u.0) (so.out m here s out)),
    )

-- A step on a sound table is answered by its rule: never that the table is not sound.
pub by-rule : (t : State) → Sound t → (s : Step) → step_of t s ≡ rule_of t s
unfolding step_of
by-rule t so s = ap (λ (b : Bool). unless b BadState t (rule_of t s)) (sound-to t so)
