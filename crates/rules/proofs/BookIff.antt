-- The tests of the senders' numbers and of the log, and the clauses that they stand for.
use Rattle.std.proofs.Common.{ℕ, zero, suc, ◌≤◌, ◌<◌, arith, ◌≡◌, refl, sym, ap, ◌∙◌, ⊎_elim, Bool, true, false, eq-eqb}
use Rattle.std.proofs.lemmas.Bool.{false≢true, cases_Bool}
use Rattle.records.specs.declared.MailNo.{MailNo}
use Rattle.records.specs.Numbers.{mail_no, same_mail}
use Rattle.records.specs.Messages.{is_delivered}
use Rattle.records.proofs.PlaceLaws.{count-some, some-count}
use Rattle.records.proofs.ReaderLaws.{same-mail, delivered-is, is-delivered}
use Rattle.rules.specs.Tests.{numbers_run, log_runs, no_counts, no_marks}
use Rattle.rules.proofs.NumberLaws.{numbers-each, each-numbers}
use Rattle.rules.proofs.LogLaws.{bit, Names, Holds, log-holds, holds-log}
use Rattle.rules.specs.declared.State.{State}
use Rattle.records.specs.Limits.{most_agents, most_messages}
use Rattle.rules.specs.Holding.{IsMessage, message_at, status_of, log_at}
use Rattle.rules.specs.Soundness.{NumbersRun, LogExact, times_logged}

module _ (t : State) (senders_fit : (m : MailNo) → IsMessage t m → (message_at t m).sender.0 < most_agents) where
  pub numbers-from : numbers_run t.sender t.number t.messages 0 no_counts ≡ true → NumbersRun t
  numbers-from h m lt = numbers-each t.sender t.number t.messages (λ j. senders_fit (mail_no j)) h m.0 lt

  pub numbers-to : NumbersRun t → numbers_run t.sender t.number t.messages 0 no_counts ≡ true
  numbers-to r = each-numbers t.sender t.number t.messages (λ j. senders_fit (mail_no j)) (λ j lt. r (mail_no j) lt)

one_of : (b : Bool) (n : ℕ) → bit b ≡ n → 1 ≤ n → b ≡ true
one_of true n e h = refl
one_of false n e h = absurd (omega arith)

module _ (t : State) (messages_fit : t.messages ≤ most_messages) where
  abbrev log_test : Bool
  log_test = log_runs t.messages t.status t.log t.handed 0 no_marks

  pub log-from : log_test ≡ true → LogExact t
  log-from h =
      record {
        once = λ m lt d. sym (sym (ap bit (is-delivered (status_of t m) d)) ∙ held.1 m.0 lt);
        only =
            λ i lt. (
              held.0 i (omega arith) lt,
              delivered-is
                  (status_of t (log_at t i))
                  (one_of
                  (is_delivered (status_of t (log_at t i)))
                  (times_logged t (log_at t i))
                  (held.1 (log_at t i).0 (held.0 i (omega arith) lt))
                  (count-some t.handed (λ j. same_mail (log_at t j) (log_at t i)) i lt (eq-eqb (log_at t i).0 (log_at t i).0 refl))),
            );
      }
    where
      held : Names t.log t.messages t.status messages_fit 0 t.handed × Holds t.log t.messages t.status messages_fit t.handed
      held = log-holds t.log t.messages t.status messages_fit t.handed h

  -- a message that is not delivered is not in the log
  not-logged : LogExact t → (m : MailNo) → is_delivered (status_of t m) ≡ false → times_logged t m ≡ 0
  not-logged r m f = none (times_logged t m) refl
    where
      none : (n : ℕ) → times_logged t m ≡ n → n ≡ 0
      none zero e = refl
      none (suc n) e =
          let some = some-count t.handed (λ j. same_mail (log_at t j) m) (omega (arith, e)) in
          absurd
          (false≢true
          (sym f
          ∙ ap (λ (x : MailNo). is_delivered (status_of t x)) (sym (same-mail (log_at t some.0) m some.2))
          ∙ is-delivered (status_of t (log_at t some.0)) (r.only some.0 some.1).1))

  pub log-to : LogExact t → log_test ≡ true
  log-to r =
      holds-log
      t.log
      t.messages
      t.status
      messages_fit
      t.handed
      (λ j le lt. (r.only j lt).0)
      (λ m lt.
      ⊎_elim
      (λ d. ap bit d ∙ sym (r.once (mail_no m) lt (delivered-is (status_of t (mail_no m)) d)))
      (λ d. ap bit d ∙ sym (not-logged r (mail_no m) d))
      (cases_Bool (is_delivered (status_of t (mail_no m)))))
