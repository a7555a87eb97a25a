-- In a sound table a sender's number names one message, and a search for it finds that one, whatever its status.
use Rattle.std.proofs.Common.{Some, ℕ, zero, suc, ◌≤◌, not-suc-le-zero, arith, ◌≡◌, sym, ap, ◌∙◌, Bool, ◌&&◌, eqb, eqb-true, eq-eqb}
use Rattle.std.proofs.lemmas.Bool.{and_parts, and_from}
use Rattle.records.specs.declared.AgentNo.{AgentNo}
use Rattle.records.specs.declared.MailNo.{MailNo}
use Rattle.records.specs.Numbers.{mail_no, same_agent}
use Rattle.records.specs.Places.{count_below}
use Rattle.records.proofs.PlaceLaws.{nth-place, same_place, last-there}
use Rattle.records.proofs.ReaderLaws.{same-agent, agent-same}
use Rattle.rules.specs.declared.State.{State}
use Rattle.rules.specs.Holding.{IsMessage, message_at}
use Rattle.rules.specs.Soundness.{Sound, sent_before}
use Rattle.rules.specs.Steps.{sent_by, find_sent}

-- the message that was taken as number n from a
pub record Sent (t : State) (a : AgentNo) (n : ℕ) (m : MailNo) : Type 0 where
  pub there : IsMessage t m
  pub sender : (message_at t m).sender ≡ a
  pub number : (message_at t m).number ≡ n

module _ (t : State) (s : Sound t) (a : AgentNo) where
  abbrev pub from_a : ℕ → Bool
  from_a i = same_agent (message_at t (mail_no i)).sender a

  -- a message's number is one more than its sender's messages before it
  pub runs_on : (n : ℕ) (m : MailNo) → Sent t a n m → n ≡ suc (count_below m.0 from_a)
  runs_on n m x =
      sym x.number
      ∙ s.numbers m x.there
      ∙ ap (λ (b : AgentNo). suc (sent_before t b m)) x.sender

  pub sent-once : (n : ℕ) (m q : MailNo) → Sent t a n m → Sent t a n q → m ≡ q
  sent-once n m q x y =
      ap mail_no
      (same_place
      from_a
      m.0
      q.0
      (agent-same (message_at t m).sender a x.sender)
      (agent-same (message_at t q).sender a y.sender)
      (omega (arith, runs_on n m x, runs_on n q y)))

  pub sent-there : (n : ℕ) → 1 ≤ n → n ≤ sent_by t a → (m : MailNo) × Sent t a n m
  sent-there zero h le = absurd (not-suc-le-zero h)
  sent-there (suc n) h le =
      let r = nth-place t.messages from_a n le in
      let from : (message_at t (mail_no r.0)).sender ≡ a = same-agent (message_at t (mail_no r.0)).sender a r.2 in (
        mail_no r.0,
        record {
          there = r.1;
          sender = from;
          number =
              s.numbers (mail_no r.0) r.1
              ∙ ap (λ (b : AgentNo). suc (sent_before t b (mail_no r.0))) from
              ∙ ap suc r.3;
        },
      )

  pub retry-found : (n : ℕ) → 1 ≤ n → n ≤ sent_by t a → (m : MailNo) × (find_sent t a n ≡ Some m) × Sent t a n m
  retry-found n h le =
      let x = sent-there n h le in
      let r =
      last-there
      t.messages
      (λ q. same_agent (message_at t q).sender a && eqb (message_at t q).number n)
      x.0.0
      x.1.there
      (and_from _ _
      (agent-same (message_at t x.0).sender a x.1.sender)
      (eq-eqb (message_at t x.0).number n x.1.number)) in (
        r.0,
        r.1,
        record {
          there = r.2;
          sender = same-agent (message_at t r.0).sender a (and_parts _ _ r.3).0;
          number = eqb-true (message_at t r.0).number n (and_parts _ _ r.3).1;
        },
      )
