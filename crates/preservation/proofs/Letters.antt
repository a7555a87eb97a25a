-- A message is known by its sender and its sender's number.
use Rattle.std.proofs.Common.{ℕ, suc, ◌<◌, ◌≤◌, ◌≡◌, refl, ap, ◌∙◌, arith, eq-eqb}
use Rattle.std.proofs.Math.Decide.{dec_lt}
use Rattle.records.specs.declared.AgentNo.{AgentNo}
use Rattle.records.specs.declared.MailNo.{MailNo}
use Rattle.records.specs.Numbers.{mail_no, same_agent}
use Rattle.records.specs.Places.{count_below}
use Rattle.rules.specs.declared.State.{State}
use Rattle.rules.specs.Holding.{IsMessage, message_at}
use Rattle.rules.specs.Soundness.{Sound, sent_before}
use Rattle.rules.specs.Steps.{sent_by}
use Rattle.records.proofs.PlaceLaws.{later-counts}

module _ (t : State) (s : Sound t) where
  -- a sender's message counts among those taken from it later
  counts-below : (m : MailNo) (n : ℕ) (a : AgentNo) → (message_at t m).sender ≡ a → m.0 < n → sent_before t a m < count_below n (λ i. same_agent (message_at t (mail_no i)).sender a)
  counts-below m n a e h =
      later-counts (λ i. same_agent (message_at t (mail_no i)).sender a) m.0 n (eq-eqb _ _ (ap (λ (b : AgentNo). b.0) e)) h

  pub number-below : (m : MailNo) → IsMessage t m → (message_at t m).number ≤ sent_by t (message_at t m).sender
  number-below m h = omega (arith, s.numbers m h, counts-below m t.messages (message_at t m).sender refl h)

  pub one-letter :
      (m k : MailNo)
      → IsMessage t m
      → IsMessage t k
      → (message_at t m).sender ≡ (message_at t k).sender
      → (message_at t m).number ≡ (message_at t k).number
      → m ≡ k
  one-letter m k hm hk from number = which (dec_lt m.0 k.0) (dec_lt k.0 m.0)
    where
      mine : (message_at t m).number ≡ suc (sent_before t (message_at t k).sender m)
      mine = s.numbers m hm ∙ ap (λ (a : AgentNo). suc (sent_before t a m)) from

      which : Dec (m.0 < k.0) → Dec (k.0 < m.0) → m ≡ k
      which (yes l) d =
          absurd (omega (arith, mine, s.numbers k hk, counts-below m k.0 (message_at t k).sender from l))
      which (no n) (yes l) =
          absurd (omega (arith, mine, s.numbers k hk, counts-below k m.0 (message_at t k).sender refl l))
      which (no n) (no d) = ap mail_no (omega arith)
