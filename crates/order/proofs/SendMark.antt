-- send: a message begins.
use Rattle.std.proofs.Common.{ℕ, suc, ◌<◌, ◌≡◌, refl, ap, sym, ◌∙◌, ◌⊎◌, inl, inr, List, lit≤, arith}
use Rattle.std.proofs.Math.Decide.{ℕ_discrete}
use Rattle.records.specs.declared.AgentNo.{AgentNo}
use Rattle.records.specs.declared.MailNo.{MailNo}
use Rattle.records.specs.declared.Item.{Item}
use Rattle.records.specs.declared.Message.{Message}
use Rattle.records.specs.Numbers.{mail_no}
use Rattle.records.specs.Messages.{item_of}
use Rattle.rules.specs.declared.State.{State}
use Rattle.records.specs.Limits.{most_messages}
use Rattle.rules.specs.Holding.{IsAgent, IsMessage, phase_of, message_at, next_message, with_new_message}
use Rattle.rules.specs.Steps.{sent_by, new_message}
use Rattle.preservation.proofs.AfterChange.{Seen, changed, kept, seen-message}
use Rattle.preservation.proofs.Families.{ChildOf}
use Rattle.preservation.proofs.Send.{send-good}
use Rattle.preservation.proofs.Letters.{number-below}
use Rattle.order.specs.Marks.{Mark, takes}
use Rattle.order.specs.Operations.{Operation}
use Rattle.order.proofs.MarkLaws.{more}
use Rattle.order.proofs.LinkSteps.{mail-taken}
use Rattle.order.proofs.BoardLaws.{logged-there, board-same}
use Rattle.order.proofs.Invariant.{Inv, inv-quiet, creations-same, move_same}

module _
    (start : State)
    (ms : List Mark)
    (t : State)
    (order : List Operation)
    (v : Inv start ms t order)
    (a : AgentNo)
    (n : ℕ)
    (b : AgentNo)
    (w : ℕ)
    (from : IsAgent t a)
    (to : IsAgent t b)
    (up : (q : AgentNo) → ChildOf (phase_of t a) q → ⊥)
    (next : n ≡ suc (sent_by t a))
    (some : t.messages < most_messages)
  where
    abbrev new : MailNo
    new = next_message t

    abbrev it : Message
    it = new_message a n b w

    abbrev after : State
    after = with_new_message t it

    abbrev mark : Mark
    mark = takes new b (item_of it)

    abbrev Now : MailNo → Type 0
    Now k = Seen k new it (message_at t k) (message_at after k)

    now : (k : MailNo) → Now k
    now = seen-message t it v.good.0 some

    old-message : (k : MailNo) → IsMessage t k → IsMessage after k × (message_at after k ≡ message_at t k)
    old-message k h = told (now k)
      where
        told : Now k → IsMessage after k × (message_at after k ≡ message_at t k)
        told (changed q r) = absurd (omega (arith, ap (λ (x : MailNo). x.0) q))
        told (kept d r) = (omega arith, r)

    either : (k : MailNo) → IsMessage after k → IsMessage t k ⊎ (k ≡ new)
    either k h = told (ℕ_discrete k.0 t.messages)
      where
        told : Dec (k.0 ≡ t.messages) → IsMessage t k ⊎ (k ≡ new)
        told (yes q) = inr (ap mail_no q)
        told (no d) = inl (omega arith)

    new-message : message_at after new ≡ it
    new-message = told (now new)
      where
        told : Now new → message_at after new ≡ it
        told (changed q r) = r
        told (kept d r) = absurd (d refl)

    -- its number is above those of its sender's messages so far
    unknown : (k : MailNo) → IsMessage t k → item_of (message_at t k) ≡ item_of it → ⊥
    unknown k h e =
        omega (
          arith,
          number-below t v.good.1 k h,
          ap (λ (y : Item). y.number) e,
          ap (λ (y : Item). sent_by t y.sender) e,
          next,
        )

    pub send-on : Inv start (more ms mark) after order
    send-on =
        inv-quiet
        start
        ms
        mark
        t
        after
        order
        v
        (lit≤ tt)
        (record {
          create = λ p c e. cc;
          take = λ m x y e k h.
              let here : new ≡ m = cc in
              let same : item_of it ≡ y = cc in (
                λ q. omega (arith, ap (λ (z : MailNo). z.0) q, ap (λ (z : MailNo). z.0) here),
                λ q. unknown k h (q ∙ sym same),
              );
        })
        (send-good t v.good a n b w from to up next some)
        (creations-same start ms mark t after v.creations (omega arith) (λ e. omega arith) (λ e. omega arith))
        (λ c. move_same start ms mark t c v.moves refl (λ e. cc) (λ e. cc))
        (mail-taken
        start
        ms
        mark
        t
        after
        new
        v.mail
        old-message
        either
        (omega arith)
        (ap (λ (y : Message). takes new y.addressee (item_of y)) (sym new-message)))
        (board-same t after refl (λ c. refl) refl (λ k h.
        let same = old-message k (logged-there t v.good.1 k h) in
        (ap (λ (y : Message). y.addressee) same.1, ap item_of same.1)))
