-- send keeps a sound table sound: one message more, queued, with its sender's next number.
use Rattle.std.proofs.Common.{ℕ, suc, ◌<◌, ◌≤◌, ◌≡◌, ap, sym, ◌∙◌, subst, ◌↔◌, length-set, arith}
use Rattle.std.proofs.Math.Decide.{ℕ_discrete}
use Rattle.std.proofs.lemmas.Bool.{false≢true}
use Rattle.records.specs.declared.AgentNo.{AgentNo}
use Rattle.records.specs.declared.SiteNo.{SiteNo}
use Rattle.records.specs.declared.MailNo.{MailNo}
use Rattle.records.specs.declared.Message.{Message}
use Rattle.records.specs.declared.Status.TheVariants.{Queued, Out, Lost}
use Rattle.records.specs.Numbers.{mail_no, same_agent}
use Rattle.records.specs.Messages.{empty_message, is_under_way, is_delivered}
use Rattle.rules.specs.declared.State.{State}
use Rattle.records.specs.Limits.{most_messages}
use Rattle.rules.specs.Holding.{IsAgent, IsMessage, phase_of, site_of, message_at, status_of, log_at, next_message, with_new_message}
use Rattle.rules.specs.Soundness.{UnderWay, Delivered, sent_before}
use Rattle.rules.specs.Steps.{sent_by, new_message}
use Rattle.records.proofs.PlaceLaws.{count-alike}
use Rattle.records.proofs.ReaderLaws.{delivered-is, is-delivered}
use Rattle.preservation.proofs.Shapes.{shaped-messages}
use Rattle.preservation.proofs.AfterChange.{Seen, changed, kept, seen-message}
use Rattle.preservation.proofs.Families.{ChildOf}
use Rattle.preservation.proofs.OneAgent.{Good}
use Rattle.preservation.proofs.MailSteps.{mail_of, mail-sound}
use Rattle.preservation.proofs.OneMessage.{not-under-way, under-way-as}

module _
    (t : State)
    (g : Good t)
    (a : AgentNo)
    (n : ℕ)
    (b : AgentNo)
    (v : ℕ)
    (from : IsAgent t a)
    (to : IsAgent t b)
    (up : (q : AgentNo) → ChildOf (phase_of t a) q → ⊥)
    (next : n ≡ suc (sent_by t a))
    (some : t.messages < most_messages)
  where
    abbrev it : Message
    it = new_message a n b v

    abbrev after : State
    after = with_new_message t it

    abbrev Now : MailNo → Type 0
    Now k = Seen k (next_message t) it (message_at t k) (message_at after k)

    now : (k : MailNo) → Now k
    now = seen-message t it g.0 some

    was-there : (k : MailNo) → IsMessage after k → (k ≡ next_message t → ⊥) → IsMessage t k
    was-there k h d = told (ℕ_discrete k.0 t.messages)
      where
        told : Dec (k.0 ≡ t.messages) → IsMessage t k
        told (yes q) = absurd (d (ap mail_no q))
        told (no d) = omega arith

    -- a message that was there is as it was
    old-message : (k : MailNo) → IsMessage t k → message_at after k ≡ message_at t k
    old-message k h = told (now k)
      where
        told : Now k → message_at after k ≡ message_at t k
        told (changed q r) = absurd (omega (arith, ap (λ (x : MailNo). x.0) q))
        told (kept d r) = r

    room : (i : ℕ) → suc t.messages ≤ i → message_at after (mail_no i) ≡ empty_message
    room i h = told (now (mail_no i))
      where
        told : Now (mail_no i) → message_at after (mail_no i) ≡ empty_message
        told (changed q r) = absurd (omega (arith, ap (λ (x : MailNo). x.0) q))
        told (kept d r) = r ∙ g.1.room.messages i (omega arith)

    -- What holds of every message that was there, and of the new one, holds of every message now.
    every : (P : Message → Type 0) → P it → ((k : MailNo) → IsMessage t k → P (message_at t k)) → (k : MailNo) → IsMessage after k → P (message_at after k)
    every P new old k h = told (now k)
      where
        told : Now k → P (message_at after k)
        told (changed q r) = subst P (sym r) new
        told (kept d r) = subst P (sym r) (old k (was-there k h d))

    -- no more is under way, or stands in an inbox
    under-way : (k : MailNo) → (IsMessage t k × UnderWay t k) ↔ (IsMessage after k × UnderWay after k)
    under-way k = told (now k)
      where
        told : Now k → (IsMessage t k × UnderWay t k) ↔ (IsMessage after k × UnderWay after k)
        told (changed q r) = (
          λ w. absurd (omega (arith, w.0, ap (λ (x : MailNo). x.0) q)),
          λ w. absurd (not-under-way (status_of after k) (ap (λ (x : Message). is_under_way x.status) r) w.1),
        )
        told (kept d r) =
            let same = under-way-as (status_of after k) (status_of t k) (ap (λ (x : Message). x.status) r) in
            (λ w. (omega (arith, w.0), same.1 w.1), λ w. (was-there k w.0 d, same.0 w.1))

    was-delivered : (k : MailNo) → IsMessage after k → Delivered after k → IsMessage t k × Delivered t k
    was-delivered k h x = told (now k)
      where
        told : Now k → IsMessage t k × Delivered t k
        told (changed q r) =
            absurd (false≢true (sym (ap (λ (y : Message). is_delivered y.status) r) ∙ is-delivered (status_of after k) x))
        told (kept d r) = (
          was-there k h d,
          delivered-is (status_of t k) (sym (ap (λ (y : Message). is_delivered y.status) r) ∙ is-delivered (status_of after k) x),
        )

    still-delivered : (k : MailNo) → IsMessage t k → Delivered t k → Delivered after k
    still-delivered k h x =
        delivered-is
        (status_of after k)
        (ap (λ (y : Message). is_delivered y.status) (old-message k h) ∙ is-delivered (status_of t k) x)

    -- what was taken before a message that was there, or before the new one
    sent-same : (x : AgentNo) (k : MailNo) → k.0 ≤ t.messages → sent_before after x k ≡ sent_before t x k
    sent-same x k h =
        count-alike
        k.0
        (λ i. same_agent (message_at after (mail_no i)).sender x)
        (λ i. same_agent (message_at t (mail_no i)).sender x)
        (λ i l. ap (λ (y : Message). same_agent y.sender x) (old-message (mail_no i) (omega arith)))

    numbers : (k : MailNo) → IsMessage after k → (message_at after k).number ≡ suc (sent_before after (message_at after k).sender k)
    numbers k h = told (now k)
      where
        told : Now k → (message_at after k).number ≡ suc (sent_before after (message_at after k).sender k)
        told (changed q r) =
            ap (λ (y : Message). y.number) r
            ∙ next
            ∙ ap suc
            (sym
            (ap (λ (y : Message). sent_before after y.sender k) r
            ∙ ap (sent_before after a) q
            ∙ sent-same a (next_message t) (omega arith)))
        told (kept d r) =
            ap (λ (y : Message). y.number) r
            ∙ g.1.numbers k (was-there k h d)
            ∙ ap suc
            (sym
            (ap (λ (y : Message). sent_before after y.sender k) r
            ∙ sent-same (message_at t k).sender k (omega (arith, was-there k h d))))

    pub send-good : Good after
    send-good = (
      shaped-messages
          t
          g.0
          _ _ _ _ _ _
          (length-set t.sender t.messages a)
          (length-set t.number t.messages n)
          (length-set t.addressee t.messages b)
          (length-set t.value t.messages v)
          (length-set t.status t.messages Queued),
      mail-sound
          t
          t.lock
          (mail_of after)
          g.1
          (record {
            messages_fit = some;
            log_fits = g.1.counts.log_fits;
            room = room;
            log_room = g.1.room.log;
            lock =
                record {
                  move = g.1.lock.move;
                  mail = λ k. (
                    λ e. (under-way k).0 ((g.1.lock.mail k).0 e),
                    λ w. (g.1.lock.mail k).1 ((under-way k).1 w),
                  );
                };
            out =
                every
                (λ y. (s : SiteNo) → y.status ≡ Out s → s ≡ site_of t y.addressee)
                (λ s k. cc)
                g.1.out;
            lost = every (λ y. y.status ≡ Lost → ⊥) (λ k. cc) g.1.lost;
            parties =
                record {
                  sender = every (λ y. IsAgent t y.sender) from g.1.parties.sender;
                  addressee = every (λ y. IsAgent t y.addressee) to g.1.parties.addressee;
                  sender_up = every (λ y. (p : AgentNo) → ChildOf (phase_of t y.sender) p → ⊥) up g.1.parties.sender_up;
                };
            numbers = numbers;
            log =
                record {
                  once = λ k h d. let was = was-delivered k h d in g.1.log.once k was.0 was.1;
                  only = λ i h.
                      let was = g.1.log.only i h in
                      (omega (arith, was.0), still-delivered (log_at t i) was.0 was.1);
                };
          }),
    )
