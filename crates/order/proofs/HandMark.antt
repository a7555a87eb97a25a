-- hand: a message has its effect.
use Rattle.std.proofs.Common.{ℕ, ◌<◌, ◌≡◌, refl, ap, sym, ◌∙◌, subst, ◌⊎◌, inl, inr, true, List, [], ◌∷◌, ◌++◌, length, take-suc-set, arith}
use Rattle.std.proofs.lemmas.Bool.{false≢true}
use Rattle.records.specs.declared.AgentNo.{AgentNo}
use Rattle.records.specs.declared.SiteNo.{SiteNo}
use Rattle.records.specs.declared.MailNo.{MailNo}
use Rattle.records.specs.declared.Item.{Item}
use Rattle.records.specs.declared.Status.TheVariants.{Out, Handed}
use Rattle.records.specs.Messages.{item_of, is_delivered}
use Rattle.rules.specs.declared.State.{State}
use Rattle.rules.specs.Holding.{IsMessage, message_at, status_of, log_of, with_status, with_logged}
use Rattle.rules.specs.Steps.{addressee_of}
use Rattle.preservation.proofs.AfterChange.{Seen, changed, kept}
use Rattle.preservation.proofs.OneMessage.{status-now}
use Rattle.preservation.proofs.Hand.{log-shorter, hand-good}
use Rattle.preservation.proofs.Letters.{one-letter}
use Rattle.order.specs.Lists.{In}
use Rattle.order.specs.Marks.{Mark, creates, leaves, hands, closes, At}
use Rattle.order.specs.Operations.{Operation, creation, move, message, name_of, Taken, EffectAt, OverAt}
use Rattle.order.proofs.MarkLaws.{more, at_last, at_snoc}
use Rattle.order.proofs.Links.{New}
use Rattle.order.proofs.LinkSteps.{mail-on}
use Rattle.order.proofs.EarlierPlaces.{taken-old, taken-there}
use Rattle.order.proofs.BoardLaws.{board-handed}
use Rattle.order.proofs.Invariant.{Inv, inv-effect, new-plain, creations-same, move_same}
use Rattle.order.proofs.MailMarks.{still-closed, status-is}

module _
    (start : State)
    (ms : List Mark)
    (t : State)
    (order : List Operation)
    (v : Inv start ms t order)
    (m : MailNo)
    (there : IsMessage t m)
    (s : SiteNo)
    (e : status_of t m ≡ Out s)
  where
    abbrev after : State
    after = with_logged (with_status t m Handed) m

    abbrev mark : Mark
    mark = hands m

    abbrev it : Operation
    it = message (addressee_of t m) (item_of (message_at t m))

    new : New t mark
    new = new-plain start ms mark t (λ q. omega arith) (λ q. omega arith)

    now : (k : MailNo) → Seen k m Handed (status_of t k) (status_of after k)
    now = status-now t v.good m there Handed

    still-delivered : (k : MailNo) → is_delivered (status_of t k) ≡ true → is_delivered (status_of after k) ≡ true
    still-delivered k h = told (now k)
      where
        told : Seen k m Handed (status_of t k) (status_of after k) → is_delivered (status_of after k) ≡ true
        told (changed q r) = ap is_delivered r
        told (kept n r) = ap is_delivered r ∙ h

    log-more : log_of after ≡ log_of t ++ (m ∷ [])
    log-more =
        take-suc-set
        t.log
        t.handed
        m
        (omega (arith, log-shorter t v.good m there (ap is_delivered e), v.good.1.counts.messages_fit, v.good.0.log))

    -- the message is out: it stands in no inbox, and is not closed
    not-delivered : (k : MailNo) → k ≡ m → is_delivered (status_of t k) ≡ true → ⊥
    not-delivered k q h = false≢true (sym (ap is_delivered e) ∙ ap (λ (j : MailNo). is_delivered (status_of t j)) (sym q) ∙ h)

    -- another that is read with the same sender and number is the same
    same-letter :
        (k : MailNo) (b : AgentNo) (y : Item)
        → Taken start ms k b y
        → y.sender ≡ (message_at t m).sender
        → y.number ≡ (message_at t m).number
        → k ≡ m
    same-letter k b y h from number =
        let known = v.mail.known k b y h in
        one-letter
        t
        v.good.1
        k
        m
        known.0
        there
        (ap (λ (z : Item). z.sender) known.2 ∙ from)
        (ap (λ (z : Item). z.number) known.2 ∙ number)

    only : (y : Operation) → EffectAt start (more ms mark) y (length ms) → y ≡ it
    only (creation p c) h = let q : mark ≡ creates p c = sym (at_last ms mark) ∙ h in cc
    only (move b j w) h = let q : mark ≡ leaves b = sym (at_last ms mark) ∙ h.1 in cc
    only (message b y) h =
        let q : mark ≡ hands h.0 = sym (at_last ms mark) ∙ h.2 in
        let same : h.0 ≡ m = cc in
        let was : Taken start (more ms mark) m b y = subst (λ (k : MailNo). Taken start (more ms mark) k b y) same h.1 in
        let known = v.mail.known m b y (taken-there start ms mark t new m b y there was) in
        λ i. message (sym known.1 i) (sym known.2 i)

    fresh : (y : Operation) → In y order → name_of y ≡ name_of it → ⊥
    fresh (creation p c) h n = cc
    fresh (move b j w) h n = cc
    fresh (message b y) h n =
        let was = (v.ordered.exactly (message b y)).0 h in
        let same : was.1.0 ≡ m = same-letter was.1.0 b y was.1.1 (cc) (cc) in
        not-delivered was.1.0 same (v.mail.handed was.0 was.1.0 was.1.2).1

    unfinished : (i : ℕ) → OverAt start (more ms mark) it i → ⊥
    unfinished i h = told (at_snoc ms mark i (closes h.0) (λ q. cc) h.2)
      where
        told : ((i < length ms) × At ms i (closes h.0)) ⊎ ((i ≡ length ms) × (mark ≡ closes h.0)) → ⊥
        told (inl w) =
            let closed = v.mail.closed i h.0 w.1 in
            let same : h.0 ≡ m =
            same-letter
            h.0
            (addressee_of t m)
            (item_of (message_at t m))
            (taken-there start ms mark t new h.0 (addressee_of t m) (item_of (message_at t m)) closed.0 h.1)
            refl
            refl in
            not-delivered h.0 same (ap is_delivered closed.1)
        told (inr w) = let q : mark ≡ closes h.0 = w.1 in cc

    pub hand_on : Inv start (more ms mark) after (order ++ (it ∷ []))
    hand_on =
        inv-effect
        start
        ms
        mark
        t
        after
        order
        it
        v
        new
        (hand-good t v.good m there s e)
        (creations-same start ms mark t after v.creations (omega arith) (λ q. omega arith) (λ q. omega arith))
        (λ c. move_same start ms mark t c v.moves refl (λ q. cc) (λ q. cc))
        (mail-on
        start
        ms
        mark
        t
        after
        v.mail
        refl
        (λ k. (refl, refl))
        still-delivered
        (still-closed start ms t order v m there Handed (λ q. cc))
        (λ k b y q. cc)
        (λ k q.
        let same : m ≡ k = cc in (
          subst (IsMessage t) same there,
          ap (λ (j : MailNo). is_delivered (status_of after j)) (sym same) ∙ ap is_delivered (status-is start ms t order v m there Handed),
        ))
        (λ k q. cc))
        (v.good.1.parties.addressee m there, v.good.1.parties.sender m there)
        (board-handed t after m refl (λ c. refl) log-more (λ k. (refl, refl)))
        (m, taken-old start ms mark m (addressee_of t m) (item_of (message_at t m)) (v.mail.taken m there), at_last ms mark)
        only
        fresh
        unfinished
