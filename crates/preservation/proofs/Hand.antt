-- hand keeps a sound table sound. There is room in the log: it holds each delivered message once, and the one that is out not at all.
use Rattle.std.proofs.Common.{ℕ, suc, ◌<◌, ◌≤◌, ◌≡◌, refl, ap, sym, ◌∙◌, subst, inl, inr, Bool, true, false, length-set, arith, eq-eqb, ne_eqb}
use Rattle.std.proofs.Math.Decide.{ℕ_discrete}
use Rattle.std.proofs.lemmas.Bool.{false≢true}
use Rattle.records.specs.declared.SiteNo.{SiteNo}
use Rattle.records.specs.declared.MailNo.{MailNo}
use Rattle.records.specs.declared.Status.TheVariants.{Out, Handed}
use Rattle.records.specs.Numbers.{mail_no, same_mail}
use Rattle.records.specs.Messages.{is_delivered, empty_entry}
use Rattle.records.specs.Places.{count_below}
use Rattle.rules.specs.declared.State.{State}
use Rattle.records.specs.Limits.{most_messages}
use Rattle.rules.specs.Holding.{IsMessage, status_of, log_at, with_status, with_logged}
use Rattle.rules.specs.Soundness.{Delivered, times_logged}
use Rattle.records.proofs.PlaceLaws.{count-alike, count-hit, count-miss}
use Rattle.records.proofs.ReaderLaws.{delivered-is, is-delivered}
use Rattle.preservation.proofs.Counting.{count_none, fewer}
use Rattle.preservation.proofs.Shapes.{shaped-log}
use Rattle.preservation.proofs.AfterChange.{Seen, changed, kept, seen_entry}
use Rattle.preservation.proofs.OneAgent.{Good}
use Rattle.preservation.proofs.MailSteps.{mail_of, mail-sound}
use Rattle.preservation.proofs.OneMessage.{status-shaped, status-now, room-kept, mail-left}
use Rattle.preservation.proofs.Deliveries.{out-now, lost-now}

module _ (t : State) (g : Good t) where
  -- a message that stands in no inbox stands nowhere in the log
  pub not-logged : (k : MailNo) → is_delivered (status_of t k) ≡ false → times_logged t k ≡ 0
  not-logged k e =
      count_none
      t.handed
      (λ i. same_mail (log_at t i) k)
      (λ i h. ne_eqb (log_at t i).0 k.0 (λ q.
      false≢true (sym e ∙ is-delivered (status_of t k) (subst (Delivered t) (ap mail_no q) (g.1.log.only i h).1))))

  at-most-once : (j : ℕ) → j < t.messages → times_logged t (mail_no j) ≤ 1
  at-most-once j h = which (is_delivered (status_of t (mail_no j))) refl
    where
      which : (b : Bool) → is_delivered (status_of t (mail_no j)) ≡ b → times_logged t (mail_no j) ≤ 1
      which true e = omega (arith, g.1.log.once (mail_no j) h (delivered-is _ e))
      which false e = omega (arith, not-logged (mail_no j) e)

  -- fewer are logged than there are messages, where one stands in no inbox
  pub log-shorter : (m : MailNo) → IsMessage t m → is_delivered (status_of t m) ≡ false → t.handed < t.messages
  log-shorter m h e =
      fewer t.messages t.handed (λ i. (log_at t i).0) m.0 (λ i k. (g.1.log.only i k).0) at-most-once h (not-logged m e)

module _ (t : State) (g : Good t) (m : MailNo) (there : IsMessage t m) (s : SiteNo) (e : status_of t m ≡ Out s) where
  abbrev after : State
  after = with_logged (with_status t m Handed) m

  room : t.handed < most_messages
  room = omega (arith, log-shorter t g m there (ap is_delivered e), g.1.counts.messages_fit)

  entry : (i : ℕ) → Seen i t.handed m (log_at t i) (log_at after i)
  entry = seen_entry t m (omega (arith, room, g.0.log))

  last_entry : log_at after t.handed ≡ m
  last_entry = told (entry t.handed)
    where
      told : Seen t.handed t.handed m (log_at t t.handed) (log_at after t.handed) → log_at after t.handed ≡ m
      told (changed q r) = r
      told (kept n r) = absurd (n refl)

  old-entry : (i : ℕ) → (i ≡ t.handed → ⊥) → log_at after i ≡ log_at t i
  old-entry i n = told (entry i)
    where
      told : Seen i t.handed m (log_at t i) (log_at after i) → log_at after i ≡ log_at t i
      told (changed q r) = absurd (n q)
      told (kept d r) = r

  -- how often the old part of the log holds a message
  old-times : (k : MailNo) → count_below t.handed (λ i. same_mail (log_at after i) k) ≡ times_logged t k
  old-times k =
      count-alike
      t.handed
      (λ i. same_mail (log_at after i) k)
      (λ i. same_mail (log_at t i) k)
      (λ i h. ap (λ (x : MailNo). same_mail x k) (old-entry i (λ q. omega arith)))

  once : (k : MailNo) → IsMessage t k → Delivered after k → times_logged after k ≡ 1
  once k h d = told (status-now t g m there Handed k) d
    where
      told : Seen k m Handed (status_of t k) (status_of after k) → Delivered after k → times_logged after k ≡ 1
      told (changed q r) d =
          count-hit t.handed (λ i. same_mail (log_at after i) k) (eq-eqb _ _ (ap (λ (x : MailNo). x.0) (last_entry ∙ sym q)))
          ∙ ap suc (old-times k ∙ ap (times_logged t) q ∙ not-logged t g m (ap is_delivered e))
      told (kept n r) d =
          count-miss t.handed (λ i. same_mail (log_at after i) k) (ne_eqb _ _ (λ q. n (sym (sym last_entry ∙ ap mail_no q))))
          ∙ old-times k
          ∙ g.1.log.once k h (delivered-is _ (ap is_delivered (sym r) ∙ is-delivered _ d))

  delivered-still : (k : MailNo) → Delivered t k → Delivered after k
  delivered-still k d = told (status-now t g m there Handed k)
    where
      told : Seen k m Handed (status_of t k) (status_of after k) → Delivered after k
      told (changed q r) = inl r
      told (kept n r) = delivered-is _ (ap is_delivered r ∙ is-delivered _ d)

  handed-now : status_of after m ≡ Handed
  handed-now = told (status-now t g m there Handed m)
    where
      told : Seen m m Handed (status_of t m) (status_of after m) → status_of after m ≡ Handed
      told (changed q r) = r
      told (kept n r) = absurd (n refl)

  only : (i : ℕ) → i < suc t.handed → IsMessage t (log_at after i) × Delivered after (log_at after i)
  only i h = which (ℕ_discrete i t.handed)
    where
      which : Dec (i ≡ t.handed) → IsMessage t (log_at after i) × Delivered after (log_at after i)
      which (yes q) = rw (q, last_entry) (there, inl handed-now)
      which (no n) =
          let was = g.1.log.only i (omega arith) in
          rw (old-entry i n) (was.0, delivered-still (log_at t i) was.1)

  log-room : (i : ℕ) → suc t.handed ≤ i → log_at after i ≡ empty_entry
  log-room i h = old-entry i (λ q. omega arith) ∙ g.1.room.log i (omega arith)

  pub hand-good : Good after
  hand-good = (
    shaped-log (with_status t m Handed) (status-shaped t m Handed g.0) _ _ (length-set t.log t.handed m),
    mail-sound
        t
        t.lock
        (mail_of after)
        g.1
        (record {
          messages_fit = g.1.counts.messages_fit;
          log_fits = room;
          room = room-kept t g m there Handed;
          log_room = log-room;
          lock =
              let right = mail-left t g m there Handed (inl (s, e)) (inr refl) in
              record { move = right.move; mail = right.mail };
          out = out-now t g m there Handed (λ u k. cc);
          lost = lost-now t g m there Handed (λ k. cc);
          parties =
              record {
                sender = g.1.parties.sender;
                addressee = g.1.parties.addressee;
                sender_up = g.1.parties.sender_up;
              };
          numbers = g.1.numbers;
          log = record { once = once; only = only };
        }),
  )
