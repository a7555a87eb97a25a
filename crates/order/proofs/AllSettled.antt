-- After any sequence of steps, from any sound table: what became of every message taken, and how far the map is right.
use Rattle.std.proofs.Common.{Some, ℕ, ◌≡◌, refl, ap, sym, ◌∙◌, subst, ◌⊎◌, inl, inr, Bool, true, false, cond, List, arith, eq-eqb, ne_eqb}
use Rattle.records.specs.declared.AgentNo.{AgentNo}
use Rattle.records.specs.declared.MailNo.{MailNo}
use Rattle.records.specs.declared.Item.{Item}
use Rattle.records.specs.declared.Phase.{Phase}
use Rattle.records.specs.declared.Phase.TheVariants.{Free, Spawning, Born, Enrolled, Asking, Granted, Landed, Booked}
use Rattle.records.specs.declared.Status.{Status}
use Rattle.records.specs.declared.Status.TheVariants.{Queued, Out, Handed, Closed, Lost}
use Rattle.records.specs.declared.Lock.TheVariants.{ForMove}
use Rattle.records.specs.Numbers.{agent_no, same_agent}
use Rattle.records.specs.Messages.{item_of, is_delivered}
use Rattle.rules.specs.declared.State.{State}
use Rattle.rules.specs.declared.Step.{Step}
use Rattle.rules.specs.Holding.{Shaped, IsAgent, IsMessage, site_of, phase_of, map_of, message_at, status_of, lock_of, log_of, inbox_of}
use Rattle.rules.specs.Soundness.{Sound, Delivered, times_logged}
use Rattle.rules.specs.Steps.{addressee_of}
use Rattle.preservation.proofs.OneAgent.{Good}
use Rattle.records.proofs.ReaderLaws.{delivered-is}
use Rattle.preservation.proofs.Hand.{not-logged}
use Rattle.order.specs.Lists.{In}
use Rattle.order.specs.Marks.{marks_of, table_after}
use Rattle.order.specs.Operations.{Taken}
use Rattle.order.specs.Settled.{times_in, Waiting, NotYet, InPlace, MailSettled, MapSettled}
use Rattle.order.proofs.BoardLaws.{logged-there}
use Rattle.order.proofs.AlongSteps.{reached}
use Rattle.order.proofs.Inboxes.{count_in, count-places, in-counted, from-log, in-inbox, times-in}

module _ (t : State) (g : Good t) where
  -- counted along the log, as soundness counts it by places
  log-count : (m : MailNo) → count_in m (log_of t) ≡ times_logged t m
  log-count m = count-places m t.handed t.log (omega (arith, g.0.log, g.1.counts.log_fits))

  times : (m : MailNo) → IsMessage t m → (a : AgentNo) (b : Bool) → same_agent (addressee_of t m) a ≡ b → times_in (item_of (message_at t m)) (inbox_of t a) ≡ cond b (times_logged t m) 0
  unfolding inbox_of
  times m h a b e =
      times-in t g.1 m h a (log_of t) (logged-there t g.1) ∙ ap (λ (n : ℕ). cond (same_agent (addressee_of t m) a) n 0) (log-count m) ∙ ap (λ (c : Bool). cond c (times_logged t m) 0) e

  -- a message that stands in no inbox waits: none is lost
  waits : (m : MailNo) → IsMessage t m → (x : Status) → status_of t m ≡ x → is_delivered x ≡ false → Waiting t m
  waits m h Queued e d = inl e
  waits m h (Out s) e d = inr (s, e)
  waits m h Handed e d = cc
  waits m h Closed e d = cc
  waits m h Lost e d = absurd (g.1.lost m h e)

  not_yet : (m : MailNo) → IsMessage t m → is_delivered (status_of t m) ≡ false → NotYet t m
  not_yet m h d =
      record {
        waiting = waits m h (status_of t m) refl d;
        nowhere = λ a. nowhere a (same_agent (addressee_of t m) a) refl;
      }
    where
      nowhere : (a : AgentNo) (b : Bool) → same_agent (addressee_of t m) a ≡ b → times_in (item_of (message_at t m)) (inbox_of t a) ≡ 0
      nowhere a true e = times m h a true e ∙ not-logged t g m d
      nowhere a false e = times m h a false e

  in_place : (m : MailNo) → IsMessage t m → is_delivered (status_of t m) ≡ true → InPlace t m
  in_place m h d =
      record {
        delivered = delivered;
        there = there;
        once = times m h (addressee_of t m) true (eq-eqb (addressee_of t m).0 (addressee_of t m).0 refl) ∙ g.1.log.once m h delivered;
        nowhere_else = λ a n. times m h a false (ne_eqb _ _ (λ q. n (ap agent_no (sym q))));
      }
    where
      delivered : Delivered t m
      delivered = delivered-is (status_of t m) d

      there : In (item_of (message_at t m)) (inbox_of t (addressee_of t m))
      there = unfold inbox_of in in-inbox t m (log_of t) (in-counted m (log_of t) (omega (arith, log-count m, g.1.log.once m h delivered)))

  each : (m : MailNo) → IsMessage t m → NotYet t m ⊎ InPlace t m
  each m h = which (is_delivered (status_of t m)) refl
    where
      which : (b : Bool) → is_delivered (status_of t m) ≡ b → NotYet t m ⊎ InPlace t m
      which true e = inr (in_place m h e)
      which false e = inl (not_yet m h e)

  -- an item of an inbox is a message of the table that is addressed to it
  from-message : (a : AgentNo) (x : Item) → In x (inbox_of t a) → (m : MailNo) × IsMessage t m × (addressee_of t m ≡ a) × (item_of (message_at t m) ≡ x)
  unfolding inbox_of
  from-message a x h =
      let found = from-log t a (log_of t) x h in
      (found.0, logged-there t g.1 found.0 found.1, found.2, found.3)

  landed-or-not : (p : Phase) → (p ≡ Landed) ⊎ (p ≡ Landed → ⊥)
  landed-or-not Free = inr (λ e. cc)
  landed-or-not (Spawning c) = inr (λ e. cc)
  landed-or-not (Born q) = inr (λ e. cc)
  landed-or-not (Enrolled q) = inr (λ e. cc)
  landed-or-not (Asking u) = inr (λ e. cc)
  landed-or-not (Granted u) = inr (λ e. cc)
  landed-or-not Landed = inl refl
  landed-or-not Booked = inr (λ e. cc)

  map-right : MapSettled t
  map-right =
      record {
        right = λ a h n. told a h n (landed-or-not (phase_of t a));
        one = λ a b ha hb ea eb.
            let mine : lock_of t ≡ ForMove a = (g.1.lock.move a).1 (ha, inr ea) in
            let other : lock_of t ≡ ForMove b = (g.1.lock.move b).1 (hb, inr eb) in
            cc;
      }
    where
      told :
          (a : AgentNo)
          → IsAgent t a
          → ((p : AgentNo) → phase_of t a ≡ Born p → ⊥)
          → (phase_of t a ≡ Landed) ⊎ (phase_of t a ≡ Landed → ⊥)
          → (map_of t a ≡ Some (site_of t a)) ⊎ (phase_of t a ≡ Landed)
      told a h n (inl e) = inr e
      told a h n (inr d) = inl (g.1.map a h n d)

module _ (t : State) (shaped : Shaped t) (sound : Sound t) (ss : List Step) where
  pub mail-settled : MailSettled t ss
  mail-settled =
      let r = reached t (shaped, sound) ss in
      record {
        taken = λ m b x. (
          r.1.mail.known m b x,
          λ h.
              subst
              (λ (c : AgentNo). Taken t (marks_of t ss) m c x)
              h.1
              (subst (Taken t (marks_of t ss) m (addressee_of (table_after t ss) m)) h.2 (r.1.mail.taken m h.0)),
        );
        each = each (table_after t ss) r.1.good;
        no_other = λ a x h.
            let found = from-message (table_after t ss) r.1.good a x h in (
              found.0,
              subst
                  (λ (c : AgentNo). Taken t (marks_of t ss) found.0 c x)
                  found.2
                  (subst
                  (Taken t (marks_of t ss) found.0 (addressee_of (table_after t ss) found.0))
                  found.3
                  (r.1.mail.taken found.0 found.1)),
            );
      }

  pub map-settled : MapSettled (table_after t ss)
  map-settled = map-right (table_after t ss) (reached t (shaped, sound) ss).1.good
