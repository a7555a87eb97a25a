-- The test of one message and what it says.
use Rattle.std.proofs.Common.{◌≡◌, sym, ap, ◌∙◌, ◌↔◌, Bool, true, not, ltb-true, lt-ltb, arith}
use Rattle.std.proofs.Math.Bool.{beq}
use Rattle.std.proofs.lemmas.Bool.{and_from, false_from_ne_true, not_from_false, both_ways, not-true}
use Rattle.records.specs.declared.AgentNo.{AgentNo}
use Rattle.records.specs.declared.SiteNo.{SiteNo}
use Rattle.records.specs.declared.MailNo.{MailNo}
use Rattle.records.specs.declared.Status.TheVariants.{Out, Lost}
use Rattle.records.specs.declared.Lock.TheVariants.{ForMail}
use Rattle.records.specs.Numbers.{same_site}
use Rattle.records.specs.Agents.{is_child, peer_of}
use Rattle.records.specs.Messages.{is_out, is_lost, is_under_way, travels_to}
use Rattle.records.specs.Locks.{held_for_mail}
use Rattle.records.specs.Places.{implies}
use Rattle.records.proofs.FlagLaws.{implies-use, implies-make, same-there, same_back, same-make}
use Rattle.records.proofs.ReaderLaws.{same-site, site-same, child-is, is-child, status-is, under-way-is, is-under-way, held-mail-is, is-held-mail}
use Rattle.rules.specs.Tests.{message_fine}
use Rattle.rules.specs.declared.State.{State}
use Rattle.rules.specs.Holding.{IsAgent, site_of, phase_of, message_at, status_of, lock_of}
use Rattle.rules.specs.Soundness.{Child, UnderWay}

-- what soundness says of one message, but for its number and its place in the log
pub record MessageRight (t : State) (m : MailNo) : Type 0 where
  pub sender : IsAgent t (message_at t m).sender
  pub addressee : IsAgent t (message_at t m).addressee
  pub sender_up : (p : AgentNo) → Child t p (message_at t m).sender → ⊥
  pub out : (s : SiteNo) → status_of t m ≡ Out s → s ≡ site_of t (message_at t m).addressee
  pub lost : status_of t m ≡ Lost → ⊥
  pub lock : (lock_of t ≡ ForMail m) ↔ UnderWay t m

module _ (t : State) (m : MailNo) where
  abbrev arrives : Bool
  arrives = same_site (travels_to (status_of t m)) (site_of t (message_at t m).addressee)

  abbrev lock_test : Bool
  lock_test = beq (held_for_mail (lock_of t) m) (is_under_way (status_of t m))

  pub message-from : message_fine t.agents (lock_of t) t.agent t.sender t.addressee t.status m.0 ≡ true → MessageRight t m
  unfolding message_fine
  message-from h =
      record {
        sender = ltb-true (message_at t m).sender.0 t.agents (grind arith);
        addressee = ltb-true (message_at t m).addressee.0 t.agents (grind arith);
        sender_up = λ p c. both_ways _ (not-true _ up) (is-child (phase_of t (message_at t m).sender) p c).0;
        out = λ s e. sym (ap travels_to e) ∙ same-site (travels_to (status_of t m)) (site_of t (message_at t m).addressee) (implies-use (is_out (status_of t m)) arrives travels (ap is_out e));
        lost = λ e. both_ways _ (not-true _ kept) (ap is_lost e);
        lock = (
          λ e. under-way-is (status_of t m) (same-there (held_for_mail (lock_of t) m) (is_under_way (status_of t m)) locks (is-held-mail (lock_of t) m e)),
          λ u. held-mail-is (lock_of t) m (same_back (held_for_mail (lock_of t) m) (is_under_way (status_of t m)) locks (is-under-way (status_of t m) u)),
        );
      }
    where
      up : not (is_child (phase_of t (message_at t m).sender)) ≡ true
      up = grind arith

      travels : implies (is_out (status_of t m)) arrives ≡ true
      travels = grind arith

      kept : not (is_lost (status_of t m)) ≡ true
      kept = grind arith

      locks : lock_test ≡ true
      locks = grind arith

  pub message-to : MessageRight t m → message_fine t.agents (lock_of t) t.agent t.sender t.addressee t.status m.0 ≡ true
  unfolding message_fine
  message-to r =
      and_from _ _
      (and_from _ _
      (lt-ltb (message_at t m).sender.0 t.agents r.sender)
      (and_from _ _
      (lt-ltb (message_at t m).addressee.0 t.agents r.addressee)
      (not_from_false _
      (false_from_ne_true
      (is_child (phase_of t (message_at t m).sender))
      (λ c. r.sender_up (peer_of (phase_of t (message_at t m).sender)) (child-is (phase_of t (message_at t m).sender) c))))))
      (and_from _ _
      (implies-make
      (is_out (status_of t m))
      arrives
      (λ k. site-same (travels_to (status_of t m)) (site_of t (message_at t m).addressee) (r.out (travels_to (status_of t m)) (status-is 1 (status_of t m) k))))
      (and_from _ _
      (same-make
      (held_for_mail (lock_of t) m)
      (is_under_way (status_of t m))
      (λ k. is-under-way (status_of t m) (r.lock.0 (held-mail-is (lock_of t) m k)))
      (λ k. is-held-mail (lock_of t) m (r.lock.1 (under-way-is (status_of t m) k))))
      (not_from_false _ (false_from_ne_true (is_lost (status_of t m)) (λ k. r.lost (status-is 4 (status_of t m) k))))))
