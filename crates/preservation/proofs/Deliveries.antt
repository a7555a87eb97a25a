-- forward and close keep a sound table sound: each changes one message's status and the lock.
use Rattle.std.proofs.Common.{Some, None, ◌≡◌, refl, ap, sym, ◌∙◌, inl, inr}
use Rattle.records.specs.declared.AgentNo.{AgentNo}
use Rattle.records.specs.declared.SiteNo.{SiteNo}
use Rattle.records.specs.declared.MailNo.{MailNo}
use Rattle.records.specs.declared.Phase.TheVariants.{Born, Landed}
use Rattle.records.specs.declared.Status.{Status}
use Rattle.records.specs.declared.Status.TheVariants.{Queued, Out, Handed, Closed, Lost}
use Rattle.records.specs.declared.Lock.{Lock}
use Rattle.records.specs.declared.Lock.TheVariants.{Unheld, ForMove, ForMail}
use Rattle.records.specs.Messages.{is_delivered}
use Rattle.rules.specs.declared.State.{State}
use Rattle.rules.specs.Holding.{IsAgent, IsMessage, phase_of, site_of, map_of, status_of, lock_of, log_at, with_status, with_lock}
use Rattle.rules.specs.Soundness.{LockRight, OutToAddressee, NoneLost, LogExact}
use Rattle.rules.specs.Steps.{addressee_of}
use Rattle.records.proofs.ReaderLaws.{delivered-is, is-delivered}
use Rattle.preservation.proofs.AfterChange.{Seen, changed, kept}
use Rattle.preservation.proofs.OneAgent.{Good, lock-shaped}
use Rattle.preservation.proofs.MailSteps.{mail_of, mail-sound}
use Rattle.preservation.proofs.OneMessage.{status-shaped, status-now, room-kept, mail-taken, mail-freed}

module _ (t : State) (g : Good t) (m : MailNo) (there : IsMessage t m) (x : Status) where
  abbrev Now : MailNo → Type 0
  Now k = Seen k m x (status_of t k) (status_of (with_status t m x) k)

  -- where the changed message is out, it is out to its addressee's site
  pub out-now : ((s : SiteNo) → x ≡ Out s → s ≡ site_of t (addressee_of t m)) → OutToAddressee (with_status t m x)
  out-now it k h s e = told (status-now t g m there x k)
    where
      told : Now k → s ≡ site_of t (addressee_of t k)
      told (changed q r) = it s (sym r ∙ e) ∙ ap (λ (j : MailNo). site_of t (addressee_of t j)) (sym q)
      told (kept n r) = g.1.out k h s (sym r ∙ e)

  pub lost-now : (x ≡ Lost → ⊥) → NoneLost (with_status t m x)
  lost-now it k h e = told (status-now t g m there x k)
    where
      told : Now k → ⊥
      told (changed q r) = it (sym r ∙ e)
      told (kept n r) = g.1.lost k h (sym r ∙ e)

  delivered-same :
      is_delivered x ≡ is_delivered (status_of t m)
      → (k : MailNo)
      → is_delivered (status_of (with_status t m x) k) ≡ is_delivered (status_of t k)
  delivered-same it k = told (status-now t g m there x k)
    where
      told : Now k → is_delivered (status_of (with_status t m x) k) ≡ is_delivered (status_of t k)
      told (changed q r) = ap is_delivered r ∙ it ∙ ap (λ (j : MailNo). is_delivered (status_of t j)) (sym q)
      told (kept n r) = ap is_delivered r

  -- the log is exact still, where the changed message stands in an inbox exactly if it did
  pub log-now : is_delivered x ≡ is_delivered (status_of t m) → LogExact (with_status t m x)
  log-now it =
      record {
        once = λ k h d. g.1.log.once k h (delivered-is _ (sym (delivered-same it k) ∙ is-delivered _ d));
        only = λ i h.
            let was = g.1.log.only i h in
            (was.0, delivered-is _ (delivered-same it (log_at t i) ∙ is-delivered _ was.1));
      }

  -- a status and the lock changed, and nothing else
  pub status-good :
      (l : Lock)
      → LockRight (with_lock (with_status t m x) l)
      → ((s : SiteNo) → x ≡ Out s → s ≡ site_of t (addressee_of t m))
      → (x ≡ Lost → ⊥)
      → is_delivered x ≡ is_delivered (status_of t m)
      → Good (with_lock (with_status t m x) l)
  status-good l lock out lost same = (
    lock-shaped (with_status t m x) l (status-shaped t m x g.0),
    mail-sound
        t
        l
        (mail_of (with_status t m x))
        g.1
        (record {
          messages_fit = g.1.counts.messages_fit;
          log_fits = g.1.counts.log_fits;
          room = room-kept t g m there x;
          log_room = g.1.room.log;
          lock = lock;
          out = out-now out;
          lost = lost-now lost;
          parties =
              record {
                sender = g.1.parties.sender;
                addressee = g.1.parties.addressee;
                sender_up = g.1.parties.sender_up;
              };
          numbers = g.1.numbers;
          log = record { once = (log-now same).once; only = (log-now same).only };
        }),
  )

module _ (t : State) (g : Good t) (m : MailNo) (there : IsMessage t m) where
  -- while the lock is free the map of whoever is mapped is right
  map-right : lock_of t ≡ Unheld → (b : AgentNo) (s : SiteNo) → IsAgent t b → map_of t b ≡ Some s → s ≡ site_of t b
  map-right free b s h e =
      let right : map_of t b ≡ Some (site_of t b) = g.1.map b h born landed in
      cc
    where
      born : (p : AgentNo) → phase_of t b ≡ Born p → ⊥
      born p k = let none : map_of t b ≡ None = (g.1.born b h).1 (p, k) in cc

      landed : phase_of t b ≡ Landed → ⊥
      landed k = let held : lock_of t ≡ ForMove b = (g.1.lock.move b).1 (h, inr k) in cc

  pub forward-good :
      (s : SiteNo)
      → status_of t m ≡ Queued
      → lock_of t ≡ Unheld
      → map_of t (addressee_of t m) ≡ Some s
      → Good (with_lock (with_status t m (Out s)) (ForMail m))
  forward-good s e free known =
      status-good
      t
      g
      m
      there
      (Out s)
      (ForMail m)
      (mail-taken t g m there (Out s) free (inl (s, refl)))
      (λ u k. let same : s ≡ u = cc in sym same ∙ map-right free (addressee_of t m) s (g.1.parties.addressee m there) known)
      (λ k. cc)
      (sym (ap is_delivered e))

  pub close-good : status_of t m ≡ Handed → Good (with_lock (with_status t m Closed) Unheld)
  close-good e =
      status-good
      t
      g
      m
      there
      Closed
      Unheld
      (mail-freed t g m there Closed (inr e) refl)
      (λ u k. cc)
      (λ k. cc)
      (sym (ap is_delivered e))
