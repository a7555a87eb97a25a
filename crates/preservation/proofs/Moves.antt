-- The five steps of a move keep a sound table sound: each changes one agent that is part of no creation.
use Rattle.std.proofs.Common.{Some, ◌≡◌, refl, ap, subst, inl, inr, false}
use Rattle.records.specs.declared.AgentNo.{AgentNo}
use Rattle.records.specs.declared.SiteNo.{SiteNo}
use Rattle.records.specs.declared.MailNo.{MailNo}
use Rattle.records.specs.declared.Phase.{Phase}
use Rattle.records.specs.declared.Phase.TheVariants.{Free, Born, Asking, Granted, Landed, Booked}
use Rattle.records.specs.declared.Status.TheVariants.{Out}
use Rattle.records.specs.declared.Lock.TheVariants.{Unheld, ForMove, ForMail}
use Rattle.records.specs.Agents.{is_moving, with_phase, moved_to, mapped_here}
use Rattle.rules.specs.declared.State.{State}
use Rattle.rules.specs.Holding.{IsAgent, IsSite, IsMessage, agent_at, site_of, phase_of, status_of, lock_of, with_agent, with_lock}
use Rattle.rules.specs.Steps.{to_phase}
use Rattle.preservation.proofs.Families.{in_family, not-child, kin-apart}
use Rattle.preservation.proofs.AgentSteps.{not-moving, Alone, alone, alone-mapped}
use Rattle.preservation.proofs.OneAgent.{Good, one-agent, move-left, move_taken, move-freed}

module _ (t : State) (g : Good t) (a : AgentNo) (there : IsAgent t a) where
  -- a step of a move that keeps the site and the map, from a phase in which the map is right to another such
  phase-alone :
      (p : Phase)
      → in_family (phase_of t a) ≡ false
      → (phase_of t a ≡ Landed → ⊥)
      → ((q : AgentNo) → p ≡ Born q → ⊥)
      → ((u : SiteNo) → p ≡ Asking u → IsSite t u)
      → ((u : SiteNo) → p ≡ Granted u → IsSite t u)
      → Alone t.sites (with_phase (agent_at t a) p)
  phase-alone p e n b asked granted =
      alone-mapped
      t.sites
      (agent_at t a)
      p
      (alone t g.1 a there)
      (g.1.map a there (λ q h. not-child (phase_of t a) e q (inl h)) n)
      b
      asked
      granted

  pub ask-good : (u : SiteNo) → IsSite t u → phase_of t a ≡ Free → Good (to_phase t a (Asking u))
  ask-good u site e =
      one-agent
      t
      g
      a
      there
      (with_phase (agent_at t a) (Asking u))
      (lock_of t)
      (phase-alone
      (Asking u)
      (ap in_family e)
      (λ h. cc)
      (λ q h. cc)
      (λ w h. subst (IsSite t) (cc) site)
      (λ w h. cc))
      (kin-apart _ _ (ap in_family e) refl)
      (λ m h s o. refl)
      (move-left t g a there _ (λ w. absurd (not-moving _ (ap is_moving e) w), λ w. absurd (not-moving (Asking u) refl w)))

  pub grant-good : (u : SiteNo) → phase_of t a ≡ Asking u → lock_of t ≡ Unheld → Good (with_lock (to_phase t a (Granted u)) (ForMove a))
  grant-good u e free =
      one-agent
      t
      g
      a
      there
      (with_phase (agent_at t a) (Granted u))
      (ForMove a)
      (phase-alone
      (Granted u)
      (ap in_family e)
      (λ h. cc)
      (λ q h. cc)
      (λ w h. cc)
      (λ w h. subst (IsSite t) (cc) (g.1.sites.asked a there u e)))
      (kin-apart _ _ (ap in_family e) refl)
      (λ m h s o. refl)
      (move_taken t g a there _ free (inl (u, refl)))

  -- nothing is out while an agent is granted: the lock is held for its move
  none_out : (u : SiteNo) → phase_of t a ≡ Granted u → (m : MailNo) → IsMessage t m → (s : SiteNo) → status_of t m ≡ Out s → ⊥
  none_out u e m h s o =
      let move : lock_of t ≡ ForMove a = (g.1.lock.move a).1 (there, inl (u, e)) in
      let mail : lock_of t ≡ ForMail m = (g.1.lock.mail m).1 (h, inl (s, o)) in
      cc

  pub leap-good : (u : SiteNo) → phase_of t a ≡ Granted u → Good (with_agent t a (moved_to (with_phase (agent_at t a) Landed) u))
  leap-good u e =
      one-agent
      t
      g
      a
      there
      (moved_to (with_phase (agent_at t a) Landed) u)
      (lock_of t)
      (record {
        own = g.1.sites.granted a there u e;
        asked = λ w h. cc;
        granted = λ w h. cc;
        mapped = g.1.sites.mapped a there;
        born = (λ h. cc mapped, λ h. cc h.1);
        map = λ b l. absurd (l refl);
      })
      (kin-apart _ _ (ap in_family e) refl)
      (λ m h s o. absurd (none_out u e m h s o))
      (move-left t g a there _ (λ w. inr refl, λ w. inl (u, e)))
    where
      mapped : (agent_at t a).map ≡ Some (site_of t a)
      mapped = g.1.map a there (λ q h. cc) (λ h. cc)

  pub book-good : phase_of t a ≡ Landed → Good (with_lock (with_agent t a (mapped_here (with_phase (agent_at t a) Booked))) Unheld)
  book-good e =
      one-agent
      t
      g
      a
      there
      (mapped_here (with_phase (agent_at t a) Booked))
      Unheld
      (record {
        own = g.1.sites.own a there;
        asked = λ w h. cc;
        granted = λ w h. cc;
        mapped = λ s h. subst (IsSite t) (cc) (g.1.sites.own a there);
        born = (λ h. cc, λ h. cc h.1);
        map = λ b l. refl;
      })
      (kin-apart _ _ (ap in_family e) refl)
      (λ m h s o. refl)
      (move-freed t g a there _ (inr e) refl)

  pub settle-good : phase_of t a ≡ Booked → Good (to_phase t a Free)
  settle-good e =
      one-agent
      t
      g
      a
      there
      (with_phase (agent_at t a) Free)
      (lock_of t)
      (phase-alone
      Free
      (ap in_family e)
      (λ h. cc)
      (λ q h. cc)
      (λ w h. cc)
      (λ w h. cc))
      (kin-apart _ _ (ap in_family e) refl)
      (λ m h s o. refl)
      (move-left t g a there _ (λ w. absurd (not-moving _ (ap is_moving e) w), λ w. absurd (not-moving Free refl w)))
