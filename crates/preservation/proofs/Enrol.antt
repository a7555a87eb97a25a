-- enrol keeps a sound table sound: it changes the child alone, and nothing that its parent can see.
use Rattle.std.proofs.Common.{◌≡◌, refl, ap, subst, inl, inr}
use Rattle.records.specs.declared.AgentNo.{AgentNo}
use Rattle.records.specs.declared.Phase.TheVariants.{Born, Enrolled}
use Rattle.records.specs.Agents.{is_moving, with_phase, mapped_here}
use Rattle.rules.specs.declared.State.{State}
use Rattle.rules.specs.Holding.{IsAgent, IsSite, agent_at, phase_of, lock_of, with_agent}
use Rattle.preservation.proofs.Families.{ChildOf}
use Rattle.preservation.proofs.AgentSteps.{not-moving}
use Rattle.preservation.proofs.OneAgent.{Good, one-agent, move-left}

pub enrol-good :
    (t : State)
    → Good t
    → (b p : AgentNo)
    → IsAgent t b
    → phase_of t b ≡ Born p
    → Good (with_agent t b (mapped_here (with_phase (agent_at t b) (Enrolled p))))
enrol-good t g b p there e =
    one-agent
    t
    g
    b
    there
    (mapped_here (with_phase (agent_at t b) (Enrolled p)))
    (lock_of t)
    (record {
      own = g.1.sites.own b there;
      asked = λ w h. cc;
      granted = λ w h. cc;
      mapped = λ s h. subst (IsSite t) (cc) (g.1.sites.own b there);
      born = (λ h. cc, λ h. cc h.1);
      map = λ n l. refl;
    })
    (record {
      spawning = λ c. (λ h. cc, λ h. cc);
      child = λ q. (was q, now q);
      parent_stays = λ c h. refl;
      child_stays = λ q h. refl;
    })
    (λ m h s o. refl)
    (move-left t g b there _ (λ w. absurd (not-moving _ (ap is_moving e) w), λ w. absurd (not-moving (Enrolled p) refl w)))
  where
    was : (q : AgentNo) → ChildOf (phase_of t b) q → ChildOf (Enrolled p) q
    was q (inl h) = inr (cc)
    was q (inr h) = cc

    now : (q : AgentNo) → ChildOf (Enrolled p) q → ChildOf (phase_of t b) q
    now q (inl h) = cc
    now q (inr h) = inl (cc)
