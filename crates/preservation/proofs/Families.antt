-- A change to one agent that its family cannot see keeps the families right.
use Rattle.std.proofs.Common.{◌≡◌, refl, ap, sym, ◌∙◌, ◌⊎◌, inl, inr, ◌↔◌, Bool, false, ◌||◌, true≢false}
use Rattle.records.specs.declared.AgentNo.{AgentNo}
use Rattle.records.specs.declared.Agent.{Agent}
use Rattle.records.specs.declared.Phase.{Phase}
use Rattle.records.specs.declared.Phase.TheVariants.{Spawning, Born, Enrolled}
use Rattle.records.specs.Agents.{is_spawning, is_child}
use Rattle.rules.specs.declared.State.{State}
use Rattle.rules.specs.Holding.{agent_at}
use Rattle.rules.specs.Soundness.{FamiliesMatch}

-- the phase of p's child
abbrev pub ChildOf : Phase → AgentNo → Type 0
ChildOf x p = (x ≡ Born p) ⊎ (x ≡ Enrolled p)

-- what an agent's family asks of it is the same of x and of y
pub record Kin (x y : Agent) : Type 0 where
  pub spawning : (c : AgentNo) → (x.phase ≡ Spawning c) ↔ (y.phase ≡ Spawning c)
  pub child : (p : AgentNo) → ChildOf x.phase p ↔ ChildOf y.phase p
  pub parent_stays : (c : AgentNo) → x.phase ≡ Spawning c → y.site ≡ x.site
  pub child_stays : (p : AgentNo) → ChildOf x.phase p → y.site ≡ x.site

pub kin-self : (x : Agent) → Kin x x
kin-self x =
    record {
      spawning = λ c. (λ e. e, λ e. e);
      child = λ p. (λ e. e, λ e. e);
      parent_stays = λ c e. refl;
      child_stays = λ p e. refl;
    }

pub kin-families :
    (t t' : State)
    → t.agents ≡ t'.agents
    → ((b : AgentNo) → Kin (agent_at t b) (agent_at t' b))
    → FamiliesMatch t
    → FamiliesMatch t'
kin-families t t' same kin old =
    record {
      child = λ a c h e.
          let was : (agent_at t a).phase ≡ Spawning c = ((kin a).spawning c).1 e in
          let found = old.child a c (rw same h) was in (
            rw same at found.0,
            ((kin c).child a).0 found.1,
            (kin c).child_stays a found.1 ∙ found.2 ∙ sym ((kin a).parent_stays c was),
          );
      parent = λ a c h e.
          let was : ChildOf (agent_at t c).phase a = ((kin c).child a).1 e in
          let found = old.parent a c (rw same h) was in (
            rw same at found.0,
            ((kin a).spawning c).0 found.1,
            (kin a).parent_stays c found.1 ∙ found.2 ∙ sym ((kin c).child_stays a was),
          );
    }

-- a phase that is part of no creation
abbrev pub in_family : Phase → Bool
in_family p = is_spawning p || is_child p

pub not-spawning : (p : Phase) → in_family p ≡ false → (c : AgentNo) → p ≡ Spawning c → ⊥
not-spawning p e c h = true≢false (sym (ap in_family h) ∙ e)

pub not-child : (p : Phase) → in_family p ≡ false → (q : AgentNo) → ChildOf p q → ⊥
not-child p e q (inl h) = true≢false (sym (ap in_family h) ∙ e)
not-child p e q (inr h) = true≢false (sym (ap in_family h) ∙ e)

-- an agent that is part of no creation before and none after
pub kin-apart : (x y : Agent) → in_family x.phase ≡ false → in_family y.phase ≡ false → Kin x y
kin-apart x y f g =
    record {
      spawning = λ c. (λ e. absurd (not-spawning x.phase f c e), λ e. absurd (not-spawning y.phase g c e));
      child = λ p. (λ e. absurd (not-child x.phase f p e), λ e. absurd (not-child y.phase g p e));
      parent_stays = λ c e. absurd (not-spawning x.phase f c e);
      child_stays = λ p e. absurd (not-child x.phase f p e);
    }
