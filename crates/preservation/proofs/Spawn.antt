-- spawn keeps a sound table sound: the parent names the new child, the child the parent, at one site; any other agent is as it was.
use Rattle.std.proofs.Common.{ℕ, suc, ◌<◌, ◌≤◌, ◌≡◌, refl, ap, sym, ◌∙◌, ◌⊎◌, inl, inr, ◌↔◌, arith, length-set}
use Rattle.std.proofs.Math.Decide.{ℕ_discrete}
use Rattle.records.specs.declared.AgentNo.{AgentNo}
use Rattle.records.specs.declared.Agent.{Agent}
use Rattle.records.specs.declared.Phase.TheVariants.{Free, Spawning, Born}
use Rattle.records.specs.Numbers.{agent_no}
use Rattle.records.specs.Agents.{born_of, empty_agent, is_moving, with_phase}
use Rattle.rules.specs.declared.State.{State}
use Rattle.records.specs.Limits.{most_agents}
use Rattle.rules.specs.Holding.{next_agent, with_new_agent, IsAgent, agent_at, site_of, phase_of, message_at}
use Rattle.rules.specs.Soundness.{Child}
use Rattle.rules.specs.Steps.{to_phase}
use Rattle.preservation.proofs.AfterChange.{SeenTwo, first, second, neither, seen-two}
use Rattle.preservation.proofs.Families.{ChildOf}
use Rattle.preservation.proofs.AgentSteps.{MovingIn, not-moving, Alone, alone, alone-mapped, moving-as, moves-same, agents-sound}
use Rattle.preservation.proofs.Shapes.{shaped-agents}
use Rattle.preservation.proofs.OneAgent.{Good, agent-place, agents-shaped}

module _ (t : State) (g : Good t) (a : AgentNo) (there : IsAgent t a) (e : phase_of t a ≡ Free) (some : t.agents < most_agents) where
  abbrev pub new : AgentNo
  new = next_agent t

  abbrev pub after : State
  after = with_new_agent (to_phase t a (Spawning new)) (born_of a (site_of t a))

  apart : a ≡ new → ⊥
  apart q = omega (arith, there, ap (λ (c : AgentNo). c.0) q)

  -- what an agent is now
  pub now : (c : AgentNo) → SeenTwo c a new (with_phase (agent_at t a) (Spawning new)) (born_of a (site_of t a)) (agent_at t c) (agent_at after c)
  now =
      seen-two
      t.agent
      a
      new
      (with_phase (agent_at t a) (Spawning new))
      (born_of a (site_of t a))
      apart
      (agent-place t a g there)
      (omega (arith, g.0.agent))

  abbrev pub Now : AgentNo → Type 0
  Now c = SeenTwo c a new (with_phase (agent_at t a) (Spawning new)) (born_of a (site_of t a)) (agent_at t c) (agent_at after c)

  -- one that is there now and is not the new one was there before
  was-there : (c : AgentNo) → IsAgent after c → (c ≡ new → ⊥) → IsAgent t c
  was-there c h n = told (ℕ_discrete c.0 t.agents)
    where
      told : Dec (c.0 ≡ t.agents) → IsAgent t c
      told (yes q) = absurd (n (ap agent_no q))
      told (no d) = omega arith

  pub not_new : (c : AgentNo) → IsAgent t c → c ≡ new → ⊥
  not_new c h q = omega (arith, ap (λ (x : AgentNo). x.0) q)

  parent-alone : Alone t.sites (with_phase (agent_at t a) (Spawning new))
  parent-alone =
      alone-mapped
      t.sites
      (agent_at t a)
      (Spawning new)
      (alone t g.1 a there)
      (g.1.map a there (λ q k. cc) (λ k. cc))
      (λ q f. cc)
      (λ u f. cc)
      (λ u f. cc)

  child-alone : Alone t.sites (born_of a (site_of t a))
  child-alone =
      record {
        own = g.1.sites.own a there;
        asked = λ u k. cc;
        granted = λ u k. cc;
        mapped = λ s k. cc;
        born = (λ k. (a, refl), λ k. refl);
        map = λ n l. absurd (n a refl);
      }

  each : (c : AgentNo) → IsAgent after c → Alone t.sites (agent_at after c)
  each c h = told (now c)
    where
      told : Now c → Alone t.sites (agent_at after c)
      told (first q r) = rw r parent-alone
      told (second q r) = rw r child-alone
      told (neither n m r) = rw r (alone t g.1 c (was-there c h m))

  room : (i : ℕ) → suc t.agents ≤ i → agent_at after (agent_no i) ≡ empty_agent
  room i h = told (now (agent_no i))
    where
      told : Now (agent_no i) → agent_at after (agent_no i) ≡ empty_agent
      told (first q r) = absurd (omega (arith, there, ap (λ (x : AgentNo). x.0) q))
      told (second q r) = absurd (omega (arith, ap (λ (x : AgentNo). x.0) q))
      told (neither n m r) = r ∙ g.1.room.agents i (omega arith)

  pub site-kept : (c : AgentNo) → IsAgent t c → site_of after c ≡ site_of t c
  site-kept c h = told (now c)
    where
      told : Now c → site_of after c ≡ site_of t c
      told (first q r) = cc
      told (second q r) = absurd (not_new c h q)
      told (neither n m r) = cc

  child-site : site_of after new ≡ site_of t a
  child-site = told (now new)
    where
      told : Now new → site_of after new ≡ site_of t a
      told (first q r) = absurd (apart (sym q))
      told (second q r) = cc
      told (neither n m r) = absurd (m refl)

  moves : (c : AgentNo) → (IsAgent t c × MovingIn (phase_of t c)) ↔ (IsAgent after c × MovingIn (phase_of after c))
  moves c = told (now c)
    where
      told : Now c → (IsAgent t c × MovingIn (phase_of t c)) ↔ (IsAgent after c × MovingIn (phase_of after c))
      told (first q r) = (
        λ x. absurd (not-moving (phase_of t c) (ap (λ (y : AgentNo). is_moving (phase_of t y)) q ∙ ap is_moving e) x.1),
        λ x. absurd (not-moving (phase_of after c) (ap (λ (y : Agent). is_moving y.phase) r) x.1),
      )
      told (second q r) = (
        λ x. absurd (not_new c x.0 q),
        λ x. absurd (not-moving (phase_of after c) (ap (λ (y : Agent). is_moving y.phase) r) x.1),
      )
      told (neither n m r) =
          let same = moving-as (agent_at after c) (agent_at t c) r in
          (λ x. (omega (arith, x.0), same.1 x.1), λ x. (was-there c x.0 m, same.0 x.1))

  -- an old child is one still, and the only new one is the parent's
  old-child : (p c : AgentNo) → Child t p c → IsAgent t c → Child after p c
  old-child p c k h = told (now c) k
    where
      told : Now c → Child t p c → Child after p c
      told (first q r) (inl x) = cc
      told (first q r) (inr x) = cc
      told (second q r) k = absurd (not_new c h q)
      told (neither n m r) (inl x) = inl (cc)
      told (neither n m r) (inr x) = inr (cc)

  was-child : (p c : AgentNo) → ChildOf (phase_of after c) p → Child t p c ⊎ ((c ≡ new) × (p ≡ a))
  was-child p c k = told (now c) k
    where
      told : Now c → ChildOf (phase_of after c) p → Child t p c ⊎ ((c ≡ new) × (p ≡ a))
      told (first q r) (inl x) = cc
      told (first q r) (inr x) = cc
      told (second q r) (inl x) = inr (q, cc)
      told (second q r) (inr x) = cc
      told (neither n m r) (inl x) = inl (inl (cc))
      told (neither n m r) (inr x) = inl (inr (cc))

  old-spawning : (p c : AgentNo) → phase_of t p ≡ Spawning c → IsAgent t p → phase_of after p ≡ Spawning c
  old-spawning p c k h = told (now p)
    where
      told : Now p → phase_of after p ≡ Spawning c
      told (first q r) = cc
      told (second q r) = absurd (not_new p h q)
      told (neither n m r) = cc

  was-spawning : (p c : AgentNo) → phase_of after p ≡ Spawning c → IsAgent after p → (IsAgent t p × (phase_of t p ≡ Spawning c)) ⊎ ((p ≡ a) × (c ≡ new))
  was-spawning p c k h = told (now p)
    where
      told : Now p → (IsAgent t p × (phase_of t p ≡ Spawning c)) ⊎ ((p ≡ a) × (c ≡ new))
      told (first q r) = inr (q, cc)
      told (second q r) = cc
      told (neither n m r) = inl (was-there p h m, cc)

  parent-now : phase_of after a ≡ Spawning new
  parent-now = told (now a)
    where
      told : Now a → phase_of after a ≡ Spawning new
      told (first q r) = cc
      told (second q r) = absurd (apart q)
      told (neither n m r) = absurd (n refl)

  child-now : phase_of after new ≡ Born a
  child-now = told (now new)
    where
      told : Now new → phase_of after new ≡ Born a
      told (first q r) = absurd (apart (sym q))
      told (second q r) = cc
      told (neither n m r) = absurd (m refl)

  one-site : site_of after new ≡ site_of after a
  one-site = child-site ∙ sym (site-kept a there)

  child-there :
      (p c : AgentNo)
      → (IsAgent t p × (phase_of t p ≡ Spawning c)) ⊎ ((p ≡ a) × (c ≡ new))
      → IsAgent after c × Child after p c × (site_of after c ≡ site_of after p)
  child-there p c (inl was) =
      let found = g.1.families.child p c was.0 was.1 in (
        omega (arith, found.0),
        old-child p c found.1 found.0,
        site-kept c found.0 ∙ found.2 ∙ sym (site-kept p was.0),
      )
  child-there p c (inr it) =
      rw (it.0, it.1) (omega arith, inl child-now, one-site)

  -- past the count there is no child
  no-child : (p c : AgentNo) → Child t p c → c ≡ new → ⊥
  no-child p c (inl x) q =
      let empty : agent_at t new ≡ empty_agent = g.1.room.agents t.agents (omega arith) in
      cc
  no-child p c (inr x) q =
      let empty : agent_at t new ≡ empty_agent = g.1.room.agents t.agents (omega arith) in
      cc

  parent-there :
      (p c : AgentNo)
      → IsAgent after c
      → Child t p c ⊎ ((c ≡ new) × (p ≡ a))
      → IsAgent after p × (phase_of after p ≡ Spawning c) × (site_of after p ≡ site_of after c)
  parent-there p c h (inl was) =
      let here : IsAgent t c = was-there c h (no-child p c was) in
      let found = g.1.families.parent p c here was in (
        omega (arith, found.0),
        old-spawning p c found.1 found.0,
        site-kept p found.0 ∙ found.2 ∙ sym (site-kept c here),
      )
  parent-there p c h (inr it) =
      rw (it.0, it.1) (omega (arith, there), parent-now, sym one-site)

  up : (c q : AgentNo) → IsAgent t c → Child t q c ⊎ ((c ≡ new) × (q ≡ a)) → (p : AgentNo) × Child t p c
  up c q h (inl k) = (q, k)
  up c q h (inr it) = absurd (not_new c h it.0)

  pub spawn-good : Good after
  spawn-good = (
    shaped-agents
        (to_phase t a (Spawning new))
        (agents-shaped t a _ g.0)
        _ _
        (length-set (to_phase t a (Spawning new)).agent t.agents (born_of a (site_of t a))),
    agents-sound
        t
        (suc t.agents)
        after.agent
        t.lock
        g.1
        (record {
          grows = omega arith;
          fits = some;
          room = room;
          each = each;
          families =
              record {
                child = λ p c h k. child-there p c (was-spawning p c k h);
                parent = λ p c h k. parent-there p c h (was-child p c k);
              };
          lock = moves-same t (suc t.agents) after.agent moves g.1.lock;
          up = λ c q h k. up c q h (was-child q c k);
          stays = λ m h s o. site-kept (message_at t m).addressee (g.1.parties.addressee m h);
        }),
  )
