-- greet keeps a sound table sound: child and parent are free, and stand where they stood; any other agent is as it was.
use Rattle.std.proofs.Common.{Some, ℕ, ◌≤◌, ◌≡◌, ap, sym, ◌∙◌, ◌⊎◌, inl, inr, ◌↔◌, false, get_or-set_other, arith}
use Rattle.records.specs.declared.AgentNo.{AgentNo}
use Rattle.records.specs.declared.Agent.{Agent}
use Rattle.records.specs.declared.Phase.TheVariants.{Free, Spawning, Enrolled}
use Rattle.records.specs.Numbers.{agent_no}
use Rattle.records.specs.Agents.{empty_agent, is_moving, with_phase}
use Rattle.rules.specs.declared.State.{State}
use Rattle.rules.specs.Holding.{IsAgent, agent_at, site_of, phase_of, message_at}
use Rattle.rules.specs.Soundness.{FamiliesMatch, Child}
use Rattle.rules.specs.Steps.{to_phase}
use Rattle.preservation.proofs.AfterChange.{SeenTwo, first, second, neither, seen-two}
use Rattle.preservation.proofs.Families.{ChildOf}
use Rattle.preservation.proofs.AgentSteps.{MovingIn, not-moving, Alone, alone, alone-mapped, moving-as, moves-same, agents-sound}
use Rattle.preservation.proofs.OneAgent.{Good, agent-place, agents-shaped}

module _ (t : State) (g : Good t) (b p : AgentNo) (there : IsAgent t b) (e : phase_of t b ≡ Enrolled p) where
  parent : IsAgent t p × (phase_of t p ≡ Spawning b) × (site_of t p ≡ site_of t b)
  parent = g.1.families.parent p b there (inr e)

  apart : b ≡ p → ⊥
  apart q = let s : phase_of t p ≡ Spawning b = parent.1 in cc

  abbrev pub after : State
  after = to_phase (to_phase t b Free) p Free

  pub data Now (c : AgentNo) : Type 0 where
    freed : IsAgent t c → ((c ≡ b) × (phase_of t c ≡ Enrolled p)) ⊎ ((c ≡ p) × (phase_of t c ≡ Spawning b)) → agent_at after c ≡ with_phase (agent_at t c) Free → Now c
    other : (c ≡ b → ⊥) → (c ≡ p → ⊥) → agent_at after c ≡ agent_at t c → Now c

  pub now : (c : AgentNo) → Now c
  now c =
      told
      (seen-two
      t.agent
      b
      p
      (with_phase (agent_at t b) Free)
      (with_phase (agent_at (to_phase t b Free) p) Free)
      apart
      (agent-place t b g there)
      (agent-place t p g parent.0)
      c)
    where
      unchanged : agent_at (to_phase t b Free) p ≡ agent_at t p
      unchanged =
          get_or-set_other t.agent b.0 p.0 (with_phase (agent_at t b) Free) empty_agent (λ q. apart (sym (ap agent_no q)))

      told :
          SeenTwo c b p (with_phase (agent_at t b) Free) (with_phase (agent_at (to_phase t b Free) p) Free) (agent_at t c) (agent_at after c)
          → Now c
      told (first q r) =
          freed (rw q there) (inl (q, rw q e)) (r ∙ ap (λ (x : AgentNo). with_phase (agent_at t x) Free) (sym q))
      told (second q r) =
          freed
          (rw q parent.0)
          (inr (q, rw q parent.1))
          (r ∙ ap (λ (x : Agent). with_phase x Free) unchanged ∙ ap (λ (x : AgentNo). with_phase (agent_at t x) Free) (sym q))
      told (neither n m r) = other n m r

  -- one of the two: its map is right
  freed-alone : (c : AgentNo) → IsAgent t c → ((c ≡ b) × (phase_of t c ≡ Enrolled p)) ⊎ ((c ≡ p) × (phase_of t c ≡ Spawning b)) → Alone t.sites (with_phase (agent_at t c) Free)
  freed-alone c h w =
      alone-mapped
      t.sites
      (agent_at t c)
      Free
      (alone t g.1 c h)
      (mapped w)
      (λ q f. cc)
      (λ u f. cc)
      (λ u f. cc)
    where
      mapped : ((c ≡ b) × (phase_of t c ≡ Enrolled p)) ⊎ ((c ≡ p) × (phase_of t c ≡ Spawning b)) → (agent_at t c).map ≡ Some (site_of t c)
      mapped (inl f) = g.1.map c h (λ q k. cc f.1) (λ k. cc f.1)
      mapped (inr f) = g.1.map c h (λ q k. cc f.1) (λ k. cc f.1)

  each : (c : AgentNo) → IsAgent t c → Alone t.sites (agent_at after c)
  each c h = told (now c)
    where
      told : Now c → Alone t.sites (agent_at after c)
      told (freed i w r) = rw r (freed-alone c h w)
      told (other n m r) = rw r (alone t g.1 c h)

  room : (i : ℕ) → t.agents ≤ i → agent_at after (agent_no i) ≡ empty_agent
  room i h = told (now (agent_no i))
    where
      told : Now (agent_no i) → agent_at after (agent_no i) ≡ empty_agent
      told (freed k w r) = absurd (omega arith)
      told (other n m r) = r ∙ g.1.room.agents i h

  pub site-kept : (c : AgentNo) → site_of after c ≡ site_of t c
  site-kept c = told (now c)
    where
      told : Now c → site_of after c ≡ site_of t c
      told (freed i w r) = ap (λ (x : Agent). x.site) r
      told (other n m r) = ap (λ (x : Agent). x.site) r

  -- who is still spawning or a child was it before, and is neither of the two
  still-spawning : (a c : AgentNo) → phase_of after a ≡ Spawning c → (phase_of t a ≡ Spawning c) × (a ≡ p → ⊥)
  still-spawning a c h = told (now a)
    where
      told : Now a → (phase_of t a ≡ Spawning c) × (a ≡ p → ⊥)
      told (freed i w r) = cc
      told (other n m r) = (cc, m)

  still-child : (a c : AgentNo) → ChildOf (phase_of after c) a → Child t a c × (c ≡ b → ⊥)
  still-child a c h = told (now c) h
    where
      told : Now c → ChildOf (phase_of after c) a → Child t a c × (c ≡ b → ⊥)
      told (freed i w r) (inl k) = cc
      told (freed i w r) (inr k) = cc
      told (other n m r) (inl k) = (inl (cc), n)
      told (other n m r) (inr k) = (inr (cc), n)

  -- who is one of the two no more wanted the lock than it does now
  moves : (c : AgentNo) → (IsAgent t c × MovingIn (phase_of t c)) ↔ (IsAgent t c × MovingIn (phase_of after c))
  moves c = told (now c)
    where
      still : ((c ≡ b) × (phase_of t c ≡ Enrolled p)) ⊎ ((c ≡ p) × (phase_of t c ≡ Spawning b)) → is_moving (phase_of t c) ≡ false
      still (inl f) = ap is_moving f.1
      still (inr f) = ap is_moving f.1

      told : Now c → (IsAgent t c × MovingIn (phase_of t c)) ↔ (IsAgent t c × MovingIn (phase_of after c))
      told (freed i w r) = (
        λ x. absurd (not-moving (phase_of t c) (still w) x.1),
        λ x. absurd (not-moving (phase_of after c) (ap (λ (y : Agent). is_moving y.phase) r) x.1),
      )
      told (other n m r) =
          let same = moving-as (agent_at after c) (agent_at t c) r in
          (λ x. (x.0, same.1 x.1), λ x. (x.0, same.0 x.1))

  -- a family that is still there is neither of the two
  families : FamiliesMatch after
  families =
      record {
        child = λ a c h k.
            let was = still-spawning a c k in
            let found = g.1.families.child a c h was.0 in
            (found.0, now-child a c found.1 was.1, site-kept c ∙ found.2 ∙ sym (site-kept a));
        parent = λ a c h k.
            let was = still-child a c k in
            let found = g.1.families.parent a c h was.0 in
            (found.0, now-spawning a c found.1 was.1, site-kept a ∙ found.2 ∙ sym (site-kept c));
      }
    where
      now-child : (a c : AgentNo) → Child t a c → (a ≡ p → ⊥) → Child after a c
      now-child a c k n = told (now c) k
        where
          told : Now c → Child t a c → Child after a c
          told (freed i (inl f) r) (inl x) = cc f.1
          told (freed i (inl f) r) (inr x) = absurd (n (cc f.1))
          told (freed i (inr f) r) (inl x) = cc f.1
          told (freed i (inr f) r) (inr x) = cc f.1
          told (other d m r) (inl x) = inl (cc)
          told (other d m r) (inr x) = inr (cc)

      now-spawning : (a c : AgentNo) → phase_of t a ≡ Spawning c → (c ≡ b → ⊥) → phase_of after a ≡ Spawning c
      now-spawning a c k n = told (now a)
        where
          told : Now a → phase_of after a ≡ Spawning c
          told (freed i (inl f) r) = cc f.1
          told (freed i (inr f) r) = absurd (n (cc f.1))
          told (other d m r) = cc

  pub greet-good : Good after
  greet-good = (
    agents-shaped (to_phase t b Free) p _ (agents-shaped t b _ g.0),
    agents-sound
        t
        t.agents
        after.agent
        t.lock
        g.1
        (record {
          grows = omega arith;
          fits = g.1.counts.agents_fit;
          room = room;
          each = each;
          families = families;
          lock = moves-same t t.agents after.agent moves g.1.lock;
          up = λ c q h k. (q, (still-child q c k).0);
          stays = λ m h s o. site-kept (message_at t m).addressee;
        }),
  )
