-- The test of one agent and what it says.
use Rattle.std.proofs.Common.{arith, Some, None, ◌≡◌, sym, ap, ◌∙◌, subst, inl, inr, ⊎_elim, ◌↔◌, Bool, true, false, not, ◌&&◌, ◌||◌, ltb, ltb-true, lt-ltb}
use Rattle.std.proofs.Math.Bool.{beq}
use Rattle.std.proofs.lemmas.Bool.{false≢true, and_parts, and_from, or_cases, or_left, or_right, cases_Bool, false_from_ne_true, not_from_false, both_ways, not-true}
use Rattle.records.specs.declared.AgentNo.{AgentNo}
use Rattle.records.specs.declared.SiteNo.{SiteNo}
use Rattle.records.specs.declared.Phase.TheVariants.{Spawning, Born, Enrolled, Asking, Granted, Landed}
use Rattle.records.specs.declared.Lock.TheVariants.{ForMove}
use Rattle.records.specs.Numbers.{same_site}
use Rattle.records.specs.Agents.{is_spawning, is_born, is_asking, is_granted, is_landed, is_child, is_moving, peer_of, target_of, is_mapped, map_site}
use Rattle.records.specs.Locks.{held_for_move}
use Rattle.records.proofs.FlagLaws.{implies-use, implies-make, same-there, same_back, same-make}
use Rattle.records.proofs.ReaderLaws.{same-agent, agent-same, same-site, site-same, phase-is, child-is, is-child, moving-is, is-moving, mapped-is, unmapped-is, held-move-is, is-held-move}
use Rattle.rules.specs.Tests.{agent_sites, names_back, family, map_right, agent_fine}
use Rattle.rules.specs.declared.State.{State}
use Rattle.rules.specs.Holding.{IsAgent, IsSite, agent_at, site_of, phase_of, map_of, lock_of}
use Rattle.rules.specs.Soundness.{Child, Moving}

-- what soundness says of one agent
pub record AgentRight (t : State) (a : AgentNo) : Type 0 where
  pub own : IsSite t (site_of t a)
  pub asked : (u : SiteNo) → phase_of t a ≡ Asking u → IsSite t u
  pub granted : (u : SiteNo) → phase_of t a ≡ Granted u → IsSite t u
  pub mapped : (s : SiteNo) → map_of t a ≡ Some s → IsSite t s
  pub child : (c : AgentNo) → phase_of t a ≡ Spawning c → IsAgent t c × Child t a c × (site_of t c ≡ site_of t a)
  pub parent : (p : AgentNo) → Child t p a → IsAgent t p × (phase_of t p ≡ Spawning a) × (site_of t p ≡ site_of t a)
  pub born : (map_of t a ≡ None) ↔ ((p : AgentNo) × (phase_of t a ≡ Born p))
  pub map : ((p : AgentNo) → phase_of t a ≡ Born p → ⊥) → (phase_of t a ≡ Landed → ⊥) → map_of t a ≡ Some (site_of t a)
  pub lock : (lock_of t ≡ ForMove a) ↔ Moving t a

module _ (t : State) (a : AgentNo) where
  abbrev sites_test : Bool
  sites_test = agent_sites t.sites (agent_at t a)

  abbrev family_test : Bool
  family_test = family t.agents a (agent_at t a) (agent_at t (peer_of (phase_of t a)))

  abbrev back_test : Bool
  back_test = names_back t.agents a (agent_at t a) (agent_at t (peer_of (phase_of t a)))

  abbrev lock_test : Bool
  lock_test = beq (held_for_move (lock_of t) a) (is_moving (phase_of t a))

  site-from : sites_test ≡ true → IsSite t (site_of t a)
  site-from h = ltb-true (site_of t a).0 t.sites (grind arith)

  target-from : sites_test ≡ true → (is_asking (phase_of t a) || is_granted (phase_of t a)) ≡ true → IsSite t (target_of (phase_of t a))
  target-from h k =
      ltb-true
      (target_of (phase_of t a)).0
      t.sites
      (grind arith)

  entry-from : sites_test ≡ true → is_mapped (map_of t a) ≡ true → IsSite t (map_site (map_of t a))
  entry-from h k =
      ltb-true
      (map_site (map_of t a)).0
      t.sites
      (grind arith)

  -- the agent that this one's phase names is there, names this one, and stands at its site
  abbrev NamedBack : Type 0
  NamedBack =
      IsAgent t (peer_of (phase_of t a))
      × (peer_of (phase_of t (peer_of (phase_of t a))) ≡ a)
      × (site_of t (peer_of (phase_of t a)) ≡ site_of t a)

  named-from : back_test ≡ true → NamedBack
  named-from h = (
    ltb-true (peer_of (phase_of t a)).0 t.agents (grind arith),
    same-agent (peer_of (phase_of t (peer_of (phase_of t a)))) a (grind arith),
    same-site (site_of t (peer_of (phase_of t a))) (site_of t a) (grind arith),
  )

  named-to : NamedBack → back_test ≡ true
  named-to n =
      and_from _ _
      (lt-ltb (peer_of (phase_of t a)).0 t.agents n.0)
      (and_from _ _
      (agent-same (peer_of (phase_of t (peer_of (phase_of t a)))) a n.1)
      (site-same (site_of t (peer_of (phase_of t a))) (site_of t a) n.2))

  child-from : family_test ≡ true → (c : AgentNo) → phase_of t a ≡ Spawning c → IsAgent t c × Child t a c × (site_of t c ≡ site_of t a)
  child-from h c e =
      subst
      (λ (x : AgentNo). IsAgent t x × Child t a x × (site_of t x ≡ site_of t a))
      (ap peer_of e) (
        back.0,
        ⊎_elim
            (λ p. inl (p ∙ ap Born back.1))
            (λ p. inr (p ∙ ap Enrolled back.1))
            (child-is (phase_of t (peer_of (phase_of t a))) (and_parts _ _ there).0),
        back.2,
      )
    where
      there : (is_child (phase_of t (peer_of (phase_of t a))) && back_test) ≡ true
      there =
          implies-use
          (is_spawning (phase_of t a))
          (is_child (phase_of t (peer_of (phase_of t a))) && back_test)
          (grind arith)
          (ap is_spawning e)

      back : NamedBack
      back = named-from (and_parts (is_child (phase_of t (peer_of (phase_of t a)))) back_test there).1

  parent-from : family_test ≡ true → (p : AgentNo) → Child t p a → IsAgent t p × (phase_of t p ≡ Spawning a) × (site_of t p ≡ site_of t a)
  parent-from h p e =
      subst
      (λ (x : AgentNo). IsAgent t x × (phase_of t x ≡ Spawning a) × (site_of t x ≡ site_of t a))
      (is-child (phase_of t a) p e).1 (
        back.0,
        phase-is 1 (phase_of t (peer_of (phase_of t a))) (and_parts _ _ there).0 ∙ ap Spawning back.1,
        back.2,
      )
    where
      there : (is_spawning (phase_of t (peer_of (phase_of t a))) && back_test) ≡ true
      there =
          implies-use
          (is_child (phase_of t a))
          (is_spawning (phase_of t (peer_of (phase_of t a))) && back_test)
          (grind arith)
          (is-child (phase_of t a) p e).0

      back : NamedBack
      back = named-from (and_parts (is_spawning (phase_of t (peer_of (phase_of t a)))) back_test there).1

  abbrev born_test : Bool
  born_test = beq (is_mapped (map_of t a)) (not (is_born (phase_of t a)))

  mapped-unless-born : born_test ≡ true → is_born (phase_of t a) ≡ false → is_mapped (map_of t a) ≡ true
  mapped-unless-born h k = same_back (is_mapped (map_of t a)) (not (is_born (phase_of t a))) h (not_from_false _ k)

  born-from : born_test ≡ true → (map_of t a ≡ None) ↔ ((p : AgentNo) × (phase_of t a ≡ Born p))
  born-from h = (
    λ e.
        ⊎_elim
        (λ (k : is_born (phase_of t a) ≡ true). (peer_of (phase_of t a), phase-is 2 (phase_of t a) k))
        (λ k. absurd (false≢true (sym (ap is_mapped e) ∙ mapped-unless-born h k)))
        (cases_Bool (is_born (phase_of t a))),
    λ b.
        unmapped-is
        (map_of t a)
        (false_from_ne_true
        (is_mapped (map_of t a))
        (λ k.
        both_ways _ (not-true _ (same-there (is_mapped (map_of t a)) (not (is_born (phase_of t a))) h k)) (ap is_born b.1))),
  )

  map-from : map_right (agent_at t a) ≡ true → ((p : AgentNo) → phase_of t a ≡ Born p → ⊥) → (phase_of t a ≡ Landed → ⊥) → map_of t a ≡ Some (site_of t a)
  map-from h nb nl =
      ⊎_elim
      (λ k. absurd (nb (peer_of (phase_of t a)) (phase-is 2 (phase_of t a) k)))
      (λ r.
      ⊎_elim
      (λ k. absurd (nl (phase-is 6 (phase_of t a) k)))
      (λ k. mapped-is (map_of t a) (mapped-unless-born (and_parts _ _ h).0 unborn) ∙ ap Some (same-site (map_site (map_of t a)) (site_of t a) k))
      (or_cases (is_landed (phase_of t a)) (same_site (map_site (map_of t a)) (site_of t a)) r))
      (or_cases
      (is_born (phase_of t a))
      (is_landed (phase_of t a) || same_site (map_site (map_of t a)) (site_of t a))
      (grind arith))
    where
      unborn : is_born (phase_of t a) ≡ false
      unborn = false_from_ne_true (is_born (phase_of t a)) (λ k. nb (peer_of (phase_of t a)) (phase-is 2 (phase_of t a) k))

  pub agent-from : agent_fine t.sites t.agents (lock_of t) t.agent a.0 ≡ true → AgentRight t a
  unfolding agent_fine
  agent-from h =
      record {
        own = site-from sites;
        asked = λ u e. subst (λ (x : SiteNo). IsSite t x) (ap target_of e) (target-from sites (or_left _ _ (ap is_asking e)));
        granted = λ u e. subst (λ (x : SiteNo). IsSite t x) (ap target_of e) (target-from sites (or_right _ _ (ap is_granted e)));
        mapped = λ s e. subst (λ (x : SiteNo). IsSite t x) (ap map_site e) (entry-from sites (ap is_mapped e));
        child = child-from families;
        parent = parent-from families;
        born = born-from (and_parts _ _ maps).0;
        map = map-from maps;
        lock = (
          λ e. moving-is (phase_of t a) (same-there (held_for_move (lock_of t) a) (is_moving (phase_of t a)) locks (is-held-move (lock_of t) a e)),
          λ m. held-move-is (lock_of t) a (same_back (held_for_move (lock_of t) a) (is_moving (phase_of t a)) locks (is-moving (phase_of t a) m)),
        );
      }
    where
      sites : sites_test ≡ true
      sites = grind arith

      families : family_test ≡ true
      families = grind arith

      maps : map_right (agent_at t a) ≡ true
      maps = (and_parts (map_right (agent_at t a)) lock_test (and_parts family_test _ (and_parts sites_test _ h).1).1).0

      locks : lock_test ≡ true
      locks = grind arith

  sites-to : AgentRight t a → sites_test ≡ true
  sites-to r =
      and_from _ _
      (lt-ltb (site_of t a).0 t.sites r.own)
      (and_from _ _
      (implies-make
      (is_asking (phase_of t a) || is_granted (phase_of t a))
      (ltb (target_of (phase_of t a)).0 t.sites)
      (λ k.
      lt-ltb
      (target_of (phase_of t a)).0
      t.sites
      (⊎_elim
      (λ x. r.asked (target_of (phase_of t a)) (phase-is 4 (phase_of t a) x))
      (λ x. r.granted (target_of (phase_of t a)) (phase-is 5 (phase_of t a) x))
      (or_cases (is_asking (phase_of t a)) (is_granted (phase_of t a)) k))))
      (implies-make
      (is_mapped (map_of t a))
      (ltb (map_site (map_of t a)).0 t.sites)
      (λ k. lt-ltb (map_site (map_of t a)).0 t.sites (r.mapped (map_site (map_of t a)) (mapped-is (map_of t a) k)))))

  family-to : AgentRight t a → family_test ≡ true
  family-to r =
      and_from _ _
      (implies-make
      (is_spawning (phase_of t a))
      (is_child (phase_of t (peer_of (phase_of t a))) && back_test)
      (λ k.
      let ch = r.child (peer_of (phase_of t a)) (phase-is 1 (phase_of t a) k) in
      let is = is-child (phase_of t (peer_of (phase_of t a))) a ch.1 in
      and_from _ _ is.0 (named-to (ch.0, is.1, ch.2))))
      (implies-make
      (is_child (phase_of t a))
      (is_spawning (phase_of t (peer_of (phase_of t a))) && back_test)
      (λ k.
      let par = r.parent (peer_of (phase_of t a)) (child-is (phase_of t a) k) in
      and_from _ _ (ap is_spawning par.1) (named-to (par.0, ap peer_of par.1, par.2))))

  born-to : AgentRight t a → born_test ≡ true
  born-to r =
      same-make
      (is_mapped (map_of t a))
      (not (is_born (phase_of t a)))
      (λ k.
      not_from_false _
      (false_from_ne_true
      (is_born (phase_of t a))
      (λ b. false≢true (sym (ap is_mapped (r.born.1 (peer_of (phase_of t a), phase-is 2 (phase_of t a) b))) ∙ k))))
      (λ k.
      ⊎_elim
      (λ m. m)
      (λ m. absurd (both_ways _ (not-true _ k) (ap is_born (r.born.0 (unmapped-is (map_of t a) m)).1)))
      (cases_Bool (is_mapped (map_of t a))))

  map-to : AgentRight t a → map_right (agent_at t a) ≡ true
  map-to r =
      and_from _ _
      (born-to r)
      (⊎_elim
      (or_left (is_born (phase_of t a)) (is_landed (phase_of t a) || same_site (map_site (map_of t a)) (site_of t a)))
      (λ nb.
      or_right
      (is_born (phase_of t a))
      _
      (⊎_elim
      (or_left (is_landed (phase_of t a)) (same_site (map_site (map_of t a)) (site_of t a)))
      (λ nl.
      or_right
      (is_landed (phase_of t a))
      _
      (site-same
      (map_site (map_of t a))
      (site_of t a)
      (ap
      map_site
      (r.map
      (λ p e. false≢true (sym nb ∙ ap is_born e))
      (λ e. false≢true (sym nl ∙ ap is_landed e))))))
      (cases_Bool (is_landed (phase_of t a)))))
      (cases_Bool (is_born (phase_of t a))))

  lock-to : AgentRight t a → lock_test ≡ true
  lock-to r =
      same-make
      (held_for_move (lock_of t) a)
      (is_moving (phase_of t a))
      (λ k. is-moving (phase_of t a) (r.lock.0 (held-move-is (lock_of t) a k)))
      (λ k. is-held-move (lock_of t) a (r.lock.1 (moving-is (phase_of t a) k)))

  pub agent-to : AgentRight t a → agent_fine t.sites t.agents (lock_of t) t.agent a.0 ≡ true
  unfolding agent_fine
  agent-to r = and_from _ _ (sites-to r) (and_from _ _ (family-to r) (and_from _ _ (map-to r) (lock-to r)))
