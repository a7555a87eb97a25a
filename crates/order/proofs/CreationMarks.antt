-- The two steps of a creation that are marked: spawn, which has its effect at once, and greet, which has none.
use Rattle.std.proofs.Common.{ℕ, suc, ◌<◌, ◌≡◌, refl, ap, sym, ◌∙◌, subst, ◌⊎◌, inl, inr, Bool, true, false, cond, List, [], ◌∷◌, ◌++◌, length, lit≤, eqb, arith, eq-eqb, ne_eqb}
use Rattle.records.specs.declared.AgentNo.{AgentNo}
use Rattle.records.specs.declared.Agent.{Agent}
use Rattle.records.specs.declared.Phase.TheVariants.{Free, Spawning, Born, Enrolled}
use Rattle.records.specs.Numbers.{agent_no}
use Rattle.records.specs.Agents.{born_of}
use Rattle.rules.specs.declared.State.{State}
use Rattle.records.specs.Limits.{most_agents}
use Rattle.rules.specs.Holding.{IsAgent, site_of, phase_of, next_agent, with_new_agent}
use Rattle.rules.specs.Steps.{to_phase}
use Rattle.preservation.proofs.AfterChange.{first, second, neither}
use Rattle.preservation.proofs.Greet
use Rattle.preservation.proofs.Greet.{greet-good}
use Rattle.preservation.proofs.Spawn
use Rattle.preservation.proofs.Spawn.{spawn-good}
use Rattle.order.specs.Lists.{In}
use Rattle.order.specs.Marks.{Mark, creates, greets, leaves, hands, At}
use Rattle.order.specs.Operations.{Operation, creation, move, message, child, name_of, EffectAt, OverAt}
use Rattle.order.proofs.MarkLaws.{more, at_last, at_snoc}
use Rattle.order.proofs.Links.{MoveLink}
use Rattle.order.proofs.LinkSteps.{creations-on, move-idle, move-as}
use Rattle.order.proofs.BoardLaws.{inboxes-same, board-same, board-created}
use Rattle.order.proofs.Invariant.{Inv, inv-quiet, inv-effect, new-plain, mail-same, move_same}

module _ (start : State) (ms : List Mark) (t : State) (order : List Operation) (v : Inv start ms t order) where
  pub greet-on :
      (b p : AgentNo)
      → IsAgent t b
      → phase_of t b ≡ Enrolled p
      → Inv start (more ms (greets b)) (to_phase (to_phase t b Free) p Free) order
  greet-on b p there e =
      inv-quiet
      start
      ms
      (greets b)
      t
      after
      order
      v
      (lit≤ tt)
      (new-plain start ms (greets b) t (λ e. omega arith) (λ e. omega arith))
      (greet-good t v.good b p there e)
      (creations-on
      ms
      (greets b)
      t
      after
      v.creations
      (omega arith)
      (λ p c q. cc)
      (λ c q. subst (IsAgent t) (cc) there))
      moves
      (mail-same start ms (greets b) t t.agents after.agent t.lock v.mail (λ e. omega arith) (λ e. omega arith) (λ e. omega arith))
      (board-same t after refl (Greet.site-kept t v.good b p there e) refl (λ m h. (refl, refl)))
    where
      after : State
      after = to_phase (to_phase t b Free) p Free

      moves : (c : AgentNo) → MoveLink start (more ms (greets b)) c (phase_of after c)
      moves c = told (Greet.now t v.good b p there e c)
        where
          told : Greet.Now t v.good b p there e c → MoveLink start (more ms (greets b)) c (phase_of after c)
          told (Greet.freed i w r) = move-as r (move-idle start (more ms (greets b)) c Free refl)
          told (Greet.other n m r) =
              move-as r (move_same start ms (greets b) t c v.moves refl (λ q. cc) (λ q. cc))

module _
    (start : State)
    (ms : List Mark)
    (t : State)
    (order : List Operation)
    (v : Inv start ms t order)
    (a : AgentNo)
    (there : IsAgent t a)
    (e : phase_of t a ≡ Free)
    (some : t.agents < most_agents)
  where
    abbrev new : AgentNo
    new = next_agent t

    abbrev after : State
    after = with_new_agent (to_phase t a (Spawning new)) (born_of a (site_of t a))

    abbrev mark : Mark
    mark = creates a new

    now : (c : AgentNo) → Spawn.Now t v.good a there e some c
    now = Spawn.now t v.good a there e some

    moves : (c : AgentNo) → MoveLink start (more ms mark) c (phase_of after c)
    moves c = told (now c)
      where
        told : Spawn.Now t v.good a there e some c → MoveLink start (more ms mark) c (phase_of after c)
        told (first q r) = move-as r (move-idle start (more ms mark) c (Spawning new) refl)
        told (second q r) = move-as r (move-idle start (more ms mark) c (Born a) refl)
        told (neither n m r) = move-as r (move_same start ms mark t c v.moves refl (λ q. cc) (λ q. cc))

    -- the new agent at its parent's site, and any other where it was
    sites : (c : AgentNo) → site_of after c ≡ cond (eqb t.agents c.0) (site_of t a) (site_of t c)
    sites c = told (now c)
      where
        at : (b : Bool) → eqb t.agents c.0 ≡ b → cond b (site_of t a) (site_of t c) ≡ cond (eqb t.agents c.0) (site_of t a) (site_of t c)
        at b q = ap (λ (d : Bool). cond d (site_of t a) (site_of t c)) (sym q)

        told : Spawn.Now t v.good a there e some c → site_of after c ≡ cond (eqb t.agents c.0) (site_of t a) (site_of t c)
        told (first q r) =
            ap (λ (z : Agent). z.site) r
            ∙ ap (site_of t) (sym q)
            ∙ at false (ne_eqb t.agents c.0 (λ k. omega (arith, there, ap (λ (z : AgentNo). z.0) q)))
        told (second q r) = ap (λ (z : Agent). z.site) r ∙ at true (eq-eqb t.agents c.0 (ap (λ (z : AgentNo). z.0) (sym q)))
        told (neither n m r) = ap (λ (z : Agent). z.site) r ∙ at false (ne_eqb t.agents c.0 (λ k. m (ap agent_no (sym k))))

    only : (y : Operation) → EffectAt start (more ms mark) y (length ms) → y ≡ creation a new
    only (creation p c) h = let q : mark ≡ creates p c = sym (at_last ms mark) ∙ h in cc
    only (move b k u) h = let q : mark ≡ leaves b = sym (at_last ms mark) ∙ h.1 in cc
    only (message b y) h = let q : mark ≡ hands h.0 = sym (at_last ms mark) ∙ h.2 in cc

    fresh : (y : Operation) → In y order → name_of y ≡ child new → ⊥
    fresh (creation p c) h n =
        let was = (v.ordered.exactly (creation p c)).0 h in
        let q : c ≡ new = cc in
        omega (arith, v.creations.created was.0 p c was.1, ap (λ (z : AgentNo). z.0) q)
    fresh (move b k u) h n = cc
    fresh (message b y) h n = cc

    unfinished : (i : ℕ) → OverAt start (more ms mark) (creation a new) i → ⊥
    unfinished i h = told (at_snoc ms mark i (greets new) (λ q. cc) h)
      where
        told : ((i < length ms) × At ms i (greets new)) ⊎ ((i ≡ length ms) × (mark ≡ greets new)) → ⊥
        told (inl w) = omega (arith, v.creations.greeted i new w.1)
        told (inr w) = let q : mark ≡ greets new = w.1 in cc

    pub spawn-on : Inv start (more ms mark) after (order ++ (creation a new ∷ []))
    spawn-on =
        inv-effect
        start
        ms
        mark
        t
        after
        order
        (creation a new)
        v
        (record {
          create = λ p c q. let same : c ≡ new = cc in ap (λ (z : AgentNo). z.0) same;
          take = λ m b y q. cc;
        })
        (spawn-good t v.good a there e some)
        (creations-on
        ms
        mark
        t
        after
        v.creations
        (omega arith)
        (λ p c q. let same : c ≡ new = cc in omega (arith, ap (λ (z : AgentNo). z.0) same))
        (λ c q. cc))
        moves
        (mail-same start ms mark t (suc t.agents) after.agent t.lock v.mail (λ e. omega arith) (λ e. omega arith) (λ e. omega arith))
        (there, refl)
        (board-created t after a new refl sites (inboxes-same t after refl (λ m h. (refl, refl))))
        (at_last ms mark)
        only
        fresh
        unfinished
