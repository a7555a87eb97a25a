-- leap: the agent's last move has its effect.
use Rattle.std.proofs.Common.{ℕ, suc, ◌<◌, ◌≡◌, refl, ap, sym, ◌∙◌, subst, ◌⊎◌, inl, inr, Bool, true, false, cond, List, [], ◌∷◌, ◌++◌, length, take, arith, eq-eqb, ne_eqb}
use Rattle.std.proofs.Math.Seq.{take-length}
use Rattle.records.specs.declared.AgentNo.{AgentNo}
use Rattle.records.specs.declared.SiteNo.{SiteNo}
use Rattle.records.specs.declared.Agent.{Agent}
use Rattle.records.specs.declared.Phase.TheVariants.{Granted, Landed}
use Rattle.records.specs.Numbers.{agent_no, same_agent}
use Rattle.records.specs.Agents.{with_phase, moved_to}
use Rattle.rules.specs.declared.State.{State}
use Rattle.rules.specs.Holding.{IsAgent, agent_at, site_of, phase_of, with_agent}
use Rattle.preservation.proofs.AfterChange.{Seen, changed, kept, seen-agent}
use Rattle.preservation.proofs.OneAgent.{agent-place}
use Rattle.preservation.proofs.Moves.{leap-good}
use Rattle.order.specs.Lists.{In}
use Rattle.order.specs.Marks.{Mark, creates, leaves, settles, hands, At, in_move, moves_begun}
use Rattle.order.specs.Operations.{Operation, creation, move, message, turn, name_of, Targets, EffectAt, OverAt}
use Rattle.order.proofs.MarkLaws.{more, at_last, at_snoc}
use Rattle.order.proofs.Links.{PendingTo, MoveLink}
use Rattle.order.proofs.LinkSteps.{move-on}
use Rattle.order.proofs.EarlierPlaces.{begun-then, counted_back, targets-old, targets-back}
use Rattle.order.proofs.BoardLaws.{inboxes-same, board-moved}
use Rattle.order.proofs.Invariant.{Inv, inv-effect, new-plain, creations-same, mail-same}
use Rattle.order.proofs.OneAgentMarks.{moves-one}

module _
    (start : State)
    (ms : List Mark)
    (t : State)
    (order : List Operation)
    (v : Inv start ms t order)
    (a : AgentNo)
    (there : IsAgent t a)
    (u : SiteNo)
    (e : phase_of t a ≡ Granted u)
  where
    abbrev landed : Agent
    landed = moved_to (with_phase (agent_at t a) Landed) u

    abbrev after : State
    after = with_agent t a landed

    abbrev mark : Mark
    mark = leaves a

    -- which of the agent's moves it is
    k : ℕ
    k = ((v.moves a).pending u (inr e)).0

    begun : moves_begun start ms a ≡ suc k
    unfolding k
    begun = ((v.moves a).pending u (inr e)).1

    target : Targets start ms a k u
    unfolding k
    target = ((v.moves a).pending u (inr e)).2

    only-target : (w : SiteNo) → Targets start ms a k w → w ≡ u
    unfolding k
    only-target = ((v.moves a).pending u (inr e)).3

    -- the agent at the target, and any other where it was
    sites : (b : AgentNo) → site_of after b ≡ cond (same_agent a b) u (site_of t b)
    sites b = told (seen-agent t.agent a landed (agent-place t a v.good there) b)
      where
        at : (c : Bool) → same_agent a b ≡ c → cond c u (site_of t b) ≡ cond (same_agent a b) u (site_of t b)
        at c q = ap (λ (d : Bool). cond d u (site_of t b)) (sym q)

        told : Seen b a landed (agent_at t b) (agent_at after b) → site_of after b ≡ cond (same_agent a b) u (site_of t b)
        told (changed q r) = ap (λ (z : Agent). z.site) r ∙ at true (eq-eqb a.0 b.0 (ap (λ (z : AgentNo). z.0) (sym q)))
        told (kept n r) = ap (λ (z : Agent). z.site) r ∙ at false (ne_eqb a.0 b.0 (λ q. n (ap agent_no (sym q))))

    only : (y : Operation) → EffectAt start (more ms mark) y (length ms) → y ≡ move a k u
    only (creation p c) h = let q : mark ≡ creates p c = sym (at_last ms mark) ∙ h in cc
    only (move b j w) h =
        let q : mark ≡ leaves b = sym (at_last ms mark) ∙ h.1 in
        let same : b ≡ a = cc in
        let turns : moves_begun start ms b ≡ suc j = sym (begun-then start ms mark b) ∙ h.2 in
        let which : j ≡ k = omega (arith, turns, ap (moves_begun start ms) same, begun) in
        let aim : w ≡ u =
        only-target
        w
        (targets-back
        start
        ms
        mark
        a
        k
        w
        (length ms)
        (ap (λ (l : List Mark). moves_begun start l a) (take-length ms) ∙ begun)
        (subst (λ (i : ℕ). Targets start (more ms mark) a i w) which (subst (λ (c : AgentNo). Targets start (more ms mark) c j w) same h.0))) in
        cc
    only (message b y) h = let q : mark ≡ hands h.0 = sym (at_last ms mark) ∙ h.2 in cc

    fresh : (y : Operation) → In y order → name_of y ≡ turn a k → ⊥
    fresh (creation p c) h n = cc
    fresh (move b j w) h n =
        let was = (v.ordered.exactly (move b j w)).0 h in
        let same : b ≡ a = cc in
        let which : j ≡ k = cc in
        let left : At ms was.0 (leaves a) = subst (λ (c : AgentNo). At ms was.0 (leaves c)) same was.1.1 in
        let turns : moves_begun start (take was.0 ms) a ≡ suc j = subst (λ (c : AgentNo). moves_begun start (take was.0 ms) c ≡ suc j) same was.1.2 in
        omega (arith, (v.moves a).unleft u (inr e) was.0 left, begun)
    fresh (message b y) h n = cc

    unfinished : (i : ℕ) → OverAt start (more ms mark) (move a k u) i → ⊥
    unfinished i h = told (at_snoc ms mark i (settles a) (λ q. cc) h.0)
      where
        told : ((i < length ms) × At ms i (settles a)) ⊎ ((i ≡ length ms) × (mark ≡ settles a)) → ⊥
        told (inl w) =
            let then = counted_back start ms mark i a (settles a) (suc k) w.0 h in
            omega (arith, (v.moves a).unsettled (ap in_move e) i w.1, then.1, begun)
        told (inr w) = let q : mark ≡ settles a = w.1 in cc

    own : MoveLink start (more ms mark) a Landed
    own =
        move-on
        start
        ms
        mark
        a
        (phase_of t a)
        Landed
        (v.moves a)
        refl
        (λ w h. absurd (not-pending w h))
        (λ h. ap in_move e)
        (λ q w h. not-pending w h)
        (λ q. cc)
      where
        not-pending : (w : SiteNo) → PendingTo Landed w → ⊥
        not-pending w (inl h) = cc
        not-pending w (inr h) = cc

    on : Inv start (more ms mark) after (order ++ (move a k u ∷ []))
    on =
        inv-effect
        start
        ms
        mark
        t
        after
        order
        (move a k u)
        v
        (new-plain start ms mark t (λ q. omega arith) (λ q. omega arith))
        (leap-good t v.good a there u e)
        (creations-same start ms mark t after v.creations (omega arith) (λ q. omega arith) (λ q. omega arith))
        (moves-one start ms t order v a there mark landed own (λ b n. (refl, λ q. n (cc), λ q. cc)))
        (mail-same start ms mark t t.agents after.agent t.lock v.mail (λ q. omega arith) (λ q. omega arith) (λ q. omega arith))
        there
        (board-moved t after a k u refl sites (inboxes-same t after refl (λ m h. (refl, refl))))
        (targets-old start ms mark a k u target, at_last ms mark, begun-then start ms mark a ∙ begun)
        only
        fresh
        unfinished

    pub leap-on : (n : ℕ) × Inv start (more ms mark) after (order ++ (move a n u ∷ []))
    leap-on = (k, on)
