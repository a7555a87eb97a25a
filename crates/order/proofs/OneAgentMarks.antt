-- The steps that change one agent where it stands: ask, grant, book, settle and enrol. None has an effect on the board.
use Rattle.std.proofs.Common.{◌≤◌, ◌≡◌, refl, ap, sym, subst, inl, inr, false, List, set, lit≤, arith, ne_eqb}
use Rattle.records.specs.declared.AgentNo.{AgentNo}
use Rattle.records.specs.declared.SiteNo.{SiteNo}
use Rattle.records.specs.declared.Agent.{Agent}
use Rattle.records.specs.declared.Phase.TheVariants.{Free, Born, Enrolled, Asking, Granted, Landed, Booked}
use Rattle.records.specs.declared.Lock.{Lock}
use Rattle.records.specs.declared.Lock.TheVariants.{Unheld, ForMove}
use Rattle.records.specs.Numbers.{agent_no}
use Rattle.records.specs.Agents.{with_phase, mapped_here}
use Rattle.rules.specs.declared.State.{State}
use Rattle.rules.specs.Holding.{IsAgent, IsSite, agent_at, site_of, phase_of, lock_of, with_agent, with_lock}
use Rattle.rules.specs.Steps.{to_phase}
use Rattle.preservation.proofs.AfterChange.{Seen, changed, kept, seen-agent}
use Rattle.preservation.proofs.OneAgent.{Good, agent-place}
use Rattle.preservation.proofs.Moves.{ask-good, grant-good, book-good, settle-good}
use Rattle.preservation.proofs.Enrol.{enrol-good}
use Rattle.order.specs.Marks.{Mark, nothing, asks, leaves, settles, asks_of, in_move}
use Rattle.order.specs.Operations.{Operation}
use Rattle.order.proofs.MarkLaws.{more}
use Rattle.order.proofs.Links.{PendingTo, MoveLink}
use Rattle.order.proofs.LinkSteps.{move-idle, move-on, move-asked}
use Rattle.order.proofs.BoardLaws.{board-same}
use Rattle.order.proofs.Invariant.{Inv, tag_of, inv-quiet, new-plain, creations-same, mail-same, move_same}

module _
    (first : State)
    (ms : List Mark)
    (t : State)
    (order : List Operation)
    (v : Inv first ms t order)
    (a : AgentNo)
    (there : IsAgent t a)
  where
    seen : (y : Agent) (b : AgentNo) → Seen b a y (agent_at t b) (agent_at (with_agent t a y) b)
    seen y = seen-agent t.agent a y (agent-place t a v.good there)

    -- the agent's own link is given; a mark that is not another's leaves theirs
    pub moves-one :
        (x : Mark) (y : Agent)
        → MoveLink first (more ms x) a y.phase
        → ((b : AgentNo) → (b ≡ a → ⊥) → (asks_of b x ≡ false) × (x ≡ leaves b → ⊥) × (x ≡ settles b → ⊥))
        → (b : AgentNo)
        → MoveLink first (more ms x) b (phase_of (with_agent t a y) b)
    moves-one x y own others b = told (seen y b)
      where
        told : Seen b a y (agent_at t b) (agent_at (with_agent t a y) b) → MoveLink first (more ms x) b (phase_of (with_agent t a y) b)
        told (changed e r) =
            subst
            (MoveLink first (more ms x) b)
            (ap (λ (z : Agent). z.phase) (sym r))
            (subst (λ (c : AgentNo). MoveLink first (more ms x) c y.phase) (sym e) own)
        told (kept n r) =
            let no = others b n in
            subst
            (MoveLink first (more ms x) b)
            (ap (λ (z : Agent). z.phase) (sym r))
            (move_same first ms x t b v.moves no.0 no.1 no.2)

    site-kept : (y : Agent) → y.site ≡ site_of t a → (b : AgentNo) → site_of (with_agent t a y) b ≡ site_of t b
    site-kept y s b = told (seen y b)
      where
        told : Seen b a y (agent_at t b) (agent_at (with_agent t a y) b) → site_of (with_agent t a y) b ≡ site_of t b
        told (changed e r) = cc
        told (kept n r) = cc

    one-quiet :
        (x : Mark) (y : Agent) (l : Lock)
        → 6 ≤ tag_of x
        → y.site ≡ site_of t a
        → Good (with_lock (with_agent t a y) l)
        → MoveLink first (more ms x) a y.phase
        → ((b : AgentNo) → (b ≡ a → ⊥) → (asks_of b x ≡ false) × (x ≡ leaves b → ⊥) × (x ≡ settles b → ⊥))
        → Inv first (more ms x) (with_lock (with_agent t a y) l) order
    one-quiet x y l tag stays good own others =
        inv-quiet
        first
        ms
        x
        t
        (with_lock (with_agent t a y) l)
        order
        v
        (omega arith)
        (new-plain first ms x t (λ e. omega arith) (λ e. omega arith))
        good
        (creations-same first ms x t (with_lock (with_agent t a y) l) v.creations (omega arith) (λ e. omega arith) (λ e. omega arith))
        (moves-one x y own others)
        (mail-same
        first
        ms
        x
        t
        t.agents
        (set t.agent a.0 y)
        l
        v.mail
        (λ e. omega arith)
        (λ e. omega arith)
        (λ e. omega arith))
        (board-same t (with_lock (with_agent t a y) l) refl (site-kept y stays) refl (λ m h. (refl, refl)))

    -- a mark that says nothing is nobody's
    silent : (b : AgentNo) → (b ≡ a → ⊥) → (asks_of b nothing ≡ false) × (nothing ≡ leaves b → ⊥) × (nothing ≡ settles b → ⊥)
    silent b n = (refl, λ e. cc, λ e. cc)

    pub ask-on : (u : SiteNo) → IsSite t u → phase_of t a ≡ Free → Inv first (more ms (asks a u)) (to_phase t a (Asking u)) order
    ask-on u site e =
        one-quiet
        (asks a u)
        (with_phase (agent_at t a) (Asking u))
        (lock_of t)
        (lit≤ tt)
        refl
        (ask-good t v.good a there u site e)
        (move-asked first ms a u)
        (λ b n. (ne_eqb a.0 b.0 (λ q. n (ap agent_no (sym q))), λ q. cc, λ q. cc))

    pub grant-on :
        (u : SiteNo)
        → phase_of t a ≡ Asking u
        → lock_of t ≡ Unheld
        → Inv first (more ms nothing) (with_lock (to_phase t a (Granted u)) (ForMove a)) order
    grant-on u e free =
        one-quiet
        nothing
        (with_phase (agent_at t a) (Granted u))
        (ForMove a)
        (lit≤ tt)
        refl
        (grant-good t v.good a there u e free)
        (move-on
        first
        ms
        nothing
        a
        (phase_of t a)
        (Granted u)
        (v.moves a)
        refl
        pend
        (λ h. ap in_move e)
        (λ q. cc)
        (λ q. cc))
        silent
      where
        pend : (w : SiteNo) → PendingTo (Granted u) w → PendingTo (phase_of t a) w
        pend w (inl h) = cc
        pend w (inr h) = inl (cc)

    pub book-on : phase_of t a ≡ Landed → Inv first (more ms nothing) (with_lock (with_agent t a (mapped_here (with_phase (agent_at t a) Booked))) Unheld) order
    book-on e =
        one-quiet
        nothing
        (mapped_here (with_phase (agent_at t a) Booked))
        Unheld
        (lit≤ tt)
        refl
        (book-good t v.good a there e)
        (move-on
        first
        ms
        nothing
        a
        (phase_of t a)
        Booked
        (v.moves a)
        refl
        pend
        (λ h. ap in_move e)
        (λ q. cc)
        (λ q. cc))
        silent
      where
        pend : (w : SiteNo) → PendingTo Booked w → PendingTo (phase_of t a) w
        pend w (inl h) = cc
        pend w (inr h) = cc

    pub settle-on : phase_of t a ≡ Booked → Inv first (more ms (settles a)) (to_phase t a Free) order
    settle-on e =
        one-quiet
        (settles a)
        (with_phase (agent_at t a) Free)
        (lock_of t)
        (lit≤ tt)
        refl
        (settle-good t v.good a there e)
        (move-idle first (more ms (settles a)) a Free refl)
        (λ b n. (refl, λ q. cc, λ q. n (cc)))

    pub enrol-on :
        (p : AgentNo)
        → phase_of t a ≡ Born p
        → Inv first (more ms nothing) (with_agent t a (mapped_here (with_phase (agent_at t a) (Enrolled p)))) order
    enrol-on p e =
        one-quiet
        nothing
        (mapped_here (with_phase (agent_at t a) (Enrolled p)))
        (lock_of t)
        (lit≤ tt)
        refl
        (enrol-good t v.good a p there e)
        (move-idle first (more ms nothing) a (Enrolled p) refl)
        silent
