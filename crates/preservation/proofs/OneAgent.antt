-- A step that changes one agent, and perhaps the lock: what is left to show of it.
use Rattle.std.proofs.Common.{ℕ, ◌<◌, ◌≤◌, ◌≡◌, refl, ap, ◌∙◌, ◌↔◌, false, length, set, length-set, arith}
use Rattle.records.specs.declared.AgentNo.{AgentNo}
use Rattle.records.specs.declared.SiteNo.{SiteNo}
use Rattle.records.specs.declared.MailNo.{MailNo}
use Rattle.records.specs.declared.Agent.{Agent}
use Rattle.records.specs.declared.Status.TheVariants.{Out}
use Rattle.records.specs.declared.Lock.{Lock}
use Rattle.records.specs.declared.Lock.TheVariants.{Unheld, ForMove, ForMail}
use Rattle.records.specs.Numbers.{agent_no}
use Rattle.records.specs.Agents.{empty_agent, is_moving}
use Rattle.rules.specs.declared.State.{State}
use Rattle.rules.specs.Holding.{Shaped, IsAgent, IsMessage, agent_at, site_of, status_of, message_at, lock_of, with_agent, with_lock}
use Rattle.rules.specs.Soundness.{Sound, LockRight}
use Rattle.preservation.proofs.Shapes.{shaped-agents, shaped-lock}
use Rattle.preservation.proofs.AfterChange.{Seen, changed, kept, seen-agent}
use Rattle.preservation.proofs.Families.{Kin, kin-self, kin-families}
use Rattle.preservation.proofs.AgentSteps.{MovingIn, not-moving, moving-as, Alone, alone, agents-sound}
use Rattle.preservation.proofs.Locking.{Wants, lock-same, held-right, lock-right, lock-left, lock-taken, lock-freed}

-- what every step keeps
abbrev pub Good : State → Type 0
Good t = Shaped t × Sound t

pub agents-shaped : (t : State) (a : AgentNo) (y : Agent) → Shaped t → Shaped (with_agent t a y)
agents-shaped t a y s = shaped-agents t s t.agents _ (length-set t.agent a.0 y)

pub lock-shaped : (t : State) (l : Lock) → Shaped t → Shaped (with_lock t l)
lock-shaped t l s = shaped-lock t s l

-- an agent that is there has a place in the list
pub agent-place : (t : State) (a : AgentNo) → Good t → a.0 < t.agents → a.0 < length t.agent
agent-place t a g h = omega (arith, g.0.agent, g.1.counts.agents_fit)

module _ (t : State) (g : Good t) (a : AgentNo) (there : IsAgent t a) (y : Agent) where
  -- every agent now
  seen : (b : AgentNo) → Seen b a y (agent_at t b) (agent_at (with_agent t a y) b)
  seen = seen-agent t.agent a y (agent-place t a g there)

  kin-all : Kin (agent_at t a) y → (b : AgentNo) → Kin (agent_at t b) (agent_at (with_agent t a y) b)
  kin-all k b = told (seen b)
    where
      told : Seen b a y (agent_at t b) (agent_at (with_agent t a y) b) → Kin (agent_at t b) (agent_at (with_agent t a y) b)
      told (changed e r) = rw (r, e) k
      told (kept n r) = rw r (kin-self (agent_at t b))

  alone-all : Alone t.sites y → (b : AgentNo) → IsAgent t b → Alone t.sites (agent_at (with_agent t a y) b)
  alone-all f b h = told (seen b)
    where
      told : Seen b a y (agent_at t b) (agent_at (with_agent t a y) b) → Alone t.sites (agent_at (with_agent t a y) b)
      told (changed e r) = rw r f
      told (kept n r) = rw r (alone t g.1 b h)

  room-kept : (i : ℕ) → t.agents ≤ i → agent_at (with_agent t a y) (agent_no i) ≡ empty_agent
  room-kept i h = told (seen (agent_no i))
    where
      told : Seen (agent_no i) a y (agent_at t (agent_no i)) (agent_at (with_agent t a y) (agent_no i)) → agent_at (with_agent t a y) (agent_no i) ≡ empty_agent
      told (changed e r) = absurd (omega (arith, there, ap (λ (c : AgentNo). c.0) e))
      told (kept n r) = r ∙ g.1.room.agents i h

  -- where nothing is out, or the agent stays where it is
  site-kept : (b : AgentNo) → y.site ≡ site_of t a → (agent_at (with_agent t a y) b).site ≡ site_of t b
  site-kept b s = told (seen b)
    where
      told : Seen b a y (agent_at t b) (agent_at (with_agent t a y) b) → (agent_at (with_agent t a y) b).site ≡ site_of t b
      told (changed e r) = cc
      told (kept n r) = cc

  pub one-agent :
      (l : Lock)
      → Alone t.sites y
      → Kin (agent_at t a) y
      → ((m : MailNo) → IsMessage t m → (s : SiteNo) → status_of t m ≡ Out s → y.site ≡ site_of t a)
      → LockRight (with_lock (with_agent t a y) l)
      → Good (with_lock (with_agent t a y) l)
  one-agent l f k stays lock = (
    lock-shaped (with_agent t a y) l (agents-shaped t a y g.0),
    agents-sound
        t
        t.agents
        (set t.agent a.0 y)
        l
        g.1
        (record {
          grows = omega arith;
          fits = g.1.counts.agents_fit;
          room = room-kept;
          each = alone-all f;
          families = kin-families t (with_lock (with_agent t a y) l) refl (kin-all k) g.1.families;
          lock = lock;
          up = λ b p h c. (p, ((kin-all k b).child p).1 c);
          stays = λ m h s e. site-kept (message_at t m).addressee (stays m h s e);
        }),
  )

  -- what wants the lock, beside the agent changed
  wants-other : (l j : Lock) → (j ≡ ForMove a → ⊥) → Wants (with_lock (with_agent t a y) l) j ↔ Wants t j
  wants-other l Unheld n = (λ w. w, λ w. w)
  wants-other l (ForMove b) n = told (seen b)
    where
      told :
          Seen b a y (agent_at t b) (agent_at (with_agent t a y) b)
          → Wants (with_lock (with_agent t a y) l) (ForMove b) ↔ Wants t (ForMove b)
      told (changed e r) = absurd (n (ap (λ (c : AgentNo). ForMove c) e))
      told (kept d r) =
          let was = moving-as (agent_at (with_agent t a y) b) (agent_at t b) r in
          (λ w. (w.0, was.0 w.1), λ w. (w.0, was.1 w.1))
  wants-other l (ForMail m) n = (λ w. w, λ w. w)

  moving-now : (l : Lock) → MovingIn (agent_at (with_lock (with_agent t a y) l) a).phase ↔ MovingIn y.phase
  moving-now l = told (seen a)
    where
      told :
          Seen a a y (agent_at t a) (agent_at (with_agent t a y) a)
          → MovingIn (agent_at (with_agent t a y) a).phase ↔ MovingIn y.phase
      told (changed e r) = moving-as (agent_at (with_agent t a y) a) y r
      told (kept d r) = absurd (d refl)

  -- the agent is moving now exactly if it was: the lock is left alone
  pub move-left : MovingIn (agent_at t a).phase ↔ MovingIn y.phase → LockRight (with_agent t a y)
  move-left same =
      lock-right (with_agent t a y) (lock-left (Wants t) (Wants (with_agent t a y)) (lock_of t) Unheld every (held-right t g.1.lock))
    where
      every : (j : Lock) → Wants t j ↔ Wants (with_agent t a y) j
      every j = which (lock-same j (ForMove a))
        where
          which : Dec (j ≡ ForMove a) → Wants t j ↔ Wants (with_agent t a y) j
          which (yes e) =
              rw e (λ w. (there, (moving-now (lock_of t)).1 (same.0 w.1)), λ w. (there, same.1 ((moving-now (lock_of t)).0 w.1)))
          which (no d) = ((wants-other (lock_of t) j d).1, (wants-other (lock_of t) j d).0)

  -- the agent is moving now: the lock is taken for it
  pub move_taken : lock_of t ≡ Unheld → MovingIn y.phase → LockRight (with_lock (with_agent t a y) (ForMove a))
  move_taken free now =
      lock-right
      (with_lock (with_agent t a y) (ForMove a))
      (lock-taken
      (Wants t)
      (Wants (with_lock (with_agent t a y) (ForMove a)))
      (lock_of t)
      (ForMove a)
      free
      (there, (moving-now (ForMove a)).1 now)
      (λ j d. (wants-other (ForMove a) j d).0)
      (held-right t g.1.lock))

  -- the agent was moving and is not: the lock that it held is free
  pub move-freed : MovingIn (agent_at t a).phase → is_moving y.phase ≡ false → LockRight (with_lock (with_agent t a y) Unheld)
  move-freed was now =
      lock-right
      (with_lock (with_agent t a y) Unheld)
      (lock-freed
      (Wants t)
      (Wants (with_lock (with_agent t a y) Unheld))
      (lock_of t)
      (ForMove a)
      ((g.1.lock.move a).1 (there, was))
      (λ w. not-moving y.phase now ((moving-now Unheld).0 w.1))
      (λ j d. (wants-other Unheld j d).0)
      (held-right t g.1.lock))
