-- A step that changes agents and the lock, and nothing of messages and log: what is left to show for the next table to be sound.
use Rattle.std.proofs.Common.{Some, None, ℕ, ◌<◌, ◌≤◌, ◌≡◌, sym, ◌∙◌, subst, ◌⊎◌, ◌↔◌, false, true≢false, List, arith}
use mathlib.Core.Logic.Iff
use Rattle.records.specs.declared.Lock.{Lock}
use Rattle.records.specs.declared.AgentNo.{AgentNo}
use Rattle.records.specs.declared.SiteNo.{SiteNo}
use Rattle.records.specs.declared.MailNo.{MailNo}
use Rattle.records.specs.declared.Agent.{Agent}
use Rattle.records.specs.declared.Phase.{Phase}
use Rattle.records.specs.declared.Phase.TheVariants.{Born, Asking, Granted, Landed}
use Rattle.records.specs.declared.Status.TheVariants.{Out}
use Rattle.records.specs.Numbers.{agent_no}
use Rattle.records.specs.Agents.{empty_agent, is_moving, with_phase}
use Rattle.records.proofs.ReaderLaws.{is-moving}
use Rattle.rules.specs.Tests.{agent_in}
use Rattle.rules.specs.declared.State.{State}
use Rattle.records.specs.Limits.{most_agents}
use Rattle.rules.specs.Holding.{IsAgent, IsMessage, agent_at, site_of, message_at, status_of, with_agents, with_lock}
use Rattle.rules.specs.Soundness.{Sound, FamiliesMatch, LockRight, Child, Moving}
use Rattle.preservation.proofs.Families.{ChildOf}

-- the phases that the lock is held for
abbrev pub MovingIn : Phase → Type 0
MovingIn p = ((u : SiteNo) × (p ≡ Granted u)) ⊎ (p ≡ Landed)

pub not-moving : (p : Phase) → is_moving p ≡ false → MovingIn p → ⊥
not-moving p e h = true≢false (sym (is-moving p h) ∙ e)

pub moving-as : (x z : Agent) → x ≡ z → MovingIn x.phase ↔ MovingIn z.phase
moving-as x z e = subst (λ (w : Agent). MovingIn x.phase ↔ MovingIn w.phase) e Iff.rfl

-- what soundness says of one agent's record by itself
pub record Alone (sites : ℕ) (x : Agent) : Type 0 where
  pub own : x.site.0 < sites
  pub asked : (u : SiteNo) → x.phase ≡ Asking u → u.0 < sites
  pub granted : (u : SiteNo) → x.phase ≡ Granted u → u.0 < sites
  pub mapped : (s : SiteNo) → x.map ≡ Some s → s.0 < sites
  pub born : (x.map ≡ None) ↔ ((p : AgentNo) × (x.phase ≡ Born p))
  pub map : ((p : AgentNo) → x.phase ≡ Born p → ⊥) → (x.phase ≡ Landed → ⊥) → x.map ≡ Some x.site

pub alone : (t : State) → Sound t → (a : AgentNo) → IsAgent t a → Alone t.sites (agent_at t a)
alone t s a h =
    record {
      own = s.sites.own a h;
      asked = s.sites.asked a h;
      granted = s.sites.granted a h;
      mapped = s.sites.mapped a h;
      born = s.born a h;
      map = s.map a h;
    }

-- An agent that is not born stays so, at its site: what it is by itself is right, where its map was right, or is made right, and where
-- a target that it now names is a site.
pub alone-mapped :
    (sites : ℕ) (x : Agent) (p : Phase)
    → Alone sites x
    → x.map ≡ Some x.site
    → ((q : AgentNo) → p ≡ Born q → ⊥)
    → ((u : SiteNo) → p ≡ Asking u → u.0 < sites)
    → ((u : SiteNo) → p ≡ Granted u → u.0 < sites)
    → Alone sites (with_phase x p)
alone-mapped sites x p f m n asked granted =
    record {
      own = f.own;
      asked = asked;
      granted = granted;
      mapped = f.mapped;
      born = (λ e. cc, λ e. absurd (n e.0 e.1));
      map = λ b l. m;
    }

-- the same table with other agents and another lock
abbrev pub with_agents_held : State → ℕ → List Agent → Lock → State
with_agents_held t n l h = with_lock (with_agents t n l) h

-- what is to be shown of the other agents and the other lock
pub record AgentsFit (t : State) (n : ℕ) (l : List Agent) (h : Lock) : Type 0 where
  pub grows : t.agents ≤ n
  pub fits : n ≤ most_agents
  pub room : (i : ℕ) → n ≤ i → agent_in l (agent_no i) ≡ empty_agent
  pub each : (a : AgentNo) → a.0 < n → Alone t.sites (agent_in l a)
  pub families : FamiliesMatch (with_agents_held t n l h)
  pub lock : LockRight (with_agents_held t n l h)
  -- no agent that was there has become a child
  pub up : (a p : AgentNo) → IsAgent t a → ChildOf (agent_in l a).phase p → (q : AgentNo) × Child t q a
  -- the addressee of a message that is out stands where it stood
  pub stays :
      (m : MailNo)
      → IsMessage t m
      → (s : SiteNo)
      → status_of t m ≡ Out s
      → (agent_in l (message_at t m).addressee).site ≡ site_of t (message_at t m).addressee

pub agents-sound : (t : State) (n : ℕ) (l : List Agent) (h : Lock) → Sound t → AgentsFit t n l h → Sound (with_agents_held t n l h)
agents-sound t n l h s f =
    record {
      counts =
          record {
            some_site = s.counts.some_site;
            sites_fit = s.counts.sites_fit;
            some_agent = omega (arith, s.counts.some_agent, f.grows);
            agents_fit = f.fits;
            messages_fit = s.counts.messages_fit;
            log_fits = s.counts.log_fits;
          };
      room = record { agents = f.room; messages = s.room.messages; log = s.room.log };
      sites =
          record {
            own = λ a b. (f.each a b).own;
            asked = λ a b. (f.each a b).asked;
            granted = λ a b. (f.each a b).granted;
            mapped = λ a b. (f.each a b).mapped;
            out = s.sites.out;
          };
      families = f.families;
      born = λ a b. (f.each a b).born;
      map = λ a b. (f.each a b).map;
      lock = f.lock;
      out = λ m b k e. s.out m b k e ∙ sym (f.stays m b k e);
      lost = s.lost;
      parties =
          record {
            sender = λ m b. omega (arith, s.parties.sender m b, f.grows);
            addressee = λ m b. omega (arith, s.parties.addressee m b, f.grows);
            sender_up = λ m b p c.
                let was = f.up (message_at t m).sender p (s.parties.sender m b) c in
                s.parties.sender_up m b was.0 was.1;
          };
      numbers = s.numbers;
      log = record { once = s.log.once; only = s.log.only };
    }

-- The lock is left alone, and the same agents are moving.
pub moves-same :
    (t : State) (n : ℕ) (l : List Agent)
    → ((c : AgentNo) → (IsAgent t c × Moving t c) ↔ ((c.0 < n) × MovingIn (agent_in l c).phase))
    → LockRight t
    → LockRight (with_agents_held t n l t.lock)
moves-same t n l same r =
    record {
      move = λ c. (λ e. (same c).0 ((r.move c).0 e), λ x. (r.move c).1 ((same c).1 x));
      mail = r.mail;
    }
