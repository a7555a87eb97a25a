-- What the marks say of the table, one mark further.
use Rattle.std.proofs.Common.{ℕ, suc, ◌<◌, ◌≤◌, ◌≡◌, refl, ap, sym, ◌∙◌, subst, ◌⊎◌, inl, inr, Bool, true, false, cond, true≢false, List, length, take, arith}
use Rattle.std.proofs.Math.Seq.{take-length}
use Rattle.records.specs.declared.AgentNo.{AgentNo}
use Rattle.records.specs.declared.Agent.{Agent}
use Rattle.records.specs.declared.SiteNo.{SiteNo}
use Rattle.records.specs.declared.MailNo.{MailNo}
use Rattle.records.specs.declared.Item.{Item}
use Rattle.records.specs.declared.Message.{Message}
use Rattle.records.specs.declared.Phase.{Phase}
use Rattle.records.specs.declared.Phase.TheVariants.{Asking}
use Rattle.records.specs.declared.Status.TheVariants.{Closed}
use Rattle.records.specs.Messages.{item_of, is_delivered}
use Rattle.rules.specs.declared.State.{State}
use Rattle.rules.specs.Holding.{IsMessage, phase_of, message_at, status_of}
use Rattle.rules.specs.Steps.{addressee_of}
use Rattle.order.specs.Marks.{Mark, nothing, creates, greets, asks, leaves, settles, takes, hands, closes, At, in_move, asks_of, moves_begun}
use Rattle.order.specs.Operations.{Targets, Taken}
use Rattle.order.proofs.MarkLaws.{more, at_last, at_snoc, begun-most, begun-other, begun-asked, begun-less}
use Rattle.order.proofs.Links.{CreationLinks, PendingTo, MoveLink, MailLinks}
use Rattle.order.proofs.EarlierPlaces.{begun-then, begun-old, targets-old, targets-back, taken-old, taken_back}

pub creations-on :
    (ms : List Mark) (x : Mark) (t t' : State)
    → CreationLinks ms t
    → t.agents ≤ t'.agents
    → ((p c : AgentNo) → x ≡ creates p c → c.0 < t'.agents)
    → ((c : AgentNo) → x ≡ greets c → c.0 < t'.agents)
    → CreationLinks (more ms x) t'
creations-on ms x t t' old grows created greeted =
    record {
      created = λ i p c h. first p c (at_snoc ms x i (creates p c) (λ e. cc) h);
      greeted = λ i c h. second c (at_snoc ms x i (greets c) (λ e. cc) h);
    }
  where
    first : {i : ℕ} (p c : AgentNo) → ((i < length ms) × At ms i (creates p c)) ⊎ ((i ≡ length ms) × (x ≡ creates p c)) → c.0 < t'.agents
    first {i} p c (inl w) = omega (arith, old.created i p c w.1)
    first p c (inr w) = created p c w.1

    second : {i : ℕ} (c : AgentNo) → ((i < length ms) × At ms i (greets c)) ⊎ ((i ≡ length ms) × (x ≡ greets c)) → c.0 < t'.agents
    second {i} c (inl w) = omega (arith, old.greeted i c w.1)
    second c (inr w) = greeted c w.1

-- what is known of an agent's moves is known by its phase alone
pub move-as : {first : State} {ms : List Mark} {a : AgentNo} {x y : Agent} → x ≡ y → MoveLink first ms a y.phase → MoveLink first ms a x.phase
move-as {first} {ms} {a} e = subst (λ (z : Agent). MoveLink first ms a z.phase) (sym e)

-- an agent that is not in a move
pub move-idle : (first : State) (ms : List Mark) (a : AgentNo) (p : Phase) → in_move p ≡ false → MoveLink first ms a p
move-idle first ms a p e =
    record {
      pending = λ u h. absurd (idle u h);
      unleft = λ u h. absurd (idle u h);
      unsettled = λ h. absurd (true≢false (sym h ∙ e));
    }
  where
    idle : (u : SiteNo) → PendingTo p u → ⊥
    idle u (inl h) = true≢false (sym (ap in_move h) ∙ e)
    idle u (inr h) = true≢false (sym (ap in_move h) ∙ e)

module _ (first : State) (ms : List Mark) (x : Mark) (a : AgentNo) where
  -- an earlier mark stands where fewer have begun, still
  less-old :
      (y : Mark)
      → (y ≡ nothing → ⊥)
      → ((i : ℕ) → At ms i y → moves_begun first (take i ms) a < moves_begun first ms a)
      → moves_begun first ms a ≤ moves_begun first (more ms x) a
      → (x ≡ y → ⊥)
      → (i : ℕ)
      → At (more ms x) i y
      → moves_begun first (take i (more ms x)) a < moves_begun first (more ms x) a
  less-old y n old grows other i h = told (at_snoc ms x i y n h)
    where
      told :
          ((i < length ms) × At ms i y) ⊎ ((i ≡ length ms) × (x ≡ y))
          → moves_begun first (take i (more ms x)) a < moves_begun first (more ms x) a
      told (inl w) =
          let low : i < length ms = w.0 in
          omega (arith, begun-old first ms x i a (omega arith), old i w.1)
      told (inr w) = absurd (other w.1)

  -- no move of the agent begins: it goes on in the move that it was in
  pub move-on :
      (p p' : Phase)
      → MoveLink first ms a p
      → asks_of a x ≡ false
      → ((u : SiteNo) → PendingTo p' u → PendingTo p u)
      → (in_move p' ≡ true → in_move p ≡ true)
      → (x ≡ leaves a → (u : SiteNo) → PendingTo p' u → ⊥)
      → (x ≡ settles a → ⊥)
      → MoveLink first (more ms x) a p'
  move-on p p' old quiet pend moves left settled =
      record {
        pending = λ u h.
            let was = old.pending u (pend u h) in (
              was.0,
              same ∙ was.1,
              targets-old first ms x a was.0 u was.2,
              λ v w. was.3 v (targets-back first ms x a was.0 v (length ms) (whole ∙ was.1) w),
            );
        unleft = λ u h.
            less-old (leaves a) (λ e. cc) (old.unleft u (pend u h)) (omega (arith, same)) (λ e. left e u h);
        unsettled = λ h.
            less-old (settles a) (λ e. cc) (old.unsettled (moves h)) (omega (arith, same)) settled;
      }
    where
      same : moves_begun first (more ms x) a ≡ moves_begun first ms a
      same = begun-other first a ms x quiet

      whole : moves_begun first (take (length ms) ms) a ≡ moves_begun first ms a
      whole = ap (λ (l : List Mark). moves_begun first l a) (take-length ms)

-- a move begins: it is the last, and nothing has become of it
module _ (first : State) (ms : List Mark) (a : AgentNo) (u : SiteNo) where
  abbrev asked : List Mark
  asked = more ms (asks a u)

  one_more : moves_begun first asked a ≡ suc (moves_begun first ms a)
  one_more = begun-asked first a ms u

  only-target : (v : SiteNo) → Targets first asked a (moves_begun first ms a) v → v ≡ u
  only-target v (inl h) = absurd (begun (in_move (phase_of first a)) refl h.1)
    where
      begun : (b : Bool) → in_move (phase_of first a) ≡ b → PendingTo (phase_of first a) v → ⊥
      begun true e w =
          let one : ◌≡◌ {A = ℕ} (cond (in_move (phase_of first a)) 1 0) 1 = ap (λ (c : Bool). cond c 1 0) e in
          omega (arith, h.0)
      begun false e (inl w) = true≢false (sym (ap in_move w) ∙ e)
      begun false e (inr w) = true≢false (sym (ap in_move w) ∙ e)
  only-target v (inr h) = told (at_snoc ms (asks a u) h.0 (asks a v) (λ e. cc) h.1.0)
    where
      told : ((h.0 < length ms) × At ms h.0 (asks a v)) ⊎ ((h.0 ≡ length ms) × (asks a u ≡ asks a v)) → v ≡ u
      told (inl w) =
          let low : h.0 < length ms = w.0 in
          absurd (omega (arith, begun-old first ms (asks a u) h.0 a (omega arith), h.1.1, begun-less first a ms h.0 v w.1))
      told (inr w) = let e : asks a u ≡ asks a v = w.1 in cc

  less-now : (y : Mark) → (y ≡ nothing → ⊥) → (asks a u ≡ y → ⊥) → (i : ℕ) → At asked i y → moves_begun first (take i asked) a < moves_begun first asked a
  less-now y n other i h = told (at_snoc ms (asks a u) i y n h)
    where
      told :
          ((i < length ms) × At ms i y) ⊎ ((i ≡ length ms) × (asks a u ≡ y))
          → moves_begun first (take i asked) a < moves_begun first asked a
      told (inl w) =
          let low : i < length ms = w.0 in
          omega (arith, begun-old first ms (asks a u) i a (omega arith), begun-most first a ms i, one_more)
      told (inr w) = absurd (other w.1)

  pub move-asked : MoveLink first asked a (Asking u)
  move-asked =
      record {
        pending = λ v h.
            subst
            (λ (w : SiteNo).
            (k : ℕ)
            × (moves_begun first asked a ≡ suc k)
            × Targets first asked a k w
            × ((z : SiteNo) → Targets first asked a k z → z ≡ w))
            (aimed v h)
            (moves_begun first ms a, one_more, inr (length ms, (at_last ms (asks a u), begun-then first ms (asks a u) a)), only-target);
        unleft = λ v h. less-now (leaves a) (λ e. cc) (λ e. cc);
        unsettled = λ h. less-now (settles a) (λ e. cc) (λ e. cc);
      }
    where
      aimed : (v : SiteNo) → PendingTo (Asking u) v → u ≡ v
      aimed v (inl e) = cc
      aimed v (inr e) = cc

-- Messages: none is taken, and what was delivered or closed stays so.
pub mail-on :
    (first : State) (ms : List Mark) (x : Mark) (t t' : State)
    → MailLinks first ms t
    → t.messages ≡ t'.messages
    → ((m : MailNo) → (addressee_of t' m ≡ addressee_of t m) × (item_of (message_at t' m) ≡ item_of (message_at t m)))
    → ((m : MailNo) → is_delivered (status_of t m) ≡ true → is_delivered (status_of t' m) ≡ true)
    → ((m : MailNo) → status_of t m ≡ Closed → status_of t' m ≡ Closed)
    → ((m : MailNo) (b : AgentNo) (y : Item) → x ≡ takes m b y → ⊥)
    → ((m : MailNo) → x ≡ hands m → IsMessage t' m × (is_delivered (status_of t' m) ≡ true))
    → ((m : MailNo) → x ≡ closes m → IsMessage t' m × (status_of t' m ≡ Closed))
    → MailLinks first (more ms x) t'
mail-on first ms x t t' old count same delivered closed none hand close =
    record {
      taken = λ m h.
          subst
          (λ (b : AgentNo). Taken first (more ms x) m b (item_of (message_at t' m)))
          (sym (same m).0)
          (subst
          (Taken first (more ms x) m (addressee_of t m))
          (sym (same m).1)
          (taken-old first ms x m _ _ (old.taken m (rw count h))));
      known = λ m b y h.
          let was = old.known m b y (taken_back first ms x m b y (none m b y) h) in
          (rw count at was.0, (same m).0 ∙ was.1, (same m).1 ∙ was.2);
      handed = λ i m h. told-hand m (at_snoc ms x i (hands m) (λ e. cc) h);
      closed = λ i m h. told-close m (at_snoc ms x i (closes m) (λ e. cc) h);
    }
  where
    told-hand :
        {i : ℕ} (m : MailNo)
        → ((i < length ms) × At ms i (hands m)) ⊎ ((i ≡ length ms) × (x ≡ hands m))
        → IsMessage t' m × (is_delivered (status_of t' m) ≡ true)
    told-hand {i} m (inl w) = let was = old.handed i m w.1 in (rw count at was.0, delivered m was.1)
    told-hand m (inr w) = hand m w.1

    told-close :
        {i : ℕ} (m : MailNo)
        → ((i < length ms) × At ms i (closes m)) ⊎ ((i ≡ length ms) × (x ≡ closes m))
        → IsMessage t' m × (status_of t' m ≡ Closed)
    told-close {i} m (inl w) = let was = old.closed i m w.1 in (rw count at was.0, closed m was.1)
    told-close m (inr w) = close m w.1

-- one more message is taken, and no other is changed
pub mail-taken :
    (first : State) (ms : List Mark) (x : Mark) (t t' : State) (new : MailNo)
    → MailLinks first ms t
    → ((m : MailNo) → IsMessage t m → IsMessage t' m × (message_at t' m ≡ message_at t m))
    → ((m : MailNo) → IsMessage t' m → IsMessage t m ⊎ (m ≡ new))
    → IsMessage t' new
    → x ≡ takes new (addressee_of t' new) (item_of (message_at t' new))
    → MailLinks first (more ms x) t'
mail-taken first ms x t t' new old keeps either here it =
    record {
      taken = λ m h. taken m (either m h);
      known = known;
      handed = λ i m h.
          let was = old.handed i m (before i (hands m) (λ e. cc) (λ e. cc) h) in
          let kept = keeps m was.0 in
          (kept.0, ap (λ (z : Message). is_delivered z.status) kept.1 ∙ was.1);
      closed = λ i m h.
          let was = old.closed i m (before i (closes m) (λ e. cc) (λ e. cc) h) in
          let kept = keeps m was.0 in
          (kept.0, ap (λ (z : Message). z.status) kept.1 ∙ was.1);
    }
  where
    before : (i : ℕ) (y : Mark) → (y ≡ nothing → ⊥) → (x ≡ y → ⊥) → At (more ms x) i y → At ms i y
    before i y n other h = told (at_snoc ms x i y n h)
      where
        told : ((i < length ms) × At ms i y) ⊎ ((i ≡ length ms) × (x ≡ y)) → At ms i y
        told (inl w) = w.1
        told (inr w) = absurd (other w.1)

    taken : (m : MailNo) → IsMessage t m ⊎ (m ≡ new) → Taken first (more ms x) m (addressee_of t' m) (item_of (message_at t' m))
    taken m (inl h) =
        subst
        (λ (z : Message). Taken first (more ms x) m z.addressee (item_of z))
        (sym (keeps m h).1)
        (taken-old first ms x m (addressee_of t m) (item_of (message_at t m)) (old.taken m h))
    taken m (inr e) =
        inr (length ms, at_last ms x ∙ it ∙ ap (λ (k : MailNo). takes k (addressee_of t' k) (item_of (message_at t' k))) (sym e))

    there : (m : MailNo) (b : AgentNo) (y : Item) → Taken first ms m b y → IsMessage t' m × (addressee_of t' m ≡ b) × (item_of (message_at t' m) ≡ y)
    there m b y h =
        let was = old.known m b y h in
        let kept = keeps m was.0 in
        (kept.0, ap (λ (z : Message). z.addressee) kept.1 ∙ was.1, ap item_of kept.1 ∙ was.2)

    known : (m : MailNo) (b : AgentNo) (y : Item) → Taken first (more ms x) m b y → IsMessage t' m × (addressee_of t' m ≡ b) × (item_of (message_at t' m) ≡ y)
    known m b y (inl h) = there m b y (inl h)
    known m b y (inr h) = told (at_snoc ms x h.0 (takes m b y) (λ e. cc) h.1)
      where
        told :
            ((h.0 < length ms) × At ms h.0 (takes m b y)) ⊎ ((h.0 ≡ length ms) × (x ≡ takes m b y))
            → IsMessage t' m × (addressee_of t' m ≡ b) × (item_of (message_at t' m) ≡ y)
        told (inl w) = there m b y (inr (h.0, w.1))
        told (inr w) =
            let e : x ≡ takes m b y = w.1 in
            let k : new ≡ m = cc in
            (subst (IsMessage t') k here, ap (addressee_of t') (sym k) ∙ (cc), ap (λ (z : MailNo). item_of (message_at t' z)) (sym k) ∙ (cc))
