-- A step's table of codes, row by row: each code exactly where its condition holds and no row above it does.
use Rattle.std.proofs.Common.{Option, None, ℕ, ◌≤◌, arith, ◌≡◌, refl, sym, ap, ◌∙◌, ◌⊎◌, inl, inr, ⊎_elim, Bool, true, false, not, ◌&&◌, List, [], ◌∷◌, ltb, ltb-true, lt-ltb, le-ltb}
use Rattle.std.proofs.Math.Decide.{dec_le}
use Rattle.std.proofs.lemmas.Bool.{true_from_ne_false, false≢true, and_parts, and_from, cases_Bool, false_from_ne_true, not_from_false, both_ways, not-true}
use Rattle.records.specs.declared.AgentNo.{AgentNo}
use Rattle.records.specs.declared.SiteNo.{SiteNo}
use Rattle.records.specs.declared.Phase.{Phase}
use Rattle.records.specs.declared.Phase.TheVariants.{Free, Born, Enrolled, Asking, Granted, Landed, Booked}
use Rattle.records.specs.declared.Status.{Status}
use Rattle.records.specs.declared.Status.TheVariants.{Queued, Out, Handed}
use Rattle.records.specs.declared.Lock.{Lock}
use Rattle.records.specs.declared.Lock.TheVariants.{Unheld}
use Rattle.records.specs.declared.Code.{Code}
use Rattle.records.specs.Agents.{is_free, is_born, is_enrolled, is_asking, is_granted, is_landed, is_booked, is_child, is_mapped, peer_of, target_of}
use Rattle.records.specs.Messages.{is_queued, is_out, is_handed, travels_to}
use Rattle.records.specs.Locks.{is_unheld}
use Rattle.records.proofs.ReaderLaws.{phase-is, status-is, unmapped-is, child-is, is-child, unheld-is}
use Rattle.rules.specs.declared.State.{State}
use Rattle.rules.specs.declared.Reply.{Reply}
use Rattle.rules.specs.Holding.{phase_of}
use Rattle.rules.specs.Answers.{unless}
use Rattle.rules.specs.Soundness.{Child, Sound}
use Rattle.rules.specs.SoundTest.{sound_test}
use Rattle.rules.proofs.SoundIff.{sound-from, sound-to}

-- the last row: what is told where no row above holds
abbrev pub says : Code → Reply → Type 0
says c r = r.code ≡ c

-- a row: the code where the condition holds, and else the rows below
infixr 4 ◌when◌else◌
abbrev pub ◌when◌else◌ : Code → Type 0 → (Reply → Type 0) → Reply → Type 0
◌when◌else◌ c P rest = λ r. (P → r.code ≡ c) × ((P → ⊥) → rest r)

-- a test fails exactly where a condition holds
pub record Refutes (P : Type 0) (b : Bool) : Type 0 where
  pub fails : P → b ≡ false
  pub passes : (P → ⊥) → b ≡ true

pub refutes : {P : Type 0} (b : Bool) → (P → b ≡ true → ⊥) → ((b ≡ true → ⊥) → P) → Refutes P b
refutes b f g =
    record {
      fails = λ p. false_from_ne_true b (f p);
      passes = λ n. true_from_ne_false b (λ h. n (g (both_ways b h)));
    }

-- a check of a rule: its test, its code, and the condition that fails it
pub record Check : Type 1 where
  pub condition : Type 0
  pub test : Bool
  pub code : Code
  pub exact : Refutes condition test

abbrev pub check : {P : Type 0} {b : Bool} → Code → Refutes P b → Check
check {P} {b} c f = record { condition = P; test = b; code = c; exact = f }

-- the checks of a rule in their order, before its answer; and the table of codes that they make
abbrev pub ladder : State → List Check → Reply → Reply
ladder t [] r = r
ladder t (c ∷ cs) r = unless c.test c.code t (ladder t cs r)

abbrev pub Rows : List Check → (Reply → Type 0) → Reply → Type 0
Rows [] last = last
Rows (c ∷ cs) last = c.code when c.condition else Rows cs last

pub row : {P : Type 0} (b : Bool) (c : Code) (t : State) (r : Reply) (rest : Reply → Type 0) → Refutes P b → (b ≡ true → rest r) → (c when P else rest) (unless b c t r)
row true c t r rest f k = (λ p. absurd (false≢true (sym (f.fails p))), λ n. k refl)
row false c t r rest f k = (λ p. refl, λ n. absurd (false≢true (f.passes n)))

pub rows : (t : State) (cs : List Check) (r : Reply) (last : Reply → Type 0) → last r → Rows cs last (ladder t cs r)
rows t [] r last h = h
rows t (c ∷ cs) r last h =
    row c.test c.code t (ladder t cs r) (Rows cs last) c.exact (λ k. rows t cs r last h)

-- the table is not sound
pub unsound : (t : State) → Refutes (Sound t → ⊥) (sound_test t)
unsound t = refutes (sound_test t) (λ n h. n (sound-from t h)) (λ f s. f (sound-to t s))

-- a number is not below a count
pub absent : (n x : ℕ) → Refutes (n ≤ x) (ltb x n)
absent n x = record { fails = le-ltb x n; passes = λ f. lt-ltb x n (omega arith) }

pub one-absent : (n x y : ℕ) → Refutes ((n ≤ x) ⊎ (n ≤ y)) (ltb x n && ltb y n)
one-absent n x y =
    refutes
    (ltb x n && ltb y n)
    (λ e h. ⊎_elim (λ le. omega (arith, ltb-true x n (and_parts _ _ h).0)) (λ le. omega (arith, ltb-true y n (and_parts _ _ h).1)) e)
    (λ f.
    elim (dec_le n x) [
      | yes h ↦ inl h
      | no h ↦ elim (dec_le n y) [ yes k ↦ inr k | no k ↦ absurd (f (and_from _ _ (lt-ltb x n (omega arith)) (lt-ltb y n (omega arith)))) ]
    ])

-- a phase or a status that is not the one
pub not_free : (p : Phase) → Refutes (p ≡ Free → ⊥) (is_free p)
not_free p = refutes (is_free p) (λ n h. n (phase-is 0 p h)) (λ f e. f (ap is_free e))

pub not-born : (p : Phase) → Refutes ((x : AgentNo) → p ≡ Born x → ⊥) (is_born p)
not-born p = refutes (is_born p) (λ n h. n (peer_of p) (phase-is 2 p h)) (λ f x e. f (ap is_born e))

pub not-enrolled : (p : Phase) → Refutes ((x : AgentNo) → p ≡ Enrolled x → ⊥) (is_enrolled p)
not-enrolled p = refutes (is_enrolled p) (λ n h. n (peer_of p) (phase-is 3 p h)) (λ f x e. f (ap is_enrolled e))

pub not-asking : (p : Phase) → Refutes ((u : SiteNo) → p ≡ Asking u → ⊥) (is_asking p)
not-asking p = refutes (is_asking p) (λ n h. n (target_of p) (phase-is 4 p h)) (λ f u e. f (ap is_asking e))

pub not-granted : (p : Phase) → Refutes ((u : SiteNo) → p ≡ Granted u → ⊥) (is_granted p)
not-granted p = refutes (is_granted p) (λ n h. n (target_of p) (phase-is 5 p h)) (λ f u e. f (ap is_granted e))

pub not-landed : (p : Phase) → Refutes (p ≡ Landed → ⊥) (is_landed p)
not-landed p = refutes (is_landed p) (λ n h. n (phase-is 6 p h)) (λ f e. f (ap is_landed e))

pub not-booked : (p : Phase) → Refutes (p ≡ Booked → ⊥) (is_booked p)
not-booked p = refutes (is_booked p) (λ n h. n (phase-is 7 p h)) (λ f e. f (ap is_booked e))

pub a-child : (t : State) (a : AgentNo) → Refutes ((p : AgentNo) × Child t p a) (not (is_child (phase_of t a)))
a-child t a =
    refutes
    (not (is_child (phase_of t a)))
    (λ c h. both_ways _ (not-true _ h) (is-child (phase_of t a) c.0 c.1).0)
    (λ f.
    ⊎_elim
    (λ k. (peer_of (phase_of t a), child-is (phase_of t a) k))
    (λ k. absurd (f (not_from_false _ k)))
    (cases_Bool (is_child (phase_of t a))))

pub not-queued : (s : Status) → Refutes (s ≡ Queued → ⊥) (is_queued s)
not-queued s = refutes (is_queued s) (λ n h. n (status-is 0 s h)) (λ f e. f (ap is_queued e))

pub not-out : (s : Status) → Refutes ((u : SiteNo) → s ≡ Out u → ⊥) (is_out s)
not-out s = refutes (is_out s) (λ n h. n (travels_to s) (status-is 1 s h)) (λ f u e. f (ap is_out e))

pub not-handed : (s : Status) → Refutes (s ≡ Handed → ⊥) (is_handed s)
not-handed s = refutes (is_handed s) (λ n h. n (status-is 2 s h)) (λ f e. f (ap is_handed e))

-- the lock is held, and an agent is not in the map
pub lock-held : (l : Lock) → Refutes (l ≡ Unheld → ⊥) (is_unheld l)
lock-held l = refutes (is_unheld l) (λ n h. n (unheld-is l h)) (λ f e. f (ap is_unheld e))

pub not-mapped : (m : Option SiteNo) → Refutes (m ≡ None) (is_mapped m)
not-mapped m =
    refutes (is_mapped m) (λ e h. false≢true (sym (ap is_mapped e) ∙ h)) (λ f. unmapped-is m (false_from_ne_true (is_mapped m) f))
