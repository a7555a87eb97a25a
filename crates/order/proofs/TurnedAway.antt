-- Programs that would keep to the promises in name only: none of them meets the contract of a step on every call. Each falls to a step or two
-- from a fresh table of three sites.
use Rattle.std.proofs.Common.{Result, Ok, Err, ◌≡◌, refl, ap, sym, ◌∙◌, arith}
use Rattle.std.specs.Prelude.{IfErr}
use Rattle.records.specs.declared.Code.{Code}
use Rattle.records.specs.declared.Code.TheVariants.{Done, Busy, NoSite}
use Rattle.records.specs.Codes.{code_number, IsRefusal}
use Rattle.records.specs.Numbers.{agent_no, site_no, mail_no}
use Rattle.rules.specs.declared.State.{State}
use Rattle.rules.specs.declared.Reply.{Reply}
use Rattle.rules.specs.declared.Step.{Step}
use Rattle.rules.specs.declared.Step.TheVariants.{Spawn, Ask}
use Rattle.rules.specs.declared.Taken.{Taken}
use Rattle.rules.specs.declared.Taken.TheVariants as taken
use Rattle.rules.specs.Answers.{reply_of}
use Rattle.rules.specs.Steps.{opened, step_of}

-- A contract that is an equation with a definition leaves one result: the scheme that every public function's promise falls under, for the
-- result and for each lent buffer at exit.
pub no_other_lem : {A : Type 0} (defined r q : A) → r ≡ defined → q ≡ defined → r ≡ q
no_other_lem defined r q e f = e ∙ sym f

-- A step in place promises its reply, and that an error is the code of a refusal. That leaves one table and one result: an error of Done or
-- Repeat, whose reply would be that of a step which was taken, is none.
table-of : (t : State) (r : Result Taken Code) → (reply_of t r).state ≡ t
table-of t (Ok (taken.Done n)) = refl
table-of t (Ok (taken.Repeat m)) = refl
table-of t (Err c) = refl

shown : {x y : Reply} → x ≡ y → code_number x.code ≡ code_number y.code
shown e = ap (λ (x : Reply). code_number x.code) e

result-of : (t u : State) (r q : Result Taken Code) → IfErr r IsRefusal → IfErr q IsRefusal → reply_of t r ≡ reply_of u q → r ≡ q
result-of t u (Ok (taken.Done n)) (Ok (taken.Done k)) _ _ e = ap (λ (x : Reply). Ok (taken.Done x.number)) e
result-of t u (Ok (taken.Done n)) (Ok (taken.Repeat m)) _ _ e = absurd (omega (arith, shown e))
result-of t u (Ok (taken.Done n)) (Err c) _ refused e = absurd (omega (arith, refused, shown e))
result-of t u (Ok (taken.Repeat m)) (Ok (taken.Done k)) _ _ e = absurd (omega (arith, shown e))
result-of t u (Ok (taken.Repeat m)) (Ok (taken.Repeat q)) _ _ e = ap (λ (x : Reply). Ok (taken.Repeat (mail_no x.number))) e
result-of t u (Ok (taken.Repeat m)) (Err c) _ refused e = absurd (omega (arith, refused, shown e))
result-of t u (Err c) (Ok (taken.Done k)) refused _ e = absurd (omega (arith, refused, shown e))
result-of t u (Err c) (Ok (taken.Repeat m)) refused _ e = absurd (omega (arith, refused, shown e))
result-of t u (Err c) (Err d) _ _ e = ap (λ (x : Reply). Err x.code) e

pub no_other_step_lem :
    (defined : Reply) (t u : State) (r q : Result Taken Code)
    → reply_of t r ≡ defined
    → IfErr r IsRefusal
    → reply_of u q ≡ defined
    → IfErr q IsRefusal
    → (t ≡ u) × (r ≡ q)
no_other_step_lem defined t u r q e refused f turned =
    let same : reply_of t r ≡ reply_of u q = e ∙ sym f in (
      sym (table-of t r) ∙ (ap (λ (x : Reply). x.state) same ∙ table-of u q),
      result-of t u r q refused turned same,
    )

-- answers that meet the contract `r ≡ step_of self step` of every method, on every call
abbrev pub Meets : (State → Step → Reply) → Type 0
Meets f = (t : State) (s : Step) → f t s ≡ step_of t s

abbrev first : State
first = opened 3

abbrev second : State
second = (step_of first (Spawn (agent_no 0))).state

spawns : (step_of first (Spawn (agent_no 0))).code ≡ Done
unfolding step_of
spawns = refl

grows : second.agents ≡ 2
unfolding step_of
grows = refl

no-such-site : (step_of first (Ask (agent_no 0) (site_no 3))).code ≡ NoSite
unfolding step_of
no-such-site = refl

busy : (step_of second (Spawn (agent_no 0))).code ≡ Busy
unfolding step_of
busy = refl

-- it refuses always
pub always_refuses : (f : State → Step → Reply) → Meets f → ((t : State) (s : Step) → IsRefusal (f t s).code) → ⊥
always_refuses f meets refuses =
    let zero : code_number (f first (Spawn (agent_no 0))).code ≡ 0 =
    ap (λ (r : Reply). code_number r.code) (meets first (Spawn (agent_no 0))) ∙ ap code_number spawns in
    omega (arith, refuses first (Spawn (agent_no 0)))

-- it gives one answer always
pub one_answer : (f : State → Step → Reply) → Meets f → (r : Reply) → ((t : State) (s : Step) → f t s ≡ r) → ⊥
one_answer f meets r same =
    let spawned : code_number r.code ≡ 0 =
    ap (λ (x : Reply). code_number x.code) (sym (same first (Spawn (agent_no 0))) ∙ meets first (Spawn (agent_no 0))) ∙ ap code_number spawns in
    let asked : code_number r.code ≡ 10 =
    ap (λ (x : Reply). code_number x.code) (sym (same first (Ask (agent_no 0) (site_no 3))) ∙ meets first (Ask (agent_no 0) (site_no 3))) ∙ ap code_number no-such-site in
    omega arith

-- it changes nothing
pub changes-nothing : (f : State → Step → Reply) → Meets f → ((t : State) (s : Step) → (f t s).state ≡ t) → ⊥
changes-nothing f meets same =
    let one : first.agents ≡ second.agents =
    ap (λ (t : State). t.agents) (sym (same first (Spawn (agent_no 0))) ∙ ap (λ (r : Reply). r.state) (meets first (Spawn (agent_no 0)))) in
    omega (arith, one, grows)

-- it works on a fresh table, and then only says Done
pub works-once : (f : State → Step → Reply) → Meets f → ((t : State) (s : Step) → (t.agents ≡ 1 → ⊥) → (f t s).code ≡ Done) → ⊥
works-once f meets says =
    let done : code_number (step_of second (Spawn (agent_no 0))).code ≡ 0 =
    ap code_number (ap (λ (r : Reply). r.code) (sym (meets second (Spawn (agent_no 0)))) ∙ says second (Spawn (agent_no 0)) (λ e. omega (arith, grows))) in
    omega (arith, done, ap code_number busy)
