-- Every field of a line is of bytes that neither part fields nor end lines.
use Rattle.std.proofs.Common.{All, Option, Some, None, ℕ, ◌≡◌, refl, Bool, true, not, ◌&&◌, List, [], ◌∷◌, arith, ltb, eqb, lt-ltb, ne_eqb}
use Rattle.records.specs.declared.SiteNo.{SiteNo}
use Rattle.records.specs.declared.Agent.{Agent}
use Rattle.records.specs.declared.Phase.{Phase}
use Rattle.records.specs.declared.Phase.TheVariants.{Free, Spawning, Born, Enrolled, Asking, Granted, Landed, Booked}
use Rattle.records.specs.declared.Message.{Message}
use Rattle.records.specs.declared.Status.{Status}
use Rattle.records.specs.declared.Status.TheVariants.{Queued, Out, Handed, Closed, Lost}
use Rattle.records.specs.declared.Lock.{Lock}
use Rattle.records.specs.declared.Lock.TheVariants.{Unheld, ForMove, ForMail}
use Rattle.records.specs.Places.{all_of}
use Rattle.std.proofs.lemmas.List.Elements.{All-head, All-tail}
use Rattle.text.specs.Decimal.{decimal}
use Rattle.text.specs.Text.{lock_text, phase_word, phase_number, map_text, status_word, status_site}
use Rattle.text.proofs.Decimals.{IsDigit, decimal-digits}

-- neither a comma, a full stop, an equals sign nor byte 10
abbrev pub is_plain : ℕ → Bool
is_plain b = ltb 44 b && (not (eqb b 46) && not (eqb b 61))

abbrev pub Plain : List ℕ → Type 0
Plain x = all_of is_plain x ≡ true

digits-plain : (x : List ℕ) → All IsDigit x → Plain x
unfolding all_of
digits-plain [] p = refl
digits-plain (a ∷ x) p =
    let h = All-head IsDigit a x p in
    rw (lt-ltb 44 a (omega (arith, h)), ne_eqb a 46 (λ e. omega (arith, h, e)), ne_eqb a 61 (λ e. omega (arith, h, e)))
    (digits-plain x (All-tail IsDigit a x p))

pub decimal-plain : (n : ℕ) → Plain (decimal n)
decimal-plain n = digits-plain (decimal n) (decimal-digits n)

pub phase-word-plain : (p : Phase) → Plain (phase_word p)
unfolding all_of
phase-word-plain Free = refl
phase-word-plain (Spawning c) = refl
phase-word-plain (Born p) = refl
phase-word-plain (Enrolled p) = refl
phase-word-plain (Asking u) = refl
phase-word-plain (Granted u) = refl
phase-word-plain Landed = refl
phase-word-plain Booked = refl

pub phase-number-plain : (p : Phase) → Plain (phase_number p)
unfolding all_of
phase-number-plain Free = refl
phase-number-plain (Spawning c) = decimal-plain c.0
phase-number-plain (Born p) = decimal-plain p.0
phase-number-plain (Enrolled p) = decimal-plain p.0
phase-number-plain (Asking u) = decimal-plain u.0
phase-number-plain (Granted u) = decimal-plain u.0
phase-number-plain Landed = refl
phase-number-plain Booked = refl

pub map-plain : (m : Option SiteNo) → Plain (map_text m)
unfolding all_of
map-plain None = refl
map-plain (Some s) = decimal-plain s.0

pub status-word-plain : (s : Status) → Plain (status_word s)
unfolding all_of
status-word-plain Queued = refl
status-word-plain (Out s) = refl
status-word-plain Handed = refl
status-word-plain Closed = refl
status-word-plain Lost = refl

pub status-site-plain : (s : Status) → Plain (status_site s)
unfolding all_of
status-site-plain Queued = refl
status-site-plain (Out s) = decimal-plain s.0
status-site-plain Handed = refl
status-site-plain Closed = refl
status-site-plain Lost = refl

pub lock-plain : (l : Lock) → Plain (lock_text l)
unfolding all_of
lock-plain Unheld = refl
lock-plain (ForMove a) = decimal-plain a.0
lock-plain (ForMail m) = decimal-plain m.0

-- the fields of an agent's line and of a message's line
abbrev pub agent_fields : Agent → List (List ℕ)
agent_fields x = decimal x.site.0 ∷ phase_word x.phase ∷ phase_number x.phase ∷ map_text x.map ∷ []

abbrev pub message_fields : Message → List (List ℕ)
message_fields x =
    decimal x.sender.0
    ∷ decimal x.number
    ∷ decimal x.addressee.0
    ∷ decimal x.value
    ∷ status_word x.status
    ∷ status_site x.status
    ∷ []

abbrev pub AllPlain : List (List ℕ) → Type 0
AllPlain xs = all_of (all_of is_plain) xs ≡ true

pub agent-plain : (x : Agent) → AllPlain (agent_fields x)
unfolding all_of
agent-plain x =
    rw
    (decimal-plain x.site.0, phase-word-plain x.phase, phase-number-plain x.phase, map-plain x.map)

pub message-plain : (x : Message) → AllPlain (message_fields x)
unfolding all_of
message-plain x =
    rw (
      decimal-plain x.sender.0,
      decimal-plain x.number,
      decimal-plain x.addressee.0,
      decimal-plain x.value,
      status-word-plain x.status,
      status-site-plain x.status,
    )
