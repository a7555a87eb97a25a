-- A phase, a map entry, a status and the lock are read back from their fields.
use Rattle.std.proofs.Common.{Option, Some, None, ℕ, ◌+◌, ◌≡◌, refl, sym, ap, ◌∙◌, false, cond, List, arith, eqb, get_or, drop, ne_eqb}
use Rattle.records.specs.declared.SiteNo.{SiteNo}
use Rattle.records.specs.declared.Phase.{Phase}
use Rattle.records.specs.declared.Phase.TheVariants.{Free, Spawning, Born, Enrolled, Asking, Granted, Landed, Booked}
use Rattle.records.specs.declared.Status.{Status}
use Rattle.records.specs.declared.Status.TheVariants.{Queued, Out, Handed, Closed, Lost}
use Rattle.records.specs.declared.Lock.{Lock}
use Rattle.records.specs.declared.Lock.TheVariants.{Unheld, ForMove, ForMail}
use Rattle.records.specs.Numbers.{agent_no, site_no, mail_no}
use Rattle.text.specs.Decimal.{decimal}
use Rattle.text.specs.Text.{lock_text, phase_word, phase_number, map_text, status_word, status_site}
use Rattle.std.proofs.lemmas.List.Elements.{All-get_or}
use Rattle.text.proofs.Decimals.{IsDigit, decimal-digits, decimal-some, read_after, decimal-read}

-- a phase from the third and fourth letters of its word, which differ from word to word in their sum, and its number
abbrev letters_of : List ℕ → ℕ
letters_of word = get_or word 2 0 + get_or word 3 0

abbrev phase_by : ℕ → ℕ → Phase
phase_by k n =
    cond (eqb k 202) Free
    (cond (eqb k 216) (Spawning (agent_no n))
    (cond (eqb k 224) (Born (agent_no n))
    (cond (eqb k 225) (Enrolled (agent_no n))
    (cond (eqb k 212) (Asking (site_no n))
    (cond (eqb k 207) (Granted (site_no n)) (cond (eqb k 210) Landed Booked))))))

phase-back : (p : Phase) → phase_by (letters_of (phase_word p)) (read_after 0 (phase_number p)) ≡ p
phase-back Free = refl
phase-back (Spawning c) = ap (λ (n : ℕ). Spawning (agent_no n)) (decimal-read c.0)
phase-back (Born p) = ap (λ (n : ℕ). Born (agent_no n)) (decimal-read p.0)
phase-back (Enrolled p) = ap (λ (n : ℕ). Enrolled (agent_no n)) (decimal-read p.0)
phase-back (Asking u) = ap (λ (n : ℕ). Asking (site_no n)) (decimal-read u.0)
phase-back (Granted u) = ap (λ (n : ℕ). Granted (site_no n)) (decimal-read u.0)
phase-back Landed = refl
phase-back Booked = refl

pub same-phase : (p q : Phase) → phase_word p ≡ phase_word q → phase_number p ≡ phase_number q → p ≡ q
same-phase p q w n =
    sym (phase-back p)
    ∙ ap (λ (l : List ℕ). phase_by (letters_of l) (read_after 0 (phase_number p))) w
    ∙ ap (λ (l : List ℕ). phase_by (letters_of (phase_word q)) (read_after 0 l)) n
    ∙ phase-back q

-- a map entry from whether it is a dash
no-dash : (n : ℕ) → eqb (get_or (decimal n) 0 0) 45 ≡ false
no-dash n =
    let first = All-get_or IsDigit (decimal n) 0 0 (decimal-some n) (decimal-digits n) in
    ne_eqb (get_or (decimal n) 0 0) 45 (λ e. omega (arith, e, first))

abbrev map_by : List ℕ → Option SiteNo
map_by x = cond (eqb (get_or x 0 0) 45) None (Some (site_no (read_after 0 x)))

map_back : (m : Option SiteNo) → map_by (map_text m) ≡ m
map_back None = refl
map_back (Some s) = rw (no-dash s.0, decimal-read s.0)

pub same_map : (m n : Option SiteNo) → map_text m ≡ map_text n → m ≡ n
same_map m n e = sym (map_back m) ∙ ap map_by e ∙ map_back n

-- a status from its word's first letter, and the site
abbrev status_by : ℕ → ℕ → Status
status_by k n =
    cond (eqb k 113) Queued (cond (eqb k 111) (Out (site_no n)) (cond (eqb k 104) Handed (cond (eqb k 99) Closed Lost)))

status-back : (s : Status) → status_by (get_or (status_word s) 0 0) (read_after 0 (status_site s)) ≡ s
status-back Queued = refl
status-back (Out s) = ap (λ (n : ℕ). Out (site_no n)) (decimal-read s.0)
status-back Handed = refl
status-back Closed = refl
status-back Lost = refl

pub same-status : (s u : Status) → status_word s ≡ status_word u → status_site s ≡ status_site u → s ≡ u
same-status s u w n =
    sym (status-back s)
    ∙ ap (λ (l : List ℕ). status_by (get_or l 0 0) (read_after 0 (status_site s))) w
    ∙ ap (λ (l : List ℕ). status_by (get_or (status_word u) 0 0) (read_after 0 l)) n
    ∙ status-back u

-- the lock from its second letter, and the number after the colon
abbrev lock_by : ℕ → ℕ → Lock
lock_by k n = cond (eqb k 114) Unheld (cond (eqb k 111) (ForMove (agent_no n)) (ForMail (mail_no n)))

lock-back : (l : Lock) → lock_by (get_or (lock_text l) 1 0) (read_after 0 (drop 5 (lock_text l))) ≡ l
lock-back Unheld = refl
lock-back (ForMove a) = ap (λ (n : ℕ). ForMove (agent_no n)) (decimal-read a.0)
lock-back (ForMail m) = ap (λ (n : ℕ). ForMail (mail_no n)) (decimal-read m.0)

pub same-lock : (l k : Lock) → lock_text l ≡ lock_text k → l ≡ k
same-lock l k e =
    sym (lock-back l) ∙ ap (λ (x : List ℕ). lock_by (get_or x 1 0) (read_after 0 (drop 5 x))) e ∙ lock-back k
