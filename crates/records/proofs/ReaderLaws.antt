-- What each reader says of a phase, a map entry, a status or a lock.
use Rattle.std.proofs.Common.{Option, Some, None, ℕ, zero, suc, ◌≡◌, refl, sym, ap, ◌∙◌, ◌⊎◌, inl, inr, ⊎_elim, true, false, eqb, eqb-true, eq-eqb}
use Rattle.std.proofs.lemmas.Bool.{false≢true, not-true, and_parts, or_cases, or_left, or_right}
use Rattle.records.specs.declared.AgentNo.{AgentNo}
use Rattle.records.specs.declared.SiteNo.{SiteNo}
use Rattle.records.specs.declared.MailNo.{MailNo}
use Rattle.records.specs.declared.Phase.{Phase}
use Rattle.records.specs.declared.Phase.TheVariants.{Free, Spawning, Born, Enrolled, Asking, Granted, Landed, Booked}
use Rattle.records.specs.declared.Agent.{Agent}
use Rattle.records.specs.declared.Status.{Status}
use Rattle.records.specs.declared.Status.TheVariants.{Queued, Out, Handed, Closed, Lost}
use Rattle.records.specs.declared.Lock.{Lock}
use Rattle.records.specs.declared.Lock.TheVariants.{Unheld, ForMove, ForMail}
use Rattle.records.specs.Numbers.{agent_no, site_no, mail_no, same_agent, same_site, same_mail}
use Rattle.records.specs.Agents.{phase_kind, is_born, is_enrolled, is_granted, is_landed, is_child, is_moving, peer_of, target_of, is_mapped, map_site, empty_agent, is_empty_agent}
use Rattle.records.specs.Messages.{status_kind, is_out, is_handed, is_closed, is_under_way, is_delivered, travels_to}
use Rattle.records.specs.Locks.{is_unheld, held_for_move, held_for_mail}

-- numbers of one kind that compare equal are the same
pub same-agent : (a b : AgentNo) → same_agent a b ≡ true → a ≡ b
same-agent a b h = ap agent_no (eqb-true a.0 b.0 h)

pub agent-same : (a b : AgentNo) → a ≡ b → same_agent a b ≡ true
agent-same a b e = eq-eqb a.0 b.0 (ap (λ (x : AgentNo). x.0) e)

pub same-site : (s u : SiteNo) → same_site s u ≡ true → s ≡ u
same-site s u h = ap site_no (eqb-true s.0 u.0 h)

pub site-same : (s u : SiteNo) → s ≡ u → same_site s u ≡ true
site-same s u e = eq-eqb s.0 u.0 (ap (λ (x : SiteNo). x.0) e)

pub same-mail : (m n : MailNo) → same_mail m n ≡ true → m ≡ n
same-mail m n h = ap mail_no (eqb-true m.0 n.0 h)

pub mail-same : (m n : MailNo) → m ≡ n → same_mail m n ≡ true
mail-same m n e = eq-eqb m.0 n.0 (ap (λ (x : MailNo). x.0) e)

-- a phase is made of its kind and what it names
abbrev pub phase_from : ℕ → AgentNo → SiteNo → Phase
phase_from zero a u = Free
phase_from (suc zero) a u = Spawning a
phase_from (suc (suc zero)) a u = Born a
phase_from (suc (suc (suc zero))) a u = Enrolled a
phase_from (suc (suc (suc (suc zero)))) a u = Asking u
phase_from (suc (suc (suc (suc (suc zero))))) a u = Granted u
phase_from (suc (suc (suc (suc (suc (suc zero)))))) a u = Landed
phase_from (suc (suc (suc (suc (suc (suc (suc k))))))) a u = Booked

phase-made : (p : Phase) → p ≡ phase_from (phase_kind p) (peer_of p) (target_of p)
phase-made Free = refl
phase-made (Spawning c) = refl
phase-made (Born c) = refl
phase-made (Enrolled c) = refl
phase-made (Asking u) = refl
phase-made (Granted u) = refl
phase-made Landed = refl
phase-made Booked = refl

-- so a phase whose kind is k is the variant of that kind
pub phase-is : (k : ℕ) (p : Phase) → eqb (phase_kind p) k ≡ true → p ≡ phase_from k (peer_of p) (target_of p)
phase-is k p h =
    phase-made p ∙ ap (λ (n : ℕ). phase_from n (peer_of p) (target_of p)) (eqb-true (phase_kind p) k h)

pub child-is : (p : Phase) → is_child p ≡ true → (p ≡ Born (peer_of p)) ⊎ (p ≡ Enrolled (peer_of p))
child-is p h =
    ⊎_elim (λ k. inl (phase-is 2 p k)) (λ k. inr (phase-is 3 p k)) (or_cases (is_born p) (is_enrolled p) h)

pub is-child : (p : Phase) (a : AgentNo) → (p ≡ Born a) ⊎ (p ≡ Enrolled a) → (is_child p ≡ true) × (peer_of p ≡ a)
is-child p a =
    ⊎_elim (λ e. (or_left _ _ (ap is_born e), ap peer_of e)) (λ e. (or_right _ _ (ap is_enrolled e), ap peer_of e))

pub moving-is : (p : Phase) → is_moving p ≡ true → ((u : SiteNo) × (p ≡ Granted u)) ⊎ (p ≡ Landed)
moving-is p h =
    ⊎_elim (λ k. inl (target_of p, phase-is 5 p k)) (λ k. inr (phase-is 6 p k)) (or_cases (is_granted p) (is_landed p) h)

pub is-moving : (p : Phase) → ((u : SiteNo) × (p ≡ Granted u)) ⊎ (p ≡ Landed) → is_moving p ≡ true
is-moving p = ⊎_elim (λ e. or_left _ _ (ap is_granted e.1)) (λ e. or_right _ _ (ap is_landed e))

pub mapped-is : (m : Option SiteNo) → is_mapped m ≡ true → m ≡ Some (map_site m)
mapped-is None h = absurd (false≢true h)
mapped-is (Some s) h = refl

pub unmapped-is : (m : Option SiteNo) → is_mapped m ≡ false → m ≡ None
unmapped-is None h = refl
unmapped-is (Some s) h = absurd (false≢true (sym h))

-- the one empty filling
pub empty-agent-is : (x : Agent) → is_empty_agent x ≡ true → x ≡ empty_agent
empty-agent-is x h =
    let site = and_parts _ _ h in
    let phase = and_parts _ _ site.1 in
    let at_zero = eqb-true x.site.0 0 site.0 in
    let free = phase-is 0 x.phase phase.0 in
    let unmapped = unmapped-is x.map (not-true _ phase.1) in
    λ i. record { site = site_no (at_zero i); phase = free i; map = unmapped i }

-- a status is made of its kind and the site that it names
abbrev pub status_from : ℕ → SiteNo → Status
status_from zero s = Queued
status_from (suc zero) s = Out s
status_from (suc (suc zero)) s = Handed
status_from (suc (suc (suc zero))) s = Closed
status_from (suc (suc (suc (suc k)))) s = Lost

status-made : (x : Status) → x ≡ status_from (status_kind x) (travels_to x)
status-made Queued = refl
status-made (Out s) = refl
status-made Handed = refl
status-made Closed = refl
status-made Lost = refl

pub status-is : (k : ℕ) (x : Status) → eqb (status_kind x) k ≡ true → x ≡ status_from k (travels_to x)
status-is k x h = status-made x ∙ ap (λ (n : ℕ). status_from n (travels_to x)) (eqb-true (status_kind x) k h)

pub under-way-is : (x : Status) → is_under_way x ≡ true → ((s : SiteNo) × (x ≡ Out s)) ⊎ (x ≡ Handed)
under-way-is x h =
    ⊎_elim (λ k. inl (travels_to x, status-is 1 x k)) (λ k. inr (status-is 2 x k)) (or_cases (is_out x) (is_handed x) h)

pub is-under-way : (x : Status) → ((s : SiteNo) × (x ≡ Out s)) ⊎ (x ≡ Handed) → is_under_way x ≡ true
is-under-way x = ⊎_elim (λ e. or_left _ _ (ap is_out e.1)) (λ e. or_right _ _ (ap is_handed e))

pub delivered-is : (x : Status) → is_delivered x ≡ true → (x ≡ Handed) ⊎ (x ≡ Closed)
delivered-is x h =
    ⊎_elim (λ k. inl (status-is 2 x k)) (λ k. inr (status-is 3 x k)) (or_cases (is_handed x) (is_closed x) h)

pub is-delivered : (x : Status) → (x ≡ Handed) ⊎ (x ≡ Closed) → is_delivered x ≡ true
is-delivered x = ⊎_elim (λ e. or_left _ _ (ap is_handed e)) (λ e. or_right _ _ (ap is_closed e))

-- the lock is free, or held for what it names
pub unheld-is : (l : Lock) → is_unheld l ≡ true → l ≡ Unheld
unheld-is Unheld h = refl
unheld-is (ForMove a) h = absurd (false≢true h)
unheld-is (ForMail m) h = absurd (false≢true h)

pub held-move-is : (l : Lock) (a : AgentNo) → held_for_move l a ≡ true → l ≡ ForMove a
held-move-is Unheld a h = absurd (false≢true h)
held-move-is (ForMove b) a h = ap ForMove (same-agent b a h)
held-move-is (ForMail m) a h = absurd (false≢true h)

pub is-held-move : (l : Lock) (a : AgentNo) → l ≡ ForMove a → held_for_move l a ≡ true
is-held-move l a e = ap (λ x. held_for_move x a) e ∙ agent-same a a refl

pub held-mail-is : (l : Lock) (m : MailNo) → held_for_mail l m ≡ true → l ≡ ForMail m
held-mail-is Unheld m h = absurd (false≢true h)
held-mail-is (ForMove a) m h = absurd (false≢true h)
held-mail-is (ForMail n) m h = ap ForMail (same-mail n m h)

pub is-held-mail : (l : Lock) (m : MailNo) → l ≡ ForMail m → held_for_mail l m ≡ true
is-held-mail l m e = ap (λ x. held_for_mail x m) e ∙ mail-same m m refl
