-- The codes of send, exactly when document 01 says.
use Rattle.std.proofs.Common.{Option, ℕ, suc, ◌≤◌, ◌<◌, arith, ◌≡◌, refl, sym, ap, ◌∙◌, subst, ◌⊎◌, inl, inr, ⊎_elim, Bool, false, cond, ◌&&◌, [], ◌∷◌, leb, ltb, eqb-true, eq-eqb, ne_eqb, leb-true, le-leb}
use Rattle.std.proofs.Math.Decide.{ℕ_discrete, dec_le}
use Rattle.std.proofs.lemmas.Bool.{and_parts, and_from, false_from_ne_true}
use Rattle.records.specs.declared.AgentNo.{AgentNo}
use Rattle.records.specs.declared.MailNo.{MailNo}
use Rattle.records.specs.declared.Code.TheVariants.{Done, Repeat, NoAgent, NotUp, MessagesFull, Changed, Gap, BadState}
use Rattle.records.proofs.ReaderLaws.{same-agent, agent-same}
use Rattle.rules.specs.declared.State.{State}
use Rattle.rules.specs.declared.Reply.{Reply}
use Rattle.rules.specs.declared.Step.TheVariants.{Send}
use Rattle.records.specs.Limits.{most_messages}
use Rattle.rules.specs.Holding.{message_at, with_new_message}
use Rattle.rules.specs.Answers.{done, repeated, unless}
use Rattle.rules.specs.Soundness.{Child, Sound}
use Rattle.rules.specs.Steps.{sent_by, new_message, take_new, same_letter, compare_sent, retry, by_number, send_rule, step_of}
use Rattle.rules.proofs.CodeRows.{says, ◌when◌else◌, check, row, rows, Refutes, refutes, unsound, absent, one-absent, a-child}
use Rattle.rules.proofs.SoundIff.{sound-from}
use Rattle.rules.proofs.Retry.{Sent, sent-once, retry-found}

-- the message that was taken as number n from a is to b, with this value
abbrev pub SameAsTaken : State → AgentNo → ℕ → AgentNo → ℕ → Type 0
SameAsTaken t a n b v =
    (m : MailNo) × Sent t a n m × ((message_at t m).addressee ≡ b) × ((message_at t m).value ≡ v)

-- the rows that go by the number, k being the count already taken from a
abbrev pub NumberRows : State → AgentNo → ℕ → AgentNo → ℕ → Reply → Type 0
NumberRows t a n b v =
    Gap when ((n ≡ 0) ⊎ (suc (sent_by t a) < n))
    else Changed when ((n ≤ sent_by t a) × (SameAsTaken t a n b v → ⊥))
    else Repeat when (n ≤ sent_by t a)
    else MessagesFull when (most_messages ≤ t.messages)
    else says Done

module _ (t : State) (s : Sound t) (a : AgentNo) (n : ℕ) (b : AgentNo) (v : ℕ) where
  -- a new message
  new-codes : n ≡ suc (sent_by t a) → NumberRows t a n b v (take_new t a n b v)
  unfolding take_new
  new-codes e = (
    λ g. absurd (⊎_elim (λ (z : n ≡ 0). omega arith) (λ (z : suc (sent_by t a) < n). omega arith) g),
    λ g. (
      λ c. absurd (omega (arith, c.0)),
      λ c. (
        λ r. absurd (omega arith),
        λ r.
            row
            (ltb t.messages most_messages)
            MessagesFull
            t
            (done (with_new_message t (new_message a n b v)) t.messages)
            (says Done)
            (absent most_messages t.messages)
            (λ x. refl),
      ),
    ),
  )

  same-refutes : (m : MailNo) → Sent t a n m → Refutes (SameAsTaken t a n b v → ⊥) (same_letter (message_at t m) b v)
  same-refutes m x =
      refutes
      (same_letter (message_at t m) b v)
      (λ f h.
      f (
        m,
        x,
        same-agent (message_at t m).addressee b (and_parts _ _ h).0,
        eqb-true (message_at t m).value v (and_parts _ _ h).1,
      ))
      (λ f y.
      let one : y.0 ≡ m = sent-once t s a n y.0 m y.1 x in
      f
      (and_from _ _
      (agent-same (message_at t m).addressee b (ap (λ (q : MailNo). (message_at t q).addressee) (sym one) ∙ y.2))
      (eq-eqb (message_at t m).value v (ap (λ (q : MailNo). (message_at t q).value) (sym one) ∙ y.3))))

  -- a retry
  retry-codes : 1 ≤ n → n ≤ sent_by t a → NumberRows t a n b v (retry t a n b v)
  unfolding retry
  retry-codes h le =
      let r = retry-found t s a n h le in
      let answer = row (same_letter (message_at t r.0) b v) Changed t (repeated t r.0) (says Repeat) (same-refutes r.0 r.2) (λ x. refl) in
      subst
      (λ (f : Option MailNo). NumberRows t a n b v (compare_sent t b v f))
      (sym r.1) (
        λ g. absurd (⊎_elim (λ (z : n ≡ 0). omega arith) (λ (z : suc (sent_by t a) < n). omega arith) g),
        λ g. (
          λ c. answer.0 c.1,
          λ c. (
            λ x. answer.1 (λ f. c (le, f)),
            λ x. absurd (x le),
          ),
        ),
      )

  gap-code : (n ≡ 0) ⊎ (suc (sent_by t a) < n) → (leb 1 n && leb n (sent_by t a)) ≡ false
  gap-code g =
      false_from_ne_true
      (leb 1 n && leb n (sent_by t a))
      (λ h.
      ⊎_elim
      (λ (z : n ≡ 0). omega (arith, leb-true 1 n (and_parts _ _ h).0))
      (λ (z : suc (sent_by t a) < n). omega (arith, leb-true n (sent_by t a) (and_parts _ _ h).1))
      g)

  old-codes : (n ≡ suc (sent_by t a) → ⊥) → NumberRows t a n b v (unless (leb 1 n && leb n (sent_by t a)) Gap t (retry t a n b v))
  old-codes ne =
      elim (dec_le 1 n) [
        | yes h ↦
            elim (dec_le n (sent_by t a)) [
              | yes le ↦
                  subst
                  (λ (x : Bool). NumberRows t a n b v (unless x Gap t (retry t a n b v)))
                  (sym (and_from _ _ (le-leb 1 n h) (le-leb n (sent_by t a) le)))
                  (retry-codes h le)
              | no gt ↦ gap (inr (omega arith))
            ]
        | no z ↦ gap (inl (omega arith))
      ]
    where
      gap : (n ≡ 0) ⊎ (suc (sent_by t a) < n) → NumberRows t a n b v (unless (leb 1 n && leb n (sent_by t a)) Gap t (retry t a n b v))
      gap g =
          subst
          (λ (x : Bool). NumberRows t a n b v (unless x Gap t (retry t a n b v)))
          (sym (gap-code g))
          (λ x. refl, λ x. absurd (x g))

  pub number-codes : NumberRows t a n b v (by_number t a n b v)
  unfolding by_number
  number-codes =
      elim (ℕ_discrete n (suc (sent_by t a))) [
        | yes e ↦
            subst
            (λ (x : Bool). NumberRows t a n b v (cond x (take_new t a n b v) (unless (leb 1 n && leb n (sent_by t a)) Gap t (retry t a n b v))))
            (sym (eq-eqb n (suc (sent_by t a)) e))
            (new-codes e)
        | no e ↦
            subst
            (λ (x : Bool). NumberRows t a n b v (cond x (take_new t a n b v) (unless (leb 1 n && leb n (sent_by t a)) Gap t (retry t a n b v))))
            (sym (ne_eqb n (suc (sent_by t a)) e))
            (old-codes e)
      ]

pub send-codes :
    (t : State) (a : AgentNo) (n : ℕ) (b : AgentNo) (v : ℕ)
    → (BadState when (Sound t → ⊥)
    else NoAgent when ((t.agents ≤ a.0) ⊎ (t.agents ≤ b.0))
    else NotUp when ((p : AgentNo) × Child t p a)
    else NumberRows t a n b v)
    (step_of t (Send a n b v))
unfolding step_of
send-codes t a n b v =
    row
    _
    BadState
    t
    (send_rule t a n b v)
    (NoAgent when ((t.agents ≤ a.0) ⊎ (t.agents ≤ b.0)) else NotUp when ((p : AgentNo) × Child t p a) else NumberRows t a n b v)
    (unsound t)
    (λ h.
    rows
    t
    (check NoAgent (one-absent t.agents a.0 b.0) ∷ check NotUp (a-child t a) ∷ [])
    (by_number t a n b v)
    (NumberRows t a n b v)
    (number-codes t (sound-from t h) a n b v))
