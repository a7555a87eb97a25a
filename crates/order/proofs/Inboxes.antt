-- What stands in the inboxes of a sound table: each delivered message once, at its addressee's, and nothing else.
use Rattle.std.proofs.Common.{ℕ, zero, suc, ◌≤◌, ◌+◌, ◌≡◌, refl, ap, ap₂, sym, ◌∙◌, inl, inr, Bool, true, false, cond, ◌&&◌, true≢false, List, [], ◌∷◌, ◌++◌, length, get_or, take, take-suc, eqb, arith, eq-eqb, ne_eqb, eqb-true}
use Rattle.std.proofs.Math.Decide.{ℕ_discrete}
use Rattle.std.proofs.lemmas.Bool.{cond_both, false≢true, and_parts}
use Rattle.records.specs.declared.AgentNo.{AgentNo}
use Rattle.records.specs.declared.MailNo.{MailNo}
use Rattle.records.specs.declared.Item.{Item}
use Rattle.records.specs.Numbers.{agent_no, mail_no, same_agent, same_mail}
use Rattle.records.specs.Messages.{item_of, empty_entry}
use Rattle.records.specs.Places.{count_below}
use Rattle.rules.specs.declared.State.{State}
use Rattle.rules.specs.Holding.{IsMessage, message_at, inbox_from}
use Rattle.rules.specs.Soundness.{Sound}
use Rattle.rules.specs.Steps.{addressee_of}
use Rattle.records.proofs.PlaceLaws.{count-hit, count-miss}
use Rattle.preservation.proofs.Letters.{one-letter}
use Rattle.order.specs.Lists.{In}
use Rattle.order.specs.Settled.{times_in}

-- how often a list of messages holds m
abbrev pub count_in : MailNo → List MailNo → ℕ
count_in m [] = 0
count_in m (k ∷ ks) = cond (same_mail k m) 1 0 + count_in m ks

count-snoc : (m : MailNo) (l : List MailNo) (k : MailNo) → count_in m (l ++ (k ∷ [])) ≡ count_in m l + cond (same_mail k m) 1 0
count-snoc m [] k = omega arith
count-snoc m (j ∷ js) k = omega (arith, count-snoc m js k)

-- counted along the list, and counted by places
pub count-places : (m : MailNo) (n : ℕ) (l : List MailNo) → n ≤ length l → count_in m (take n l) ≡ count_below n (λ i. same_mail (get_or l i empty_entry) m)
count-places m zero l h = unfold count_below in refl
count-places m (suc n) l h =
    ap (count_in m) (take-suc l n empty_entry h)
    ∙ count-snoc m (take n l) (get_or l n empty_entry)
    ∙ told (count-places m n l (omega arith)) (same_mail (get_or l n empty_entry) m) refl
  where
    told :
        count_in m (take n l) ≡ count_below n (λ i. same_mail (get_or l i empty_entry) m)
        → (b : Bool)
        → same_mail (get_or l n empty_entry) m ≡ b
        → count_in m (take n l) + cond (same_mail (get_or l n empty_entry) m) 1 0 ≡ count_below (suc n) (λ i. same_mail (get_or l i empty_entry) m)
    told rest true e =
        let one : ◌≡◌ {A = ℕ} (cond (same_mail (get_or l n empty_entry) m) 1 0) 1 = ap (λ (c : Bool). cond c 1 0) e in
        omega (arith, count-hit n (λ i. same_mail (get_or l i empty_entry) m) e)
    told rest false e =
        let none : ◌≡◌ {A = ℕ} (cond (same_mail (get_or l n empty_entry) m) 1 0) 0 = ap (λ (c : Bool). cond c 1 0) e in
        omega (arith, count-miss n (λ i. same_mail (get_or l i empty_entry) m) e)

-- one that is counted stands in the list
pub in-counted : (m : MailNo) (l : List MailNo) → 1 ≤ count_in m l → In m l
in-counted m [] h = omega arith
in-counted m (k ∷ ks) h = told (same_mail k m) refl (λ c. in-counted m ks c)
  where
    told : (b : Bool) → same_mail k m ≡ b → (1 ≤ count_in m ks → In m ks) → In m (k ∷ ks)
    told true e rest = inl (ap mail_no (sym (eqb-true k.0 m.0 e)))
    told false e rest =
        let none : ◌≡◌ {A = ℕ} (cond (same_mail k m) 1 0) 0 = ap (λ (c : Bool). cond c 1 0) e in
        inr (rest (omega arith))

-- an item of an inbox is a message of the log, addressed to it
pub from-log : (t : State) (a : AgentNo) (l : List MailNo) (x : Item) → In x (inbox_from t a l) → (m : MailNo) × In m l × (addressee_of t m ≡ a) × (item_of (message_at t m) ≡ x)
unfolding inbox_from
from-log t a [] x h = absurd h
from-log t a (k ∷ ks) x h = told (same_agent (addressee_of t k) a) refl h (λ w. from-log t a ks x w)
  where
    later : ((m : MailNo) × In m ks × (addressee_of t m ≡ a) × (item_of (message_at t m) ≡ x)) → (m : MailNo) × In m (k ∷ ks) × (addressee_of t m ≡ a) × (item_of (message_at t m) ≡ x)
    later found = (found.0, inr found.1, found.2, found.3)

    told :
        (b : Bool)
        → same_agent (addressee_of t k) a ≡ b
        → In x (cond b (item_of (message_at t k) ∷ inbox_from t a ks) (inbox_from t a ks))
        → (In x (inbox_from t a ks) → (m : MailNo) × In m ks × (addressee_of t m ≡ a) × (item_of (message_at t m) ≡ x))
        → (m : MailNo) × In m (k ∷ ks) × (addressee_of t m ≡ a) × (item_of (message_at t m) ≡ x)
    told true e (inl q) rest = (k, inl refl, ap agent_no (eqb-true _ _ e), sym q)
    told true e (inr w) rest = later (rest w)
    told false e w rest = later (rest w)

-- a message of the log stands in its addressee's inbox
pub in-inbox : (t : State) (m : MailNo) (l : List MailNo) → In m l → In (item_of (message_at t m)) (inbox_from t (addressee_of t m) l)
unfolding inbox_from
in-inbox t m [] h = absurd h
in-inbox t m (k ∷ ks) (inl e) =
    rw (eq-eqb (addressee_of t k).0 (addressee_of t m).0 (ap (λ (j : MailNo). (addressee_of t j).0) (sym e))) (inl (ap (λ (j : MailNo). item_of (message_at t j)) e))
in-inbox t m (k ∷ ks) (inr h) = told (same_agent (addressee_of t k) (addressee_of t m)) (in-inbox t m ks h)
  where
    told :
        (b : Bool)
        → In (item_of (message_at t m)) (inbox_from t (addressee_of t m) ks)
        → In (item_of (message_at t m)) (cond b (item_of (message_at t k) ∷ inbox_from t (addressee_of t m) ks) (inbox_from t (addressee_of t m) ks))
    told true w = inr w
    told false w = w

-- one item more or not, and how often x's sender and number are then found
abbrev alike : Item → Item → Bool
alike y x = same_agent y.sender x.sender && eqb y.number x.number

times_more : (x y : Item) (r : List Item) (d : Bool) → alike y x ≡ d → times_in x (y ∷ r) ≡ cond d 1 0 + times_in x r
unfolding times_in
times_more x y r d e = ap (λ (b : Bool). cond b 1 0 + times_in x r) e

tally :
    (x y : Item) (r : List Item) (n : ℕ) (b c d : Bool)
    → alike y x ≡ d
    → (d ≡ true → b ≡ c)
    → times_in x r ≡ cond c n 0
    → times_in x (cond b (y ∷ r) r) ≡ cond c (cond d 1 0 + n) 0
tally x y r n true true true e f h = omega (arith, times_more x y r true e)
tally x y r n true true false e f h = omega (arith, times_more x y r false e)
tally x y r n true false true e f h = absurd (true≢false (f refl))
tally x y r n true false false e f h = omega (arith, times_more x y r false e)
tally x y r n false true true e f h = absurd (false≢true (f refl))
tally x y r n false true false e f h = omega arith
tally x y r n false false true e f h = h
tally x y r n false false false e f h = h

module _ (t : State) (s : Sound t) (m : MailNo) (here : IsMessage t m) (a : AgentNo) where
  -- among messages, the same sender and number are those of m alone
  alike_is : (k : MailNo) → IsMessage t k → alike (item_of (message_at t k)) (item_of (message_at t m)) ≡ same_mail k m
  alike_is k there = which (ℕ_discrete k.0 m.0)
    where
      other : (b : Bool) → (k.0 ≡ m.0 → ⊥) → alike (item_of (message_at t k)) (item_of (message_at t m)) ≡ b → b ≡ false
      other true n e =
          let from = eqb-true _ _ (and_parts _ _ e).0 in
          let number = eqb-true _ _ (and_parts _ _ e).1 in
          let same : k ≡ m = one-letter t s k m there here (ap agent_no from) number in
          absurd (n (ap (λ (j : MailNo). j.0) same))
      other false n e = refl

      which : Dec (k.0 ≡ m.0) → alike (item_of (message_at t k)) (item_of (message_at t m)) ≡ same_mail k m
      which (yes q) =
          let same : k ≡ m = ap mail_no q in
          ap (λ (j : MailNo). alike (item_of (message_at t j)) (item_of (message_at t m))) same
          ∙ ap₂ ◌&&◌ (eq-eqb (message_at t m).sender.0 (message_at t m).sender.0 refl) (eq-eqb (message_at t m).number (message_at t m).number refl)
          ∙ sym (eq-eqb k.0 m.0 q)
      which (no n) = other _ n refl ∙ sym (ne_eqb k.0 m.0 n)

  -- how often m's sender and number stand in an inbox
  pub times-in :
      (l : List MailNo)
      → ((k : MailNo) → In k l → IsMessage t k)
      → times_in (item_of (message_at t m)) (inbox_from t a l) ≡ cond (same_agent (addressee_of t m) a) (count_in m l) 0
  unfolding inbox_from times_in
  times-in [] h = cond_both (same_agent (addressee_of t m) a) 0 0 (λ x. 0 ≡ x) (λ _. refl) (λ _. refl)
  times-in (k ∷ ks) h =
      tally
      (item_of (message_at t m))
      (item_of (message_at t k))
      (inbox_from t a ks)
      (count_in m ks)
      (same_agent (addressee_of t k) a)
      (same_agent (addressee_of t m) a)
      (same_mail k m)
      (alike_is k (h k (inl refl)))
      (λ e. ap (λ (j : MailNo). same_agent (addressee_of t j) a) (ap mail_no (eqb-true k.0 m.0 e)))
      (times-in ks (λ j w. h j (inr w)))
