-- The board of a table, one step further; and one operation more at the end of the list.
use Rattle.std.proofs.Common.{ℕ, zero, suc, ◌<◌, ◌≡◌, refl, ap, sym, ◌∙◌, subst, inl, inr, Bool, true, false, cond, List, [], ◌∷◌, ◌++◌, get_or, take, eqb, arith}
use Rattle.records.specs.declared.AgentNo.{AgentNo}
use Rattle.records.specs.declared.SiteNo.{SiteNo}
use Rattle.records.specs.declared.MailNo.{MailNo}
use Rattle.records.specs.declared.Item.{Item}
use Rattle.records.specs.Numbers.{same_agent}
use Rattle.records.specs.Messages.{item_of, empty_entry}
use Rattle.rules.specs.declared.State.{State}
use Rattle.rules.specs.Holding.{IsMessage, message_at, site_of, log_of, inbox_from, inbox_of}
use Rattle.rules.specs.Soundness.{Sound}
use Rattle.rules.specs.Steps.{addressee_of}
use Rattle.order.specs.Lists.{In}
use Rattle.order.specs.Operations.{Operation, creation, move, message}
use Rattle.order.specs.Boards.{Board, put, put_all, Finds, FindsAll, board_of}

pub put_last : (w : Board) (xs : List Operation) (y : Operation) → put_all w (xs ++ (y ∷ [])) ≡ put (put_all w xs) y
unfolding put_all
put_last w [] y = refl
put_last w (x ∷ xs) y = put_last (put w x) xs y

pub finds-last : (w : Board) (xs : List Operation) (y : Operation) → FindsAll w xs → Finds (put_all w xs) y → FindsAll w (xs ++ (y ∷ []))
unfolding put_all
finds-last w [] y h f = (f, tt)
finds-last w (x ∷ xs) y h f = (h.0, finds-last (put w x) xs y h.1 f)

-- what stands in the first part of a list stands at a place of it
pub in_take : {A : Type 0} (n : ℕ) (l : List A) (d x : A) → In x (take n l) → (i : ℕ) × (i < n) × (get_or l i d ≡ x)
in_take zero l d x h = absurd h
in_take (suc n) [] d x h = absurd h
in_take (suc n) (y ∷ ys) d x (inl e) = (0, omega arith, sym e)
in_take (suc n) (y ∷ ys) d x (inr h) = let found = in_take n ys d x h in (suc found.0, omega (arith, found.1), found.2)

-- what stands in the log of a sound table is a message
pub logged-there : (t : State) → Sound t → (k : MailNo) → In k (log_of t) → IsMessage t k
logged-there t s k h =
    let at = in_take t.handed t.log empty_entry k h in
    subst (IsMessage t) at.2 (s.log.only at.0 at.1).0

-- an inbox looks only at the addressee of the messages in the log, and at what is read of them
pub inbox-same :
    (t t' : State) (a : AgentNo) (l : List MailNo)
    → ((m : MailNo) → In m l → (addressee_of t' m ≡ addressee_of t m) × (item_of (message_at t' m) ≡ item_of (message_at t m)))
    → inbox_from t' a l ≡ inbox_from t a l
unfolding inbox_from
inbox-same t t' a [] h = refl
inbox-same t t' a (m ∷ ms) h =
    let same = h m (inl refl) in
    let rest : inbox_from t' a ms ≡ inbox_from t a ms = inbox-same t t' a ms (λ k w. h k (inr w)) in
    λ i. cond (same_agent (same.0 i) a) (same.1 i ∷ rest i) (rest i)

-- one entry more
joined : {A : Type 0} (b c : Bool) (x : A) (l y : List A) → cond b (x ∷ cond c (l ++ y) l) (cond c (l ++ y) l) ≡ cond c (cond b (x ∷ l) l ++ y) (cond b (x ∷ l) l)
joined true true x l y = refl
joined true false x l y = refl
joined false true x l y = refl
joined false false x l y = refl

pub inbox-more :
    (t : State) (a : AgentNo) (l : List MailNo) (m : MailNo)
    → inbox_from t a (l ++ (m ∷ []))
    ≡ cond (same_agent (addressee_of t m) a) (inbox_from t a l ++ (item_of (message_at t m) ∷ [])) (inbox_from t a l)
unfolding inbox_from
inbox-more t a [] m = refl
inbox-more t a (k ∷ ks) m =
    ap (λ (r : List Item). cond (same_agent (addressee_of t k) a) (item_of (message_at t k) ∷ r) r) (inbox-more t a ks m)
    ∙ joined (same_agent (addressee_of t k) a) (same_agent (addressee_of t m) a) (item_of (message_at t k)) (inbox_from t a ks) (item_of (message_at t m) ∷ [])

-- the same log of messages that are read the same
pub inboxes-same :
    (t t' : State)
    → log_of t' ≡ log_of t
    → ((m : MailNo) → In m (log_of t) → (addressee_of t' m ≡ addressee_of t m) × (item_of (message_at t' m) ≡ item_of (message_at t m)))
    → (a : AgentNo)
    → inbox_of t' a ≡ inbox_of t a
unfolding inbox_of
inboxes-same t t' log mail a = ap (inbox_from t' a) log ∙ inbox-same t t' a (log_of t) mail

-- a step that moves nobody and hands nothing over
pub board-same :
    (t t' : State)
    → t'.agents ≡ t.agents
    → ((a : AgentNo) → site_of t' a ≡ site_of t a)
    → log_of t' ≡ log_of t
    → ((m : MailNo) → In m (log_of t) → (addressee_of t' m ≡ addressee_of t m) × (item_of (message_at t' m) ≡ item_of (message_at t m)))
    → board_of t' ≡ board_of t
board-same t t' count sites log mail =
    λ i. record { count = count i; site = λ a. sites a i; inbox = λ a. inboxes-same t t' log mail a i }

-- a creation, a move
pub board-created :
    (t t' : State) (p c : AgentNo)
    → t'.agents ≡ suc t.agents
    → ((a : AgentNo) → site_of t' a ≡ cond (eqb t.agents a.0) (site_of t p) (site_of t a))
    → ((a : AgentNo) → inbox_of t' a ≡ inbox_of t a)
    → put (board_of t) (creation p c) ≡ board_of t'
board-created t t' p c count sites inboxes =
    λ i. record { count = sym count i; site = λ a. sym (sites a) i; inbox = λ a. sym (inboxes a) i }

pub board-moved :
    (t t' : State) (a : AgentNo) (k : ℕ) (u : SiteNo)
    → t'.agents ≡ t.agents
    → ((b : AgentNo) → site_of t' b ≡ cond (same_agent a b) u (site_of t b))
    → ((b : AgentNo) → inbox_of t' b ≡ inbox_of t b)
    → put (board_of t) (move a k u) ≡ board_of t'
board-moved t t' a k u count sites inboxes =
    λ i. record { count = sym count i; site = λ b. sym (sites b) i; inbox = λ b. sym (inboxes b) i }

-- a message handed over
pub board-handed :
    (t t' : State) (m : MailNo)
    → t'.agents ≡ t.agents
    → ((a : AgentNo) → site_of t' a ≡ site_of t a)
    → log_of t' ≡ log_of t ++ (m ∷ [])
    → ((k : MailNo) → (addressee_of t' k ≡ addressee_of t k) × (item_of (message_at t' k) ≡ item_of (message_at t k)))
    → put (board_of t) (message (addressee_of t m) (item_of (message_at t m))) ≡ board_of t'
unfolding inbox_of
board-handed t t' m count sites log mail =
    λ i. record { count = sym count i; site = λ a. sym (sites a) i; inbox = λ a. sym (inboxes a) i }
  where
    inboxes :
        (a : AgentNo)
        → inbox_from t' a (log_of t')
        ≡ cond (same_agent (addressee_of t m) a) (inbox_from t a (log_of t) ++ (item_of (message_at t m) ∷ [])) (inbox_from t a (log_of t))
    inboxes a =
        ap (inbox_from t' a) log ∙ inbox-same t t' a (log_of t ++ (m ∷ [])) (λ k w. mail k) ∙ inbox-more t a (log_of t) m
