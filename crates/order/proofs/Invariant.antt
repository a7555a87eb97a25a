-- What holds of the marks so far, the table they have come to, and the order built on the way.
use Rattle.std.proofs.Common.{ℕ, ◌≤◌, ◌≡◌, refl, ap, sym, ◌∙◌, subst, false, List, [], ◌∷◌, ◌++◌, length, arith}
use Rattle.records.specs.declared.Lock.{Lock}
use Rattle.records.specs.declared.AgentNo.{AgentNo}
use Rattle.records.specs.declared.Agent.{Agent}
use Rattle.rules.specs.declared.State.{State}
use Rattle.rules.specs.Holding.{phase_of}
use Rattle.preservation.proofs.OneAgent.{Good}
use Rattle.preservation.proofs.AgentSteps.{with_agents_held}
use Rattle.order.specs.Lists.{In}
use Rattle.order.specs.Marks.{Mark, nothing, creates, greets, asks, leaves, settles, takes, hands, closes, asks_of}
use Rattle.order.specs.Operations.{Operation, creation, move, message, name_of, EffectAt, OverAt}
use Rattle.order.specs.Boards.{Board, put, put_all, Finds, FindsAll, board_of}
use Rattle.order.proofs.MarkLaws.{more, at_last}
use Rattle.order.proofs.Links.{CreationLinks, MoveLink, MoveLinks, MailLinks, New}
use Rattle.order.proofs.LinkSteps.{creations-on, move-on, mail-on}
use Rattle.order.proofs.Extending.{Ordered, order_same, order-more}
use Rattle.order.proofs.BoardLaws.{put_last, finds-last}

pub record Inv (first : State) (ms : List Mark) (t : State) (order : List Operation) : Type 0 where
  pub good : Good t
  pub creations : CreationLinks ms t
  pub moves : MoveLinks first ms t
  pub mail : MailLinks first ms t
  pub ordered : Ordered first ms order
  pub board : put_all (board_of first) order ≡ board_of t
  pub finds : FindsAll (board_of first) order

-- a mark's place in the list of marks: first the three effects, then the rest
abbrev pub tag_of : Mark → ℕ
tag_of (creates p c) = 0
tag_of (leaves a) = 1
tag_of (hands m) = 2
tag_of (takes m b x) = 3
tag_of (closes m) = 4
tag_of (greets c) = 5
tag_of (asks a u) = 6
tag_of (settles a) = 7
tag_of nothing = 8

module _ (first : State) (ms : List Mark) (x : Mark) where
  -- a mark that is none of the three is no effect
  no-effect : 3 ≤ tag_of x → (y : Operation) → EffectAt first (more ms x) y (length ms) → ⊥
  no-effect h (creation p c) w = omega (arith, ap tag_of (sym (at_last ms x) ∙ w))
  no-effect h (move a k u) w = omega (arith, ap tag_of (sym (at_last ms x) ∙ w.1))
  no-effect h (message b y) w = omega (arith, ap tag_of (sym (at_last ms x) ∙ w.2))

  pub inv-quiet :
      (t t' : State) (order : List Operation)
      → Inv first ms t order
      → 3 ≤ tag_of x
      → New t x
      → Good t'
      → CreationLinks (more ms x) t'
      → MoveLinks first (more ms x) t'
      → MailLinks first (more ms x) t'
      → board_of t' ≡ board_of t
      → Inv first (more ms x) t' order
  inv-quiet t t' order v tag new good creations moves mail board =
      record {
        good = good;
        creations = creations;
        moves = moves;
        mail = mail;
        ordered = order_same first ms x t order v.creations v.mail new v.ordered (no-effect tag);
        board = v.board ∙ sym board;
        finds = v.finds;
      }

  pub inv-effect :
      (t t' : State) (order : List Operation) (z : Operation)
      → Inv first ms t order
      → New t x
      → Good t'
      → CreationLinks (more ms x) t'
      → MoveLinks first (more ms x) t'
      → MailLinks first (more ms x) t'
      → Finds (board_of t) z
      → put (board_of t) z ≡ board_of t'
      → EffectAt first (more ms x) z (length ms)
      → ((y : Operation) → EffectAt first (more ms x) y (length ms) → y ≡ z)
      → ((y : Operation) → In y order → name_of y ≡ name_of z → ⊥)
      → ((i : ℕ) → OverAt first (more ms x) z i → ⊥)
      → Inv first (more ms x) t' (order ++ (z ∷ []))
  inv-effect t t' order z v new good creations moves mail finds board it only fresh unfinished =
      record {
        good = good;
        creations = creations;
        moves = moves;
        mail = mail;
        ordered = order-more first ms x t order v.creations v.mail new v.ordered z it only fresh unfinished;
        board = put_last (board_of first) order z ∙ ap (λ (w : Board). put w z) v.board ∙ board;
        finds = finds-last (board_of first) order z v.finds (subst (λ (w : Board). Finds w z) (sym v.board) finds);
      }

  -- a mark that creates nobody and takes no message
  pub new-plain : (t : State) → (tag_of x ≡ 0 → ⊥) → (tag_of x ≡ 3 → ⊥) → New t x
  new-plain t n k =
      record {
        create = λ p c e. absurd (n (ap tag_of e));
        take = λ m b y e. absurd (k (ap tag_of e));
      }

  -- a mark that neither creates nor greets
  pub creations-same :
      (t t' : State)
      → CreationLinks ms t
      → t.agents ≤ t'.agents
      → (tag_of x ≡ 0 → ⊥)
      → (tag_of x ≡ 5 → ⊥)
      → CreationLinks (more ms x) t'
  creations-same t t' old grows n k =
      creations-on ms x t t' old grows (λ p c e. absurd (n (ap tag_of e))) (λ c e. absurd (k (ap tag_of e)))

  -- a mark of no message, where only agents and the lock change
  pub mail-same :
      (t : State) (n : ℕ) (l : List Agent) (h : Lock)
      → MailLinks first ms t
      → (tag_of x ≡ 2 → ⊥)
      → (tag_of x ≡ 3 → ⊥)
      → (tag_of x ≡ 4 → ⊥)
      → MailLinks first (more ms x) (with_agents_held t n l h)
  mail-same t n l h old hand take close =
      mail-on
      first
      ms
      x
      t
      (with_agents_held t n l h)
      old
      refl
      (λ m. (refl, refl))
      (λ m d. d)
      (λ m d. d)
      (λ m b y e. take (ap tag_of e))
      (λ m e. absurd (hand (ap tag_of e)))
      (λ m e. absurd (close (ap tag_of e)))

  -- an agent in the same phase, and a mark that is not its own
  pub move_same :
      (t : State) (a : AgentNo)
      → MoveLinks first ms t
      → asks_of a x ≡ false
      → (x ≡ leaves a → ⊥)
      → (x ≡ settles a → ⊥)
      → MoveLink first (more ms x) a (phase_of t a)
  move_same t a old quiet left settled =
      move-on
      first
      ms
      x
      a
      (phase_of t a)
      (phase_of t a)
      (old a)
      quiet
      (λ u h. h)
      (λ h. h)
      (λ e. absurd (left e))
      settled
