-- The plain board: sites and inboxes. An operation is done on it whole. It knows nothing of phases, maps or the lock. Assumes nothing.
use Rattle.std.specs.Prelude.{ℕ, suc, ◌<◌, ◌≡◌, cond, List, [], ◌∷◌, ◌++◌, eqb}
use Rattle.records.specs.declared.AgentNo.{AgentNo}
use Rattle.records.specs.declared.SiteNo.{SiteNo}
use Rattle.records.specs.declared.Item.{Item}
use Rattle.records.specs.Numbers.{same_agent}
use Rattle.rules.specs.declared.State.{State}
use Rattle.rules.specs.Holding.{site_of, inbox_of}
use Rattle.order.specs.Operations.{Operation, creation, move, message}

-- how many agents there are, where each stands, and what each was handed
pub record Board : Type 0 where
  pub count : ℕ
  pub site : AgentNo → SiteNo
  pub inbox : AgentNo → List Item

-- a creation puts the next agent at its parent's site, a move changes a site, a message joins its addressee's inbox
abbrev pub put : Board → Operation → Board
put w (creation p c) =
    record {
      count = suc w.count;
      site = λ a. cond (eqb w.count a.0) (w.site p) (w.site a);
      inbox = w.inbox;
    }
put w (move a k u) =
    record { count = w.count; site = λ b. cond (same_agent a b) u (w.site b); inbox = w.inbox }
put w (message b x) =
    record {
      count = w.count;
      site = w.site;
      inbox = λ a. cond (same_agent b a) (w.inbox a ++ (x ∷ [])) (w.inbox a);
    }

-- done one after the other, the first of the list first
unfoldable pub put_all : Board → List Operation → Board
put_all w [] = w
put_all w (x ∷ xs) = put_all (put w x) xs

-- Each operation finds the agents that it names on the board when its turn comes, and a creation's child is the next agent.
abbrev pub Finds : Board → Operation → Type 0
Finds w (creation p c) = (p.0 < w.count) × (c.0 ≡ w.count)
Finds w (move a k u) = a.0 < w.count
Finds w (message b x) = (b.0 < w.count) × (x.sender.0 < w.count)

abbrev pub FindsAll : Board → List Operation → Type 0
FindsAll w [] = Unit {0}
FindsAll w (x ∷ xs) = Finds w x × FindsAll (put w x) xs

-- the board that a table stands for: the sites as they are, the inboxes from the log
abbrev pub board_of : State → Board
board_of t = record { count = t.agents; site = site_of t; inbox = inbox_of t }
