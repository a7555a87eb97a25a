-- A sequence of steps, and what each of them is to a creation, a move or a message. Places in the sequence are counted from 0.
-- Assumes nothing.
use Rattle.std.specs.Prelude.{ℕ, ◌+◌, ◌≡◌, Bool, false, cond, ◌||◌, List, [], ◌∷◌, get_or, eqb}
use Rattle.records.specs.declared.AgentNo.{AgentNo}
use Rattle.records.specs.declared.SiteNo.{SiteNo}
use Rattle.records.specs.declared.MailNo.{MailNo}
use Rattle.records.specs.declared.Item.{Item}
use Rattle.records.specs.declared.Phase.{Phase}
use Rattle.records.specs.Numbers.{agent_no, mail_no, same_agent}
use Rattle.records.specs.Codes.{code_number}
use Rattle.records.specs.Agents.{is_asking, is_granted, is_landed, is_booked}
use Rattle.rules.specs.declared.State.{State}
use Rattle.rules.specs.declared.Reply.{Reply}
use Rattle.rules.specs.declared.Step.{Step}
use Rattle.rules.specs.declared.Step.TheVariants.{Spawn, Ask, Send, Enrol, Greet, Grant, Leap, Book, Settle, Forward, Hand, Close}
use Rattle.rules.specs.Holding.{phase_of}
use Rattle.rules.specs.Steps.{step_of}

-- what a step is to an operation
pub data Mark : Type 0 where
  -- a creation begins, and has its effect: the parent and the child; it is over
  creates : AgentNo → AgentNo → Mark
  greets : AgentNo → Mark
  -- a move begins: the agent and the target; it leaves its old site; it is over
  asks : AgentNo → SiteNo → Mark
  leaves : AgentNo → Mark
  settles : AgentNo → Mark
  -- a message begins: its number on the table, its addressee, and what is read of it; it is handed over; it is over
  takes : MailNo → AgentNo → Item → Mark
  hands : MailNo → Mark
  closes : MailNo → Mark
  -- anything else, and every step that is not Done
  nothing : Mark

-- a step that is Done, with the number that it returns
abbrev pub mark_done : Step → ℕ → Mark
mark_done (Spawn a) k = creates a (agent_no k)
mark_done (Ask a u) k = asks a u
mark_done (Send a n b v) k = takes (mail_no k) b (record { sender = a; number = n; value = v })
mark_done (Enrol b) k = nothing
mark_done (Greet b) k = greets b
mark_done (Grant a) k = nothing
mark_done (Leap a) k = leaves a
mark_done (Book a) k = nothing
mark_done (Settle a) k = settles a
mark_done (Forward m) k = nothing
mark_done (Hand m) k = hands m
mark_done (Close m) k = closes m

abbrev pub mark_of : Step → Reply → Mark
mark_of s r = cond (eqb (code_number r.code) 0) (mark_done s r.number) nothing

-- the marks of a sequence, and the table after it
unfoldable pub marks_of : State → List Step → List Mark
unfolding step_of
marks_of t [] = []
marks_of t (s ∷ ss) = mark_of s (step_of t s) ∷ marks_of (step_of t s).state ss

unfoldable pub table_after : State → List Step → State
unfolding step_of
table_after t [] = t
table_after t (s ∷ ss) = table_after (step_of t s).state ss

-- the mark x stands at place i
abbrev pub At : List Mark → ℕ → Mark → Type 0
At ms i x = get_or ms i nothing ≡ x

-- How many moves of an agent have begun: the one that the first table finds it in, and those that the marks show.
abbrev pub in_move : Phase → Bool
in_move p = is_asking p || (is_granted p || (is_landed p || is_booked p))

abbrev pub asks_of : AgentNo → Mark → Bool
asks_of a (creates p c) = false
asks_of a (greets c) = false
asks_of a (asks b u) = same_agent b a
asks_of a (leaves b) = false
asks_of a (settles b) = false
asks_of a (takes m b x) = false
asks_of a (hands m) = false
asks_of a (closes m) = false
asks_of a nothing = false

unfoldable pub asks_in : AgentNo → List Mark → ℕ
asks_in a [] = 0
asks_in a (x ∷ xs) = cond (asks_of a x) 1 0 + asks_in a xs

abbrev pub moves_begun : State → List Mark → AgentNo → ℕ
moves_begun t ms a = cond (in_move (phase_of t a)) 1 0 + asks_in a ms
