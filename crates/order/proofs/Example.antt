-- The words of the statement at work, on one sequence from a fresh table of three sites: agent 0 creates agent 1, writes to it twice
-- under one number, and agent 1 moves meanwhile. So none of these words is empty, and the order is what one expects.
use Rattle.std.proofs.Common.{◌≡◌, refl, List, [], ◌∷◌}
use Rattle.records.specs.Numbers.{agent_no, site_no, mail_no}
use Rattle.records.specs.declared.Item.{Item}
use Rattle.rules.specs.declared.Step.{Step}
use Rattle.rules.specs.declared.Step.TheVariants.{Spawn, Ask, Send, Enrol, Greet, Grant, Leap, Book, Settle, Forward, Hand, Close}
use Rattle.rules.specs.Steps.{opened}
use Rattle.order.specs.Marks.{creates, greets, asks, leaves, settles, takes, hands, closes, nothing, marks_of}

abbrev steps : List Step
steps =
    Spawn (agent_no 0)
    ∷ Enrol (agent_no 1)
    ∷ Greet (agent_no 1)
    ∷ Ask (agent_no 1) (site_no 2)
    ∷ Send (agent_no 0) 1 (agent_no 1) 77
    ∷ Send (agent_no 0) 1 (agent_no 1) 78
    ∷ Grant (agent_no 1)
    ∷ Forward (mail_no 0)
    ∷ Leap (agent_no 1)
    ∷ Book (agent_no 1)
    ∷ Settle (agent_no 1)
    ∷ Forward (mail_no 0)
    ∷ Hand (mail_no 0)
    ∷ Close (mail_no 0)
    ∷ []

abbrev letter : Item
letter = record { sender = agent_no 0; number = 1; value = 77 }

pub marks :
    marks_of (opened 3) steps
    ≡ creates (agent_no 0) (agent_no 1)
    ∷ nothing
    ∷ greets (agent_no 1)
    ∷ asks (agent_no 1) (site_no 2)
    ∷ takes (mail_no 0) (agent_no 1) letter
    ∷ nothing
    ∷ nothing
    ∷ nothing
    ∷ leaves (agent_no 1)
    ∷ nothing
    ∷ settles (agent_no 1)
    ∷ nothing
    ∷ hands (mail_no 0)
    ∷ closes (mail_no 0)
    ∷ []
unfolding marks_of
marks = refl
