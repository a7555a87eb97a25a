-- The soundness test of a table. Assumes nothing.
use Rattle.std.specs.Prelude.{Bool}
use Rattle.rules.specs.Tests.{parts_sound}
use Rattle.rules.specs.declared.State.{State}
use Rattle.rules.specs.Holding.{lock_of}

-- the test asks its questions of the table's numbers and lists
unfoldable pub sound_test : State → Bool
unfolding parts_sound
sound_test t =
    parts_sound
    t.sites
    t.agents
    t.messages
    t.handed
    (lock_of t)
    t.agent
    t.sender
    t.number
    t.addressee
    t.value
    t.status
    t.log
