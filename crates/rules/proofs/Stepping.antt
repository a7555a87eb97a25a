-- A table that has passed the test has counts within its arrays.
use Rattle.std.proofs.Common.{◌≤◌, ◌≡◌, true}
use Rattle.std.proofs.lemmas.Bool.{and_parts}
use Rattle.records.specs.Limits.{most_messages}
use Rattle.rules.specs.Tests.{parts_sound}
use Rattle.rules.proofs.Limits.{Limits, limits}
use Rattle.rules.specs.declared.State.{State}
use Rattle.rules.specs.SoundTest.{sound_test}
use Rattle.rules.specs.Fitting.{CountsFit}

-- the first part of the test is the counts'
test-limits : (t : State) → sound_test t ≡ true → Limits t.agents t.messages t.handed
unfolding sound_test parts_sound
test-limits t passed = limits t.sites t.agents t.messages t.handed (and_parts _ _ passed).0

pub sound-fits : (t : State) → sound_test t ≡ true → CountsFit t
sound-fits t passed =
    let within : Limits t.agents t.messages t.handed = test-limits t passed in
    record { agents = within.agents-fit; messages = within.messages-fit; handed = within.handed-fit }

pub sound_log : (t : State) → sound_test t ≡ true → t.handed ≤ most_messages
sound_log t passed = (sound-fits t passed).handed
