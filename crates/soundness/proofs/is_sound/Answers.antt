-- `soundness::is_sound` meets its contract.
use Rattle.std.proofs.Common.{◌∙◌, sym, arith}
use Rattle.std.proofs.lemmas.Grind.{common_steps}
use Rattle.rules.specs.SoundTest.{sound_test}
use Rattle.rules.specs.Tests.{parts_sound, each_fine, book_fine, agent_room, party_room, number_room, status_room, log_room}
use Rattle.rules.proofs.Limits.{limits}
use Rattle.soundness.proofs.is_sound.Goals as goal

pub returns-then-not-counts_fine : goal.returns-then-not-counts_fine
unfolding sound_test parts_sound
returns-then-not-counts_fine c = grind (arith, common_steps)

pub each_fine-requires-then-lock_there : goal.each_fine-requires-then-lock_there
each_fine-requires-then-lock_there c = (limits _ _ _ _ (sym c.counts_fine.ensures ∙ c.if-not-counts_fine.false)).messages-fit

pub numbers_run-requires : goal.numbers_run-requires
numbers_run-requires c = (limits _ _ _ _ (sym c.counts_fine.ensures ∙ c.if-not-counts_fine.false)).messages-fit

pub log_runs-requires : goal.log_runs-requires
log_runs-requires c = (limits _ _ _ _ (sym c.counts_fine.ensures ∙ c.if-not-counts_fine.false)).handed-fit

pub returns-then-rest_is_empty-6 : goal.returns-then-rest_is_empty-6
unfolding sound_test parts_sound each_fine book_fine agent_room party_room number_room status_room log_room
returns-then-rest_is_empty-6 c = grind (arith, common_steps)

pub returns-else-rest_is_empty-6 : goal.returns-else-rest_is_empty-6
unfolding sound_test parts_sound each_fine book_fine agent_room party_room number_room status_room log_room
returns-else-rest_is_empty-6 c = grind (arith, common_steps)
