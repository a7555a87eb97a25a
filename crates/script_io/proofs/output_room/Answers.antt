-- The room has as many bytes as it was made of.
use Rattle.std.proofs.Common.{ℕ, sym}
use Rattle.std.proofs.lemmas.List.{length-replicate}
use Rattle.script_io.proofs.output_room.Goals as goal

pub returns : goal.returns
returns c = sym (length-replicate {0} {A = ℕ} 1212416 0)
