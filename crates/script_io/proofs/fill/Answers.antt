-- A run into a buffer that has room for any output leaves the whole of it.
use Rattle.output.proofs.Room.{run-leaves}
use Rattle.script_io.proofs.fill.Goals as goal

pub returns : goal.returns
returns c = run-leaves _ _ c.requires c.run.ensures
