-- How far an output has come. Assumes nothing.
use Rattle.program.specs.Running.{Progress, from}
use Rattle.script.specs.declared.Output.{Output}

abbrev pub progress : Output → Progress
progress s = from s.next s.buffer.now
