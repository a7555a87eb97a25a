-- The run of all lines is the run of those that are left, from where it has come to; their count still fits 32 bits.
use Rattle.std.proofs.Common.{◌+◌, ◌≤◌, ◌≡◌, length}
use Rattle.grammar.specs.Lines.{lines_of}
use Rattle.scanning.specs.Walking.{lines_left}
use Rattle.program.specs.Program.{no_desk}
use Rattle.program.specs.Running.{run_lines}
use Rattle.script.specs.Putting.{progress}
use Rattle.script.proofs.run_lines.Given as goal

abbrev pub invariant-loop-k : goal.invariant-loop-k
invariant-loop-k l =
    let k = l.k-iterator.a.start in
    let left = lines_left l.k-iterator.b in
    (k + length left ≤ 65537)
    × (run_lines (progress l.initial.out) no_desk 1 (lines_of l.input) ≡ run_lines (progress l.out) l.desk k left)
    × (l.out.buffer.ghost_name ≡ l.initial.out.buffer.ghost_name)
