use Rattle.std.proofs.Common.{◌≡◌, ◌-◌}
use Rattle.rules.specs.Tests.{log_runs, no_marks}
use Rattle.soundness.proofs.book.log_runs.Given as goal

abbrev pub invariant-loop-entry : goal.invariant-loop-entry
invariant-loop-entry l =
    log_runs l.t.messages l.t.status l.t.log l.t.handed 0 no_marks
    ≡ log_runs l.t.messages l.t.status l.t.log (l.t.handed - l.entry-index) l.entry-index l.seen
