use Rattle.std.proofs.Common.{◌≡◌, false, get_or}
use Rattle.std.specs.Bool.{beq}
use Rattle.records.specs.Messages.{is_delivered}
use Rattle.records.specs.Numbers.{mail_no}
use Rattle.records.specs.Places.{all_below}
use Rattle.rules.specs.Tests.{status_in}
use Rattle.soundness.proofs.book.delivered.Given as goal

abbrev pub invariant-loop-i : goal.invariant-loop-i
invariant-loop-i l = l.fine ≡ all_below l.i (λ j. beq (get_or l.seen j false) (is_delivered (status_in l.status (mail_no j))))
