-- The count is that of the places passed.
use Rattle.std.proofs.Common.{◌≡◌, ◌≤◌}
use Rattle.records.specs.Numbers.{mail_no, same_agent}
use Rattle.records.specs.Places.{count_below}
use Rattle.rules.specs.Holding.{message_at}
use Rattle.sending.proofs.sent_by.Given as goal

abbrev pub invariant-loop-i : goal.invariant-loop-i
invariant-loop-i l = (l.count ≤ l.i) × (l.count ≡ count_below l.i (λ i. same_agent (message_at l.t (mail_no i)).sender l.a))
