-- What is looked for is below the places passed.
use Rattle.std.proofs.Common.{◌≡◌, ◌&&◌, eqb}
use Rattle.records.specs.Numbers.{same_agent}
use Rattle.records.specs.Places.{last_below}
use Rattle.rules.specs.Holding.{message_at}
use Rattle.rules.specs.Steps.{find_sent}
use Rattle.sending.proofs.find_sent.Given as goal

abbrev pub invariant-loop-i : goal.invariant-loop-i
invariant-loop-i l =
    find_sent l.t l.a l.n ≡ last_below l.i (λ m. same_agent (message_at l.t m).sender l.a && eqb (message_at l.t m).number l.n)
