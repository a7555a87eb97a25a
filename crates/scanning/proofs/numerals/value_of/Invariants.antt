use Rattle.std.proofs.Common.{length, drop, ◌≡◌, ◌-◌}
use Rattle.grammar.specs.Grammar.{value_from}
use Rattle.grammar.proofs.Digits.{Small}
use Rattle.scanning.proofs.numerals.value_of.Given as goal

abbrev pub invariant-loop-b : goal.invariant-loop-b
invariant-loop-b l =
    (value_from 0 (length l.digits) l.digits ≡ value_from l.value (length l.digits - l.b-index) (drop l.b-index l.digits)) × Small l.value l.b-index
