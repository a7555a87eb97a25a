use Rattle.std.proofs.Common.{◌≡◌, ℕ, ◌-◌, ◌≤◌, get_or}
use Rattle.rules.specs.Tests.{numbers_run, no_counts}
use Rattle.soundness.proofs.book.numbers_run.Given as goal

abbrev pub invariant-loop-i : goal.invariant-loop-i
invariant-loop-i l = record {
  counted : (k : ℕ) → get_or l.counts k 0 ≤ l.i;
  so_far :
      numbers_run l.t.sender l.t.number l.t.messages 0 no_counts ≡ numbers_run l.t.sender l.t.number (l.t.messages - l.i) l.i l.counts;
}
