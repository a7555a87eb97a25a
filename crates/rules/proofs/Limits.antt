-- What the first parts of the test, once passed, say of the numbers that the later parts index by.
use Rattle.std.proofs.Common.{ℕ, ◌≤◌, true, ◌≡◌, arith, leb-true}
use Rattle.rules.specs.Tests.{counts_fine}

-- the counts, as the arrays have room for them
pub record Limits (agents messages handed : ℕ) : Type 0 where
  pub agents-fit : agents ≤ 64
  pub messages-fit : messages ≤ 512
  pub handed-fit : handed ≤ 512

pub limits : (sites agents messages handed : ℕ) → counts_fine sites agents messages handed ≡ true → Limits agents messages handed
unfolding counts_fine
limits sites agents messages handed h =
    record {
      agents-fit = leb-true agents 64 (grind arith);
      messages-fit = leb-true messages 512 (grind arith);
      handed-fit = leb-true handed 512 (grind arith);
    }
