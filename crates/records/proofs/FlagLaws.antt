-- Tests that imply one another, and tests that pass together.
use Rattle.std.proofs.Common.{arith, ◌≡◌, Bool, true}
use Rattle.std.proofs.Math.Bool.{beq}
use Rattle.records.specs.Places.{implies}

pub implies-use : (a b : Bool) → implies a b ≡ true → a ≡ true → b ≡ true
implies-use a b h p = grind arith

pub implies-make : (a b : Bool) → (a ≡ true → b ≡ true) → implies a b ≡ true
implies-make a b f = grind arith

-- two tests that pass together
pub same-there : (a b : Bool) → beq a b ≡ true → a ≡ true → b ≡ true
same-there a b h p = grind arith

pub same_back : (a b : Bool) → beq a b ≡ true → b ≡ true → a ≡ true
same_back a b h p = grind arith

pub same-make : (a b : Bool) → (a ≡ true → b ≡ true) → (b ≡ true → a ≡ true) → beq a b ≡ true
same-make a b f g = grind arith
