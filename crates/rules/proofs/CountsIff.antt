-- The counts' test and the clause that it stands for.
use Rattle.std.proofs.Common.{◌≡◌, true, arith}
use Rattle.std.proofs.lemmas.Bool.Decides.{nat_tests}
use Rattle.rules.specs.Tests.{counts_fine}
use Rattle.rules.specs.declared.State.{State}
use Rattle.rules.specs.Soundness.{CountsInRange}

pub counts-from : (t : State) → counts_fine t.sites t.agents t.messages t.handed ≡ true → CountsInRange t
unfolding counts_fine
counts-from t h = grind (arith, nat_tests)

pub counts-to : (t : State) → CountsInRange t → counts_fine t.sites t.agents t.messages t.handed ≡ true
unfolding counts_fine
counts-to t r = grind (arith, nat_tests)
