-- Laws of the soundness test in a writing.
use Rattle.std.proofs.Common.{ℕ, ◌≡◌, true, false, List}
use Rattle.records.specs.declared.Code.TheVariants.{BadState}
use Rattle.rules.specs.declared.State.{State}
use Rattle.rules.specs.SoundTest.{sound_test}
use Rattle.text.specs.Writing.{write_fitting, write_of}

pub write-unsound : (t : State) (b : List ℕ) → sound_test t ≡ false
    → write_of t b ≡ record { answer = record { code = BadState; number = 0; length = 0 }; buffer = b }
unfolding write_of
write-unsound t b e = rw e

pub write-sound : (t : State) (b : List ℕ) → sound_test t ≡ true → write_of t b ≡ write_fitting t b
unfolding write_of
write-sound t b e = rw e
