-- A writing into a lent buffer. Assumes nothing.
use Rattle.std.specs.Prelude.{ℕ, Bool, true, false, List, ◌++◌, length, drop, leb}
use Rattle.records.specs.declared.Code.{Code}
use Rattle.records.specs.declared.Code.TheVariants.{Done, NoRoom, BadState}
use Rattle.rules.specs.declared.State.{State}
use Rattle.rules.specs.SoundTest.{sound_test}
use Rattle.text.specs.declared.Written.{Written}
use Rattle.text.specs.Text.{written}

-- what a writing answers, and what the buffer then holds
pub record Wrote : Type 0 where
  pub answer : Written
  pub buffer : List ℕ

-- refused: number and length 0, and no byte of the buffer changed
abbrev pub unless_writing : Bool → Code → List ℕ → Wrote → Wrote
unless_writing true c buffer r = r
unless_writing false c buffer r = record { answer = record { code = c; number = 0; length = 0 }; buffer = buffer }

-- the text at the buffer's front; the bytes past it keep their values
abbrev pub wrote_text : List ℕ → List ℕ → Wrote
wrote_text text buffer =
    record { answer = record { code = Done; number = 0; length = length text }; buffer = text ++ drop (length text) buffer }

-- a sound table: refused where its text is longer than the buffer
abbrev pub write_fitting : State → List ℕ → Wrote
write_fitting t buffer =
    unless_writing (leb (length (written t)) (length buffer)) NoRoom buffer (wrote_text (written t) buffer)

-- any table: refused where it is not sound, and then where its text is longer than the buffer
unfoldable pub write_of : State → List ℕ → Wrote
unfolding sound_test written
write_of t buffer = unless_writing (sound_test t) BadState buffer (write_fitting t buffer)
