-- A run of any script into a buffer that is long enough leaves the program's output at its front, byte for byte, and the bytes past it as
-- they were.
use Rattle.std.proofs.Common.{ℕ, ◌≤◌, ◌≡◌, refl, Bool, true, false, ◌&&◌, List, ◌++◌, length, drop, ltb, leb, eqb}
use Rattle.std.proofs.lemmas.Bool.{false≢true}
use Rattle.records.specs.declared.Code.TheVariants.{Done, BadCount}
use Rattle.records.specs.Codes.{code_number}
use Rattle.records.specs.Limits.{most_sites}
use Rattle.rules.specs.Holding.{Shaped, no_state}
use Rattle.rules.specs.Answers.{done, unless}
use Rattle.rules.specs.Soundness.{Sound}
use Rattle.rules.specs.Steps.{opened, open_of}
use Rattle.rules.proofs.SoundIff.{sound-to}
use Rattle.preservation.proofs.Keeps.{step_keeps}
use Rattle.preservation.proofs.Opening.{open-good}
use Rattle.program.specs.Program.{output_of}
use Rattle.program.specs.Running.{from, run_of}
use Rattle.program.proofs.Outputs.{run-output}

-- an opening's code is Done where its number is 0
opening-done : (n : ℕ) (b : Bool) → eqb (code_number (unless b BadCount no_state (done (opened n) 0)).code) 0 ≡ true → (unless b BadCount no_state (done (opened n) 0)).code ≡ Done
opening-done n true h = refl
opening-done n false h = absurd (false≢true h)

pub opens : (n : ℕ) → eqb (code_number (open_of n).code) 0 ≡ true → (open_of n).code ≡ Done
unfolding open_of
opens n h = opening-done n (ltb 0 n && leb n most_sites) h

pub prints : (input buffer : List ℕ) → length (output_of input) ≤ length buffer → run_of input buffer ≡ from (length (output_of input)) (output_of input ++ drop (length (output_of input)) buffer)
prints input buffer h =
    run-output
    (λ t. Shaped t × Sound t)
    (λ t g. sound-to t g.1)
    (λ t s g. step_keeps t g.0 g.1 s)
    (λ n e. open-good n (opens n e))
    input
    buffer
    h
