-- A front part of the bytes was written so far, and the rest of them is left.
use Rattle.std.proofs.Common.{ℕ, ◌≤◌, ◌≡◌, length, take, drop}
use Rattle.std.specs.Io.KnownBytes.{Appends}
use Rattle.script_io.proofs.write_bytes.Given as goal

abbrev pub invariant-loop-rest : goal.invariant-loop-rest
invariant-loop-rest g l =
    (n : ℕ)
    × (n ≤ length l.bytes)
    × Appends (g.W.Write.contents l.initial.out) (g.W.Write.contents l.out) (take n l.bytes)
    × (l.rest ≡ drop n l.bytes)

abbrev pub decreases-loop-rest : goal.decreases-loop-rest
decreases-loop-rest g l = length l.rest
