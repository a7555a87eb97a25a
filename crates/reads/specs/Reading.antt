-- What a reading that failed leaves.
use Rattle.std.specs.Prelude.{ℕ, ◌≤◌, List, length, take}
use Rattle.std.specs.Io.KnownBytes.{Consumes}
use Rattle.std.specs.declared.option.Option.{Option}

-- the bytes that were read, as far as it came, stand at the buffer's front: none is lost
abbrev pub FillsFront : Option (List ℕ) → Option (List ℕ) → List ℕ → Type 0
FillsFront old new buf = (n : ℕ) × (n ≤ length buf) × Consumes old new (take n buf)
