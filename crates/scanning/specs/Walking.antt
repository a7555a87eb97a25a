-- What an iterator over a text's lines still has to give, and what its next one leaves. Assumes nothing.
use Rattle.std.specs.Prelude.{ℕ, List, Option, drop, ◌≡◌}
use Rattle.std.specs.Iterator.{YieldsFirstRef}
use denote.Ref.{Bor}
use Rattle.grammar.specs.Finding.{line_taken}
use Rattle.grammar.specs.Lines.{lines_of}
use Rattle.scanning.specs.declared.walking.Lines.{Lines}

abbrev pub lines_left : Lines → List (List ℕ)
lines_left s = lines_of s.rest.now

-- the first line, where one is left, and of the text what stands after it
abbrev pub Walks : Lines → Option (Bor (List ℕ)) → Lines → Type 0
Walks s line t = YieldsFirstRef lines_left s line t × (t.rest.now ≡ drop (line_taken s.rest.now) s.rest.now)
