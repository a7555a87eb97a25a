-- How an output ends, and the opening and the steps that a script comes to the table with. Assumes nothing.
use Rattle.std.specs.Prelude.{ℕ, ◌≡◌, List, [], ◌∷◌, ◌++◌}
use Rattle.records.specs.declared.Code.TheVariants.{Done}
use Rattle.rules.specs.declared.Step.{Step}
use Rattle.rules.specs.Steps.{open_of}
use Rattle.grammar.specs.declared.Line.{Line}
use Rattle.grammar.specs.declared.Line.TheVariants.{Bad, Opening, Take}
use Rattle.grammar.specs.Grammar.{line_of}

-- the most bytes that an output has: 65,536 lines, each answered with at most 18, and a table's text of at most 32,768
abbrev pub most_output : ℕ
most_output = 1212416

-- an output that ends with a text
abbrev pub EndsWith : List ℕ → List ℕ → Type 0
EndsWith output text = (answers : List ℕ) × (output ≡ answers ++ text)

-- the first opening among the lines that is Done, and the lines behind it
pub data Opens : List (List ℕ) → ℕ → List (List ℕ) → Type 0 where
  here : {l : List ℕ} {ls : List (List ℕ)} {sites : ℕ} → line_of l ≡ Opening sites → (open_of sites).code ≡ Done → Opens (l ∷ ls) sites ls
  later :
      {l : List ℕ} {ls rest : List (List ℕ)} {sites : ℕ}
      → ((n : ℕ) → line_of l ≡ Opening n → (open_of n).code ≡ Done → ⊥)
      → Opens ls sites rest
      → Opens (l ∷ ls) sites rest

-- the steps among lines, in their order
abbrev pub steps_with : Line → List Step → List Step
steps_with Bad ss = ss
steps_with (Opening n) ss = ss
steps_with (Take s) ss = s ∷ ss

unfoldable pub steps_in : List (List ℕ) → List Step
unfolding line_of
steps_in [] = []
steps_in (l ∷ ls) = steps_with (line_of l) (steps_in ls)
