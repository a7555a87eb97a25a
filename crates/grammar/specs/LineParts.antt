-- A line's parts, as they are read one after the other. Assumes nothing.
use Rattle.std.specs.Prelude.{ℕ, suc, ◌≡◌, List, [], ◌∷◌, drop, get_or, Option, Some, None}
use Rattle.rules.specs.declared.Step.{Step}
use Rattle.grammar.specs.declared.Line.{Line}
use Rattle.grammar.specs.declared.Line.TheVariants.{Bad, Take}
use Rattle.grammar.specs.Grammar.{and_then, numbers_of, Kind, kind, kinds}

-- no line of two numbers or more stands in a text: it begins with no number that has a comma behind it
abbrev pub NoneLeads : List ℕ → Type 0
NoneLeads bs = (m : ℕ) → numbers_of (suc (suc m)) bs ≡ None

-- the numbers of such a line: this one, and then those of the rest
abbrev pub Leads : List ℕ → ℕ → List ℕ → Type 0
Leads bs v rest = (m : ℕ) → numbers_of (suc (suc m)) bs ≡ and_then v (numbers_of (suc m) rest)

-- the kind of line at a place of the list; past its end there is none, and what is said is not in the grammar
abbrev pub kind_at : ℕ → Kind
kind_at i = get_or kinds i (kind "" 0 (λ v. Bad))

-- the kinds of line of two and of four numbers
abbrev pub ask_kind : Kind
ask_kind = kind_at 2

abbrev pub send_kind : Kind
send_kind = kind_at 3

-- what is said of one number is what a kind of line says of it
abbrev pub SaysAs : (ℕ → Line → Type 0) → Kind → Type 0
SaysAs Says k = (v : ℕ) (l : Line) → Says v l → l ≡ k.says (v ∷ [])

-- the line that takes a step, where its numbers make one
abbrev pub step_line : Option Step → Line
step_line None = Bad
step_line (Some s) = Take s

-- the kinds of line that the network brings: about agents, and about messages
abbrev pub agent_kinds : List Kind
agent_kinds = drop 4 kinds

abbrev pub mail_kinds : List Kind
mail_kinds = drop 10 kinds
