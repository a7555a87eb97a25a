-- The script program: from the bytes on standard input to the bytes on standard output. Assumes nothing.
use Rattle.std.specs.Prelude.{ℕ, suc, cond, Option, Some, None, List, [], ◌∷◌, ◌++◌, length, leb, eqb}
use Rattle.records.specs.declared.Code.{Code}
use Rattle.records.specs.declared.Code.TheVariants.{BadLine, NotOpen, AlreadyOpen}
use Rattle.records.specs.Codes.{code_number}
use Rattle.table.specs.declared.Table.{Table}
use Rattle.table.specs.declared.Answer.{Answer}
use Rattle.table.specs.Face.{open_table, step_table}
use Rattle.text.specs.Decimal.{decimal, bytes}
use Rattle.text.specs.Text.{fields, row, written}
use Rattle.grammar.specs.declared.Line.{Line}
use Rattle.grammar.specs.declared.Line.TheVariants.{Bad, Opening, Take}
use Rattle.program.specs.declared.Turn.{Turn}
use Rattle.grammar.specs.Grammar.{line_of}
use Rattle.grammar.specs.Lines.{lines_of}

-- What a script has come to is its table once an opening was Done, and none before. Here before any opening:
abbrev pub no_desk : Option Table
no_desk = None

-- a line that is refused before it comes to the table
abbrev pub turned_away : Option Table → Code → Turn
turned_away d c = record { desk = d; code = c; number = 0 }

-- an opening's answer opens the script where it is Done, and a step's answer leaves it open
abbrev pub opened_by : Answer → Turn
opened_by r = record { desk = cond (eqb (code_number r.code) 0) (Some r.table) None; code = r.code; number = r.number }

abbrev pub stepped_by : Answer → Turn
stepped_by r = record { desk = Some r.table; code = r.code; number = r.number }

-- one line: 24, then 26 for an opening or 25 for a step, then 22 or the step's own code
unfoldable pub take_line : Option Table → Line → Turn
unfolding open_table step_table
take_line d Bad = turned_away d BadLine
take_line None (Opening s) = opened_by (open_table s)
take_line (Some t) (Opening s) = turned_away (Some t) AlreadyOpen
take_line None (Take s) = turned_away None NotOpen
take_line (Some t) (Take s) = stepped_by (step_table t s)

-- line.K=CODE,NUMBER
unfoldable pub answer_line : ℕ → Code → ℕ → List ℕ
unfolding fields decimal
answer_line k c n = row (bytes "line") k (fields (decimal (code_number c) ∷ decimal n ∷ []))

abbrev pub turn_line : ℕ → Turn → List ℕ
turn_line k r = answer_line k r.code r.number

-- the written table, or state=none if never opened
unfoldable pub closing : Option Table → List ℕ
unfolding written
closing None = bytes "state=none\n"
closing (Some t) = written t.state

-- an answer for each line, counted from k, and then the table
unfoldable pub output_from : Option Table → ℕ → List (List ℕ) → List ℕ
unfolding take_line answer_line closing line_of
output_from d k [] = closing d
output_from d k (l ∷ ls) =
    turn_line k (take_line d (line_of l)) ++ output_from (take_line d (line_of l)).desk (suc k) ls

abbrev pub most_input : ℕ
most_input = 65536

unfoldable pub output_of : List ℕ → List ℕ
unfolding output_from lines_of
output_of input =
    cond (leb (length input) most_input) (output_from no_desk 1 (lines_of input)) (bytes "state=toolong\n")
