-- A line that is no step. Assumes nothing.
use Rattle.std.specs.Prelude.{Option, Some, None}
use Rattle.records.specs.declared.Code.TheVariants.{BadLine, AlreadyOpen}
use Rattle.table.specs.declared.Table.{Table}
use Rattle.table.specs.Face.{open_table}
use Rattle.grammar.specs.declared.Line.{Line}
use Rattle.grammar.specs.declared.Line.TheVariants.{Bad, Opening, Take}
use Rattle.program.specs.declared.Turn.{Turn}
use Rattle.program.specs.Program.{turned_away, opened_by}

-- an opening goes on, and every other line is answered as one that is not in the grammar
unfoldable pub take_opening : Option Table → Line → Turn
unfolding open_table
take_opening d Bad = turned_away d BadLine
take_opening None (Opening s) = opened_by (open_table s)
take_opening (Some t) (Opening s) = turned_away (Some t) AlreadyOpen
take_opening d (Take s) = turned_away d BadLine
