use Rattle.text.specs.Rows.{log_row}
use Rattle.written.proofs.place.Pen.log.Given as goal

abbrev pub ghost-rows : goal.ghost-rows
ghost-rows a = log_row a.row.0.now.log
