use Rattle.text.specs.Rows.{message_row}
use Rattle.written.proofs.place.Pen.messages.Given as goal

abbrev pub ghost-rows : goal.ghost-rows
ghost-rows a = let t = a.row.0.now in message_row t.sender t.number t.addressee t.value t.status
