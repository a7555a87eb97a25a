use Rattle.text.specs.Rows.{agent_row}
use Rattle.written.proofs.place.Pen.agents.Given as goal

abbrev pub ghost-rows : goal.ghost-rows
ghost-rows a = agent_row a.row.0.now.agent
