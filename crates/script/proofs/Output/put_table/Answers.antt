-- `script::Output::put_table` meets its contract.
use native.Mathlib.Omega.{arith}
use Rattle.program.proofs.Runs.{came-is, table-no-room, table-within, table-put}
use Rattle.script.proofs.Output.put_table.Goals as goal

pub returns-then-self-clause-put : goal.returns-then-self-clause-put
returns-then-self-clause-put c =
    let out = c.args.self.now in
    came-is (table-no-room out.next out.buffer.now c.args.table.state c.if-self.true)

pub overflow_add-self : goal.overflow_add-self
overflow_add-self c =
    let out = c.args.self.now in
    omega (arith, table-within out.next out.buffer.now c.args.table.state c.if-self.false c.write-answer.ensures.0)

pub returns-clause-put : goal.returns-clause-put
returns-clause-put c =
    let out = c.args.self.now in
    let wrote = c.write-answer.ensures in
    came-is (table-put out.next out.buffer.now c.args.table.state c.if-self.false wrote.0 wrote.1)
