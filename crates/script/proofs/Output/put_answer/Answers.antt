-- `script::Output::put_answer` meets its contract.
use Prim.Native.Nat.{ℕ}
use mathlib.Core.Path.{ap, ap₂, ◌∙◌}
use mathlib.Core.List.{List, [], ◌∷◌}
use native.Mathlib.Omega.{arith}
use Rattle.text.specs.Decimal.{decimal, bytes}
use Rattle.text.specs.Placing.{PutWithin}
use Rattle.text.specs.Text.{fields, row}
use Rattle.text.proofs.Placing.{put_front}
use Rattle.program.specs.Program.{answer_line, turn_line}
use Rattle.program.specs.Running.{from}
use Rattle.script.proofs.Output.put_answer.Goals as goal

-- the line stands at the front of the room, which is long enough for it
pub returns-clause-put : goal.returns-clause-put
unfolding answer_line
returns-clause-put c =
    let line = c.answer_line-count in
    let turn = c.args.turn.now in
    let out = c.args.self.now in
    let line_showing : ℕ → List ℕ =
    λ shown. row (bytes "line") c.args.k (fields (decimal shown ∷ decimal turn.number ∷ [])) in
    let front = put_front (omega (arith, line.ensures.0.place, line.ensures.1)) line.ensures.0 in
    let put : PutWithin (turn_line c.args.k turn) out.buffer.now c.put_text-self.new.buf out.next c.put_text-self.result =
    rw (← (front ∙ ap line_showing c.from-shown.ensures)) c.put_text-self.ensures in
    ap₂ from put.place put.held
