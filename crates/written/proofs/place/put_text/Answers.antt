-- `written::place::put_text` meets its contract.
use mathlib.Core.Path.{sym}
use native.Mathlib.Omega.{arith}
use Rattle.text.proofs.Placing.{put-past, place-past}
use Rattle.written.proofs.place.put_text.Goals as goal

pub returns-then-buf-at : goal.returns-then-buf-at
returns-then-buf-at c =
    let args = c.args in
    let text = args.text.now in
    let buf = args.buf.now in
    record { place = sym (place-past text buf args.at c.if-buf-at.true); held = put-past text buf args.at (omega arith) }
