-- `written::whole::write_sound` meets its contract.
use mathlib.Core.Path.{refl, ◌∙◌}
use mathlib.Core.List.{[]}
use native.Mathlib.Nat.{zero-add}
use native.Mathlib.Omega.{arith}
use Rattle.std.proofs.Common.{rules}
use Rattle.text.proofs.Fitted.{too_long, fits, at_front_lem}
use Rattle.written.proofs.Pens.{penned_put}
use Rattle.written.proofs.whole.write_sound.Goals as goal

pub returns-then-buf-length : goal.returns-then-buf-length
returns-then-buf-length c =
    rw (too_long c.args.t.now c.args.buf.now {b₀ = []} (record { place = refl; held = refl }) (omega (arith, c.table.ensures.place)))
    (refl, refl)

pub returns : goal.returns
returns c =
    let measured = penned_put c.table.ensures (omega (arith, c.table.ensures.place)) in
    let put = penned_put c.table-2.ensures (omega (arith, measured.place)) in
    rw (fits c.args.t.now c.args.buf.now measured c.if-buf-length.false, measured.place, zero-add)
    (refl, search rules ∙ at_front_lem (omega (arith, measured.place)) put)
