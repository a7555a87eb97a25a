-- `soundness::book::delivered` meets its contract.
use Rattle.std.proofs.Common.{◌≡◌, ℕ, ◌≤◌, ◌<◌, true, false, get_or, min, arith, refl, sym, ap, ◌∙◌}
use Rattle.std.proofs.Math.ListN.{get_or-eq_default}
use Rattle.std.specs.Bool.{beq}
use Rattle.records.specs.Messages.{is_delivered}
use Rattle.records.specs.Numbers.{mail_no}
use Rattle.records.specs.Places.{all_below}
use Rattle.records.specs.declared.Status.{Status}
use Rattle.records.specs.declared.Status.TheVariants.{Queued}
use Rattle.rules.specs.Tests.{delivered, status_in}
use Rattle.records.proofs.LoopLaws.{below_on, below-past}
use Rattle.soundness.proofs.book.delivered.Goals as goal

pub loop-i-init : goal.loop-i-init
unfolding all_below
loop-i-init c = refl

pub loop-i-preserved : goal.loop-i-preserved
loop-i-preserved c =
    let marked = λ (j : ℕ). beq (get_or c.args.seen.now j false) (is_delivered (status_in c.args.status.now (mail_no j))) in
    rw c.is_delivered.ensures (below_on marked c.loop-i.i c.loop-i.fine c.loop-i.invariant)

pub returns : goal.returns
unfolding delivered
returns c =
    let n = c.args.messages in
    let status = c.args.status.now in
    let seen = c.args.seen.now in
    let marked = λ (j : ℕ). beq (get_or seen j false) (is_delivered (status_in status (mail_no j))) in
    let end : c.loop-i.i ≡ min 512 n = omega arith in
    let past : (i : ℕ) → min 512 n ≤ i → i < n → marked i ≡ true =
    λ i le lt.
    let unmarked : get_or seen i false ≡ false = get_or-eq_default seen false (omega (arith, c.told-seen)) in
    let queued : get_or status i Queued ≡ Queued = get_or-eq_default status Queued (omega (arith, c.told-status)) in
    ap (λ b. beq b (is_delivered (status_in status (mail_no i)))) unmarked
    ∙ ap (λ (x : Status). beq false (is_delivered x)) queued in
    c.loop-i.invariant
    ∙ ap (λ (m : ℕ). all_below m marked) end
    ∙ sym (below-past marked (min 512 n) n past (omega arith))
