-- `soundness::book::numbers_run` meets its contract.
use Rattle.std.proofs.Common.{ℕ, arith, ◌+◌, get_or, replicate}
use Rattle.std.proofs.lemmas.List.{get_or-replicate, get_or_past}
use Rattle.records.specs.Numbers.{mail_no}
use Rattle.rules.specs.Tests.{party_in, no_counts}
use Rattle.rules.proofs.TestRuns.{numbers-start, numbers_on, numbers-end, counts-on}
use Rattle.soundness.proofs.book.numbers_run.Goals as goal

pub loop-i-init : goal.loop-i-init
loop-i-init c = record { counted = λ k. grind (arith, get_or-replicate {A = ℕ} 64 k 0 0, get_or_past {X = ℕ} (replicate 64 0) k 0); so_far = numbers-start c.args.t.now.sender c.args.t.now.number c.args.t.now.messages no_counts }

pub returns-then-t-i : goal.returns-then-t-i
returns-then-t-i c =
    let t = c.args.t.now in
    let on = numbers_on t.sender t.number t.messages c.loop-i.i c.loop-i.counts (omega arith) in
    grind (arith, on, c.loop-i.invariant.so_far)

pub loop-i-preserved : goal.loop-i-preserved
loop-i-preserved c =
    let t = c.args.t.now in
    let on = numbers_on t.sender t.number t.messages c.loop-i.i c.loop-i.counts (omega arith) in
    let who = (party_in t.sender (mail_no c.loop-i.i)).0 in
    let had = get_or c.loop-i.counts who 0 in
    let counted = counts-on c.loop-i.counts who c.loop-i.i (had + 1) (omega (arith, c.loop-i.invariant.counted who)) c.loop-i.invariant.counted in
    record { counted = grind (arith, counted); so_far = grind (arith, on, c.loop-i.invariant.so_far) }

pub returns : goal.returns
returns c =
    let t = c.args.t.now in
    let end = numbers-end t.sender t.number t.messages c.loop-i.i c.loop-i.counts (omega arith) in
    rw (c.loop-i.invariant.so_far, end)
