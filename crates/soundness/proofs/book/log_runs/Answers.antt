-- `soundness::book::log_runs` meets its contract.
use Rattle.std.proofs.Common.{arith}
use Rattle.std.proofs.lemmas.List.{get_or-take}
use Rattle.records.specs.Messages.{empty_entry}
use Rattle.rules.proofs.TestRuns.{log-on, log-end}
use Rattle.soundness.proofs.book.log_runs.Goals as goal
use Rattle.soundness.proofs.book.log_runs.Goals.{then-entry-t, else-entry-t}

pub returns-then-not-fresh : goal.returns-then-not-fresh
returns-then-not-fresh c =
    let t = c.args.t.now in
    let i = c.loop-entry.entry-index in
    let on = log-on t.messages t.status t.log t.handed i c.loop-entry.seen (omega arith) in
    let read = get_or-take t.handed t.log i empty_entry (omega arith) in
    elim c.if-entry-t.branch [
      | then-entry-t w ↦ grind (arith, on, read, c.loop-entry.invariant)
      | else-entry-t w ↦ grind (arith, on, read, c.loop-entry.invariant)
    ]

pub loop-entry-preserved : goal.loop-entry-preserved
loop-entry-preserved c =
    let t = c.args.t.now in
    let i = c.loop-entry.entry-index in
    let on = log-on t.messages t.status t.log t.handed i c.loop-entry.seen (omega arith) in
    let read = get_or-take t.handed t.log i empty_entry (omega arith) in
    elim c.if-entry-t.branch [
      | then-entry-t w ↦ grind (arith, on, read, c.loop-entry.invariant)
      | else-entry-t w ↦ grind (arith, on, read, c.loop-entry.invariant)
    ]

pub returns : goal.returns
returns c =
    let t = c.args.t.now in
    let end = log-end t.messages t.status t.log t.handed c.loop-entry.entry-index c.loop-entry.seen (omega arith) in
    rw (c.delivered.ensures, c.loop-entry.invariant, end)
