-- `soundness::messages::each_fine` meets its contract.
use Rattle.std.proofs.Common.{rules, tests}
use Rattle.rules.specs.Tests.{message_fine}
use Rattle.records.proofs.LoopLaws.{all-below}
use Rattle.soundness.proofs.messages.each_fine.Goals as goal

pub returns : goal.returns
returns c =
    let t = c.args.t.now in
    all-below (message_fine t.agents t.lock t.agent t.sender t.addressee t.status) t.messages _ _ _ c.all.ensures.ran
    (λ x b q k. search (rules, tests))
