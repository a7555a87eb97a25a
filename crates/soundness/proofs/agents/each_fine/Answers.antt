-- `soundness::agents::each_fine` meets its contract.
use Rattle.std.proofs.Common.{rules, tests}
use Rattle.rules.specs.Tests.{agent_fine}
use Rattle.records.proofs.LoopLaws.{all-below}
use Rattle.soundness.proofs.agents.each_fine.Goals as goal

pub returns : goal.returns
returns c =
    let t = c.args.t.now in
    all-below (agent_fine t.sites t.agents t.lock t.agent) t.agents _ _ _ c.all.ensures.ran (λ x b q k. search (rules, tests))
