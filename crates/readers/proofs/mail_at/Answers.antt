-- `mail_at` meets its contract: the chain gives the log's messages to the agent.
use Rattle.std.proofs.Common.{rules, tests}
use Rattle.std.proofs.lemmas.Iterator.{YieldsList-from_slice, YieldsList-from_take}
use Rattle.std.proofs.lemmas.Iterator.Consumers.{nth_from_yields_List, YieldsList-from_copied, YieldsList-from_filter, YieldsList-at}
use Rattle.std.proofs.lemmas.Iterator.Adapters.{option_map_id}
use Rattle.rules.specs.Readers.{is_to}
use Rattle.readers.proofs.mail_at.Goals as goal

pub returns : goal.returns
returns c =
    let all = YieldsList-at c.copied.ensures.source (YieldsList-from_slice _ c.iter.ensures.rest) in
    let log = YieldsList-from_take _ (YieldsList-at c.take-log.ensures.source (YieldsList-from_copied all)) c.take-log.ensures.count in
    rw (← option_map_id c.nth.result)
    (nth_from_yields_List c.nth.result c.nth.new.self c.args.place c.nth.ensures.ran
    (YieldsList-from_filter _ (is_to c.args.t.now c.args.a) (YieldsList-at c.filter.ensures.source log) c.filter.ensures.closure (λ x b q k. search (rules, tests))))
