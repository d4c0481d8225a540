use Rattle.std.proofs.Common.{◌∙◌, rules, tests}
use Rattle.std.proofs.lemmas.Iterator.Consumers.{YieldsList-at, YieldsList-from_filter, count_from_yields_List}
use Rattle.std.proofs.lemmas.Iterator.{YieldsList-from_slice}
use Rattle.std.proofs.lemmas.List.Sums.{length-filter}
use Rattle.fx_numbers.specs.Slots.{is_promise}
use Rattle.fx_numbers.proofs.slots.promises.Goals as goal

pub returns-clause-count : goal.returns-clause-count
returns-clause-count c =
    count_from_yields_List c.filter.result c.count.result c.count.ensures.ran (YieldsList-from_filter _ is_promise (YieldsList-at c.filter.ensures.source (YieldsList-from_slice c.args.slots.now c.iter.ensures.rest)) c.filter.ensures.closure (λ x b q k. search (rules, tests)))
    ∙ length-filter is_promise c.args.slots.now
