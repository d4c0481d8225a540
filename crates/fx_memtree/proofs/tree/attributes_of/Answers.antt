use Rattle.std.proofs.Common.{rules, tests}
use Rattle.std.specs.BTreeMap.{values}
use Rattle.std.proofs.lemmas.Iterator.{YieldsList-from_map}
use Rattle.std.proofs.lemmas.Iterator.Consumers.{YieldsList-at, YieldsList-from_rest, sum_by_from_yields_List}
use Rattle.fx_plain.specs.Tree.{attribute_count}
use Rattle.fx_memtree.proofs.tree.attributes_of.Goals as goal

pub returns : goal.returns
returns c =
    sum_by_from_yields_List _ _ c.map.result _ c.sum.ensures.ran (YieldsList-from_map _ attribute_count (YieldsList-at c.map.ensures.source (YieldsList-from_rest (values c.args.nodes.now) c.values.ensures.rest)) c.map.ensures.closure (λ x r q k. search (rules, tests)))
