use Rattle.std.proofs.Common.{sym, subst}
use Rattle.fx_item.specs.Item.{items_of}
use Rattle.fx_layerset.specs.Alike.{IsMergeOf}
use Rattle.fx_layerset.proofs.Replaced.{merged_all}
use Rattle.fx_layerset.proofs.set.LayerSet.merged_batches.Goals as goal

pub returns-clause-batch : goal.returns-clause-batch
returns-clause-batch g c =
    subst (IsMergeOf c.args.self.now.levels.batches) (sym c.of.ensures)
    (merged_all c.args.self.now.levels c.in-Ok.merge (items_of c.in-Ok-drain.items) c.in-Ok.ensures c.in-Ok-drain.ensures.merged)
