use Rattle.std.proofs.Common.{◌∙◌, arith}
use Rattle.std.specs.FinMap as map
use Rattle.fx_memtree.proofs.CarriedTree.{one_more_place}
use Rattle.fx_memtree.proofs.tree.MemoryTree.make_places.Goals as goal

pub loop-carry-preserved : goal.loop-carry-preserved
loop-carry-preserved c =
    c.in_ok-insert.ensures.ok
    ∙ (λ i. map.insert c.loop-carry.self (c.as_slice.ensures i) (c.dir.ensures i))
    ∙ one_more_place c.args.self.now c.loop-carry.self c.args.carries.now c.loop-carry.carry-index c.carry-item.result c.loop-carry.invariant (omega arith) c.carry-item.is
