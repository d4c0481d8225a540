use Rattle.std.proofs.Common.{sym, subst, arith}
use Rattle.fx_item.specs.Item.{items_of}
use Rattle.fx_found.specs.Image.{StandInLevels}
use Rattle.fx_found.proofs.Alive.{items_stand}
use Rattle.fx_found.proofs.standing.standing.Goals as goal

pub returns-clause-items : goal.returns-clause-items
returns-clause-items c =
    subst (StandInLevels c.args.set.now.levels) (sym c.without_tombstones-items.ensures)
    (items_stand c.args.set.now.levels c.in_ok-merge.merge c.max-newest.result (items_of c.in-Ok.items) c.in_ok-merge.ensures
    (omega (arith, c.max-newest.ensures, c.object_count.ensures, c.alloc_count.ensures)) (omega (arith, c.max-newest.ensures, c.object_count.ensures, c.alloc_count.ensures)) c.in-Ok.ensures.merged)
