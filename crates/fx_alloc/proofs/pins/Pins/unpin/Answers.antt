use Rattle.std.proofs.Common.{◌≡◌, Some, sym, ◌∙◌}
use Rattle.slab.specs.Slab.{get}
use Rattle.fx_alloc.proofs.PinTables.{ArePins-unpinned}
use Rattle.fx_alloc.proofs.pins.Pins.unpin.Goals as goal

pub invariant_of-self : goal.invariant_of-self
invariant_of-self c =
    let here : get c.self.inside.pins c.args.pin ≡ Some c.in-Some.set = sym c.try_remove.ensures.value ∙ c.in-Some.is in
    rw (c.in-Some.ensures.slots, c.drop_empty-self-inside.ensures.kept, c.drop_empty-self-inside.ensures.present)
    (ArePins-unpinned c.self.inside.pins.slots c.self.inside.counts c.count_down-left.new.counts c.drop_empty-self-inside.new.counts c.self.inside.kept.items c.self.inside.present c.args.pin c.in-Some.set c.count_down-left.result
    c.self.invariant here c.count_down-left.ensures.down c.drop_empty-self-inside.ensures.counts c.count_down-left.ensures.left)
