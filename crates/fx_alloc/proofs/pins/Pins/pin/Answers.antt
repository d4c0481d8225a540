use Rattle.std.proofs.Common.{◌≡◌, ℕ, List, Option, sym, ap, subst, arith}
use Rattle.slab.specs.Slab.{Slab}
use Rattle.fx_alloc.specs.Pins.{pins_of}
use Rattle.fx_alloc.specs.PinCounts.{ArePins}
use Rattle.fx_alloc.proofs.PinLists.{pins_of-few}
use Rattle.fx_alloc.proofs.PinTables.{ArePins-pinned}
use Rattle.fx_alloc.proofs.pins.Pins.pin.Goals as goal

pub count_up-requires-clause-few : goal.count_up-requires-clause-few
count_up-requires-clause-few c =
    let slots : c.reserve.new.self.slots ≡ c.self.inside.pins.slots = ap (λ (s : Slab ℕ). s.slots) c.in_ok-reserve.ensures.rest_kept in
    omega (arith, c.in_ok-set.ensures.ok.same c.in_ok-set.set, c.self.invariant.counted c.in_ok-set.set, ap (λ (ss : List (Option ℕ)). pins_of ss c.in_ok-set.set) slots, pins_of-few c.reserve.new.self.slots c.in_ok-set.set, c.in_ok-reserve.ensures.room)

pub invariant_of-self-2 : goal.invariant_of-self-2
invariant_of-self-2 c =
    let slots : c.reserve.new.self.slots ≡ c.self.inside.pins.slots = ap (λ (s : Slab ℕ). s.slots) c.in_ok-reserve.ensures.rest_kept in
    ArePins-pinned c.reserve.new.self.slots c.insert_reserved.new.self.slots c.self.inside.counts c.present_set.new.counts c.count_up.new.counts c.self.inside.kept.items c.present_set.new.kept.items c.self.inside.present _ c.insert_reserved.result c.in_ok-set.set
    (subst (λ (ss : List (Option ℕ)). ArePins ss c.self.inside.counts c.self.inside.kept.items c.self.inside.present) (sym slots) c.self.invariant)
    c.in_ok-set.ensures.ok c.count_up.ensures c.insert_reserved.ensures.was_vacant c.insert_reserved.ensures.updates.changed c.insert_reserved.ensures.updates.others
