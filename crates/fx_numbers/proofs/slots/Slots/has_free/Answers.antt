use Rattle.std.proofs.Common.{◌<◌, ◌≤◌, List, Option, length, sym, subst, arith}
use Rattle.fx_parts.specs.Parts.{Part}
use Rattle.fx_numbers.specs.Slots.{HasFreeSlot, IsFirstFree, PartMap}
use Rattle.fx_numbers.proofs.PartLists.{some_free, there_is_free}
use Rattle.fx_numbers.proofs.slots.Slots.has_free.Goals as goal

pub returns : goal.returns
returns c =
    let items = c.self.inside.slots.items in
    let free = subst (λ (l : List (Option Part)). IsFirstFree l c.first_free.result) c.as_slice.ensures.value c.first_free.ensures in
    let few : length items ≤ 32 = omega (arith, c.self.invariant, c.self.inside.slots.ok) in (
      λ t. subst (λ (v : PartMap). HasFreeSlot v.parts) c.self.view_is (there_is_free items c.first_free.result free (let lt : c.first_free.result < 32 = grind (arith, t) in lt)),
      λ h. let lt : c.first_free.result < 32 = some_free items c.first_free.result free few (subst (λ (v : PartMap). HasFreeSlot v.parts) (sym c.self.view_is) h) in grind (arith, lt),
    )
