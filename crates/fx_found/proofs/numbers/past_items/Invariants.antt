use Rattle.std.proofs.Common.{[], ◌∷◌, take}
use Rattle.fx_item.specs.Item.{items_of}
use Rattle.fx_found.specs.Reading.{MovesOver}
use Rattle.fx_found.proofs.numbers.past_items.Given as goal

abbrev pub invariant-loop-item : goal.invariant-loop-item
invariant-loop-item l = MovesOver l.fn.next l.next (items_of (take l.item-index l.items) ∷ [])
