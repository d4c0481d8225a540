use Rattle.std.proofs.Common.{◌≡◌, Some, sym, ap, ◌∙◌}
use Rattle.std.specs.List.{slice_get}
use Rattle.fx_item.specs.Item.{item_of, items_of}
use Rattle.fx_audit.proofs.Halves.{got_item}
use Rattle.fx_audit.proofs.room.block_total.Goals as goal

pub blocks_under-sum-requires : goal.blocks_under-sum-requires
blocks_under-sum-requires c =
    let x = c.item-item.result in
    let there : slice_get (items_of c.args.items.now) c.loop-item.item-index ≡ Some (item_of x) = got_item c.args.items.now c.loop-item.item-index x c.loop-item-test.true ∙ ap (λ z. Some (item_of z)) (sym c.item-item.is) in
    (c.requires.standing.apart.good c.loop-item.item-index (item_of x) there).key
