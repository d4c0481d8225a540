use Rattle.std.proofs.Common.{◌≡◌, ℕ, List, take, true, None}
use Rattle.std.specs.Prelude.{All}
use Rattle.fx_item.specs.Item.{items_of}
use Rattle.fx_item.specs.Order.{is_ascending}
use Rattle.fx_layfile.specs.Block.{IsOfTree}
use Rattle.fx_layfile.specs.Layer.{AreUnmarked, mark_blocks, blocks_in, TellsImage, ReadsMarked}
use Rattle.fx_layfile.specs.Reading.{Gathers}
use Rattle.fx_layfile.proofs.reading.read_data.Given as goal

abbrev pub invariant-loop-at : goal.invariant-loop-at
invariant-loop-at g l = record {
  places : AreUnmarked l.ring l.fn.taken (take l.at-index l.names);
  marks : l.taken ≡ mark_blocks l.fn.taken (take l.at-index l.names);
  good : All (IsOfTree l.tree) (items_of l.items.items);
  rises : l.disorder ≡ None → is_ascending (items_of l.items.items) ≡ true;
  gathers : (image : List (List ℕ)) → TellsImage (g.D.Disk.seen l.fn.disk) image → Gathers (blocks_in image) l.tree (take l.at-index l.names) (items_of l.items.items) l.disorder;
  marked : ReadsMarked (g.D.Disk.seen l.fn.disk) (g.D.Disk.seen l.disk) l.fn.taken l.taken true;
}
