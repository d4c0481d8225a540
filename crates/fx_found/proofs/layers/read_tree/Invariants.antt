use Rattle.std.proofs.Common.{◌≡◌, ℕ, ◌+◌, List, take, true, length}
use Rattle.std.specs.Prelude.{count_by}
use Rattle.fx_layfile.specs.Layer.{TellsImage, ReadsMarked, blocks_in}
use Rattle.fx_found.specs.Image.{blocks_of_layers}
use Rattle.fx_found.specs.Layers.{AreLayers, marks_after}
use Rattle.fx_found.proofs.layers.read_tree.Given as goal

abbrev pub invariant-loop-first : goal.invariant-loop-first
invariant-loop-first g l = record {
  layers : (image : List (List ℕ)) → TellsImage (g.D.Disk.seen l.fn.disk) image → AreLayers (blocks_in image) l.ring l.fn.taken l.tree (take l.first-index l.firsts) l.layers.items;
  marks : l.taken ≡ marks_after l.fn.taken l.layers.items;
  count : count_by (λ mark. mark) l.taken ≡ count_by (λ mark. mark) l.fn.taken + length (blocks_of_layers l.layers.items);
  marked : ReadsMarked (g.D.Disk.seen l.fn.disk) (g.D.Disk.seen l.disk) l.fn.taken l.taken true;
}
