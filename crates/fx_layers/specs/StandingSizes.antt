-- The items of a sound image by their trees, and how many they are.
use Rattle.std.specs.Prelude.{ℕ, ◌+◌, ◌≤◌, ◌==◌, List, filter}
use Rattle.fx_item.specs.Item.{PlainItem}
use Rattle.fx_layfile.specs.Block.{tree_of_key}
use Rattle.fx_layfile.specs.Bound.{AreOfSizes}
use Rattle.fx_layfile.specs.Writing.{layer_blocks}
use Rattle.fx_sound.specs.Image.{PlainImage, AreStanding, node_total, attribute_total, block_total, layers_wanted}
use Rattle.fx_sound.specs.Parts.{HasTree, HasTrueAllocations}

-- those of one tree: 1 that of the objects, 2 that of the allocator
abbrev pub items_in_tree : ℕ → List PlainItem → List PlainItem
items_in_tree tree items = filter (λ x. tree_of_key x.key == tree) items

-- Where items stand for a tree and the allocator has what files have, the items of both trees speak of
-- no more nodes, attributes and blocks than the tree has, graveyard included.
abbrev pub StandingSizesLaw : Type 0
StandingSizesLaw = (image : PlainImage) → AreStanding image.items → HasTree image
    → HasTrueAllocations image
    → AreOfSizes (node_total image.items) (attribute_total image.items) (block_total image.items)
    (items_in_tree 1 image.items) (items_in_tree 2 image.items)

-- So what such an image sets aside for a whole new set of layers is enough.
abbrev pub NewLayersFitLaw : Type 0
NewLayersFitLaw = (image : PlainImage) → AreStanding image.items → HasTree image
    → HasTrueAllocations image
    → layer_blocks (items_in_tree 1 image.items) + layer_blocks (items_in_tree 2 image.items)
    ≤ layers_wanted image.items
