-- The bound on the layer blocks of a tree, and when there is room for what a transaction adds.
use Rattle.std.specs.Prelude.{◌≡◌, ℕ, ◌+◌, ◌*◌, ◌/◌, ◌≤◌, ◌⊎◌}
use Rattle.fx_item.specs.declared.Sizes.{Sizes}
use Rattle.fx_item.specs.declared.space.Need.{Need}
use Rattle.fx_item.specs.declared.space.Beyond.{Beyond}
use Rattle.fx_item.specs.declared.space.TheConstants.{MAX_GIVEN}

-- At most so many layer blocks: 640 bytes for each item of an object and 128 for each data block,
-- in blocks that are at least half full.
abbrev pub layer_bound : (nodes attributes blocks : ℕ) → ℕ
layer_bound n a b = 8 + (640 * (2 * n + a) + 128 * b + 2047) / 2048

abbrev pub NeedsNothing : Need → Type 0
NeedsNothing need = (need.nodes ≡ 0) × (need.attributes ≡ 0) × (need.blocks ≡ 0)

-- Room by the counts: on a disk of so many blocks with a ring of so many there is place for the
-- data blocks, for those that wait, and for the layers and the ring thrice.
abbrev pub FitsCounted : (disk ring nodes attributes blocks waiting : ℕ) → Type 0
FitsCounted disk ring n a b waiting = b + waiting + 3 * layer_bound n a b + 3 * ring + 2 ≤ disk

-- the ids last
abbrev pub HasIds : (given nodes : ℕ) → Type 0
HasIds given nodes = given + nodes ≤ MAX_GIVEN

-- There is room in a tree of these sizes for this need, with what the counts hold beyond the tree.
abbrev pub HasRoom : (disk ring : ℕ) → Sizes → Need → Beyond → Type 0
HasRoom disk ring tree need beyond =
    NeedsNothing need
    ⊎ (FitsCounted disk ring (tree.nodes + need.nodes + beyond.nodes)
    (tree.attributes + need.attributes + beyond.attributes)
    (tree.blocks + need.blocks + beyond.blocks) beyond.waiting
    × HasIds beyond.given need.nodes)
