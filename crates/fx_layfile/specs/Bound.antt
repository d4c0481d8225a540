-- How many blocks the layers of a tree have at most.
use Rattle.std.specs.Prelude.{ℕ, ◌+◌, ◌-◌, ◌≤◌, Bool, true, false, List, All, count_by}
use Rattle.std.specs.List.{sum_by}
use Rattle.fx_item.specs.Item.{PlainKey, ChildKey, GraveKey, AllocationKey, PlainItem}
use Rattle.fx_item.specs.SpaceRule.{layer_bound}
use Rattle.fx_sound.specs.Image.{node_total, attribute_total, block_total}
use Rattle.fx_layfile.specs.Block.{IsOfTree}
use Rattle.fx_layfile.specs.Writing.{layer_blocks}

-- what names a node: a child of a directory, or the graveyard
abbrev pub is_naming_key : PlainKey → Bool
is_naming_key (ChildKey store id name) = true
is_naming_key (GraveKey store id) = true
is_naming_key _ = false

-- how many blocks of the device a key speaks of
abbrev pub blocks_in_range : PlainKey → ℕ
blocks_in_range (AllocationKey start stop) = stop - start
blocks_in_range _ = 0

-- Items that speak of at most so many nodes, those in the graveyard included, attributes and data
-- blocks: each node has one item, and one that names it; each data block lies in one extent, and
-- in one range of the allocator. Where tombstones are dropped, the items of a tree of these sizes
-- are such items; a tombstone counts as what it would name.
pub record AreOfSizes (nodes attributes blocks : ℕ) (objects allocs : List PlainItem) : Type 0 where
  pub objects_good : All (IsOfTree 1) objects
  pub allocs_good : All (IsOfTree 2) allocs
  pub of_nodes : node_total objects ≤ nodes
  pub of_names : count_by (λ x. is_naming_key x.key) objects ≤ nodes
  pub of_attributes : attribute_total objects ≤ attributes
  pub of_extents : block_total objects ≤ blocks
  pub of_ranges : sum_by (λ x. blocks_in_range x.key) allocs ≤ blocks

-- The layers of both trees have at most as many blocks as the rule of space sets aside for them.
abbrev pub LayerBoundLaw : Type 0
LayerBoundLaw = (nodes attributes blocks : ℕ) (objects allocs : List PlainItem)
    → AreOfSizes nodes attributes blocks objects allocs
    → layer_blocks objects + layer_blocks allocs ≤ layer_bound nodes attributes blocks
