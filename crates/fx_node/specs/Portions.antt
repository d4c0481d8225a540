-- What one portion takes away of a node in the graveyard.
use Rattle.std.specs.Prelude.{◌≡◌, ℕ, ◌-◌, Bool, true, false, List, [], ◌∷◌, ◌++◌, length, map, IsPermutation, IsSorted, if◌then◌else◌}
use Rattle.std.specs.List.{flat_map, range_with_len}
use Rattle.std.specs.Ordering.{nat_cmp}
use Rattle.fx_item.specs.Item.{PlainKey, ObjectKey, AttributeKey, ExtentKey, GraveKey, PlainItem, GoneValue, items_of}
use Rattle.fx_item.specs.declared.Sizes.{Sizes}
use Rattle.fx_item.specs.declared.space.Delta.{Delta}
use Rattle.fx_namespace.specs.Nodes.{NodeId}
use Rattle.fx_contents.specs.Points.{Points}
use Rattle.fx_node.specs.Held.{AreFirstNames, AreFirstRuns}
use Rattle.fx_node.specs.declared.holding.BlockRun.{BlockRun}
use Rattle.fx_node.specs.declared.reaping.Portion.{Portion}
use Rattle.fx_node.specs.declared.reaping.TheConstants.{MAX_PORTION}

-- A portion takes attributes first, and runs of blocks once it has all attributes. It is the last
-- where it has all of both; else it takes as many as a portion may.
pub data TakesPart (m : Points) (node : NodeId) (names : List (List ℕ)) (runs : List BlockRun)
    : Bool → Type 0 where
  SomeNames : AreFirstNames m node MAX_PORTION names false → runs ≡ []
      → TakesPart m node names runs false
  AllNames : (last : Bool) → AreFirstNames m node MAX_PORTION names true
      → AreFirstRuns m node (MAX_PORTION - length names) runs last
      → TakesPart m node names runs last

-- the key has nothing any more
abbrev pub gone : PlainKey → PlainItem
gone key = record { key = key; value = GoneValue }

abbrev pub attribute_gone : NodeId → List ℕ → PlainItem
attribute_gone node name = gone (AttributeKey node.store node.id name)

abbrev pub run_gone : NodeId → BlockRun → PlainItem
run_gone node run = gone (ExtentKey node.store node.id run.start run.end)

abbrev pub when : Bool → PlainItem → List PlainItem
when last item = if last then item ∷ [] else []

-- the tombstones of a portion: with the last one those of the node itself and of its grave
abbrev pub portion_items : NodeId → Bool → List (List ℕ) → List BlockRun → List PlainItem
portion_items node last names runs = when last (gone (ObjectKey node.store node.id))
    ++ map (attribute_gone node) names ++ map (run_gone node) runs
    ++ when last (gone (GraveKey node.store node.id))

-- the blocks of the device in which a run lies
abbrev pub blocks_of_run : BlockRun → List ℕ
blocks_of_run run = range_with_len run.block (run.end - run.start)

abbrev no_sizes : Sizes
no_sizes = record { nodes = 0; attributes = 0; blocks = 0 }

-- the graveyard loses these, and the tree nothing
abbrev pub reaped_alone : Sizes → Delta
reaped_alone sizes = record {
  more = no_sizes;
  less = no_sizes;
  buried = no_sizes;
  reaped = sizes;
}

-- the node itself in the last portion, and so many of its attributes and blocks
abbrev pub portion_sizes : (last : Bool) → (attributes blocks : ℕ) → Sizes
portion_sizes last attributes blocks = record {
  nodes = if last then 1 else 0;
  attributes = attributes;
  blocks = blocks;
}

-- A portion of a node: what it takes, told by its items, its blocks in order, and its sizes.
pub record IsPortionOf (m : Points) (node : NodeId) (portion : Portion) : Type 0 where
  pub names : List (List ℕ)
  pub runs : List BlockRun
  pub takes : TakesPart m node names runs portion.last
  pub items : items_of portion.items ≡ portion_items node portion.last names runs
  pub freed : IsPermutation (flat_map blocks_of_run runs) portion.frees
  pub sorted : IsSorted nat_cmp portion.frees
  pub delta : portion.delta
      ≡ reaped_alone (portion_sizes portion.last (length names) (length portion.frees))
