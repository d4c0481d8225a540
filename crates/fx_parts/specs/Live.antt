-- What stands at each point of the items that lists make, and what of it belongs to a node.
use Rattle.std.specs.Prelude.{◌≡◌, ℕ, List, map, Option, None, Some, if◌then◌else◌}
use Rattle.fx_item.specs.Item.{PlainKey, ObjectKey, AttributeKey, ExtentKey, ChildKey, GraveKey, AllocationKey, PlainItem}
use Rattle.fx_item.specs.Look.{ItemMap, is_point_key, value_of_entry}
use Rattle.fx_item.specs.Overlay.{Point, AtKey, AtFileBlock, AtDeviceBlock, Entry, live_in, overlay, says}
use Rattle.fx_plain.specs.Bare.{bare}
use Rattle.fx_plain.specs.Tree.{Tree}
use Rattle.fx_plain.specs.declared.kind.Kind.{Kind}
use Rattle.fx_namespace.specs.Nodes.{NodeId, Stands, kind_of}
use Rattle.fx_namespace.specs.Trees.{IsTreeOf}
use Rattle.fx_namespace.specs.Trees as holdings

-- what stands at each point
abbrev pub LiveMap : Type 0
LiveMap = Point → Option Entry

-- what lists of items make, the newest first
abbrev pub live_in_lists : List (List PlainItem) → LiveMap
live_in_lists lists = live_in (overlay (map says lists))

-- what one more list leaves of what stood
abbrev pub laid_over : List PlainItem → LiveMap → LiveMap
laid_over items live point = elim (says items point) [ Some entry ↦ entry | None ↦ live point ]

-- the map of point keys, which names are read off
abbrev pub name_map : LiveMap → ItemMap
name_map live key = if is_point_key key then value_of_entry (live (AtKey key)) else None

abbrev node_named : (store id : ℕ) → Option NodeId
node_named store id = Some (record { store = store; id = id })

-- the node that a key is about: what it is, its attributes, blocks and children, its place in the
-- graveyard. A block of the device belongs to none.
abbrev pub node_of_key : PlainKey → Option NodeId
node_of_key (ObjectKey store id) = node_named store id
node_of_key (AttributeKey store id name) = node_named store id
node_of_key (ExtentKey store id start stop) = node_named store id
node_of_key (ChildKey store id name) = node_named store id
node_of_key (GraveKey store id) = node_named store id
node_of_key (AllocationKey start stop) = None

abbrev pub node_of_point : Point → Option NodeId
node_of_point (AtKey key) = node_of_key key
node_of_point (AtFileBlock store id place) = node_named store id
node_of_point (AtDeviceBlock block) = None

-- both have the same at every point of the node
abbrev pub AgreeAt : NodeId → LiveMap → LiveMap → Type 0
AgreeAt node m n = (point : Point) → node_of_point point ≡ Some node → n point ≡ m point

-- both have the same at every point
abbrev pub AgreeAll : LiveMap → LiveMap → Type 0
AgreeAll m n = (point : Point) → n point ≡ m point

-- nothing stands at any point of the node
abbrev pub IsUnusedNode : LiveMap → NodeId → Type 0
IsUnusedNode m node = (point : Point) → node_of_point point ≡ Some node → m point ≡ None

-- the node is there: it is the root, or its Object stands
abbrev pub IsNodeThere : LiveMap → NodeId → Type 0
IsNodeThere m node = (kind : Kind) × (kind_of (name_map m) node ≡ Some kind)

-- What stands makes this tree of names. What files hold is not kept yet.
pub record MakesNames (live : LiveMap) (tree : Tree) : Type 0 where
  pub stands : Stands (name_map live)
  pub tree_is : IsTreeOf (name_map live) holdings.bare (bare tree)
