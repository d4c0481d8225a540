-- The graveyard.
use Rattle.std.specs.Prelude.{◌≡◌, ℕ, ◌+◌, ◌*◌, ◌^◌, ◌<◌, ◌≤◌, true, false, List, Option, Some, None, slice_get}
use Rattle.std.specs.declared.cmp.Ordering.TheVariants.{Less}
use Rattle.fx_item.specs.Item.{PlainKey, ObjectKey, AttributeKey, ExtentKey, ChildKey, GraveKey, AllocationKey, PlainItem, PlainValue}
use Rattle.fx_item.specs.LockKey.{key_cmp}
use Rattle.fx_item.specs.Look.{ItemMap}
use Rattle.fx_namespace.specs.Nodes.{NodeId}
use Rattle.fx_node.specs.declared.graveyard.NextNode.{NextNode}

-- the node waits in the graveyard
abbrev pub Waits : ItemMap → NodeId → Type 0
Waits m node = (grave : PlainValue) × (m (GraveKey node.store node.id) ≡ Some grave)

-- the node is one that a key can name
pub record HasNumbers (node : NodeId) : Type 0 where
  pub store : node.store < 2 ^ 32
  pub id : node.id < 2 ^ 64

-- the nodes that wait in the graveyard, each once, by store and id
pub record AreGraves (m : ItemMap) (nodes : List NodeId) : Type 0 where
  pub there : (i : ℕ) (node : NodeId) → slice_get nodes i ≡ Some node → Waits m node
  pub all : (node : NodeId) → HasNumbers node → Waits m node
      → (i : ℕ) × (slice_get nodes i ≡ Some node)
  pub rising : (i j : ℕ) (x y : NodeId) → i < j → slice_get nodes i ≡ Some x
      → slice_get nodes j ≡ Some y → key_cmp x y ≡ Less

-- ---- nodes by one number

-- the place of a node among all, by store and id
abbrev pub node_rank : NodeId → ℕ
node_rank node = node.store * 2 ^ 64 + node.id

-- the places before this node, or all of them
abbrev pub rank_from : Option NodeId → ℕ
rank_from None = 2 ^ 96
rank_from (Some node) = node_rank node

-- From a node on none waits up to the one that is found. That one waits; or it lies behind the node
-- and may wait.
abbrev pub IsNextNodeIn : ItemMap → NodeId → Option NextNode → Type 0
IsNextNodeIn m from None =
    (other : NodeId) → HasNumbers other → node_rank from ≤ node_rank other → Waits m other → ⊥
IsNextNodeIn m from (Some next) = HasNumbers next.node
    × ((other : NodeId) → HasNumbers other → node_rank from ≤ node_rank other
    → node_rank other < node_rank next.node → Waits m other → ⊥)
    × (next.waits ≡ true → Waits m next.node × (node_rank from ≤ node_rank next.node))
    × (next.waits ≡ false → node_rank from < node_rank next.node)

-- the node of a key, and whether it is that of a grave
abbrev pub node_by_key : PlainKey → Option NextNode
node_by_key (ObjectKey s i) = Some (record { node = record { store = s; id = i }; waits = false })
node_by_key (AttributeKey s i name) =
    Some (record { node = record { store = s; id = i }; waits = false })
node_by_key (ExtentKey s i start stop) =
    Some (record { node = record { store = s; id = i }; waits = false })
node_by_key (ChildKey s i name) =
    Some (record { node = record { store = s; id = i }; waits = false })
node_by_key (GraveKey s i) = Some (record { node = record { store = s; id = i }; waits = true })
node_by_key (AllocationKey start stop) = None

abbrev pub next_node_by : Option PlainItem → Option NextNode
next_node_by None = None
next_node_by (Some x) = node_by_key x.key
