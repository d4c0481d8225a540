-- Nodes that paths lead to, as they are gathered.
use Rattle.std.specs.Prelude.{◌≡◌, ◌⊎◌, ℕ, Bool, true, List, length, Some}
use Rattle.std.specs.BTreeSet.{BTreeSet, contains}
use Rattle.fx_item.specs.Look.{ItemMap}
use Rattle.fx_item.specs.LockKey.{key_cmp}
use Rattle.fx_namespace.specs.Nodes.{NodeId, node_at, node_from}
use Rattle.fx_nodes.specs.Lists.{IsIn}

-- the set holds the node
abbrev pub has : BTreeSet NodeId → NodeId → Bool
has set node = contains key_cmp set node

-- The nodes that paths of so many names lead to.
pub record IsLevel (m : ItemMap) (names : ℕ) (level : List NodeId) : Type 0 where
  pub sound : (node : NodeId) → IsIn level node
      → (path : List (List ℕ)) × (length path ≡ names) × (node_at m path ≡ Some node)
  pub whole : (path : List (List ℕ)) (node : NodeId) → length path ≡ names
      → node_at m path ≡ Some node → IsIn level node

-- Names lead from one of the seeds to the node.
abbrev pub IsReachedFrom : ItemMap → List NodeId → NodeId → Type 0
IsReachedFrom m seeds node = (seed : NodeId) × (path : List (List ℕ)) × IsIn seeds seed
    × (node_from m seed path ≡ Some node)

-- Nodes were taken out of a set: those that were in it.
pub record AreTaken (old now : NodeId → Bool) (nodes fresh : List NodeId) : Type 0 where
  pub came : (node : NodeId) → IsIn fresh node → IsIn nodes node × (old node ≡ true)
  pub taken : (node : NodeId) → IsIn nodes node → old node ≡ true → IsIn fresh node
  pub rest : (node : NodeId) → now node ≡ true → (old node ≡ true) × (IsIn nodes node → ⊥)
  pub kept : (node : NodeId) → old node ≡ true → (now node ≡ true) ⊎ IsIn fresh node

-- All nodes that the seeds reach were taken out of a set.
pub record AreReached (m : ItemMap) (old now : NodeId → Bool)
    (seeds all : List NodeId) : Type 0 where
  pub sound : (node : NodeId) → IsIn all node → IsReachedFrom m seeds node
  pub whole : (node : NodeId) → IsReachedFrom m seeds node → IsIn all node
  pub rest : (node : NodeId) → now node ≡ true → (old node ≡ true) × (IsIn all node → ⊥)
  pub kept : (node : NodeId) → old node ≡ true → (now node ≡ true) ⊎ IsIn all node

-- The set holds these nodes, and those that it held before.
pub record AreAdded (old now : NodeId → Bool) (nodes : List NodeId) : Type 0 where
  pub held : (node : NodeId) → now node ≡ true → (old node ≡ true) ⊎ IsIn nodes node
  pub kept : (node : NodeId) → old node ≡ true → now node ≡ true
  pub added : (node : NodeId) → IsIn nodes node → now node ≡ true
