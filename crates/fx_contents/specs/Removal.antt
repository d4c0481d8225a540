-- Nodes that come, nodes that are removed into the graveyard, and nodes that go from there.
use Rattle.std.specs.Prelude.{◌≡◌, ◌≢◌, ◌⊎◌, ℕ, List, Some, None}
use Rattle.fx_item.specs.Item.{PlainKey, ObjectKey, AttributeKey, ChildKey, GraveKey, PlainValue, ChildValue}
use Rattle.fx_item.specs.Look.{ItemMap}
use Rattle.fx_item.specs.Overlay.{Point, AtKey, AtFileBlock, AtDeviceBlock}
use Rattle.fx_namespace.specs.Nodes.{NodeId}
use Rattle.fx_contents.specs.Points.{Points, value_under}
use Rattle.fx_contents.specs.Standing.{AreWithin}

-- The items gain one node that none of them spoke of: its Object, and its entry in a directory.
pub record GainsEmpty (m n : Points) (parent : NodeId) (name : List ℕ) (node : NodeId)
    (value : PlainValue) : Type 0 where
  pub fresh : value_under m (ObjectKey node.store node.id) ≡ None
  pub object : value_under n (ObjectKey node.store node.id) ≡ Some value
  pub entry : value_under n (ChildKey parent.store parent.id name)
      ≡ Some (ChildValue node.store node.id)
  pub others : (p : Point) → p ≢ AtKey (ObjectKey node.store node.id)
      → p ≢ AtKey (ChildKey parent.store parent.id name)
      → ((b : ℕ) → p ≢ AtDeviceBlock b) → n p ≡ m p

-- A node is removed: its entry in a directory goes, it waits in the graveyard, and all that it has
-- stays.
pub record Buries (m n : Points) (parent : NodeId) (name : List ℕ) (node : NodeId) : Type 0 where
  pub entry : value_under m (ChildKey parent.store parent.id name)
      ≡ Some (ChildValue node.store node.id)
  pub gone : value_under n (ChildKey parent.store parent.id name) ≡ None
  pub waits : (grave : PlainValue) × (value_under n (GraveKey node.store node.id) ≡ Some grave)
  pub others : (p : Point) → p ≢ AtKey (ChildKey parent.store parent.id name)
      → p ≢ AtKey (GraveKey node.store node.id) → ((b : ℕ) → p ≢ AtDeviceBlock b) → n p ≡ m p

-- The point is neither the Object nor the grave of a node, none of its blocks or attributes, and no
-- block of the device.
pub record IsBesideNode (node : NodeId) (p : Point) : Type 0 where
  pub object : p ≢ AtKey (ObjectKey node.store node.id)
  pub grave : p ≢ AtKey (GraveKey node.store node.id)
  pub file : (k : ℕ) → p ≢ AtFileBlock node.store node.id k
  pub attribute : (name : List ℕ) → p ≢ AtKey (AttributeKey node.store node.id name)
  pub device : (b : ℕ) → p ≢ AtDeviceBlock b

-- Upkeep: a node that waits in the graveyard loses some of what it has, or waits no more and has no
-- Object. Nothing else changes but for blocks of the device.
pub record Trims (m n : Points) (node : NodeId) : Type 0 where
  pub grave : PlainValue
  pub waits : value_under m (GraveKey node.store node.id) ≡ Some grave
  pub after : (value_under n (GraveKey node.store node.id) ≡ Some grave)
      ⊎ (value_under n (ObjectKey node.store node.id) ≡ None)
  pub within : AreWithin n
  pub others : (p : Point) → IsBesideNode node p → n p ≡ m p

-- What the names see of a removal: the Object and the entry go, and nothing else changes.
pub record LosesNode (m n : ItemMap) (parent : NodeId) (name : List ℕ)
    (node : NodeId) : Type 0 where
  pub entry : m (ChildKey parent.store parent.id name) ≡ Some (ChildValue node.store node.id)
  pub no_entry : n (ChildKey parent.store parent.id name) ≡ None
  pub no_object : n (ObjectKey node.store node.id) ≡ None
  pub others : (key : PlainKey) → key ≢ ObjectKey node.store node.id
      → key ≢ ChildKey parent.store parent.id name → n key ≡ m key
