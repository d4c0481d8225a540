-- Where items with blocks, attributes and graves do not stand.
use Rattle.std.specs.Prelude.{◌≡◌, ◌⊎◌, ℕ, ◌+◌, ◌<◌, ◌≤◌, List, Some, IsTrue}
use Rattle.std.specs.Ordering.{is_le}
use Rattle.fx_item.specs.Item.{AttributeKey, GraveKey, PlainValue}
use Rattle.fx_item.specs.LockKey.{key_cmp}
use Rattle.fx_item.specs.Overlay.{AtFileBlock, Entry}
use Rattle.fx_namespace.specs.Nodes.{NodeId, root_node}
use Rattle.fx_namespace.specs.Wrong.{IsWrongAt}
use Rattle.fx_contents.specs.Points.{Points, value_under, named, device_block}
use Rattle.fx_contents.specs.Standing.{HasObject, IsInFile}

-- What is wrong at a node of a disk with so many blocks and a ring of so many.
pub data IsAmissAt (ring disk : ℕ) (m : Points) (node : NodeId) : Type 0 where
  -- The names are wrong there. A node that waits in the graveyard has no Object for them: a child
  -- that leads to it, or that it has, is wrong.
  NamesAmiss : IsWrongAt (named m) node → IsAmissAt ring disk m node
  -- it is the root, and waits in the graveyard
  WaitingRoot : (value : PlainValue) → node ≡ root_node → value_under m (GraveKey 0 0) ≡ Some value
      → IsAmissAt ring disk m node
  -- it waits in the graveyard, and has no Object
  EmptyGrave : (value : PlainValue) → value_under m (GraveKey node.store node.id) ≡ Some value
      → (HasObject m node.store node.id → ⊥) → IsAmissAt ring disk m node
  -- it has an attribute, and no Object
  AttributeOfNone : (name : List ℕ) (value : PlainValue)
      → value_under m (AttributeKey node.store node.id name) ≡ Some value
      → (HasObject m node.store node.id → ⊥) → IsAmissAt ring disk m node
  -- it has a block, and is no file or ends before the block begins
  BlockOutside : (n : ℕ) (entry : Entry) → m (AtFileBlock node.store node.id n) ≡ Some entry
      → (IsInFile m node.store node.id n → ⊥) → IsAmissAt ring disk m node
  -- it has a block that lies in the ring or before it, or past the end of the disk
  BlockOffDisk : (n block : ℕ) → device_block m node n ≡ Some block
      → (block < ring + 2) ⊎ (disk ≤ block) → IsAmissAt ring disk m node

-- The least of the nodes at which something is amiss, by store and id.
pub record IsLeastAmiss (ring disk : ℕ) (m : Points) (node : NodeId) : Type 0 where
  pub amiss : IsAmissAt ring disk m node
  pub least : (other : NodeId) → IsAmissAt ring disk m other → IsTrue (is_le (key_cmp node other))
