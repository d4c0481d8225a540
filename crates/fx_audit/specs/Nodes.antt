-- Nodes at which something is amiss, as they are gathered: item by item.
use Rattle.std.specs.Prelude.{◌≡◌, ℕ, ◌+◌, ◌-◌, ◌*◌, ◌==◌, ◌&&◌, ◌||◌, not, nat_le, nat_lt, Bool, true, false, if◌then◌else◌, List, [], ◌∷◌, take, Option, None, Some, is_none, is_some, IsTrue}
use Rattle.std.specs.Ordering.{is_le}
use Rattle.fx_base.specs.declared.block.TheConstants.{BLOCK_BYTES}
use Rattle.fx_item.specs.Item.{PlainKey, ObjectKey, AttributeKey, ExtentKey, ChildKey, GraveKey, AllocationKey, PlainValue, FileValue, ExtentValue, PlainItem}
use Rattle.fx_item.specs.LockKey.{key_cmp}
use Rattle.fx_item.specs.Look.{ItemMap}
use Rattle.fx_namespace.specs.Nodes.{NodeId, root_node, told_kind}
use Rattle.fx_nodes.specs.Lists.{IsIn}
use Rattle.fx_contents.specs.Points.{Points, named, value_under}
use Rattle.fx_sound.specs.Image.{PlainImage}
use Rattle.fx_sound.specs.Faults.{IsBadNode}

-- the node of a key; of a range of the device, the root
abbrev pub node_under : PlainKey → NodeId
node_under (ObjectKey s i) = record { store = s; id = i }
node_under (AttributeKey s i name) = record { store = s; id = i }
node_under (ExtentKey s i start stop) = record { store = s; id = i }
node_under (ChildKey s i name) = record { store = s; id = i }
node_under (GraveKey s i) = record { store = s; id = i }
node_under (AllocationKey start stop) = root_node

-- the value is the Object of a directory or a file
abbrev pub is_kind : Option PlainValue → Bool
is_kind value = is_some (told_kind value)

-- block n of the node with that Object is past its end, or the node is no file
abbrev pub is_past_end : Option PlainValue → ℕ → Bool
is_past_end (Some (FileValue len)) n = nat_le len (n * BLOCK_BYTES)
is_past_end _ n = true

-- so many blocks from one on do not all lie on the disk past the ring
abbrev pub is_off_disk : (ring disk first count : ℕ) → Bool
is_off_disk ring disk first count = nat_lt first (ring + 2) || nat_lt disk (first + count)

-- Something is amiss at the node of an item by that item. Children and Objects are left to the
-- check of names.
abbrev pub is_item_amiss : (ring disk : ℕ) → Points → PlainKey → PlainValue → Bool
is_item_amiss ring disk m (GraveKey s i) value =
    (s == 0 && i == 0) || not (is_kind (value_under m (ObjectKey s i)))
is_item_amiss ring disk m (AttributeKey s i name) value =
    not (is_kind (value_under m (ObjectKey s i)))
is_item_amiss ring disk m (ExtentKey s i start stop) (ExtentValue block sums) =
    is_past_end (value_under m (ObjectKey s i)) (stop - 1)
    || is_off_disk ring disk block (stop - start)
is_item_amiss ring disk m _ _ = false

abbrev pub amiss_by : (ring disk : ℕ) → Points → PlainItem → List NodeId
amiss_by ring disk m x =
    if is_item_amiss ring disk m x.key x.value then node_under x.key ∷ [] else []

abbrev pub one_or_none : Option NodeId → List NodeId
one_or_none None = []
one_or_none (Some node) = node ∷ []

-- the names see an item of this key: a child, or an Object that does not wait
abbrev pub is_seen : Points → PlainKey → Bool
is_seen m (ObjectKey s i) = is_none (value_under m (GraveKey s i))
is_seen m (ChildKey s i name) = true
is_seen m _ = false

-- a table of items has those of a list that the names see
pub record AreSeen (m : Points) (items : List PlainItem) (table : ItemMap) : Type 0 where
  pub sound : (key : PlainKey) (value : PlainValue) → table key ≡ Some value
      → IsIn items (record { key = key; value = value }) × (named m key ≡ Some value)
  pub whole : (key : PlainKey) (value : PlainValue)
      → IsIn items (record { key = key; value = value }) → named m key ≡ Some value
      → table key ≡ Some value

-- Each of these nodes is bad, and each bad node has one of them at or before it.
pub record LeadBadNodes (image : PlainImage) (nodes : List NodeId) : Type 0 where
  pub sound : (node : NodeId) → IsIn nodes node → IsBadNode image node
  pub whole : (node : NodeId) → IsBadNode image node
      → (first : NodeId) × IsIn nodes first × IsTrue (is_le (key_cmp first node))
