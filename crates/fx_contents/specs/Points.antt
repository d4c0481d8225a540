-- What stands at each point of the items, and what of it a node of the tree has.
use Rattle.std.specs.Prelude.{◌≡◌, ℕ, List, Option, None, Some, option_map}
use Rattle.fx_item.specs.Item.{ObjectKey, AttributeKey, ExtentKey, ChildKey, GraveKey, AllocationKey, PlainValue, AttributeValue}
use Rattle.fx_item.specs.Look.{ItemMap, value_of_entry}
use Rattle.fx_item.specs.Overlay.{Point, AtKey, AtFileBlock, AtDeviceBlock, Entry, ValueEntry, BlockEntry, Said}
use Rattle.fx_namespace.specs.Nodes.{NodeId}

-- the entry that stands at each point, if one does
abbrev pub Points : Type 0
Points = Point → Option Entry

-- the value under a point key; nothing under a range
abbrev pub value_under : Points → ItemMap
value_under m (ExtentKey store id start stop) = None
value_under m (AllocationKey start stop) = None
value_under m (ObjectKey store id) = value_of_entry (m (AtKey (ObjectKey store id)))
value_under m (AttributeKey store id name) = value_of_entry (m (AtKey (AttributeKey store id name)))
value_under m (ChildKey store id name) = value_of_entry (m (AtKey (ChildKey store id name)))
value_under m (GraveKey store id) = value_of_entry (m (AtKey (GraveKey store id)))

-- a value of a node, unless the node waits in the graveyard
abbrev pub unless_waiting : (grave value : Option PlainValue) → Option PlainValue
unless_waiting (Some grave) value = None
unless_waiting None value = value

-- What the names of the tree see: Objects and children, but no Object that waits in the graveyard.
abbrev pub named : Points → ItemMap
named m (ExtentKey store id start stop) = None
named m (AllocationKey start stop) = None
named m (ObjectKey store id) =
    unless_waiting (value_under m (GraveKey store id)) (value_under m (ObjectKey store id))
named m (AttributeKey store id name) = None
named m (ChildKey store id name) = value_under m (ChildKey store id name)
named m (GraveKey store id) = None

abbrev pub block_in : Option Entry → Option ℕ
block_in (Some (BlockEntry block sum)) = Some block
block_in (Some (ValueEntry value)) = None
block_in None = None

-- the block of the device that holds block n of a node, if one does
abbrev pub device_block : Points → NodeId → ℕ → Option ℕ
device_block m node n = block_in (m (AtFileBlock node.store node.id n))

abbrev pub text_in : Option PlainValue → Option (List ℕ)
text_in (Some (AttributeValue text)) = Some text
text_in _ = None

-- the attribute of that name of a node that does not wait in the graveyard
abbrev pub attribute_at : Points → NodeId → List ℕ → Option (List ℕ)
attribute_at m node name = text_in (unless_waiting (value_under m (GraveKey node.store node.id))
    (value_under m (AttributeKey node.store node.id name)))

-- The contents agree on the live blocks: those that an entry of a file names, graveyard included.
abbrev pub AgreeOnLive : Points → (f g : ℕ → List ℕ) → Type 0
AgreeOnLive m f g = (node : NodeId) (n block : ℕ) → device_block m node n ≡ Some block
    → f block ≡ g block

-- values under point keys alone: no blocks
abbrev pub only_values : ItemMap → Points
only_values items (AtKey key) = option_map ValueEntry (items key)
only_values items (AtFileBlock store id place) = None
only_values items (AtDeviceBlock block) = None

-- what is said at a point goes before what stood there
abbrev pub entry_after : Option (Option Entry) → Option Entry → Option Entry
entry_after (Some entry) old = entry
entry_after None old = old

-- what stands at each point after one more list of items, which says this
abbrev pub points_after : Points → Said → Points
points_after m said p = entry_after (said p) (m p)
