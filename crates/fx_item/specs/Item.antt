-- Items as plain data: keys and values of every kind, which of them are items, and their bytes.
use Rattle.std.specs.Prelude.{◌≡◌, ℕ, Bool, true, false, ◌+◌, ◌<◌, ◌≤◌, ◌^◌, List, [], ◌∷◌, ◌++◌, length, map, All, IsTrue}
use Rattle.std.specs.List.{flat_map}
use Rattle.byteorder.specs.Endian.{little_bytes}
use Rattle.fx_item.specs.Name.{is_name}
use Rattle.fx_item.specs.declared.item.Key.{Key}
use Rattle.fx_item.specs.declared.item.Key.TheVariants as keys
use Rattle.fx_item.specs.declared.item.Value.{Value}
use Rattle.fx_item.specs.declared.item.Value.TheVariants as values
use Rattle.fx_item.specs.declared.item.Item.{Item}
use Rattle.fx_item.specs.declared.item.TheConstants.{MAX_DEVICE_BLOCKS, MAX_EXTENT_BLOCKS, MAX_FILE_BLOCKS, MAX_TEXT}

-- What a key names: the node of a store, an attribute of a node, blocks of a file, a child of a
-- directory, a node in the graveyard, blocks of the device. Ranges are half-open.
pub data PlainKey : Type 0 where
  ObjectKey : (store id : ℕ) → PlainKey
  AttributeKey : (store id : ℕ) (name : List ℕ) → PlainKey
  ExtentKey : (store id start stop : ℕ) → PlainKey
  ChildKey : (store id : ℕ) (name : List ℕ) → PlainKey
  GraveKey : (store id : ℕ) → PlainKey
  AllocationKey : (start stop : ℕ) → PlainKey

-- What stands there. Gone is the tombstone.
pub data PlainValue : Type 0 where
  GoneValue : PlainValue
  DirectoryValue : PlainValue
  FileValue : (len : ℕ) → PlainValue
  AttributeValue : (text : List ℕ) → PlainValue
  ChildValue : (store id : ℕ) → PlainValue
  WaitingValue : PlainValue
  ExtentValue : (block : ℕ) (sums : List ℕ) → PlainValue
  TakenValue : PlainValue

pub record PlainItem : Type 0 where
  pub key : PlainKey
  pub value : PlainValue

-- the program's values as plain data
abbrev pub key_of : Key → PlainKey
key_of (keys.Object store id) = ObjectKey store id
key_of (keys.Attribute store id name) = AttributeKey store id name
key_of (keys.Extent store id start stop) = ExtentKey store id start stop
key_of (keys.Child store id name) = ChildKey store id name
key_of (keys.Grave store id) = GraveKey store id
key_of (keys.Allocation start stop) = AllocationKey start stop

abbrev pub value_of : Value → PlainValue
value_of values.Gone = GoneValue
value_of values.Dir = DirectoryValue
value_of (values.File len) = FileValue len
value_of (values.Attribute text) = AttributeValue text
value_of (values.Child store id) = ChildValue store id
value_of values.Waiting = WaitingValue
value_of (values.Extent block sums) = ExtentValue block sums
value_of values.Taken = TakenValue

abbrev pub item_of : Item → PlainItem
item_of x = record { key = key_of x.key; value = value_of x.value }

abbrev pub items_of : List Item → List PlainItem
items_of xs = map item_of xs

-- ---- which items there are

abbrev IsNodeId : (store id : ℕ) → Type 0
IsNodeId store id = (store < 2 ^ 32) × (id < 2 ^ 64)

-- a range that is not empty, within so many blocks
abbrev IsRange : (most start stop : ℕ) → Type 0
IsRange most start stop = (start < stop) × (stop ≤ most)

abbrev pub IsKey : PlainKey → Type 0
IsKey (ObjectKey store id) = IsNodeId store id
IsKey (AttributeKey store id name) = (store < 2 ^ 32) × (id < 2 ^ 64) × IsTrue (is_name name)
IsKey (ExtentKey store id start stop) =
    (store < 2 ^ 32) × (id < 2 ^ 64) × IsRange MAX_FILE_BLOCKS start stop
IsKey (ChildKey store id name) = (store < 2 ^ 32) × (id < 2 ^ 64) × IsTrue (is_name name)
IsKey (GraveKey store id) = IsNodeId store id
IsKey (AllocationKey start stop) = IsRange MAX_DEVICE_BLOCKS start stop

abbrev pub IsObjectValue : PlainValue → Type 0
IsObjectValue GoneValue = Unit {0}
IsObjectValue DirectoryValue = Unit {0}
IsObjectValue (FileValue len) = len < 2 ^ 32
IsObjectValue _ = ⊥

-- a text of an attribute
pub record IsAttributeText (text : List ℕ) : Type 0 where
  pub some : 0 < length text
  pub most : length text ≤ MAX_TEXT
  pub bytes : All (λ byte. byte < 256) text

abbrev pub IsAttributeValue : PlainValue → Type 0
IsAttributeValue GoneValue = Unit {0}
IsAttributeValue (AttributeValue text) = IsAttributeText text
IsAttributeValue _ = ⊥

-- Blocks of the device with a sum each stand for this range of a file.
pub record IsExtent (start stop block : ℕ) (sums : List ℕ) : Type 0 where
  pub count : length sums + start ≡ stop
  pub most : length sums ≤ MAX_EXTENT_BLOCKS
  pub inside : block + length sums ≤ MAX_DEVICE_BLOCKS
  pub wide : All (λ sum. sum < 2 ^ 64) sums

abbrev pub IsExtentValue : (start stop : ℕ) → PlainValue → Type 0
IsExtentValue start stop GoneValue = Unit {0}
IsExtentValue start stop (ExtentValue block sums) = IsExtent start stop block sums
IsExtentValue start stop _ = ⊥

abbrev pub IsChildValue : PlainValue → Type 0
IsChildValue GoneValue = Unit {0}
IsChildValue (ChildValue store id) = (store < 2 ^ 32) × (id < 2 ^ 64)
IsChildValue _ = ⊥

abbrev pub IsGraveValue : PlainValue → Type 0
IsGraveValue GoneValue = Unit {0}
IsGraveValue WaitingValue = Unit {0}
IsGraveValue _ = ⊥

abbrev pub IsAllocationValue : PlainValue → Type 0
IsAllocationValue GoneValue = Unit {0}
IsAllocationValue TakenValue = Unit {0}
IsAllocationValue _ = ⊥

-- the value may stand under the key
abbrev pub Suits : PlainKey → PlainValue → Type 0
Suits (ObjectKey store id) value = IsObjectValue value
Suits (AttributeKey store id name) value = IsAttributeValue value
Suits (ExtentKey store id start stop) value = IsExtentValue start stop value
Suits (ChildKey store id name) value = IsChildValue value
Suits (GraveKey store id) value = IsGraveValue value
Suits (AllocationKey start stop) value = IsAllocationValue value

pub record IsItem (x : PlainItem) : Type 0 where
  pub key : IsKey x.key
  pub value : Suits x.key x.value

-- ---- items of names: of the kinds Object and Child

abbrev pub is_name_key : PlainKey → Bool
is_name_key (ObjectKey store id) = true
is_name_key (ChildKey store id name) = true
is_name_key _ = false

pub record IsNameItem (x : PlainItem) : Type 0 where
  pub item : IsItem x
  pub kind : IsTrue (is_name_key x.key)

-- ---- the one spelling of each item

-- kind, store, id
abbrev pub node_bytes : ℕ → ℕ → ℕ → List ℕ
node_bytes kind store id = kind ∷ (little_bytes 4 store ++ little_bytes 8 id)

-- one byte of length, and that many bytes
abbrev pub name_bytes : List ℕ → List ℕ
name_bytes name = length name ∷ name

abbrev pub range_bytes : ℕ → ℕ → List ℕ
range_bytes start stop = little_bytes 4 start ++ little_bytes 4 stop

-- two bytes of length, and that many bytes
abbrev pub text_bytes : List ℕ → List ℕ
text_bytes text = little_bytes 2 (length text) ++ text

abbrev pub sums_bytes : List ℕ → List ℕ
sums_bytes sums = flat_map (little_bytes 8) sums

abbrev pub key_bytes : PlainKey → List ℕ
key_bytes (ObjectKey store id) = node_bytes 1 store id
key_bytes (AttributeKey store id name) = node_bytes 2 store id ++ name_bytes name
key_bytes (ExtentKey store id start stop) = node_bytes 3 store id ++ range_bytes start stop
key_bytes (ChildKey store id name) = node_bytes 4 store id ++ name_bytes name
key_bytes (GraveKey store id) = node_bytes 5 store id
key_bytes (AllocationKey start stop) = 6 ∷ range_bytes start stop

abbrev pub value_bytes : PlainValue → List ℕ
value_bytes GoneValue = 0 ∷ []
value_bytes DirectoryValue = 1 ∷ []
value_bytes (FileValue len) = 2 ∷ little_bytes 4 len
value_bytes (AttributeValue text) = 3 ∷ text_bytes text
value_bytes (ChildValue store id) = node_bytes 4 store id
value_bytes WaitingValue = 5 ∷ []
value_bytes (ExtentValue block sums) = 6 ∷ (little_bytes 4 block ++ sums_bytes sums)
value_bytes TakenValue = 7 ∷ []

abbrev pub item_bytes : PlainItem → List ℕ
item_bytes x = key_bytes x.key ++ value_bytes x.value
