-- Reading an item from the front of bytes: the item, and the bytes after it.
use Rattle.std.specs.Prelude.{◌≡◌, ℕ, zero, suc, ◌+◌, ◌-◌, ◌*◌, List, [], ◌∷◌, ◌==◌, ◌&&◌, nat_lt, nat_le, length, take, drop, Option, Some, None, Result, Ok, Err, option_and_then, if◌then◌else◌}
use Rattle.byteorder.specs.Endian.{little_number}
use Rattle.fx_item.specs.Name.{is_name}
use Rattle.fx_item.specs.Item.{PlainKey, ObjectKey, AttributeKey, ExtentKey, ChildKey, GraveKey, AllocationKey}
use Rattle.fx_item.specs.Item.{PlainValue, GoneValue, DirectoryValue, FileValue, AttributeValue, ChildValue, WaitingValue, ExtentValue, TakenValue, PlainItem, item_of, item_bytes, is_name_key}
use Rattle.fx_item.specs.declared.item.Item.{Item}
use Rattle.fx_item.specs.declared.item.ItemFault.{ItemFault}
use Rattle.fx_item.specs.declared.item.ItemFault.TheVariants as faults
use Rattle.fx_item.specs.declared.item.TheConstants.{MAX_DEVICE_BLOCKS, MAX_EXTENT_BLOCKS, MAX_FILE_BLOCKS, MAX_TEXT}

infixl 10 ◌>>=◌
abbrev pub ◌>>=◌ : {A B : Type 0} → Option A → (A → Option B) → Option B
o >>= f = option_and_then f o

-- What a function returned, seen by view, is what reading gives, unless memory ran out.
abbrev pub Fails : {Y : Type 0} → ItemFault → Option Y → Type 0
Fails faults.OutOfMemory read = Unit {0}
Fails faults.Bad read = read ≡ None

abbrev pub Finds : {X Y : Type 0} → (X → Y) → Result X ItemFault → Option Y → Type 0
Finds view (Ok x) read = read ≡ Some (view x)
Finds view (Err e) read = Fails e read

-- The item at the front was read as this one, with its length, unless memory ran out.
abbrev pub IsReadAs : Result (Item × ℕ) ItemFault → PlainItem → Type 0
IsReadAs (Ok r) x = (item_of r.0 ≡ x) × (r.1 ≡ length (item_bytes x))
IsReadAs (Err faults.OutOfMemory) x = Unit {0}
IsReadAs (Err faults.Bad) x = ⊥

-- ---- fields

-- a number of n bytes
abbrev pub number_at : ℕ → List ℕ → Option (ℕ × List ℕ)
number_at n bytes =
    if nat_lt (length bytes) n then None else Some (little_number n bytes, drop n bytes)

-- a store and an id
unfoldable pub pair_at : List ℕ → Option ((ℕ × ℕ) × List ℕ)
pair_at bytes = do
  store ← number_at 4 bytes
  id ← number_at 8 store.1
  Some ((store.0, id.0), id.1)

unfoldable pub name_at : List ℕ → Option (List ℕ × List ℕ)
name_at [] = None
name_at (n ∷ rest) =
    if nat_lt (length rest) n then None
    else if is_name (take n rest) then Some (take n rest, drop n rest)
    else None

-- a range that is not empty, within so many blocks
unfoldable pub range_at : (most : ℕ) → List ℕ → Option ((ℕ × ℕ) × List ℕ)
range_at most bytes = do
  start ← number_at 4 bytes
  stop ← number_at 4 start.1
  if nat_lt start.0 stop.0 && nat_le stop.0 most then Some ((start.0, stop.0), stop.1) else None

-- a text with its length before it
unfoldable pub text_at : List ℕ → Option (List ℕ × List ℕ)
text_at bytes = do
  len ← number_at 2 bytes
  if nat_lt 0 len.0 && nat_le len.0 MAX_TEXT && nat_le len.0 (length len.1)
      then Some (take len.0 len.1, drop len.0 len.1)
      else None

-- n numbers of 8 bytes, one after another
abbrev pub numbers_in : (n : ℕ) → List ℕ → List ℕ
numbers_in zero bytes = []
numbers_in (suc n) bytes = little_number 8 bytes ∷ numbers_in n (drop 8 bytes)

unfoldable pub sums_at : (n : ℕ) → List ℕ → Option (List ℕ × List ℕ)
sums_at n bytes =
    if nat_lt (length bytes) (8 * n) then None
    else Some (numbers_in n (take (8 * n) bytes), drop (8 * n) bytes)

-- the first block of the device that stands for n blocks of a file, and their sums
unfoldable pub extent_at : (n : ℕ) → List ℕ → Option ((ℕ × List ℕ) × List ℕ)
extent_at n bytes = do
  block ← number_at 4 bytes
  sums ← (if nat_le n MAX_EXTENT_BLOCKS && nat_le (block.0 + n) MAX_DEVICE_BLOCKS
      then sums_at n block.1
      else None)
  Some ((block.0, sums.0), sums.1)

-- ---- keys

unfoldable pub key_at : List ℕ → Option (PlainKey × List ℕ)
key_at [] = None
key_at (kind ∷ bytes) =
    if kind == 1 then (pair_at bytes >>= λ node. Some (ObjectKey node.0.0 node.0.1, node.1))
    else if kind == 2 then (pair_at bytes >>= λ node. name_at node.1 >>= λ name.
    Some (AttributeKey node.0.0 node.0.1 name.0, name.1))
    else if kind == 3 then (pair_at bytes >>= λ node. range_at MAX_FILE_BLOCKS node.1 >>= λ range.
    Some (ExtentKey node.0.0 node.0.1 range.0.0 range.0.1, range.1))
    else if kind == 4 then (pair_at bytes >>= λ node. name_at node.1 >>= λ name.
    Some (ChildKey node.0.0 node.0.1 name.0, name.1))
    else if kind == 5 then (pair_at bytes >>= λ node. Some (GraveKey node.0.0 node.0.1, node.1))
    else if kind == 6 then (range_at MAX_DEVICE_BLOCKS bytes >>= λ range.
    Some (AllocationKey range.0.0 range.0.1, range.1))
    else None

-- ---- values

unfoldable pub object_value_at : List ℕ → Option (PlainValue × List ℕ)
object_value_at [] = None
object_value_at (tag ∷ bytes) =
    if tag == 0 then Some (GoneValue, bytes)
    else if tag == 1 then Some (DirectoryValue, bytes)
    else if tag == 2 then (number_at 4 bytes >>= λ len. Some (FileValue len.0, len.1))
    else None

unfoldable pub attribute_value_at : List ℕ → Option (PlainValue × List ℕ)
attribute_value_at [] = None
attribute_value_at (tag ∷ bytes) =
    if tag == 0 then Some (GoneValue, bytes)
    else if tag == 3 then (text_at bytes >>= λ text. Some (AttributeValue text.0, text.1))
    else None

-- the value of an extent of n blocks
unfoldable pub extent_value_at : (n : ℕ) → List ℕ → Option (PlainValue × List ℕ)
extent_value_at n [] = None
extent_value_at n (tag ∷ bytes) =
    if tag == 0 then Some (GoneValue, bytes)
    else if tag == 6 then (extent_at n bytes >>= λ blocks.
    Some (ExtentValue blocks.0.0 blocks.0.1, blocks.1))
    else None

unfoldable pub child_value_at : List ℕ → Option (PlainValue × List ℕ)
child_value_at [] = None
child_value_at (tag ∷ bytes) =
    if tag == 0 then Some (GoneValue, bytes)
    else if tag == 4 then (pair_at bytes >>= λ node. Some (ChildValue node.0.0 node.0.1, node.1))
    else None

-- the value that has no more than its tag, this one
unfoldable pub plain_value_at : (only : ℕ) (value : PlainValue) → List ℕ
    → Option (PlainValue × List ℕ)
plain_value_at only value [] = None
plain_value_at only value (tag ∷ bytes) =
    if tag == 0 then Some (GoneValue, bytes)
    else if tag == only then Some (value, bytes)
    else None

abbrev pub value_at : PlainKey → List ℕ → Option (PlainValue × List ℕ)
value_at (ObjectKey store id) bytes = object_value_at bytes
value_at (AttributeKey store id name) bytes = attribute_value_at bytes
value_at (ExtentKey store id start stop) bytes = extent_value_at (stop - start) bytes
value_at (ChildKey store id name) bytes = child_value_at bytes
value_at (GraveKey store id) bytes = plain_value_at 5 WaitingValue bytes
value_at (AllocationKey start stop) bytes = plain_value_at 7 TakenValue bytes

-- ---- items

unfoldable pub item_at : List ℕ → Option (PlainItem × List ℕ)
item_at bytes = do
  key ← key_at bytes
  value ← value_at key.0 key.1
  Some (record { key = key.0; value = value.0 }, value.1)

-- an item of the kinds Object and Child
unfoldable pub name_item_at : List ℕ → Option (PlainItem × List ℕ)
name_item_at bytes = do
  item ← item_at bytes
  if is_name_key item.0.key then Some item else None
