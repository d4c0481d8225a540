-- What a writer of a layer does with an item, and what its blocks hold together.
use Rattle.std.specs.Prelude.{◌≡◌, ℕ, ◌+◌, ◌-◌, ◌/◌, ◌≤◌, ◌<◌, nat_le, nat_lt, ◌==◌, if◌then◌else◌, List, [], ◌∷◌, ◌++◌, length, map, take, drop, All, Bool, true, Option, Some, None, count_by}
use Rattle.std.specs.List.{fold}
use Rattle.fx_item.specs.Item.{PlainItem, item_bytes}
use Rattle.fx_record.specs.Record.{items_bytes}
use Rattle.fx_layfile.specs.Block.{IsOfTree, layer_block, padded_text, index_bytes}
use Rattle.fx_item.specs.Order.{is_ascending}
use Rattle.fx_layfile.specs.Layer.{BlockBytes, IsUnmarked, Whole, IsVerdict, IndexPart, DataPart, first_part, IsIndexChain, index_places, names_of_parts, data_places, items_of_parts, AreData}
use Rattle.fx_layfile.specs.declared.block.Block.{Block}
use Rattle.fx_layfile.specs.declared.block.TheConstants.{DATA_MAGIC, ROOM_BYTES, INDEX_NAMES}

-- A writer: the tree, the index block given last, how many items wait for their block, their bytes,
-- and the data blocks given that no index block given names.
pub record WriterState : Type 0 where
  pub tree : ℕ
  pub next : ℕ
  pub count : ℕ
  pub text : List ℕ
  pub waiting : List ℕ

abbrev pub new_writer : ℕ → WriterState
new_writer tree = record { tree = tree; next = 0; count = 0; text = []; waiting = [] }

-- ---- an item more

-- the item fits the block that is being filled
abbrev pub has_place : WriterState → PlainItem → Bool
has_place s x = nat_le (length s.text + length (item_bytes x)) ROOM_BYTES

-- the data block of the items that wait
abbrev pub waiting_block : WriterState → ℕ → Block
waiting_block s at = record {
  at = at;
  bytes = layer_block DATA_MAGIC s.count (length s.text) 0 (padded_text s.text);
}

-- An item that does not fit begins the next block.
abbrev pub with_item : WriterState → PlainItem → ℕ → WriterState
with_item s x at =
    if has_place s x then record s { count = s.count + 1; text = s.text ++ item_bytes x }
    else record s { count = 1; text = item_bytes x; waiting = s.waiting ++ at ∷ [] }

abbrev pub block_for_item : WriterState → PlainItem → ℕ → Option Block
block_for_item s x at = if has_place s x then None else Some (waiting_block s at)

-- ---- the blocks that are left

-- the first of the data blocks that the next index block names: it takes as many as it can
abbrev pub first_named : List ℕ → ℕ
first_named waiting = length waiting - INDEX_NAMES

-- First the data block of the items that wait, then the index blocks, the last one first.
abbrev pub with_block : WriterState → ℕ → WriterState
with_block s at =
    if nat_lt 0 s.count then record s { count = 0; text = []; waiting = s.waiting ++ at ∷ [] }
    else if nat_lt 0 (length s.waiting)
    then record s { next = at; waiting = take (first_named s.waiting) s.waiting }
    else s

abbrev pub next_block_of : WriterState → ℕ → Option Block
next_block_of s at =
    if nat_lt 0 s.count then Some (waiting_block s at)
    else if nat_lt 0 (length s.waiting)
    then Some (record {
      at = at;
      bytes = index_bytes s.tree s.next (drop (first_named s.waiting) s.waiting);
    })
    else None

-- No block that `finish` gives was given yet.
pub record IsOpen (s : WriterState) : Type 0 where
  pub no_index : s.next ≡ 0
  pub filling : s.count ≡ 0 → s.waiting ≡ []

-- ---- how many blocks

-- full blocks, and the bytes in the block that is being filled
pub record Filling : Type 0 where
  pub full : ℕ
  pub used : ℕ

abbrev pub fill_one : Filling → PlainItem → Filling
fill_one f x =
    if nat_le (f.used + length (item_bytes x)) ROOM_BYTES
    then record f { used = f.used + length (item_bytes x) }
    else record { full = f.full + 1; used = length (item_bytes x) }

abbrev pub nothing_filled : Filling
nothing_filled = record { full = 0; used = 0 }

-- one where there is something, and none where there is nothing
abbrev pub one_if_some : ℕ → ℕ
one_if_some n = if nat_lt 0 n then 1 else 0

-- the data blocks that items fill, in order, each as far as they fit
abbrev pub data_count : List PlainItem → ℕ
data_count items = let f = fold fill_one nothing_filled items in f.full + one_if_some f.used

-- the index blocks that name so many data blocks
abbrev pub index_count : ℕ → ℕ
index_count n = (n + (INDEX_NAMES - 1)) / INDEX_NAMES

-- all blocks of the layer of these items
abbrev pub layer_blocks : List PlainItem → ℕ
layer_blocks items = data_count items + index_count (data_count items)

-- how many blocks a writer is still to give
abbrev pub blocks_left : WriterState → ℕ
blocks_left s = one_if_some s.count + index_count (length s.waiting + one_if_some s.count)

-- ---- what a writer was given and gave

-- The blocks stand where they are to stand.
abbrev pub HoldsBlocks : BlockBytes → List Block → Type 0
HoldsBlocks bytes given = All (λ block. bytes block.at ≡ block.bytes) given

abbrev pub places_given : List Block → List ℕ
places_given given = map (λ block. block.at) given

-- where index blocks stand, the last one first
abbrev pub last_index_first : List IndexPart → List ℕ
last_index_first [] = []
last_index_first (part ∷ rest) = last_index_first rest ++ part.at ∷ []

-- The writer was given these items, and has given these blocks: data blocks in the order of their
-- items, and then index blocks, the last one first. Where the blocks stand as they are to, they are
-- these parts, whatever else the disk holds.
pub record HasWrittenLayer (s : WriterState) (items : List PlainItem) (given : List Block) : Type 0
  where
    pub parts : List IndexPart
    pub leaves : List DataPart
    pub pending : List PlainItem
    pub items_are : items ≡ items_of_parts leaves ++ pending
    pub good : All (IsOfTree s.tree) items
    pub text_is : s.text ≡ items_bytes pending
    pub count_is : s.count ≡ length pending
    pub next_is : first_part parts 0 ≡ s.next
    pub named : data_places leaves ≡ s.waiting ++ names_of_parts parts
    pub placed : All (λ part. 0 < part.at) parts
    pub data_first : 0 < s.count → s.next ≡ 0
    pub order : places_given given ≡ data_places leaves ++ last_index_first parts
    pub stands : (bytes : BlockBytes) → HoldsBlocks bytes given
        → IsIndexChain bytes s.tree parts 0 × AreData bytes s.tree leaves
    -- each block is filled as far as the items fit
    pub filled : IsOpen s → fold fill_one nothing_filled items
        ≡ record { full = length leaves; used = length s.text }
    pub counted : length given + blocks_left s ≡ layer_blocks items

-- The places lie behind the ring, on the disk, with no mark, and none stands twice.
pub record AreApartPlaces (ring : ℕ) (marks : List Bool) (places : List ℕ) : Type 0 where
  pub each : All (IsUnmarked ring marks) places
  pub once : (b : ℕ) → count_by (λ place. place == b) places ≤ 1

-- What a writer gave, once no block is left and where the blocks stand, is the layer of the items
-- that it was given, whatever else the disk holds. A layer without items has no block.
abbrev pub WrittenLaw : Type 0
WrittenLaw = (s : WriterState) (items : List PlainItem) (given : List Block) (bytes : BlockBytes)
    (ring : ℕ) (marks : List Bool) → HasWrittenLayer s items given → blocks_left s ≡ 0
    → 1 ≤ length items → is_ascending items ≡ true → HoldsBlocks bytes given
    → AreApartPlaces ring marks (places_given given)
    → (parts : List IndexPart) × (leaves : List DataPart)
    × (places_given given ≡ data_places leaves ++ last_index_first parts)
    × IsVerdict bytes ring marks s.tree s.next
    (Whole (index_places parts ++ data_places leaves) items)
