-- The blocks of a layer. An index block names data blocks, and a data block holds items.
use Rattle.std.specs.Prelude.{◌≡◌, ℕ, ◌-◌, ◌<◌, ◌≤◌, ◌^◌, List, ◌++◌, length, replicate, slice_index, All}
use Rattle.std.specs.List.{flat_map}
use Rattle.byteorder.specs.Endian.{little_bytes}
use Rattle.fx_sum.specs.Checksum.{fletch}
use Rattle.fx_item.specs.Item.{PlainKey, AllocationKey, PlainItem, IsItem}
use Rattle.fx_record.specs.Record.{items_bytes}
use Rattle.fx_layfile.specs.declared.block.TheConstants.{INDEX_MAGIC, DATA_MAGIC, ROOM_BYTES, INDEX_NAMES}

-- the tree that a key belongs to: 1 that of the objects, 2 that of the allocator
abbrev pub tree_of_key : PlainKey → ℕ
tree_of_key (AllocationKey start stop) = 2
tree_of_key key = 1

-- an item of this tree
pub record IsOfTree (tree : ℕ) (x : PlainItem) : Type 0 where
  pub item : IsItem x
  pub tree_is : tree_of_key x.key ≡ tree

-- numbers of blocks as they stand in an index block, four bytes each
abbrev pub names_bytes : List ℕ → List ℕ
names_bytes names = flat_map (little_bytes 4) names

-- the text, and zeros behind it
unfoldable pub padded_text : List ℕ → List ℕ
padded_text text = text ++ replicate (ROOM_BYTES - length text) 0

-- what stands before the text: four numbers
unfoldable pub layer_header : (magic a b c : ℕ) → List ℕ
layer_header magic a b c =
    little_bytes 4 magic ++ (little_bytes 4 a ++ (little_bytes 4 b ++ little_bytes 4 c))

-- all of a block but its sum
unfoldable pub layer_body : (magic a b c : ℕ) → List ℕ → List ℕ
layer_body magic a b c raw = layer_header magic a b c ++ raw

-- the body and its sum
unfoldable pub layer_block : (magic a b c : ℕ) → List ℕ → List ℕ
layer_block magic a b c raw =
    layer_body magic a b c raw ++ little_bytes 8 (fletch 0 (layer_body magic a b c raw))

-- The block has these numbers and this text with what fills it up, and its sum is right.
pub record IsFramed (block : List ℕ) (magic a b c : ℕ) (raw : List ℕ) : Type 0 where
  pub a_fits : a < 2 ^ 32
  pub b_fits : b < 2 ^ 32
  pub c_fits : c < 2 ^ 32
  pub whole : length raw ≡ ROOM_BYTES
  pub bytes_are : block ≡ layer_block magic a b c raw

-- an index block of a tree, which names data blocks in the order of their keys
abbrev pub index_bytes : (tree next : ℕ) → List ℕ → List ℕ
index_bytes tree next names =
    layer_block INDEX_MAGIC next (length names) tree (padded_text (names_bytes names))

-- The block is an index block of this tree. It names these data blocks, and the next index block;
-- the last one names 0.
pub record IsIndexBlock (block : List ℕ) (tree next : ℕ) (names : List ℕ) : Type 0 where
  pub some : 1 ≤ length names
  pub most : length names ≤ INDEX_NAMES
  pub tree_fits : tree < 2 ^ 32
  pub next_fits : next < 2 ^ 32
  pub each_fits : (i : ℕ) → slice_index names i < 2 ^ 32
  pub bytes_are : block ≡ index_bytes tree next names

-- a data block of these items, in their order
abbrev pub data_bytes : List PlainItem → List ℕ
data_bytes items = layer_block DATA_MAGIC (length items) (length (items_bytes items)) 0
    (padded_text (items_bytes items))

-- The block is a data block that holds these items, each of this tree.
pub record IsDataBlock (block : List ℕ) (tree : ℕ) (items : List PlainItem) : Type 0 where
  pub some : 1 ≤ length items
  pub room : length (items_bytes items) ≤ ROOM_BYTES
  pub good : All (IsOfTree tree) items
  pub bytes_are : block ≡ data_bytes items
