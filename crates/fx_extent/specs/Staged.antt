-- New blocks of a file, and the items that say where they lie.
use Rattle.std.specs.Prelude.{◌≡◌, ℕ, ◌+◌, ◌<◌, ◌≤◌, Bool, true, false, ◌&&◌, ◌==◌, not, nat_lt, List, [], ◌∷◌, length, map, slice_index_or, All, IsTrue, Option, None, Some, option_map, if◌then◌else◌}
use Rattle.std.specs.List.{find}
use Rattle.fx_item.specs.Item.{PlainKey, ExtentKey, PlainValue, ExtentValue, PlainItem, IsItem}
use Rattle.fx_item.specs.Order.{is_ascending}
use Rattle.fx_item.specs.Overlay.{Point, AtFileBlock, Entry, BlockEntry, Said, says}
use Rattle.fx_item.specs.declared.item.TheConstants.{MAX_DEVICE_BLOCKS, MAX_EXTENT_BLOCKS, MAX_FILE_BLOCKS}
use Rattle.fx_item.specs.declared.lock.LockKey.{LockKey}
use Rattle.fx_extent.specs.declared.storing.NewBlock.{NewBlock}

-- The places rise from `least` on, and lie in a file; the blocks lie on a device.
abbrev pub AreInPlaces : ℕ → List NewBlock → Type 0
AreInPlaces least [] = Unit {0}
AreInPlaces least (x ∷ rest) = (least ≤ x.index) × (x.index < MAX_FILE_BLOCKS)
    × (x.block < MAX_DEVICE_BLOCKS) × AreInPlaces (x.index + 1) rest

abbrev pub new_entry : NewBlock → Option Entry
new_entry x = Some (BlockEntry x.block x.sum)

-- what the new blocks of a file say: where each of them lies, and nothing of any other point
abbrev pub said_of : LockKey → List NewBlock → Said
said_of at blocks (AtFileBlock store id n) =
    if at.store == store && at.id == id then option_map new_entry (find (λ x. x.index == n) blocks)
    else None
said_of at blocks _ = None

-- Two extents could be one: the second follows the first in the file and on the device, and the first
-- has room.
abbrev pub are_one_extent : PlainItem → PlainItem → Bool
are_one_extent x y = follows x.key x.value y.key y.value
  where
    follows : PlainKey → PlainValue → PlainKey → PlainValue → Bool
    follows (ExtentKey s i start stop) (ExtentValue block sums) (ExtentKey t j next end)
        (ExtentValue other more) =
        (stop == next && block + length sums == other) && nat_lt (length sums) MAX_EXTENT_BLOCKS
    follows _ _ _ _ = false

-- no two that stand next to each other are one
abbrev pub are_joined : (PlainItem → PlainItem → Bool) → List PlainItem → Bool
are_joined one [] = true
are_joined one (x ∷ []) = true
are_joined one (x ∷ y ∷ rest) = not (one x y) && are_joined one (y ∷ rest)

-- The items say where the new blocks lie, and nothing else; they are in order, and as few as can be.
pub record AreExtentsOf (at : LockKey) (blocks : List NewBlock) (items : List PlainItem) : Type 0
  where
    pub said : (p : Point) → says items p ≡ said_of at blocks p
    pub each : All IsItem items
    pub ascending : IsTrue (is_ascending items)
    pub joined : are_joined are_one_extent items ≡ true

-- ---- runs of blocks

-- no block
abbrev pub no_block : NewBlock
no_block = record { index = 0; block = 0; sum = 0 }

abbrev pub nth_block : List NewBlock → ℕ → NewBlock
nth_block blocks k = slice_index_or blocks k no_block

-- block k follows the first one, k places behind it in the file and on the device
abbrev pub IsInRow : List NewBlock → ℕ → Type 0
IsInRow blocks k = ((nth_block blocks k).index ≡ (nth_block blocks 0).index + k)
    × ((nth_block blocks k).block ≡ (nth_block blocks 0).block + k)

-- The first blocks follow each other, as many as an extent may have, and no more do.
pub record IsLongestRun (blocks : List NewBlock) (count : ℕ) : Type 0 where
  pub some : 0 < count
  pub most : count ≤ MAX_EXTENT_BLOCKS
  pub within : count ≤ length blocks
  pub run : (k : ℕ) → k < count → IsInRow blocks k
  pub longest : count < MAX_EXTENT_BLOCKS → count < length blocks → IsInRow blocks count → ⊥

-- the extent of blocks that follow each other
abbrev pub run_item : LockKey → List NewBlock → PlainItem
run_item at run = let first = nth_block run 0 in record {
  key = ExtentKey at.store at.id first.index (first.index + length run);
  value = ExtentValue first.block (map (λ x. x.sum) run);
}
