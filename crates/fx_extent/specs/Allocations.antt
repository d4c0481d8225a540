-- The items that say which blocks of the device are taken and which are free again.
use Rattle.std.specs.Prelude.{◌≡◌, ℕ, ◌+◌, ◌<◌, ◌≤◌, Bool, true, false, ◌==◌, List, [], ◌∷◌, length, take, drop, slice_index_or, All, IsTrue, None, Some, if◌then◌else◌}
use Rattle.std.specs.List.{list_any}
use Rattle.fx_item.specs.Item.{PlainKey, AllocationKey, PlainValue, GoneValue, TakenValue, PlainItem, IsItem}
use Rattle.fx_item.specs.Order.{is_ascending}
use Rattle.fx_item.specs.Overlay.{Point, AtDeviceBlock, ValueEntry, Said, says}
use Rattle.fx_item.specs.declared.item.TheConstants.{MAX_DEVICE_BLOCKS}
use Rattle.fx_extent.specs.Staged.{are_joined}

-- the blocks ascend from `least` on, and lie on a device
abbrev pub AreAscending : ℕ → List ℕ → Type 0
AreAscending least [] = Unit {0}
AreAscending least (b ∷ rest) = (least ≤ b) × (b < MAX_DEVICE_BLOCKS) × AreAscending (b + 1) rest

-- the block is among these
abbrev pub lists_block : List ℕ → ℕ → Bool
lists_block blocks block = list_any (λ b. b == block) blocks

-- no block is on both lists
abbrev pub ShareNone : List ℕ → List ℕ → Type 0
ShareNone taken freed =
    (block : ℕ) → lists_block taken block ≡ true → lists_block freed block ≡ false

-- Blocks are taken, others are free again, and nothing is said of any other point.
abbrev pub said_by : (taken freed : List ℕ) → Said
said_by taken freed (AtDeviceBlock block) =
    if lists_block taken block then Some (Some (ValueEntry TakenValue))
    else if lists_block freed block then Some None
    else None
said_by taken freed _ = None

-- Two ranges could be one: both are taken, or both are free, and the second follows the first.
abbrev pub are_one_range : PlainItem → PlainItem → Bool
are_one_range x y = follows x.key x.value y.key y.value
  where
    follows : PlainKey → PlainValue → PlainKey → PlainValue → Bool
    follows (AllocationKey start stop) TakenValue (AllocationKey next end) TakenValue = stop == next
    follows (AllocationKey start stop) GoneValue (AllocationKey next end) GoneValue = stop == next
    follows _ _ _ _ = false

-- The items say which blocks are taken and which are free again, and nothing else; they are in order,
-- and as few as can be.
pub record AreAllocationsOf (taken freed : List ℕ) (items : List PlainItem) : Type 0 where
  pub said : (p : Point) → says items p ≡ said_by taken freed p
  pub each : All IsItem items
  pub ascending : IsTrue (is_ascending items)
  pub joined : are_joined are_one_range items ≡ true

-- ---- runs of blocks

abbrev pub nth_number : List ℕ → ℕ → ℕ
nth_number blocks k = slice_index_or blocks k 0

-- The first blocks follow each other, and no more do.
pub record IsLongestRow (blocks : List ℕ) (count : ℕ) : Type 0 where
  pub some : 0 < count
  pub within : count ≤ length blocks
  pub row : (k : ℕ) → k < count → nth_number blocks k ≡ nth_number blocks 0 + k
  pub longest : count < length blocks → nth_number blocks count ≡ nth_number blocks 0 + count → ⊥

-- the list has blocks, and its first one does not lie behind the first one of the others
abbrev pub GoesFirst : List ℕ → List ℕ → Type 0
GoesFirst blocks others = (0 < length blocks)
    × (0 < length others → nth_number blocks 0 ≤ nth_number others 0)

-- The list goes first: its row is this, and that is left behind it.
pub record IsFirstRow (blocks others row left : List ℕ) : Type 0 where
  pub goes : GoesFirst blocks others
  pub longest : IsLongestRow blocks (length row)
  pub front : row ≡ take (length row) blocks
  pub back : left ≡ drop (length row) blocks

abbrev pub range_value : Bool → PlainValue
range_value taken = if taken then TakenValue else GoneValue

-- the range of blocks that follow each other, which are taken or free again
abbrev pub range_item : Bool → ℕ → ℕ → PlainItem
range_item taken start count = record {
  key = AllocationKey start (start + count);
  value = range_value taken;
}
