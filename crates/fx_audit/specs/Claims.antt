-- How often blocks of the device are claimed, counted up to two.
use Rattle.std.specs.Prelude.{◌≡◌, ℕ, ◌+◌, ◌-◌, ◌<◌, ◌==◌, ◌||◌, not, nat_le, nat_lt, Bool, false, if◌then◌else◌, true, List, [], ◌∷◌, get_or, map, Option, None, Some}
use Rattle.std.specs.List.{flat_map, fold}
use Rattle.fx_item.specs.Item.{PlainKey, ExtentKey, AllocationKey, PlainValue, ExtentValue, TakenValue, PlainItem}
use Rattle.fx_item.specs.declared.item.TheConstants.{MAX_DEVICE_BLOCKS}
use Rattle.fx_verify.specs.Kept.{is_within}

-- the blocks of the device that an item's extent has, from one to another
abbrev pub file_range : PlainKey → PlainValue → List (ℕ × ℕ)
file_range (ExtentKey s i start stop) (ExtentValue block sums) =
    (block, block + (stop - start)) ∷ []
file_range _ _ = []

-- those that an item says are taken
abbrev pub taken_range : PlainKey → PlainValue → List (ℕ × ℕ)
taken_range (AllocationKey start stop) TakenValue = (start, stop) ∷ []
taken_range _ _ = []

abbrev pub file_ranges : List PlainItem → List (ℕ × ℕ)
file_ranges items = flat_map (λ x. file_range x.key x.value) items

abbrev pub taken_ranges : List PlainItem → List (ℕ × ℕ)
taken_ranges items = flat_map (λ x. taken_range x.key x.value) items

-- each block as a range of its own
abbrev pub single_ranges : List ℕ → List (ℕ × ℕ)
single_ranges blocks = map (λ block. (block, block + 1)) blocks

-- one more, up to two
abbrev pub one_more : ℕ → ℕ
one_more n = if nat_lt n 2 then n + 1 else n

-- the count of a block after one more range
abbrev pub claimed : ℕ → ℕ → ℕ × ℕ → ℕ
claimed block n range = if is_within range.0 range.1 block then one_more n else n

-- how many of the ranges have the block, up to two
abbrev pub claims_on : List (ℕ × ℕ) → ℕ → ℕ
claims_on ranges block = fold (claimed block) 0 ranges

-- the table has the count of each block of the greatest device
abbrev pub AreClaims : List (ℕ × ℕ) → List ℕ → Type 0
AreClaims ranges table =
    (block : ℕ) → block < MAX_DEVICE_BLOCKS → get_or table block 0 ≡ claims_on ranges block

-- a block is unsound, by how many files have it, whether it is taken, and whether it is reserved
abbrev pub is_unsound_count : (files taken : ℕ) → Bool → Bool
is_unsound_count files taken reserved =
    if taken == 0 then nat_lt 0 files else (not (files == 1) || reserved)

-- no file may have the block, of which so many layers have it
abbrev pub is_reserved : (ring disk layers block : ℕ) → Bool
is_reserved ring disk layers block =
    nat_lt block (ring + 2) || nat_lt 0 layers || nat_le disk block

-- the block is unsound by what these tables have of it
abbrev pub is_bad_block : (ring disk : ℕ) → (files taken layers : List ℕ) → ℕ → Bool
is_bad_block ring disk files taken layers block =
    is_unsound_count (get_or files block 0) (get_or taken block 0)
    (is_reserved ring disk (get_or layers block 0) block)

-- the first block of the greatest device that passes the test, or that none does
abbrev pub FindsFirst : (ℕ → Bool) → Option ℕ → Type 0
FindsFirst test None = (block : ℕ) → block < MAX_DEVICE_BLOCKS → test block ≡ false
FindsFirst test (Some block) = (block < MAX_DEVICE_BLOCKS) × (test block ≡ true)
    × ((other : ℕ) → other < block → test other ≡ false)
