-- Where nothing is loose, and where one block may be.
use Rattle.std.specs.Prelude.{◌≡◌, ℕ, ◌<◌, false, List, [], length, slice_index_or, slice_set}
use Rattle.std.specs.List.{Contains}
use Rattle.fx_disk.specs.Record.{DiskRecord, candidates, cell_after, cell_now}

-- Nothing is loose now.
abbrev pub IsSettled : DiskRecord → Type 0
IsSettled r = (b : ℕ) → b < length r.entry → (cell_now r b).loose ≡ false

-- No block's last write failed.
abbrev pub HasNoFailed : DiskRecord → Type 0
HasNoFailed r = (b : ℕ) → b < length r.entry → (cell_now r b).failed ≡ false

-- Nothing was loose after the first `start` calls.
abbrev pub WasSettled : ℕ → DiskRecord → Type 0
WasSettled start r = (b : ℕ) → b < length r.entry → (cell_after r start b).loose ≡ false

-- The disk reads as `base` but for the block `at`, no other block is loose, and what a stop that
-- tears no block may leave in it is one of `values`.
pub record IsChangedAt (base : List (List ℕ)) (at : ℕ) (values : List (List ℕ))
    (r : DiskRecord) : Type 0 where
  pub reads : r.contents ≡ slice_set base at (slice_index_or r.contents at [])
  pub others : (b : ℕ) → b < length r.entry → (at ≡ b → ⊥) → (cell_now r b).loose ≡ false
  pub held : (value : List ℕ) → Contains (candidates (cell_now r at)) value → Contains values value

-- The last write of the block was good, and wrote these bytes.
pub record IsGoodWrite (at : ℕ) (bytes : List ℕ) (r : DiskRecord) : Type 0 where
  pub good : (cell_now r at).failed ≡ false
  pub last : (cell_now r at).bytes ≡ bytes
