-- What a disk has while it is formatted.
use Rattle.std.specs.Prelude.{◌≡◌, ℕ, ◌<◌, ◌≤◌, List, [], slice_index_or}
use Rattle.fx_disk.specs.Record.{DiskRecord}
use Rattle.fx_disk.specs.Settled.{IsSettled, HasNoFailed}
use Rattle.fx_disk.specs.Longer.{IsLonger}
use Rattle.fx_base.specs.Blocks.{zero_bytes}

-- Block 0 has these bytes, the blocks from 1 up to `end` have zeros, and the rest is as it was.
pub record IsLaid (end : ℕ) (first : List ℕ) (before after : DiskRecord) : Type 0 where
  pub goes : IsLonger before after
  pub first_is : slice_index_or after.contents 0 [] ≡ first
  pub zeros : (b : ℕ) → 1 ≤ b → b < end → slice_index_or after.contents b [] ≡ zero_bytes
  pub rest : (b : ℕ) → end ≤ b
      → slice_index_or after.contents b [] ≡ slice_index_or before.contents b []
  pub good : IsSettled before → HasNoFailed after

-- The same with block 0 as it was.
abbrev pub KeepsFirst : ℕ → DiskRecord → DiskRecord → Type 0
KeepsFirst end before after = IsLaid end (slice_index_or before.contents 0 []) before after
