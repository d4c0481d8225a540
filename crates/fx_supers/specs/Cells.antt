-- The ring of a mounted disk, whose places are used again, as facts on its cells now.
use Rattle.std.specs.Prelude.{◌≡◌, ◌⊎◌, ℕ, ◌+◌, ◌^◌, ◌≤◌, ◌<◌, false, Some, List, All, Contains, length, drop, slice_get}
use Rattle.fx_disk.specs.Record.{DiskRecord, Cell, candidates, cell_after, cell_now}
use Rattle.fx_disk.specs.Settled.{IsGoodWrite}
use Rattle.fx_jblock.specs.declared.Start.{Start}
use Rattle.fx_journal.specs.Ring.{Queued, IsLinked, first_chain}
use Rattle.fx_log.specs.Ring.{HasRecords, IsElsewhere, place_in, bytes_in}

-- These are all blocks that were closed since the mount, those too that were given up since: they
-- follow each other from the mount's place on, under one epoch. The chain is the one after them.
-- Their numbers lie below those where numbers stand still.
pub record AreClosedBlocks (ring epoch : ℕ) (place : Start) (blocks : List Queued) (chain : ℕ)
    : Type 0 where
  pub records : All HasRecords blocks
  pub first : first_chain blocks chain ≡ place.chain
  pub linked : IsLinked epoch place.sequence blocks chain
  pub low : place.sequence + length blocks + ring < 2 ^ 64

-- The bytes are those of one of these blocks, which belongs in this block of the disk.
pub record IsBlockFor (ring epoch : ℕ) (blocks : List Queued) (b : ℕ) (value : List ℕ) : Type 0
  where
    pub index : ℕ
    pub block : Queued
    pub here : slice_get blocks index ≡ Some block
    pub place : place_in ring block ≡ b
    pub bytes : value ≡ bytes_in epoch block

-- What a stop leaves in the block of the disk, if it tears no block, is what stood there at the
-- mount, or one of the closed blocks that belong there; and only such blocks were written there since.
pub record IsTriedBy (ring epoch : ℕ) (blocks : List Queued) (b : ℕ) (before now : Cell) : Type 0
  where
    pub held : (value : List ℕ) → Contains (candidates now) value →
        (value ≡ before.bytes) ⊎ IsBlockFor ring epoch blocks b value
    pub since : (value : List ℕ) → Contains (drop (length before.written) now.written) value →
        IsBlockFor ring epoch blocks b value

-- Each block of the ring was written with closed blocks alone that belong there. From the live one
-- on, those before `written` were written by good writes, and those before `settled` were flushed
-- since. The three numbers count from the first block that was closed since the mount.
pub record HoldsRing (r : DiskRecord) (from ring epoch : ℕ) (blocks : List Queued)
    (live written settled : ℕ) : Type 0 where
  pub since : from ≤ length r.calls
  pub fewer : settled ≤ written
  pub most : written ≤ length blocks
  pub others : (b : ℕ) → 2 ≤ b → b < ring + 2 → IsElsewhere ring blocks b →
      cell_now r b ≡ cell_after r from b
  pub tried : (b : ℕ) → 2 ≤ b → b < ring + 2 →
      IsTriedBy ring epoch blocks b (cell_after r from b) (cell_now r b)
  pub good : (i : ℕ) (q : Queued) → slice_get blocks i ≡ Some q → live ≤ i → i < written →
      IsGoodWrite (place_in ring q) (bytes_in epoch q) r
  pub fixed : (i : ℕ) (q : Queued) → slice_get blocks i ≡ Some q → live ≤ i → i < settled →
      (cell_now r (place_in ring q)).loose ≡ false
