-- Images in which no torn block makes sense by chance.
use Rattle.std.specs.Prelude.{◌≡◌, ◌⊎◌, ℕ, ◌<◌, ◌≤◌, true, List, [], length, drop, Contains, slice_index_or}
use Rattle.fx_disk.specs.Record.{Cell, candidates}
use Rattle.fx_super.specs.Super.{Fields, IsSuper, IsVersion}
use Rattle.fx_jblock.specs.declared.Start.{Start}
use Rattle.fx_journal.specs.declared.stream.StreamBlock.{StreamBlock}
use Rattle.fx_journal.specs.Stream.{IsRun, StandsAt, bytes_for, place_of}
use Rattle.fx_log.specs.Chosen.{ChoosesSuper, start_of}

-- The block passes for a superblock, of this version or of another one.
abbrev pub PassesForSuper : List ℕ → Type 0
PassesForSuper block = ((f : Fields) × IsSuper block f) ⊎ ((version : ℕ) × IsVersion block version)

-- Where the block is loose and passes for a superblock, it holds bytes that it once held or was
-- written with.
abbrev pub IsNotByChance : Cell → List ℕ → Type 0
IsNotByChance cell block = cell.loose ≡ true → PassesForSuper block →
    Contains (candidates cell) block

-- No torn block passes for a superblock by chance.
pub record HasTrueSupers (cells : ℕ → Cell) (image : List (List ℕ)) : Type 0 where
  pub supers : (b : ℕ) → b < 2 → IsNotByChance (cells b) (slice_index_or image b [])

-- The block has the bytes that it had before, and was not written with them since.
abbrev pub IsOld : Cell → Cell → List ℕ → Type 0
IsOld before now bytes = (bytes ≡ before.bytes)
    × (Contains (drop (length before.written) now.written) bytes → ⊥)

-- The bytes of a journal block of this epoch are not there by chance: where the block is loose it
-- holds bytes that it once held or was written with, and bytes from before have no epoch above the
-- generation of that time.
pub record IsTrueBlock (before now : Cell) (generation : ℕ) (bytes : List ℕ) (epoch : ℕ)
    : Type 0 where
  pub torn : now.loose ≡ true → Contains (candidates now) bytes
  pub old : IsOld before now bytes → epoch ≤ generation

-- No torn block, and none from before the cells `before`, makes sense by chance: neither as a
-- superblock nor as a block of the stream. The generation is the one that was chosen before. A
-- block of the stream is one that continues a run from the chosen superblock's start.
pub record NotByChance (before now : ℕ → Cell) (generation : ℕ) (image : List (List ℕ))
    : Type 0 where
  pub supers : HasTrueSupers now image
  pub stream : (f : Fields) (blocks : List StreamBlock) (place : Start) (block : StreamBlock) →
      ChoosesSuper f image → IsRun image f.ring f.generation (start_of f) blocks place →
      length blocks < f.ring →
      StandsAt image f.ring f.generation place block →
      IsTrueBlock (before (place_of f.ring place.sequence)) (now (place_of f.ring place.sequence))
      generation (bytes_for image f.ring place.sequence) block.epoch
