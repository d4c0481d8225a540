-- The ring of a mounted disk: the blocks that its journal began with, and those that were closed
-- since.
use Rattle.std.specs.Prelude.{◌≡◌, ℕ, ◌≤◌, Some, List, length, map, slice_get}
use Rattle.fx_disk.specs.Record.{DiskRecord}
use Rattle.fx_super.specs.Super.{Fields}
use Rattle.fx_jblock.specs.Block.{journal_block}
use Rattle.fx_jblock.specs.declared.Start.{Start}
use Rattle.fx_jblock.specs.declared.TheConstants.{RECORD_BYTES}
use Rattle.fx_journal.specs.declared.stream.StreamBlock.{StreamBlock}
use Rattle.fx_journal.specs.Stream.{IsStream, place_of}
use Rattle.fx_journal.specs.Ring.{Queued}
use Rattle.fx_log.specs.Chosen.{ChoosesSuper, start_of}
use Rattle.fx_disk.specs.Began.{BeganAs}

-- The disk began as an image in which this superblock is chosen, that of a disk of its size. These
-- blocks are the stream then, and `place` is the one after them.
pub record BeganWith (r : DiskRecord) (from : ℕ) (f : Fields) (image : List (List ℕ))
    (read : List StreamBlock) (place : Start) : Type 0 where
  pub begins : BeganAs r from image
  pub chosen : ChoosesSuper f image
  pub blocks : f.blocks ≡ length r.entry
  pub stream : IsStream image f.ring f.generation (start_of f) read place

-- where a closed block stands on the disk, and its bytes
abbrev pub place_in : ℕ → Queued → ℕ
place_in ring q = place_of ring q.sequence

abbrev pub bytes_in : ℕ → Queued → List ℕ
bytes_in epoch q = journal_block q.sequence epoch q.chain q.text

-- the closed blocks as blocks of a stream
abbrev pub in_stream : ℕ → Queued → StreamBlock
in_stream epoch q = record { sequence = q.sequence; epoch = epoch; records = q.text }

abbrev pub as_stream : ℕ → List Queued → List StreamBlock
as_stream epoch blocks = map (in_stream epoch) blocks

-- The number of its record bytes is one that a block may have.
pub record HasRecords (q : Queued) : Type 0 where
  pub filled : 1 ≤ length q.text
  pub room : length q.text ≤ RECORD_BYTES

-- The disk block is none of those where the blocks stand.
abbrev pub IsElsewhere : ℕ → List Queued → ℕ → Type 0
IsElsewhere ring blocks b = (i : ℕ) (q : Queued) → slice_get blocks i ≡ Some q →
    place_in ring q ≡ b → ⊥
