-- What an image shows of a log: one of its superblocks, and a stream that is a cut of its blocks.
use Rattle.std.specs.Prelude.{◌≡◌, ◌⊎◌, ℕ, ◌+◌, ◌≤◌, ◌<◌, Some, List, ◌++◌, length, take, drop}
use Rattle.fx_disk.specs.Record.{Cell}
use Rattle.fx_jblock.specs.declared.Start.{Start}
use Rattle.fx_journal.specs.declared.stream.StreamBlock.{StreamBlock}
use Rattle.fx_journal.specs.Ring.{Queued}
use Rattle.fx_journal.specs.Stream.{IsRun, IsStream, StandsAt, bytes_for, place_of}
use Rattle.fx_log.specs.Chance.{IsTrueBlock}
use Rattle.fx_log.specs.Chosen.{ChoosesSuper, start_of}
use Rattle.fx_log.specs.Ring.{as_stream}
use Rattle.fx_supers.specs.Supers.{SuperCut}
use Rattle.fx_supers.specs.SessionLog.{SessionLog, epoch_of, first_in, read_in}

-- No block that continues a run from this start is there by chance.
abbrev pub HasTrueRun : (before now : ℕ → Cell) (generation : ℕ) (image : List (List ℕ))
    (ring most : ℕ) (start : Start) → Type 0
HasTrueRun before now generation image ring most start =
    (blocks : List StreamBlock) (at : Start) (block : StreamBlock) →
    IsRun image ring most start blocks at → length blocks < ring →
    StandsAt image ring most at block →
    IsTrueBlock (before (place_of ring at.sequence)) (now (place_of ring at.sequence)) generation
    (bytes_for image ring at.sequence) block.epoch

-- The stream from this start is what was read there, and then blocks that were closed, from the
-- `one` on, as far as they stand: at least those that were settled.
pub record ShowsRun (image : List (List ℕ)) (ring epoch most : ℕ) (start : Start)
    (read : List StreamBlock) (blocks : List Queued) (one settled : ℕ) : Type 0 where
  pub count : ℕ
  pub least : settled ≤ one + count
  pub within : one + count ≤ length blocks
  pub next : Start
  pub stream : IsStream image ring most start
      (read ++ as_stream epoch (take count (drop one blocks))) next

-- The image has this superblock, and its stream from there.
pub record ShowsCut (log : SessionLog) (image : List (List ℕ)) (cut : SuperCut) : Type 0 where
  pub chosen : ChoosesSuper cut.super image
  pub run : ShowsRun image cut.super.ring (epoch_of log.head) cut.super.generation
      (start_of cut.super) (read_in log.head cut.origin) log.tail.blocks
      (first_in cut.origin) log.tail.settled

-- It has the current superblock, or the coming one, each with its own stream.
abbrev pub ShowsLog : SessionLog → List (List ℕ) → Type 0
ShowsLog log image = ShowsCut log image log.supers.current
    ⊎ ((cut : SuperCut) × (log.supers.coming ≡ Some cut) × ShowsCut log image cut)
