-- What a log was read from, and what is appended to it, as plain data.
use Rattle.std.specs.Prelude.{◌≡◌, ℕ, ◌+◌, List, [], ◌++◌, length}
use Rattle.fx_jblock.specs.declared.Start.{Start}
use Rattle.fx_journal.specs.declared.stream.StreamBlock.{StreamBlock}
use Rattle.fx_journal.specs.Stream.{IsSeries}
use Rattle.fx_journal.specs.Ring.{Queued}
use Rattle.fx_super.specs.Super.{Fields, KeepsRules}
use Rattle.fx_log.specs.Chosen.{start_of}

-- What was read: the chosen superblock, the stream from its start on, and the place after it.
pub record LogHead : Type 0 where
  pub super : Fields
  pub read : List StreamBlock
  pub place : Start

-- What was appended since: the closed blocks, the chain after them, and the record bytes of the
-- unfinished block; how many of the blocks are written, and how many were flushed since they were.
pub record LogTail : Type 0 where
  pub blocks : List Queued
  pub chain : ℕ
  pub text : List ℕ
  pub written : ℕ
  pub settled : ℕ

-- ---- what happens to a log

-- Further blocks are closed, which leaves this chain and this unfinished block.
abbrev pub closed_tail : LogTail → List Queued → ℕ → List ℕ → LogTail
closed_tail t closed chain text =
    record t { blocks = t.blocks ++ closed; chain = chain; text = text }

-- One more block is written.
abbrev pub written_tail : LogTail → LogTail
written_tail t = record t { written = t.written + 1 }

-- The disk was flushed.
abbrev pub flushed_tail : LogTail → LogTail
flushed_tail t = record t { settled = t.written }

-- All blocks are written, and the unfinished one holds nothing.
pub record IsWrittenOut (tail : LogTail) : Type 0 where
  pub written : tail.written ≡ length tail.blocks
  pub text : tail.text ≡ []

-- ---- what a log keeps

-- What was read fits together, on a disk of so many blocks.
pub record IsHead (size : ℕ) (super : Fields) (read : List StreamBlock) (place : Start)
    : Type 0 where
  pub rules : KeepsRules super
  pub blocks : super.blocks ≡ size
  pub series : IsSeries super.generation (start_of super) read place
