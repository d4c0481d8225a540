-- Where a superblock cuts the blocks and the commits of a log.
use Rattle.std.specs.Prelude.{◌≡◌, ℕ, ◌+◌, ◌≤◌, All, Some, List, ◌++◌, length, take, drop, map}
use Rattle.fx_item.specs.Item.{PlainItem}
use Rattle.fx_record.specs.Commits.{IsCommit, commits_bytes, numbered}
use Rattle.fx_record.specs.Txns.{IsTxns}
use Rattle.fx_journal.specs.Ring.{Queued, texts}
use Rattle.fx_journal.specs.declared.stream.StreamBlock.{StreamBlock}
use Rattle.fx_supers.specs.Supers.{SuperCut}

-- What a session appended: the bytes of the mount's own records, if any, and then those of its
-- commits, which are numbered from the one after `last` on. They fill the closed blocks and the
-- unfinished one.
pub record AreAppended (opened : List ℕ) (last : ℕ) (blocks : List Queued) (text : List ℕ)
    (commits : List (List PlainItem)) : Type 0 where
  pub each : All IsCommit commits
  pub joined : texts blocks ++ text ≡ opened ++ commits_bytes last commits

-- The first `n` blocks hold just the mount's records and those of the first `count` commits. No
-- record lies on both sides.
pub record CutsAt (opened : List ℕ) (last : ℕ) (blocks : List Queued)
    (commits : List (List PlainItem)) (n count : ℕ) : Type 0 where
  pub few : n ≤ length blocks
  pub within : count ≤ length commits
  pub joined : texts (take n blocks) ≡ opened ++ commits_bytes last (take count commits)

-- The superblock is a cut: its stream begins before a block, and its base is the number of the last
-- commit before that.
pub record IsCutSuper (opened : List ℕ) (last : ℕ) (blocks : List Queued)
    (commits : List (List PlainItem)) (cut : SuperCut) : Type 0 where
  pub n : ℕ
  pub count : ℕ
  pub origin : cut.origin ≡ Some n
  pub at : CutsAt opened last blocks commits n count
  pub base : cut.super.base ≡ last + count

-- the blocks of a stream as their epochs and record bytes
abbrev pub pieces_in : List StreamBlock → List (ℕ × List ℕ)
pieces_in stream = map (λ block. (block.epoch, block.records)) stream

-- The stream leaves the commits from the one after `count` on, as far as it reaches, numbered from
-- the one after the base on: with those before the cut at least the first `marks`.
pub record ShowsCommits (base : ℕ) (stream : List StreamBlock) (commits : List (List PlainItem))
    (count marks : ℕ) : Type 0 where
  pub more : ℕ
  pub most : count + more ≤ length commits
  pub least : marks ≤ count + more
  pub txns : IsTxns base (pieces_in stream) (numbered base (take more (drop count commits)))
