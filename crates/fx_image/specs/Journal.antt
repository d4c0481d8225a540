-- The journal of a mounted disk as plain data: its log, what it began with, and the commits made
-- since; what it keeps, and what the disk has of it.
use Rattle.std.specs.Prelude.{◌≡◌, ℕ, ◌+◌, ◌^◌, ◌≤◌, ◌<◌, All, None, Some, List, [], ◌∷◌, ◌++◌, length, map, nat_le, take, if◌then◌else◌}
use Rattle.fx_item.specs.Item.{PlainItem}
use Rattle.fx_item.specs.Look.{next_id, next_store, next_id_after, next_store_after}
use Rattle.fx_plain.specs.Tree.{Tree}
use Rattle.fx_history.specs.declared.entry.Entry.{Entry}
use Rattle.fx_history.specs.History.{Legal, SettledFirst, settle_entry}
use Rattle.fx_jblock.specs.declared.Start.{Start}
use Rattle.fx_journal.specs.declared.stream.StreamBlock.{StreamBlock}
use Rattle.fx_journal.specs.Ring.{Queued, texts}
use Rattle.fx_record.specs.Commits.{IsCommit, commits_bytes}
use Rattle.fx_record.specs.Record.{TransactionRecord, record_bytes}
use Rattle.fx_record.specs.Txns.{IsTxns}
use Rattle.fx_super.specs.Super.{Fields}
use Rattle.fx_disk.specs.Record.{DiskRecord}
use Rattle.fx_log.specs.Chosen.{layers_of}
use Rattle.fx_log.specs.Log.{IsHead}
use Rattle.fx_log.specs.Raising.{ChoosesNext, ChoosesSince}
use Rattle.fx_supers.specs.Supers.{SuperCut, Supers}
use Rattle.fx_supers.specs.SessionLog.{IsSessionLog, KeepsLog, SessionLog, bare_session, closed_session, flushed_session, written_session}
use Rattle.fx_image.specs.Standing.{Transactions, HasSessionRoom, kept, lists_of, stream_pieces}
use Rattle.fx_image.specs.Replay.{Replays}
use Rattle.fx_image.specs.Prefix.{KeepsPrefix}

-- What an image stood for at the mount: its tree, the number of its last commit, and its
-- transactions.
pub record Opening : Type 0 where
  pub tree : Tree
  pub base : ℕ
  pub txns : Transactions

-- The commits made since, the items of each, and how many of them are settled.
pub record Commits : Type 0 where
  pub history : List Entry
  pub records : List (List PlainItem)
  pub marks : ℕ

pub record Journal : Type 0 where
  pub log : SessionLog
  pub opening : Opening
  pub commits : Commits

-- ---- what happens to a journal

-- Nothing was committed since the mount, and these are the superblocks.
abbrev pub new_journal : (size from : ℕ) → Tree → (base : ℕ) →
    Fields → List StreamBlock → Start → Transactions → Supers → Journal
new_journal size from tree base super read place txns supers = record {
  log = bare_session size from (record { super = super; read = read; place = place }) supers;
  opening = record { tree = tree; base = base; txns = txns };
  commits = record { history = []; records = []; marks = 0 };
}

-- One more commit. Its record bytes closed these blocks, and left this chain and this unfinished
-- block.
abbrev pub more_commits : Commits → Entry → List PlainItem → Commits
more_commits c entry items =
    record c { history = c.history ++ entry ∷ []; records = c.records ++ items ∷ [] }

abbrev pub with_commit : Journal → Entry → List PlainItem → List Queued → ℕ → List ℕ → Journal
with_commit j entry items closed chain text = record j {
  log = closed_session j.log closed chain text;
  commits = more_commits j.commits entry items;
}

-- The unfinished block is closed as it is, where it holds bytes: further blocks, the chain after
-- them, and the record bytes that are left.
abbrev pub with_closed : Journal → List Queued → ℕ → List ℕ → Journal
with_closed j closed chain text = record j { log = closed_session j.log closed chain text }

-- One more block is written.
abbrev pub with_written : Journal → Journal
with_written j = record j { log = written_session j.log }

-- the entries up to the number are settled after so many calls, where they were not before
abbrev pub settle_upto : (calls number : ℕ) → List Entry → List Entry
settle_upto calls number history =
    map (λ entry. if nat_le entry.number number then settle_entry calls entry else entry) history

-- The disk was flushed, by the last of so many calls, when the records of the first `count` commits
-- were written: these are settled.
abbrev pub settled_commits : (calls base count : ℕ) → Commits → Commits
settled_commits calls base count c =
    record c { history = settle_upto calls (base + count) c.history; marks = count }

abbrev pub with_settled : (calls count : ℕ) → Journal → Journal
with_settled calls count j = record j {
  log = flushed_session j.log;
  commits = settled_commits calls j.opening.base count j.commits;
}

-- The first `count` commits, no fewer than are settled, have their records in blocks that are
-- written.
pub record AreWritten (j : Journal) (count : ℕ) : Type 0 where
  pub more : j.commits.marks ≤ count
  pub few : count ≤ length j.commits.history
  pub whole : length (commits_bytes j.opening.base (take count j.commits.records))
      ≤ length (texts (take j.log.tail.written j.log.tail.blocks))

-- ---- what a journal keeps

-- What was read fits together, and leaves room for a session.
pub record IsReading (size base : ℕ) (super : Fields) (read : List StreamBlock) (place : Start)
    (txns : Transactions) : Type 0 where
  pub head : IsHead size super read place
  pub layers : layers_of super ≡ []
  pub txns_are : IsTxns super.base (stream_pieces read) txns
  pub base_is : kept super txns ≡ base
  pub room : HasSessionRoom super txns

-- The record bytes of the blocks, with those of the unfinished one, are those of the commits.
pub record AreRecords (base : ℕ) (blocks : List Queued) (text : List ℕ)
    (records : List (List PlainItem)) : Type 0 where
  pub each : All IsCommit records
  pub joined : texts blocks ++ text ≡ commits_bytes base records

-- The first commits are settled: their records stand in the blocks that were flushed.
pub record AreMarked (calls base : ℕ) (blocks : List Queued) (settled : ℕ) (history : List Entry)
    (records : List (List PlainItem)) (marks : ℕ) : Type 0 where
  pub few : marks ≤ length history
  pub first : SettledFirst marks history
  pub by_now : All (λ entry. entry.settled ≤ calls) history
  pub whole : length (commits_bytes base (take marks records))
      ≤ length (texts (take settled blocks))

-- the most ids, and the most stores, that are given out after a mount
abbrev pub max_given : ℕ
max_given = 2 ^ 23

-- The commits are few, and use no more ids and stores than are given out.
pub record AreFew (super : Fields) (txns : Transactions) (history : List Entry)
    (records : List (List PlainItem)) : Type 0 where
  pub few : length history ≤ 2 ^ 20
  pub ids : next_id_after super.next_id (lists_of txns ++ records)
      ≤ next_id_after super.next_id (lists_of txns) + max_given
  pub stores : next_store_after super.next_store (lists_of txns ++ records)
      ≤ next_store_after super.next_store (lists_of txns) + max_given

-- The superblock is the one that was read, but for its generation, which is at most one greater.
pub record IsMountCut (f : Fields) (cut : SuperCut) : Type 0 where
  pub same : cut ≡ record {
    super = record f { generation = cut.super.generation };
    origin = None;
  }
  pub most : cut.super.generation ≤ f.generation + 1

-- No checkpoint was made since the mount.
pub record IsUncut (f : Fields) (supers : Supers) : Type 0 where
  pub current : IsMountCut f supers.current
  pub coming : (cut : SuperCut) → supers.coming ≡ Some cut → IsMountCut f cut

-- The journal after so many calls of the disk.
pub record IsJournal (j : Journal) (calls : ℕ) : Type 0 where
  pub reading : IsReading j.log.size j.opening.base
      j.log.head.super j.log.head.read j.log.head.place j.opening.txns
  pub log : IsSessionLog j.log
  pub uncut : IsUncut j.log.head.super j.log.supers
  pub records : AreRecords j.opening.base j.log.tail.blocks j.log.tail.text j.commits.records
  pub marked : AreMarked calls j.opening.base j.log.tail.blocks j.log.tail.settled
      j.commits.history j.commits.records j.commits.marks
  pub few : AreFew j.log.head.super j.opening.txns j.commits.history j.commits.records
  pub legal : Legal j.opening.tree j.opening.base j.commits.history
  pub replays : Replays j.opening.tree j.opening.base j.opening.txns
      j.commits.history j.commits.records

-- the lists of items that stand in a journal, the oldest first
abbrev pub journal_lists : Journal → List (List PlainItem)
journal_lists j = lists_of j.opening.txns ++ j.commits.records

-- the next numbers at the mount
abbrev pub opening_id : Journal → ℕ
opening_id j = next_id_after j.log.head.super.next_id (lists_of j.opening.txns)

abbrev pub opening_store : Journal → ℕ
opening_store j = next_store_after j.log.head.super.next_store (lists_of j.opening.txns)

-- the next numbers, as its items leave them
abbrev pub journal_id : Journal → ℕ
journal_id j = next_id_after j.log.head.super.next_id (journal_lists j)

abbrev pub journal_store : Journal → ℕ
journal_store j = next_store_after j.log.head.super.next_store (journal_lists j)

-- The entry is the next one, and these items lead from the tree before it to the tree after it.
pub record IsNextCommit (j : Journal) (entry : Entry) (items : List PlainItem) : Type 0 where
  pub number : entry.number ≡ j.opening.base + length j.commits.history + 1
  pub settled : entry.settled ≡ 0
  pub legal : Legal j.opening.tree j.opening.base (j.commits.history ++ entry ∷ [])
  pub replays : Replays j.opening.tree j.opening.base j.opening.txns
      (j.commits.history ++ entry ∷ []) (j.commits.records ++ items ∷ [])
  pub items_are : IsCommit items
  pub few : length j.commits.history < 2 ^ 20
  pub id : next_id (journal_id j) items ≤ opening_id j + max_given
  pub store : next_store (journal_store j) items ≤ opening_store j + max_given

-- the record bytes of a commit
abbrev pub commit_bytes : Entry → List PlainItem → List ℕ
commit_bytes entry items = record_bytes (TransactionRecord entry.number items)

-- ---- what the disk has of it

-- This record of the disk has the journal's log. At every moment since the mount every image left
-- that is not there by chance has the superblock that was read, or that of the next generation, and
-- stands for a prefix of the history.
pub record HasJournal (j : Journal) (r : DiskRecord) : Type 0 where
  pub log : KeepsLog j.log r
  pub chooses : ChoosesSince j.log.from r
  pub keeps : KeepsPrefix j.log.size j.log.from j.opening.tree j.opening.base j.commits.history r

-- And every image left now has the superblock of the next generation.
pub record IsOnDisk (j : Journal) (r : DiskRecord) : Type 0 where
  pub journal : HasJournal j r
  pub next : ChoosesNext j.log.from r

-- The same of a disk that is being mounted, whether its superblock was raised yet or not.
pub record HasOpened (size from : ℕ) (tree : Tree) (base : ℕ) (super : Fields)
    (read : List StreamBlock) (place : Start) (txns : Transactions) (r : DiskRecord) : Type 0 where
  pub supers : Supers
  pub log : IsSessionLog
      (bare_session size from (record { super = super; read = read; place = place }) supers)
  pub uncut : IsUncut super supers
  pub journal : HasJournal (new_journal size from tree base super read place txns supers) r
