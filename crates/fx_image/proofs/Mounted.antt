-- A mounted disk with a journal, over all that happens to it.
use Rattle.std.proofs.Common.{◌≡◌, ℕ, ◌+◌, List, [], ◌++◌, Bool, true, length, drop, sym, subst, ◌∙◌, ap, arith}
use Rattle.std.specs.Prelude.{Some, IfSome, slice_get}
use Rattle.fx_disk.specs.Seen.{DiskSeen, HasFlushed, HasWritten}
use Rattle.fx_disk.specs.Steps.{IsRecordOf, Writes, MadeOrNot}
use Rattle.fx_item.specs.Item.{PlainItem}
use Rattle.fx_plain.specs.Tree.{Tree}
use Rattle.fx_history.specs.declared.entry.Entry.{Entry}
use Rattle.fx_jblock.specs.declared.Start.{Start}
use Rattle.fx_journal.specs.declared.stream.StreamBlock.{StreamBlock}
use Rattle.fx_journal.specs.Ring.{RingState, IsRing, Queued, HoldsQueue, Appended, next_block, padded, padding, without_first}
use Rattle.fx_journal.specs.Writing.{block_at, first_bytes}
use Rattle.fx_pool.specs.Region.{Region, Run}
use Rattle.fx_super.specs.Super.{Fields}
use Rattle.fx_log.specs.Chosen.{next_generation, start_of}
use Rattle.fx_log.specs.Ring.{place_in, bytes_in}
use Rattle.fx_image.specs.Standing.{Transactions}
use Rattle.fx_log.specs.Log.{IsWrittenOut}
use Rattle.fx_image.specs.Journal.{Journal, IsJournal, IsNextCommit, IsOnDisk, new_journal, commit_bytes, with_commit, with_closed, with_written, with_settled, AreWritten}
use Rattle.fx_image.specs.Prefix.{KeepsAll}
use Rattle.fx_image.specs.Mounted.{IsMounted}
use Rattle.fx_image.proofs.JournalSteps.{journal-calls, journal-commit, journal-close, journal-write, journal-settle}
use Rattle.fx_image.proofs.JournalTold.{told-all, told-commit, told-close, told-tried, told-written, told-flush-tried, told-settled}
use Rattle.fx_supers.proofs.RingInMemory.{appended, appended-ring, padding-appends, padding-ring, next-queued, next-lt, next-place, next-bytes, written-ring, made-as}
use Rattle.fx_supers.specs.Supers.{only_supers}
use Rattle.fx_super.specs.declared.choice.Which.{Which}
use Rattle.fx_disk.proofs.Frames.{no_fewer_calls}
use Rattle.fx_disk.proofs.Made.{made-counts}

-- ---- a disk that was just mounted

pub mounted-new : (size from : ℕ) (tree : Tree) (base : ℕ) (super : Fields) (read : List StreamBlock) (place : Start) (txns : Transactions) (slot : Which) (seen : DiskSeen) (ring : RingState) (region : Region)
    → IsJournal (new_journal size from tree base super read place txns (only_supers (next_generation super) slot)) seen.calls → IfSome seen.told (IsOnDisk (new_journal size from tree base super read place txns (only_supers (next_generation super) slot)))
    → ring ≡ record { start = start_of super; size = super.ring; epoch = super.generation + 1; closed = length read; chain = place.chain; text = []; promised = 0; queued = 0; buffers = [] }
    → IsMounted (new_journal size from tree base super read place txns (only_supers (next_generation super) slot)) seen ring region
mounted-new size from tree base super read place txns slot seen ring region journal disk e = record {
  journal = journal;
  disk = disk;
  ring_is = record {
    sequence = ap (λ (x : RingState). x.start.sequence) e;
    size = ap (λ (x : RingState). x.size) e;
    epoch = ap (λ (x : RingState). x.epoch) e;
    closed = omega (arith, ap (λ (x : RingState). x.closed) e);
    chain = ap (λ (x : RingState). x.chain) e;
    text = ap (λ (x : RingState). x.text) e;
    queue = record { count = ap (λ (x : RingState). x.queued) (sym e); linked = tt; held = tt };
  };
  raised = omega arith;
}

module _ (j : Journal) (seen : DiskSeen) (ring : RingState) (region : Region) (m : IsMounted j seen ring region) where
  -- ---- the ring promises blocks, or gives them back
  pub mounted-promised : (new : RingState) (pool : Region) (promised : ℕ) (buffers : List Run) → new ≡ record ring { promised = promised; buffers = buffers } → ((queue : List Queued) → HoldsQueue ring region queue → HoldsQueue new pool queue)
      → IsMounted j seen new pool
  mounted-promised new pool promised buffers e holds = record {
    journal = m.journal;
    disk = m.disk;
    ring_is = record {
      sequence = ap (λ (x : RingState). x.start.sequence) e ∙ m.ring_is.sequence;
      size = ap (λ (x : RingState). x.size) e ∙ m.ring_is.size;
      epoch = ap (λ (x : RingState). x.epoch) e ∙ m.ring_is.epoch;
      closed = omega (arith, ap (λ (x : RingState). x.closed) e, m.ring_is.closed);
      chain = ap (λ (x : RingState). x.chain) e ∙ m.ring_is.chain;
      text = ap (λ (x : RingState). x.text) e ∙ m.ring_is.text;
      queue = holds (drop j.log.tail.written j.log.tail.blocks) m.ring_is.queue;
    };
    raised = m.raised;
  }

  -- ---- a commit
  pub mounted-commit : (entry : Entry) (items : List PlainItem) → IsNextCommit j entry items
      → (new : RingState) (pool : Region) → IsRing new → new.start ≡ ring.start → new.size ≡ ring.size → new.epoch ≡ ring.epoch → new.queued + ring.closed ≡ ring.queued + new.closed
      → (a : Appended ring new pool (drop j.log.tail.written j.log.tail.blocks) (commit_bytes entry items))
      → IsMounted (with_commit j entry items a.blocks new.chain new.text) seen new pool
  mounted-commit entry items c new pool is start size epoch queued a =
      let appends = appended j.log m.journal.log ring region m.ring_is new pool (commit_bytes entry items) is start size epoch queued a m.raised in
      record {
        journal = journal-commit j seen.calls m.journal entry items a.blocks new.chain new.text c appends;
        disk = told-commit seen.told j seen.calls m.journal m.disk entry items a.blocks new.chain new.text c;
        ring_is = appended-ring j.log m.journal.log ring region m.ring_is new pool (commit_bytes entry items) is start size epoch queued a;
        raised = m.raised;
      }

  -- ---- the unfinished block is closed
  pub mounted-padded : (new : RingState) (pool : Region) → IsRing new → new ≡ padded ring → HoldsQueue new pool (drop j.log.tail.written j.log.tail.blocks ++ padding ring)
      → IsMounted (with_closed j (padding ring) new.chain new.text) seen new pool
  mounted-padded new pool is e holds =
      let appends = padding-appends j.log m.journal.log ring region m.ring_is new pool is e holds m.raised in
      record {
        journal = journal-close j seen.calls m.journal (padding ring) new.chain new.text appends;
        disk = told-close seen.told j seen.calls m.journal m.disk (padding ring) new.chain new.text;
        ring_is = padding-ring j.log m.journal.log ring region m.ring_is new pool is e holds;
        raised = m.raised;
      }

  -- ---- calls of the disk
  module _ (is : IfSome seen.told (IsRecordOf seen.size seen.calls)) (later : DiskSeen) (good : Bool) where
    -- the write of the first block that is not written
    module _ (before sequence : ℕ) (next : next_block ring before ≡ Some sequence)
        (w : HasWritten seen later (block_at ring sequence) (first_bytes ring.epoch (drop j.log.tail.written j.log.tail.blocks)) good) where
      abbrev q : Queued
      q = (next-queued j.log m.journal.log ring region m.ring_is before sequence next).0

      here : slice_get j.log.tail.blocks j.log.tail.written ≡ Some q
      here = (next-queued j.log m.journal.log ring region m.ring_is before sequence next).1

      writes : MadeOrNot seen.calls later.calls later.last_made good (Writes seen.told later.told (place_in j.log.head.super.ring q) (bytes_in (j.log.head.super.generation + 1) q) good) (later.told ≡ seen.told)
      writes = made-as seen.calls later.calls later.last_made good seen.told later.told (block_at ring sequence) (place_in j.log.head.super.ring q) (first_bytes ring.epoch (drop j.log.tail.written j.log.tail.blocks)) (bytes_in (j.log.head.super.generation + 1) q) (later.told ≡ seen.told)
          (next-place j.log m.journal.log ring region m.ring_is before sequence next) (next-bytes j.log m.journal.log ring region m.ring_is before sequence next) w.made

      -- It failed, or was not made.
      pub mounted-tried : IsMounted j later ring region
      mounted-tried = record {
        journal = journal-calls j seen.calls m.journal later.calls (no_fewer_calls seen.calls later.calls later.last_made good _ _ w.made);
        disk = told-tried j seen.size seen.calls m.journal seen.told later.told is m.disk later.calls later.last_made good q here writes;
        ring_is = m.ring_is;
        raised = m.raised;
      }

      -- It was good.
      pub mounted-written : good ≡ true → (new : RingState) (pool : Region) → new ≡ without_first ring → HoldsQueue new pool (drop 1 (drop j.log.tail.written j.log.tail.blocks)) → IsMounted (with_written j) later new pool
      mounted-written was_good new pool e holds = record {
        journal = journal-write j seen.calls m.journal later.calls (no_fewer_calls seen.calls later.calls later.last_made good _ _ w.made) (next-lt j.log m.journal.log ring region m.ring_is before sequence next);
        disk = told-written j seen.size seen.calls m.journal seen.told later.told is m.disk later.calls later.last_made good q here writes was_good;
        ring_is = written-ring j.log m.journal.log ring region m.ring_is new pool e holds;
        raised = m.raised;
      }

    -- a flush
    module _ (w : HasFlushed seen later good) where
      -- It failed, or was not made.
      pub mounted-flush-tried : IsMounted j later ring region
      mounted-flush-tried = record {
        journal = journal-calls j seen.calls m.journal later.calls (no_fewer_calls seen.calls later.calls later.last_made good _ _ w.made);
        disk = told-flush-tried j seen.size seen.calls m.journal seen.told later.told is m.disk later.calls later.last_made good w.made;
        ring_is = m.ring_is;
        raised = m.raised;
      }

      -- It was good: the commits whose records were written are settled.
      pub mounted-settled : good ≡ true → (count : ℕ) → AreWritten j count → IsMounted (with_settled (seen.calls + 1) count j) later ring region
      mounted-settled was_good count out =
          let same : later.calls ≡ seen.calls + 1 = made-counts seen.calls later.calls later.last_made good _ _ was_good w.made in
          record {
            journal = subst (λ (n : ℕ). IsJournal (with_settled (seen.calls + 1) count j) n) (sym same) (journal-settle j seen.calls m.journal (seen.calls + 1) count (omega arith) (omega arith) out);
            disk = told-settled j seen.size seen.calls m.journal seen.told later.told is m.disk later.calls later.last_made good w.made was_good count out;
            ring_is = record { sequence = m.ring_is.sequence; size = m.ring_is.size; epoch = m.ring_is.epoch; closed = m.ring_is.closed; chain = m.ring_is.chain; text = m.ring_is.text; queue = m.ring_is.queue };
            raised = m.raised;
          }

  -- ---- what a stop leaves

  -- now, where all is settled
  pub mounted-all : IsWrittenOut j.log.tail → j.log.tail.settled ≡ j.log.tail.written → IfSome seen.told (KeepsAll j.log.size j.log.from j.opening.tree j.opening.base j.commits.history)
  mounted-all out all = told-all seen.told j seen.calls m.journal m.disk out all

-- a journal that was written out still is, once it is settled
pub settled-out : (calls count : ℕ) (j : Journal) → IsWrittenOut j.log.tail → IsWrittenOut (with_settled calls count j).log.tail
settled-out calls count j out = record { written = out.written; text = out.text }
