-- What a disk has of a journal, over commits, writes and flushes.
use Rattle.std.proofs.Common.{◌≡◌, ℕ, ◌+◌, Bool, true, List, [], ◌∷◌, ◌++◌, length, set, arith}
use Rattle.std.specs.Prelude.{Some, slice_get}
use Rattle.fx_disk.specs.Record.{DiskRecord}
use Rattle.fx_disk.specs.Steps.{IsRecordOf, with_write, with_flush}
use Rattle.fx_item.specs.Item.{PlainItem}
use Rattle.fx_history.specs.declared.entry.Entry.{Entry}
use Rattle.fx_journal.specs.Ring.{Queued}
use Rattle.fx_log.specs.Ring.{place_in, bytes_in}
use Rattle.fx_log.proofs.SuperCalls.{since-flush, next-flush}
use Rattle.fx_log.proofs.SuperWrites.{since-write, next-write}
use Rattle.fx_supers.specs.SessionLog.{KeepsLog, flushed_session}
use Rattle.fx_supers.proofs.LogHeld.{keeps-closed, keeps-flush, keeps-flushed, keeps-tried, keeps-written}
use Rattle.fx_image.specs.Journal.{HasJournal, Journal, IsJournal, IsNextCommit, IsOnDisk, with_commit, with_closed, with_written, with_settled, settle_upto, AreWritten}
use Rattle.fx_image.proofs.JournalSteps.{journal-settle}
use Rattle.fx_image.proofs.PrefixCalls as prefixes
use Rattle.fx_image.proofs.PrefixNow.{keeps-now}

-- ---- a flush, also of a disk that is being mounted

module _ (j : Journal) (calls : ℕ) (h : IsJournal j calls) (r : DiskRecord) (d : HasJournal j r) where
  -- whether it was good or failed
  pub journal-flush : (ok : Bool) → HasJournal j (with_flush r ok)
  journal-flush ok =
      let log : KeepsLog j.log (with_flush r ok) = keeps-flush j.log h.log r d.log ok in
      record {
        log = log;
        chooses = since-flush j.log.from r ok d.chooses;
        keeps = prefixes.keeps-flush j.log.size j.log.from j.opening.tree j.opening.base j.commits.history j.commits.history r (λ ample m image le is. is) d.keeps r.contents ok
            (keeps-now j calls h (with_flush r ok) log);
      }

module _ (j : Journal) (calls : ℕ) (h : IsJournal j calls) (r : DiskRecord) (d : IsOnDisk j r) where
  abbrev l : KeepsLog j.log r
  l = d.journal.log

  -- ---- commits

  pub disk-commit : (entry : Entry) (items : List PlainItem) (closed : List Queued) (chain : ℕ) (text : List ℕ) → IsNextCommit j entry items → IsOnDisk (with_commit j entry items closed chain text) r
  disk-commit entry items closed chain text c = record {
    journal = record {
      log = keeps-closed j.log h.log r l closed chain text;
      chooses = d.journal.chooses;
      keeps = prefixes.keeps-map j.log.size j.log.from j.opening.tree j.opening.base j.commits.history (j.commits.history ++ entry ∷ []) r
          (λ ample k image le is. prefixes.prefix-more j.log.size ample j.opening.tree j.opening.base j.commits.history k image entry c.number c.settled is) d.journal.keeps;
    };
    next = d.next;
  }

  pub disk-close : (closed : List Queued) (chain : ℕ) (text : List ℕ) → IsOnDisk (with_closed j closed chain text) r
  disk-close closed chain text = record {
    journal = record { log = keeps-closed j.log h.log r l closed chain text; chooses = d.journal.chooses; keeps = d.journal.keeps };
    next = d.next;
  }

  -- ---- the write of the first block that is not written

  module _ (size count : ℕ) (is : IsRecordOf size count r) (q : Queued) (here : slice_get j.log.tail.blocks j.log.tail.written ≡ Some q) (held : List ℕ) where
    abbrev at : ℕ
    at = place_in j.log.head.super.ring q

    abbrev bytes : List ℕ
    bytes = bytes_in (j.log.head.super.generation + 1) q

    -- whether it was good or failed
    pub disk-tried : (ok : Bool) → IsOnDisk j (with_write r at bytes ok held)
    disk-tried ok =
        let log : KeepsLog j.log (with_write r at bytes ok held) = keeps-tried j.log h.log r l q here ok held in
        record {
          journal = record {
            log = log;
            chooses = since-write size count r is at (omega arith) bytes ok held j.log.from d.journal.chooses;
            keeps = prefixes.keeps-write j.log.size j.log.from j.opening.tree j.opening.base j.commits.history j.commits.history r (λ ample m image le is. is) d.journal.keeps (set r.contents at held) at bytes ok
                (keeps-now j calls h (with_write r at bytes ok held) log);
          };
          next = next-write size count r is at (omega arith) bytes ok held j.log.from l.since d.next;
        }

    -- where it was good
    pub disk-written : IsOnDisk (with_written j) (with_write r at bytes true held)
    disk-written =
        let tried : IsOnDisk j (with_write r at bytes true held) = disk-tried true in
        record {
          journal = record { log = keeps-written j.log h.log r l q here held; chooses = tried.journal.chooses; keeps = tried.journal.keeps };
          next = tried.next;
        }

  -- ---- a flush

  -- whether it was good or failed
  pub disk-flush : (ok : Bool) → IsOnDisk j (with_flush r ok)
  disk-flush ok = record { journal = journal-flush j calls h r d.journal ok; next = next-flush j.log.from r ok l.since d.next }

  -- where it was good: the commits whose records were written are settled
  pub disk-settled : calls ≡ length r.calls → (count : ℕ) → AreWritten j count → IsOnDisk (with_settled (calls + 1) count j) (with_flush r true)
  disk-settled same count out =
      let log : KeepsLog (flushed_session j.log) (with_flush r true) = keeps-flushed j.log h.log r l in
      let settled : IsJournal (with_settled (calls + 1) count j) (calls + 1) = journal-settle j calls h (calls + 1) count (omega (arith)) (omega (arith)) out in
      record {
        journal = record {
          log = log;
          chooses = since-flush j.log.from r true d.journal.chooses;
          keeps = prefixes.keeps-flush j.log.size j.log.from j.opening.tree j.opening.base j.commits.history (settle_upto (calls + 1) (j.opening.base + count) j.commits.history) r
              (λ ample m image le is. prefixes.prefix-settled j.log.size ample j.opening.tree j.opening.base j.commits.history m image (calls + 1) (j.opening.base + count) (omega (arith, le, same)) is) d.journal.keeps r.contents true
              (keeps-now (with_settled (calls + 1) count j) (calls + 1) settled (with_flush r true) log);
        };
        next = next-flush j.log.from r true l.since d.next;
      }
