-- The same of what a disk tells, or does not tell, over calls that were made or not.
use Rattle.std.proofs.Common.{◌≡◌, ℕ, ◌+◌, ◌≤◌, List, Bool, true, length, sym, subst, ⊎_elim}
use Rattle.std.specs.Prelude.{Option, Some, IfSome, slice_get}
use Rattle.fx_disk.specs.Record.{DiskRecord}
use Rattle.fx_disk.specs.Steps.{IsRecordOf, Writes, Flushes, MadeOrNot, with_write}
use Rattle.fx_disk.proofs.Told.{made-write, made-flush, told-map, told-both, told-write, told-flush}
use Rattle.fx_item.specs.Item.{PlainItem}
use Rattle.fx_plain.specs.Tree.{Tree}
use Rattle.fx_history.specs.declared.entry.Entry.{Entry}
use Rattle.fx_jblock.specs.declared.Start.{Start}
use Rattle.fx_journal.specs.declared.stream.StreamBlock.{StreamBlock}
use Rattle.fx_journal.specs.Stream.{IsStream}
use Rattle.fx_journal.specs.Ring.{Queued}
use Rattle.fx_super.specs.Super.{Fields, IsSuper}
use Rattle.fx_super.specs.Chosen.{IsChosen, block_number, other}
use Rattle.fx_super.specs.declared.choice.Which.{Which}
use Rattle.fx_log.specs.Chosen.{next_generation, start_of}
use Rattle.fx_log.specs.Raising.{ChoosesNext}
use Rattle.fx_log.specs.Ring.{place_in, bytes_in}
use Rattle.fx_supers.specs.Supers.{Supers, only_supers, put_supers, raised_cut}
use Rattle.fx_image.specs.Standing.{StandsFor, Transactions, items_after}
use Rattle.fx_image.specs.Prefix.{KeepsAll}
use Rattle.fx_log.specs.Log.{IsWrittenOut}
use Rattle.fx_image.specs.Journal.{Journal, IsJournal, IsNextCommit, IsReading, HasJournal, HasOpened, IsOnDisk, new_journal, with_commit, with_closed, with_written, with_settled, AreWritten}
use Rattle.fx_disk.proofs.Made.{good-made}
use Rattle.fx_image.proofs.PrefixNow.{keeps-all}
use Rattle.fx_image.proofs.JournalCalls.{disk-commit, disk-close, disk-tried, disk-written, disk-flush, disk-settled, journal-flush}
use Rattle.fx_image.proofs.MountCalls.{begun-read, begun-raise, begun-finish, log-put, log-read, uncut-put, uncut-read}
use Rattle.fx_image.proofs.JournalStart.{journal-new}

-- what the counts and the record tell together
abbrev Known : ℕ → ℕ → (DiskRecord → Type 0) → DiskRecord → Type 0
Known size count I r = IsRecordOf size count r × I r

known : (size count : ℕ) (I : DiskRecord → Type 0) (told : Option DiskRecord) → IfSome told (IsRecordOf size count) → IfSome told I → IfSome told (Known size count I)
known size count I told is h = told-both (IsRecordOf size count) I (Known size count I) told (λ r a b. (a, b)) is h

-- ---- commits

module _ (told : Option DiskRecord) (j : Journal) (count : ℕ) (h : IsJournal j count) (d : IfSome told (IsOnDisk j)) where
  pub told-commit : (entry : Entry) (items : List PlainItem) (closed : List Queued) (chain : ℕ) (text : List ℕ) → IsNextCommit j entry items → IfSome told (IsOnDisk (with_commit j entry items closed chain text))
  told-commit entry items closed chain text c = told-map (IsOnDisk j) (IsOnDisk (with_commit j entry items closed chain text)) told (λ r k. disk-commit j count h r k entry items closed chain text c) d

  pub told-close : (closed : List Queued) (chain : ℕ) (text : List ℕ) → IfSome told (IsOnDisk (with_closed j closed chain text))
  told-close closed chain text = told-map (IsOnDisk j) (IsOnDisk (with_closed j closed chain text)) told (λ r k. disk-close j count h r k closed chain text) d

  -- what a stop leaves now, where all is settled
  pub told-all : IsWrittenOut j.log.tail → j.log.tail.settled ≡ j.log.tail.written → IfSome told (KeepsAll j.log.size j.log.from j.opening.tree j.opening.base j.commits.history)
  told-all out all = told-map (IsOnDisk j) (KeepsAll j.log.size j.log.from j.opening.tree j.opening.base j.commits.history) told
      (λ r o. keeps-all j count h r o.journal.log out all) d

-- ---- calls

module _ (j : Journal) (size count : ℕ) (h : IsJournal j count) (before after : Option DiskRecord) (is : IfSome before (IsRecordOf size count)) (d : IfSome before (IsOnDisk j)) (counted : ℕ) (made ok : Bool) where
  -- the write of the first block that is not written
  module _ (q : Queued) (here : slice_get j.log.tail.blocks j.log.tail.written ≡ Some q)
      (w : MadeOrNot count counted made ok (Writes before after (place_in j.log.head.super.ring q) (bytes_in (j.log.head.super.generation + 1) q) ok) (after ≡ before)) where
    pub told-tried : IfSome after (IsOnDisk j)
    told-tried = told-write before after count counted made ok (Known size count (IsOnDisk j)) (IsOnDisk j) (place_in j.log.head.super.ring q) (bytes_in (j.log.head.super.generation + 1) q) w
        (λ r k. k.1) (λ r held holds k. disk-tried j count h r k.1 size count k.0 q here held ok) (known size count (IsOnDisk j) before is d)

    -- it was good
    pub told-written : ok ≡ true → IfSome after (IsOnDisk (with_written j))
    told-written good =
        let done : Writes before after (place_in j.log.head.super.ring q) (bytes_in (j.log.head.super.generation + 1) q) true =
        good-made count counted made (Writes before after (place_in j.log.head.super.ring q) (bytes_in (j.log.head.super.generation + 1) q) true) (after ≡ before)
        (subst (λ (t : Bool). MadeOrNot count counted made t (Writes before after (place_in j.log.head.super.ring q) (bytes_in (j.log.head.super.generation + 1) q) t) (after ≡ before)) good w) in
        made-write (Known size count (IsOnDisk j)) (IsOnDisk (with_written j)) before after (place_in j.log.head.super.ring q) (bytes_in (j.log.head.super.generation + 1) q) true done
        (λ r held holds k. disk-written j count h r k.1 size count k.0 q here held) (known size count (IsOnDisk j) before is d)

  module _ (w : MadeOrNot count counted made ok (Flushes before after ok) (after ≡ before)) where
    -- a flush
    pub told-flush-tried : IfSome after (IsOnDisk j)
    told-flush-tried = told-flush before after count counted made ok (IsOnDisk j) (IsOnDisk j) w (λ r k. k) (λ r k. disk-flush j count h r k ok) d

    flush-done : ok ≡ true → Flushes before after true
    flush-done good = good-made count counted made (Flushes before after true) (after ≡ before)
        (subst (λ (t : Bool). MadeOrNot count counted made t (Flushes before after t) (after ≡ before)) good w)

    -- it was good, and all was written
    pub told-settled : ok ≡ true → (first : ℕ) → AreWritten j first → IfSome after (IsOnDisk (with_settled (count + 1) first j))
    told-settled good first out = made-flush (Known size count (IsOnDisk j)) (IsOnDisk (with_settled (count + 1) first j)) before after true (flush-done good)
        (λ r k. disk-settled j count h r k.1 (sym k.0.counted) first out) (known size count (IsOnDisk j) before is d)

-- ---- a mount

-- The disk reads as an image with this superblock and this stream.
pub record ReadsAs (which : Which) (super : Fields) (read : List StreamBlock) (place : Start) (r : DiskRecord) : Type 0 where
  pub chosen : IsChosen r.contents which super
  pub stream : IsStream r.contents super.ring super.generation (start_of super) read place

module _ (size count : ℕ) (tree : Tree) (base : ℕ) (super : Fields) (read : List StreamBlock) (place : Start) (txns : Transactions)
    (reading : IsReading size base super read place txns) (fits : length read ≤ super.ring) (stands : StandsFor (items_after txns) tree) where
  abbrev journal : Supers → Journal
  journal supers = new_journal size count tree base super read place txns supers

  abbrev Opened : DiskRecord → Type 0
  Opened = HasOpened size count tree base super read place txns

  -- ---- before the superblock is raised

  module _ (before : Option DiskRecord) (is : IfSome before (IsRecordOf size count)) (which : Which) (reads : IfSome before (ReadsAs which super read place)) where
    told-read : IfSome before Opened
    told-read = told-map (Known size count (ReadsAs which super read place)) Opened before
        (λ r k. by r count k.0.counted k.0 k.1) (known size count (ReadsAs which super read place) before is reads)
      where
        by : (r : DiskRecord) (n : ℕ) → length r.calls ≡ n → IsRecordOf size n r → ReadsAs which super read place r → HasOpened size n tree base super read place txns r
        by r n same ok seen =
            subst (λ (m : ℕ). IsRecordOf size m r → HasOpened size m tree base super read place txns r) same
            (λ own. record {
              supers = only_supers super which;
              log = log-read size (length r.calls) tree base super read place txns reading fits which;
              uncut = uncut-read super which;
              journal = begun-read size r own tree base super read place txns reading fits stands which seen.chosen seen.stream;
            }) ok

    module _ (bytes : List ℕ) (next : IsSuper bytes (next_generation super)) where
      -- the superblock of the next generation is written, by a good write or a failed one
      abbrev Put : Bool → DiskRecord → Type 0
      Put good = HasJournal (journal (put_supers (only_supers super which) (raised_cut super) good))

      put-by : (r : DiskRecord) (good : Bool) (held : List ℕ) (n : ℕ) → length r.calls ≡ n → IsRecordOf size n r → ReadsAs which super read place r
          → HasJournal (new_journal size n tree base super read place txns (put_supers (only_supers super which) (raised_cut super) good)) (with_write r (block_number (other which)) bytes good held)
      put-by r good held n same is seen =
          subst (λ (m : ℕ). IsRecordOf size m r → HasJournal (new_journal size m tree base super read place txns (put_supers (only_supers super which) (raised_cut super) good)) (with_write r (block_number (other which)) bytes good held)) same
          (λ own. begun-raise size r own tree base super read place txns reading fits stands which seen.chosen seen.stream bytes next good held) is

      told-put : (mid : Option DiskRecord) (good : Bool) → Writes before mid (block_number (other which)) bytes good → IfSome mid (Put good)
      told-put mid good w = made-write (Known size count (ReadsAs which super read place)) (Put good) before mid (block_number (other which)) bytes good w
          (λ r held holds k. put-by r good held count k.0.counted k.0 k.1) (known size count (ReadsAs which super read place) before is reads)

      opened-put : (mid : Option DiskRecord) (good : Bool) → IfSome mid (Put good) → IfSome mid Opened
      opened-put mid good d = told-map (Put good) Opened mid (λ r k. record {
        supers = put_supers (only_supers super which) (raised_cut super) good;
        log = log-put size count tree base super read place txns reading fits which next.rules good;
        uncut = uncut-put super which good;
        journal = k;
      }) d

      -- written, or not
      pub told-raise : (mid : Option DiskRecord) (counted : ℕ) (made ok : Bool) → MadeOrNot count counted made ok (Writes before mid (block_number (other which)) bytes ok) (mid ≡ before) → IfSome mid (HasOpened size count tree base super read place txns)
      told-raise mid counted made ok w = ⊎_elim
          (λ y. opened-put mid ok (told-put mid ok y.done))
          (λ no. subst (λ (o : Option DiskRecord). IfSome o Opened) (sym no.same) told-read) w

      -- written by a good write, and flushed by a good flush
      pub told-raised : (mid after : Option DiskRecord) → Writes before mid (block_number (other which)) bytes true → Flushes mid after true
          → IfSome after (HasJournal (new_journal size count tree base super read place txns (only_supers (next_generation super) (other which))))
      told-raised mid after w v = made-flush (Put true) (HasJournal (journal (only_supers (next_generation super) (other which)))) mid after true v
          (λ r k. begun-finish size count tree base super read place txns reading fits stands which next.rules r k) (told-put mid true w)

  -- any flush before the first commit
  pub told-begun-flush : (mid after : Option DiskRecord) (calls counted : ℕ) (made ok : Bool) → MadeOrNot calls counted made ok (Flushes mid after ok) (after ≡ mid)
      → IfSome mid (HasOpened size count tree base super read place txns) → IfSome after (HasOpened size count tree base super read place txns)
  told-begun-flush mid after calls counted made ok w d = told-flush mid after calls counted made ok Opened Opened w (λ r k. k)
      (λ r k. record {
        supers = k.supers;
        log = k.log;
        uncut = k.uncut;
        journal = journal-flush (journal k.supers) count (journal-new size count tree base super read place txns reading k.supers k.log k.uncut count stands) r k.journal ok;
      }) d

-- both calls were good
pub told-mounted : (j : Journal) (after : Option DiskRecord) → IfSome after (HasJournal j) → IfSome after (ChoosesNext j.log.from) → IfSome after (IsOnDisk j)
told-mounted j after d next = told-both (HasJournal j) (ChoosesNext j.log.from) (IsOnDisk j) after (λ r a b. record { journal = a; next = b }) d next
