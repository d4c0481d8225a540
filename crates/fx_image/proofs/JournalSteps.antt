-- A journal over what happens to it.
use Rattle.std.proofs.Common.{◌≡◌, ℕ, ◌+◌, ◌^◌, ◌≤◌, ◌<◌, List, [], ◌∷◌, ◌++◌, length, take, sym, ◌∙◌, ap, arith, length-append, append_assoc, append-nil}
use Rattle.std.specs.Prelude.{All}
use Rattle.std.proofs.lemmas.List.{take-append-le}
use Rattle.std.proofs.lemmas.List.Concat.{flat_map-append}
use Rattle.std.proofs.lemmas.List.Elements.{All-push}
use Rattle.std.proofs.Math.Seq.{take-length}
use Rattle.fx_item.specs.Item.{PlainItem}
use Rattle.fx_item.specs.Look.{next_id, next_store, next_id_after, next_store_after}
use Rattle.fx_namespace.proofs.Items.{next_id_after-more, next_store_after-more}
use Rattle.fx_history.specs.declared.entry.Entry.{Entry}
use Rattle.fx_history.proofs.Settling.{first_more}
use Rattle.fx_image.proofs.SettleUpto.{legal_upto, tree_at_upto, upto_first, upto_length, upto_most}
use Rattle.fx_journal.specs.Ring.{Queued, texts}
use Rattle.fx_record.specs.Record.{TransactionRecord, record_bytes}
use Rattle.fx_record.specs.Commits.{IsCommit, commits_bytes}
use Rattle.fx_record.proofs.Commits.{commits_bytes-push}
use Rattle.fx_super.specs.Super.{Fields}
use Rattle.fx_image.specs.Standing.{Transactions, lists_of}
use Rattle.fx_log.specs.Log.{IsWrittenOut}
use Rattle.fx_supers.specs.InMemory.{AppendsTo}
use Rattle.fx_supers.proofs.LogKept.{session-closed, session-flushed, session-written}
use Rattle.fx_image.specs.Journal.{Journal, IsJournal, IsNextCommit, AreRecords, AreWritten, AreMarked, AreFew, max_given, commit_bytes, with_commit, with_closed, with_written, with_settled, settle_upto}
use Rattle.fx_image.proofs.Replay.{replay_settled}
use Rattle.fx_image.proofs.PrefixImage.{text_of, texts-fewer}

-- ---- the parts

-- further blocks
records-closed : (base : ℕ) (blocks closed : List Queued) (old text more : List ℕ) (records others : List (List PlainItem)) → All IsCommit others → AreRecords base blocks old records
    → texts closed ++ text ≡ old ++ more → commits_bytes base records ++ more ≡ commits_bytes base others → AreRecords base (blocks ++ closed) text others
records-closed base blocks closed old text more records others each h appended grows = record {
  each = each;
  joined =
      ap (λ (w : List ℕ). w ++ text) (flat_map-append text_of blocks closed)
      ∙ append_assoc (texts blocks) (texts closed) text
      ∙ ap (λ (w : List ℕ). texts blocks ++ w) appended
      ∙ sym (append_assoc (texts blocks) old more)
      ∙ ap (λ (w : List ℕ). w ++ more) h.joined
      ∙ grows;
}

marked-closed : (calls base : ℕ) (blocks closed : List Queued) (settled : ℕ) (history : List Entry) (records : List (List PlainItem)) (marks : ℕ) → settled ≤ length blocks
    → AreMarked calls base blocks settled history records marks → AreMarked calls base (blocks ++ closed) settled history records marks
marked-closed calls base blocks closed settled history records marks le h = record {
  few = h.few;
  first = h.first;
  by_now = h.by_now;
  whole = omega (arith, h.whole, ap (λ (qs : List Queued). length (texts qs)) (take-append-le settled blocks closed le));
}

-- one more commit
marked-more : (calls base : ℕ) (blocks : List Queued) (settled : ℕ) (history : List Entry) (records : List (List PlainItem)) (marks : ℕ) (entry : Entry) (items : List PlainItem) → length records ≡ length history → entry.settled ≡ 0
    → AreMarked calls base blocks settled history records marks → AreMarked calls base blocks settled (history ++ entry ∷ []) (records ++ items ∷ []) marks
marked-more calls base blocks settled history records marks entry items same none h = record {
  few = omega (arith, h.few, length-append history (entry ∷ []));
  first = first_more marks history entry h.first h.few none;
  by_now = All-push (λ (e : Entry). e.settled ≤ calls) history entry h.by_now (omega (arith, none));
  whole =
      let le : marks ≤ length records = omega (arith, h.few) in
      omega (arith, h.whole, ap (λ (rs : List (List PlainItem)). length (commits_bytes base rs)) (take-append-le marks records (items ∷ []) le));
}

-- more blocks were flushed, and more calls made
marked-flushed : (calls more base : ℕ) (blocks : List Queued) (settled flushed : ℕ) (history : List Entry) (records : List (List PlainItem)) (marks : ℕ) → calls ≤ more → settled ≤ flushed
    → AreMarked calls base blocks settled history records marks → AreMarked more base blocks flushed history records marks
marked-flushed calls more base blocks settled flushed history records marks le fewer h = record {
  few = h.few;
  first = h.first;
  by_now = λ i d lt. omega (arith, h.by_now i d lt);
  whole = omega (arith, h.whole, texts-fewer blocks settled flushed fewer);
}

few-more : (super : Fields) (txns : Transactions) (history : List Entry) (records : List (List PlainItem)) (entry : Entry) (items : List PlainItem) → AreFew super txns history records → length history < 2 ^ 20
    → next_id (next_id_after super.next_id (lists_of txns ++ records)) items ≤ next_id_after super.next_id (lists_of txns) + max_given
    → next_store (next_store_after super.next_store (lists_of txns ++ records)) items ≤ next_store_after super.next_store (lists_of txns) + max_given
    → AreFew super txns (history ++ entry ∷ []) (records ++ items ∷ [])
few-more super txns history records entry items h few id store =
    let joined : (lists_of txns ++ records) ++ items ∷ [] ≡ lists_of txns ++ (records ++ items ∷ []) = append_assoc (lists_of txns) records (items ∷ []) in
    record {
      few = omega (arith, few, length-append history (entry ∷ []));
      ids = omega (arith, id, next_id_after-more super.next_id (lists_of txns ++ records) items, ap (next_id_after super.next_id) joined);
      stores = omega (arith, store, next_store_after-more super.next_store (lists_of txns ++ records) items, ap (next_store_after super.next_store) joined);
    }

few-settled : (super : Fields) (txns : Transactions) (history other : List Entry) (records : List (List PlainItem)) → length other ≡ length history → AreFew super txns history records → AreFew super txns other records
few-settled super txns history other records same h = record { few = omega (arith, h.few); ids = omega (arith, h.ids); stores = omega (arith, h.stores) }

-- ---- what happens

module _ (j : Journal) (calls : ℕ) (h : IsJournal j calls) where
  pub journal-commit : (entry : Entry) (items : List PlainItem) (closed : List Queued) (chain : ℕ) (text : List ℕ) → IsNextCommit j entry items → AppendsTo j.log (commit_bytes entry items) closed chain text → IsJournal (with_commit j entry items closed chain text) calls
  journal-commit entry items closed chain text c a = record {
    reading = h.reading;
    log = session-closed j.log h.log closed chain text a.may;
    uncut = h.uncut;
    records = records-closed j.opening.base j.log.tail.blocks closed j.log.tail.text text (commit_bytes entry items) j.commits.records (j.commits.records ++ items ∷ [])
        (All-push IsCommit j.commits.records items h.records.each c.items_are) h.records a.joined
        (ap (λ (n : ℕ). commits_bytes j.opening.base j.commits.records ++ record_bytes (TransactionRecord n items)) (c.number ∙ ap (λ (n : ℕ). j.opening.base + n + 1) (sym h.replays.one_each))
        ∙ sym (commits_bytes-push j.opening.base j.commits.records items));
    marked = marked-more calls j.opening.base (j.log.tail.blocks ++ closed) j.log.tail.settled j.commits.history j.commits.records j.commits.marks entry items h.replays.one_each c.settled
        (marked-closed calls j.opening.base j.log.tail.blocks closed j.log.tail.settled j.commits.history j.commits.records j.commits.marks (omega (arith, h.log.fewer, h.log.most)) h.marked);
    few = few-more j.log.head.super j.opening.txns j.commits.history j.commits.records entry items h.few c.few c.id c.store;
    legal = c.legal;
    replays = c.replays;
  }

  pub journal-close : (closed : List Queued) (chain : ℕ) (text : List ℕ) → AppendsTo j.log [] closed chain text → IsJournal (with_closed j closed chain text) calls
  journal-close closed chain text a = record {
    reading = h.reading;
    log = session-closed j.log h.log closed chain text a.may;
    uncut = h.uncut;
    records = records-closed j.opening.base j.log.tail.blocks closed j.log.tail.text text [] j.commits.records j.commits.records h.records.each h.records a.joined (append-nil (commits_bytes j.opening.base j.commits.records));
    marked = marked-closed calls j.opening.base j.log.tail.blocks closed j.log.tail.settled j.commits.history j.commits.records j.commits.marks (omega (arith, h.log.fewer, h.log.most)) h.marked;
    few = h.few;
    legal = h.legal;
    replays = h.replays;
  }

  -- further calls of the disk
  pub journal-calls : (more : ℕ) → calls ≤ more → IsJournal j more
  journal-calls more le = record {
    reading = h.reading;
    log = h.log;
    uncut = h.uncut;
    records = h.records;
    marked = marked-flushed calls more j.opening.base j.log.tail.blocks j.log.tail.settled j.log.tail.settled j.commits.history j.commits.records j.commits.marks le (omega arith) h.marked;
    few = h.few;
    legal = h.legal;
    replays = h.replays;
  }

  pub journal-write : (more : ℕ) → calls ≤ more → j.log.tail.written < length j.log.tail.blocks → IsJournal (with_written j) more
  journal-write more le some = record {
    reading = h.reading;
    log = session-written j.log h.log some;
    uncut = h.uncut;
    records = h.records;
    marked = marked-flushed calls more j.opening.base j.log.tail.blocks j.log.tail.settled j.log.tail.settled j.commits.history j.commits.records j.commits.marks le (omega arith) h.marked;
    few = h.few;
    legal = h.legal;
    replays = h.replays;
  }

  -- the records of the first commits were written, and are flushed now
  pub journal-settle : (more count : ℕ) → calls ≤ more → 1 ≤ more → AreWritten j count → IsJournal (with_settled more count j) more
  journal-settle more count le some out = record {
    reading = h.reading;
    log = session-flushed j.log h.log;
    uncut = h.uncut;
    records = h.records;
    marked = record {
      few = omega (arith, out.few, upto_length more (j.opening.base + count) j.commits.history);
      first = upto_first j.opening.tree j.opening.base more count j.commits.history h.legal some j.commits.marks h.marked.first out.more;
      by_now = upto_most more (j.opening.base + count) j.commits.history all-before;
      whole = out.whole;
    };
    few = few-settled j.log.head.super j.opening.txns j.commits.history (settle_upto more (j.opening.base + count) j.commits.history) j.commits.records (upto_length more (j.opening.base + count) j.commits.history) h.few;
    legal = legal_upto j.opening.tree j.opening.base more count j.commits.history h.legal some all-before;
    replays = replay_settled j.opening.tree j.opening.base j.opening.txns j.commits.history (settle_upto more (j.opening.base + count) j.commits.history) j.commits.records h.replays (upto_length more (j.opening.base + count) j.commits.history) (λ n. tree_at_upto j.opening.tree more (j.opening.base + count) j.commits.history n);
  }
    where
      all-before : All (λ (e : Entry). e.settled ≤ more) j.commits.history
      all-before = λ i d lt. omega (arith, h.marked.by_now i d lt)

  -- where all was written, so were the records of all commits
  pub written-all : IsWrittenOut j.log.tail → AreWritten j (length j.commits.history)
  written-all out = record {
    more = h.marked.few;
    few = omega arith;
    whole = omega (arith, ap length (sym whole));
  }
    where
      -- all blocks are all of the records
      whole : texts (take j.log.tail.written j.log.tail.blocks) ≡ commits_bytes j.opening.base (take (length j.commits.history) j.commits.records)
      whole =
          ap (λ (n : ℕ). texts (take n j.log.tail.blocks)) out.written ∙ ap texts (take-length j.log.tail.blocks)
          ∙ sym (append-nil (texts j.log.tail.blocks))
          ∙ ap (λ (w : List ℕ). texts j.log.tail.blocks ++ w) (sym out.text) ∙ h.records.joined
          ∙ ap (commits_bytes j.opening.base) (sym (ap (λ (n : ℕ). take n j.commits.records) (sym h.replays.one_each) ∙ take-length j.commits.records))
