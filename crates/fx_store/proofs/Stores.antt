-- What a mounted disk keeps inside, over all that happens to it.
use Rattle.std.proofs.Common.{◌≡◌, ℕ, ◌+◌, ◌^◌, ◌≤◌, ◌<◌, Bool, true, List, [], ◌∷◌, ◌++◌, length, length-append, drop, refl, sym, ap, subst, ◌∙◌, append_assoc, arith}
use Rattle.std.specs.Prelude.{None, Some, IfSome, All, Ok, sum_by}
use Rattle.std.proofs.lemmas.List.{length-drop}
use Rattle.fx_item.specs.Item.{PlainItem}
use Rattle.fx_item.specs.Look.{ItemMap, after, after_all, next_id, next_store, next_id_after, next_store_after}
use Rattle.fx_plain.specs.Bare.{bare}
use Rattle.fx_plain.specs.Table.{do_step, refused}
use Rattle.fx_plain.specs.Growth.{new_nodes}
use Rattle.fx_plain.specs.Tree.{IsCountable, Tree, node_count}
use Rattle.fx_plain.proofs.Growth.{node_count-do_step}
use Rattle.fx_plain.specs.declared.step.Step.{Step}
use Rattle.fx_plain.specs.declared.step.Step.TheVariants.{Mkdir, Create, Write, Read, List as ListStep, Stat as StatStep}
use Rattle.fx_plain.specs.declared.step.Answer.{Answer}
use Rattle.fx_namespace.specs.Commits.{IsBelow}
use Rattle.fx_namespace.specs.Trees as holdings
use Rattle.fx_namespace.specs.Trees.{IsTreeOf}
use Rattle.fx_namespace.proofs.Items.{after_all-more, next_id_after-more, next_store_after-more}
use Rattle.fx_namespace.proofs.Trees.{one_tree}
use Rattle.fx_record.specs.Txns.{txns_of}
use Rattle.fx_history.specs.declared.entry.Entry.{Entry}
use Rattle.fx_history.specs.History.{SettledFirst, tree_at, settle}
use Rattle.fx_history.proofs.Histories.{below_end, tree_next}
use Rattle.fx_history.proofs.Settling.{settle_length}
use Rattle.fx_disk.specs.Seen.{DiskSeen, HasFlushed, HasWritten}
use Rattle.fx_disk.proofs.Told.{told-map}
use Rattle.fx_disk.specs.Steps.{IsRecordOf}
use Rattle.fx_pool.specs.Region.{Region}
use Rattle.fx_jblock.specs.declared.TheConstants.{RECORD_BYTES}
use Rattle.fx_journal.specs.Ring.{RingState, IsRing, KeepsBuffers, KeepsRing, Queued, HoldsQueue, Appended, begun, blocks_out, next_block, padded, padded_by, padding, run_blocks, without_first}
use Rattle.fx_journal.specs.Writing.{block_at, first_bytes}
use Rattle.fx_image.specs.Replay.{AreItemsOf}
use Rattle.fx_image.specs.Standing.{Transactions, StandsFor, items_after, lists_of}
use Rattle.fx_image.specs.Journal.{Journal, IsJournal, IsOnDisk, commit_bytes, with_commit, with_closed, with_written, with_settled}
use Rattle.fx_log.specs.Log.{IsWrittenOut}
use Rattle.fx_image.specs.Prefix.{KeepsPrefix, KeepsAll}
use Rattle.fx_log.specs.Raising.{ChoosesSince, ChoosesNext}
use Rattle.fx_image.specs.Mounted.{IsMounted}
use Rattle.fx_image.proofs.FewCommits.{commits-few}
use Rattle.fx_image.proofs.JournalSteps.{written-all}
use Rattle.fx_image.proofs.SettleUpto.{tree_now_upto, upto_all}
use Rattle.fx_image.proofs.Replay.{replay_now}
use Rattle.fx_image.proofs.ReplaySteps.{after_one, step_numbers}
use Rattle.fx_image.proofs.NextCommit.{id_now, store_now, below-now, id-low, store-low, next-commit}
use Rattle.fx_disk.proofs.Made.{made-counts}
use Rattle.fx_image.proofs.Mounted.{mounted-commit, mounted-flush-tried, mounted-padded, mounted-promised, mounted-settled, mounted-tried, mounted-written, mounted-all, settled-out}
use Rattle.fx_store.specs.Line.{change_entry}
use Rattle.fx_store.specs.Mounted.{KeepsImages, KeepsWhole, Opens}
use Rattle.fx_store.specs.Session.{HasNoted, KnowsNodes, IsSession, IsReadyCommit, items_now}
use Rattle.fx_store.specs.Inside.{HasBuffers, IsStore, Undone, Done}
use Rattle.fx_store.specs.declared.commit.Change.{Change}
use Rattle.fx_store.specs.declared.commit.Commit.{Commit}
use Rattle.fx_store.specs.declared.session.Session.{Session}
use Rattle.fx_store.proofs.Planning.{done_from, plan_length}

-- ---- the ring and its buffers

padded-buffers : (ring : RingState) (text : List ℕ) → (padded_by ring text).buffers ≡ ring.buffers
padded-buffers ring [] = refl
padded-buffers ring (_ ∷ _) = refl

padded-promised : (ring : RingState) (text : List ℕ) → ring.text ≡ text → ring.promised ≡ 0 → (padded_by ring text).promised ≡ 0
padded-promised ring [] e none = none
padded-promised ring (x ∷ xs) e none = omega (arith, none, ap begun e)

padded-size : (ring : RingState) (text : List ℕ) → (padded_by ring text).size ≡ ring.size
padded-size ring [] = refl
padded-size ring (_ ∷ _) = refl

buffers-padded : (ring new : RingState) (pool region : Region) → HasBuffers ring pool → new ≡ padded ring → IsRing new → KeepsBuffers new.buffers region → region.out ≡ pool.out → region.order ≡ pool.order → HasBuffers new region
buffers-padded ring new pool region h e is keeps out order = record {
  ring_is = is;
  buffers = keeps;
  out = ap (sum_by run_blocks) out ∙ h.out ∙ ap length (sym (ap (λ (r : RingState). r.buffers) e ∙ padded-buffers ring ring.text));
  enough = omega (arith, h.enough, ap (λ (r : RingState). r.size) e, padded-size ring ring.text, ap (λ n. 2 ^ n) order);
  promised = ap (λ (r : RingState). r.promised) e ∙ padded-promised ring ring.text refl h.promised;
}

buffers-written : (ring new : RingState) (pool region : Region) → HasBuffers ring pool → new ≡ without_first ring → IsRing new → KeepsBuffers new.buffers region → blocks_out region + length ring.buffers ≡ blocks_out pool + length new.buffers
    → region.order ≡ pool.order → HasBuffers new region
buffers-written ring new pool region h e is keeps given order = record {
  ring_is = is;
  buffers = keeps;
  out = omega (arith, given, h.out);
  enough = omega (arith, h.enough, ap (λ (r : RingState). r.size) e, ap (λ n. 2 ^ n) order);
  promised = ap (λ (r : RingState). r.promised) e ∙ h.promised;
}

one-node : (step : Step) → new_nodes step ≤ 1
one-node (Mkdir path) = omega arith
one-node (Create path) = omega arith
one-node (Write path at text) = omega arith
one-node (Read path at count) = omega arith
one-node (ListStep path) = omega arith
one-node (StatStep path) = omega arith

none-begun : (text : List ℕ) → begun text ≡ 0 → text ≡ []
none-begun [] e = refl
none-begun (x ∷ xs) e = absurd (omega (arith, e))

-- ---- the state

module _ {seen : DiskSeen} {from : ℕ} {s : Session} {ring : RingState} {pool : Region} (h : IsStore seen from s ring pool) where
  abbrev j : Journal
  j = h.journal

  abbrev is_journal : IsJournal j seen.calls
  is_journal = h.mounted.journal

  length-is : length s.history.items ≡ length j.commits.history
  length-is = ap length h.session.history

  -- the numbers of commits are low
  pub number-low : s.base + length s.history.items ≤ 2 ^ 62
  number-low = omega (arith, h.session.base, length-is, is_journal.few.few, is_journal.reading.room.commits, is_journal.reading.base_is)

  -- the nodes of the tree are few
  pub countable : IsCountable s.tree
  countable = omega (arith, h.small, length-is, is_journal.few.few)

  -- the transactions stand for one tree
  pub opening-is : (opening : Tree) → Opens (txns_of s.txns) opening → opening ≡ j.opening.tree
  opening-is opening o = one_tree (items_after j.opening.txns) holdings.bare opening j.opening.tree (subst (λ (t : Transactions). IsTreeOf (items_after t) holdings.bare opening) h.session.txns o.tree_is) h.opens.tree_is

  -- the tree now is the one that the history leads to
  pub current : (opening : Tree) → Opens (txns_of s.txns) opening → s.tree ≡ tree_at opening s.history.items (s.base + length s.history.items)
  current opening o =
      h.session.tree
      ∙ ap (λ (t : Tree). tree_at t j.commits.history (j.opening.base + length j.commits.history)) (sym (opening-is opening o))
      ∙ ap (λ (es : List Entry). tree_at opening es (j.opening.base + length es)) (sym h.session.history)
      ∙ ap (λ (b : ℕ). tree_at opening s.history.items (b + length s.history.items)) (sym h.session.base)

  -- the session knows what stands
  pub knows : IsSession (items_now j) s
  knows = record {
    stands = subst (λ (t : Tree). StandsFor (items_now j) (bare t)) (sym h.session.tree) (replay_now j.opening.tree j.opening.base j.opening.txns j.commits.history j.commits.records is_journal.replays);
    knows = h.session.knows;
    below = subst (λ (n : ℕ). IsBelow (items_now j) s.next.id n) (sym h.session.store)
        (subst (λ (n : ℕ). IsBelow (items_now j) n (next_store_after j.log.head.super.next_store (lists_of j.opening.txns ++ j.commits.records))) (sym h.session.id) (below-now j seen.calls is_journal));
    ids = omega (arith, h.session.id, id-low j seen.calls is_journal);
    stores = omega (arith, h.session.store, store-low j seen.calls is_journal);
  }

  -- ---- lines

  -- a commit is prepared: the session may note a node
  abbrev pub store-prepared : (t : Session) → HasNoted s t → IsStore seen from t ring pool
  store-prepared t n = let e : t ≡ record s { nodes = t.nodes; history = t.history } = n.same in record {
    journal = j;
    size_is = h.size_is;
    from_is = h.from_is;
    opens = h.opens;
    mounted = h.mounted;
    session = record {
      base = ap (λ (x : Session). x.base) e ∙ h.session.base;
      txns = ap (λ (x : Session). txns_of x.txns) e ∙ h.session.txns;
      history = n.history ∙ h.session.history;
      settled = ap (λ (x : Session). x.settled) e ∙ h.session.settled;
      tree = ap (λ (x : Session). x.tree) e ∙ h.session.tree;
      knows = (n.session (items_now j) knows).knows;
      id = ap (λ (x : Session). x.next.id) e ∙ h.session.id;
      store = ap (λ (x : Session). x.next.store) e ∙ h.session.store;
    };
    given = record {
      ids = omega (arith, h.given.ids, ap (λ (x : Session). x.next.id) e, ap length n.history);
      stores = omega (arith, h.given.stores, ap (λ (x : Session). x.next.store) e, ap length n.history);
    };
    small = omega (arith, h.small, ap (λ (x : Session). node_count x.tree) e, ap length n.history);
    buffers = h.buffers;
  }

  -- it is not done
  pub store-undone : (t : Session) (new : RingState) (region : Region) → Undone s t ring new pool region → IsStore seen from t new region
  store-undone t new region u = subst (λ (x : Session). IsStore seen from x new region) (sym u.session)
      (record {
        journal = j;
        size_is = h.size_is;
        from_is = h.from_is;
        opens = h.opens;
        mounted = mounted-promised j seen ring pool h.mounted new region ring.promised new.buffers u.ring_is u.queue;
        session = h.session;
        given = record { ids = h.given.ids; stores = h.given.stores };
        small = h.small;
        buffers = u.buffers;
      })

  -- it is done
  module _ (change : Change) (commit : Commit) (t : Session) (new : RingState) (region : Region) (d : Done change commit s t ring new pool region) (ready : IsReadyCommit (items_now j) s.nodes s.next change.step commit)
      (number : commit.number ≡ s.base + length s.history.items + 1) (who : 0 < change.client) (done : refused (do_step s.tree change.step).0 ≡ None) where
    abbrev step : Step
    step = change.step

    abbrev entry : Entry
    entry = change_entry commit.number change

    abbrev list : List PlainItem
    list = ready.list

    appended : Appended ring new region (drop j.log.tail.written j.log.tail.blocks) (commit_bytes entry list)
    appended = subst (Appended ring new region (drop j.log.tail.written j.log.tail.blocks)) ready.bytes (d.appended (drop j.log.tail.written j.log.tail.blocks) h.mounted.ring_is.queue)

    abbrev k : Journal
    k = with_commit j entry list appended.blocks new.chain new.text

    numbered : entry.number ≡ j.opening.base + length j.commits.history + 1
    numbered = omega (arith, number, h.session.base, length-is)

    answer : (a : Answer) × ((do_step s.tree step).0 ≡ Ok a)
    answer = done_from (do_step s.tree step).0 done

    done-there : (do_step (tree_at j.opening.tree j.commits.history (j.opening.base + length j.commits.history)) step).0 ≡ Ok answer.0
    done-there = ap (λ (x : Tree). (do_step x step).0) (sym h.session.tree) ∙ answer.1

    are : AreItemsOf (items_now j) (id_now j) (store_now j) step list
    are = subst (λ (n : ℕ). AreItemsOf (items_now j) (id_now j) n step list) h.session.store (subst (λ (n : ℕ). AreItemsOf (items_now j) n s.next.store step list) h.session.id ready.plan.are)

    lists-more : (lists_of j.opening.txns ++ j.commits.records) ++ list ∷ [] ≡ lists_of j.opening.txns ++ (j.commits.records ++ list ∷ [])
    lists-more = append_assoc (lists_of j.opening.txns) j.commits.records (list ∷ [])

    items-more : after (items_now j) list ≡ items_now k
    items-more = sym (after_all-more (lists_of j.opening.txns ++ j.commits.records) list) ∙ ap after_all lists-more

    tree-more : (do_step s.tree step).1 ≡ tree_at j.opening.tree (j.commits.history ++ entry ∷ []) (j.opening.base + length (j.commits.history ++ entry ∷ []))
    tree-more =
        ap (λ (x : Tree). (do_step x step).1) h.session.tree
        ∙ sym (after_one (tree_at j.opening.tree j.commits.history (j.opening.base + length j.commits.history)) entry step answer.0 refl done-there)
        ∙ sym (tree_next j.opening.tree j.opening.base j.commits.history entry is_journal.legal numbered)

    pub store-done : IsStore seen from t new region
    store-done = record {
      journal = k;
      size_is = h.size_is;
      from_is = h.from_is;
      opens = h.opens;
      mounted = mounted-commit j seen ring pool h.mounted entry list
          (next-commit j seen.calls is_journal entry step list answer.0 (commits-few j seen.calls is_journal (omega (arith, h.buffers.ring_is.unfinished_room, ap length h.mounted.ring_is.text)))
          (omega (arith, h.given.ids, h.session.id, length-is, is_journal.few.few)) (omega (arith, h.given.stores, h.session.store, length-is, is_journal.few.few)) numbered refl who refl done-there are)
          new region d.buffers.ring_is d.start d.size d.epoch d.queued appended;
      session = record {
        base = ap (λ (x : Session). x.base) d.session ∙ h.session.base;
        txns = ap (λ (x : Session). txns_of x.txns) d.session ∙ h.session.txns;
        history = d.history ∙ ap (λ (es : List Entry). es ++ entry ∷ []) h.session.history;
        settled = ap (λ (x : Session). x.settled) d.session ∙ h.session.settled;
        tree = ap (λ (x : Session). x.tree) d.session ∙ tree-more;
        knows = subst (λ (m : ItemMap). KnowsNodes m t.nodes) items-more (subst (KnowsNodes (after (items_now j) list)) (ap (λ (x : Session). x.nodes) (sym d.session)) ready.plan.knows);
        id = ap (λ (x : Session). x.next.id) d.session ∙ ready.plan.id ∙ ap (λ (n : ℕ). next_id n list) h.session.id ∙ sym (next_id_after-more j.log.head.super.next_id (lists_of j.opening.txns ++ j.commits.records) list) ∙ ap (next_id_after j.log.head.super.next_id) lists-more;
        store = ap (λ (x : Session). x.next.store) d.session ∙ ready.plan.store ∙ ap (λ (n : ℕ). next_store n list) h.session.store ∙ sym (next_store_after-more j.log.head.super.next_store (lists_of j.opening.txns ++ j.commits.records) list) ∙ ap (next_store_after j.log.head.super.next_store) lists-more;
      };
      given = record {
        ids = omega (arith, h.given.ids, ap (λ (x : Session). x.next.id) d.session, ready.plan.id, (step_numbers (items_now j) step list s.next.id s.next.store knows.below ready.plan.are).0, ap length d.history, length-append s.history.items (entry ∷ []));
        stores = omega (arith, h.given.stores, ap (λ (x : Session). x.next.store) d.session, ready.plan.store, (step_numbers (items_now j) step list s.next.id s.next.store knows.below ready.plan.are).1, ap length d.history, length-append s.history.items (entry ∷ []));
      };
      small = omega (arith, h.small, ap (λ (x : Session). node_count x.tree) d.session, node_count-do_step s.tree step, one-node step, ap length d.history, length-append s.history.items (entry ∷ []));
      buffers = d.buffers;
    }

  -- ---- the disk

  pub store-padded : (new : RingState) (region : Region) → new ≡ padded ring → KeepsRing ring new pool region → region.out ≡ pool.out
      → ((queue : List Queued) → HoldsQueue ring pool queue → HoldsQueue new region (queue ++ padding ring)) → IsStore seen from s new region
  store-padded new region e kept out queue = record {
    journal = with_closed j (padding ring) new.chain new.text;
    size_is = h.size_is;
    from_is = h.from_is;
    opens = h.opens;
    mounted = mounted-padded j seen ring pool h.mounted new region kept.ring e (queue (drop j.log.tail.written j.log.tail.blocks) h.mounted.ring_is.queue);
    session = record { base = h.session.base; txns = h.session.txns; history = h.session.history; settled = h.session.settled; tree = h.session.tree; knows = h.session.knows; id = h.session.id; store = h.session.store };
    given = record { ids = h.given.ids; stores = h.given.stores };
    small = h.small;
    buffers = buffers-padded ring new pool region h.buffers e kept.ring kept.buffers out kept.others.order;
  }

  module _ (later : DiskSeen) (good : Bool) (is : IfSome seen.told (IsRecordOf seen.size seen.calls)) where
    -- the first block that waits is written, or the write failed
    module _ (before sequence : ℕ) (next : next_block ring before ≡ Some sequence)
        (w : (queue : List Queued) → HoldsQueue ring pool queue → HasWritten seen later (block_at ring sequence) (first_bytes ring.epoch queue) good) where
      abbrev wrote : HasWritten seen later (block_at ring sequence) (first_bytes ring.epoch (drop j.log.tail.written j.log.tail.blocks)) good
      wrote = w (drop j.log.tail.written j.log.tail.blocks) h.mounted.ring_is.queue

      pub store-tried : IsStore later from s ring pool
      store-tried = record {
        journal = j;
        size_is = h.size_is ∙ sym wrote.size;
        from_is = h.from_is;
        opens = h.opens;
        mounted = mounted-tried j seen ring pool h.mounted is later good before sequence next wrote;
        session = h.session;
        given = record { ids = h.given.ids; stores = h.given.stores };
        small = h.small;
        buffers = h.buffers;
      }

      pub store-written : good ≡ true → (new : RingState) (region : Region) → new ≡ without_first ring → KeepsRing ring new pool region → blocks_out region + length ring.buffers ≡ blocks_out pool + length new.buffers
          → ((queue : List Queued) → HoldsQueue ring pool queue → HoldsQueue new region (drop 1 queue)) → IsStore later from s new region
      store-written was_good new region e kept given queue = record {
        journal = with_written j;
        size_is = h.size_is ∙ sym wrote.size;
        from_is = h.from_is;
        opens = h.opens;
        mounted = mounted-written j seen ring pool h.mounted is later good before sequence next wrote was_good new region e (queue (drop j.log.tail.written j.log.tail.blocks) h.mounted.ring_is.queue);
        session = record { base = h.session.base; txns = h.session.txns; history = h.session.history; settled = h.session.settled; tree = h.session.tree; knows = h.session.knows; id = h.session.id; store = h.session.store };
        given = record { ids = h.given.ids; stores = h.given.stores };
        small = h.small;
        buffers = buffers-written ring new pool region h.buffers e kept.ring kept.buffers given kept.others.order;
      }

    -- the disk is flushed, or the flush failed
    module _ (w : HasFlushed seen later good) where
      pub store-flush-tried : IsStore later from s ring pool
      store-flush-tried = record {
        journal = j;
        size_is = h.size_is ∙ sym w.size;
        from_is = h.from_is;
        opens = h.opens;
        mounted = mounted-flush-tried j seen ring pool h.mounted is later good w;
        session = h.session;
        given = record { ids = h.given.ids; stores = h.given.stores };
        small = h.small;
        buffers = h.buffers;
      }

      -- no block waits
      module _ (was_good : good ≡ true) (none : ring.queued + begun ring.text ≡ 0) where
        out : IsWrittenOut j.log.tail
        out = record {
          written = omega (arith, none, h.mounted.ring_is.queue.count, length-drop j.log.tail.written j.log.tail.blocks, is_journal.log.most);
          text = sym h.mounted.ring_is.text ∙ none-begun ring.text (omega (arith, none));
        }

        abbrev flushed : Journal
        flushed = with_settled (seen.calls + 1) (length j.commits.history) j

        mounted-now : IsMounted flushed later ring pool
        mounted-now = mounted-settled j seen ring pool h.mounted is later good w was_good (length j.commits.history) (written-all j seen.calls is_journal out)

        -- all are settled
        all-settled : flushed.commits.history ≡ settle (seen.calls + 1) j.commits.history
        all-settled = upto_all (seen.calls + 1) (j.opening.base + length j.commits.history) j.commits.history (below_end j.opening.tree j.opening.base j.commits.history (j.opening.base + length j.commits.history) is_journal.legal (omega arith))

        pub store-counted : later.calls ≡ seen.calls + 1
        store-counted = made-counts seen.calls later.calls later.last_made good _ _ was_good w.made

        module _ (t : Session) (e : t ≡ record s { settled = length s.history.items; history = t.history }) (items : t.history.items ≡ settle later.calls s.history.items) where
          history-is : t.history.items ≡ flushed.commits.history
          history-is = items ∙ ap (λ (n : ℕ). settle n s.history.items) store-counted ∙ ap (settle (seen.calls + 1)) h.session.history ∙ sym all-settled

          pub store-settled : IsStore later from t ring pool
          store-settled = record {
            journal = flushed;
            size_is = h.size_is ∙ sym w.size;
            from_is = h.from_is;
            opens = h.opens;
            mounted = mounted-now;
            session = record {
              base = ap (λ (x : Session). x.base) e ∙ h.session.base;
              txns = ap (λ (x : Session). txns_of x.txns) e ∙ h.session.txns;
              history = history-is;
              settled = ap (λ (x : Session). x.settled) e ∙ length-is;
              tree = ap (λ (x : Session). x.tree) e ∙ h.session.tree ∙ sym (tree_now_upto j.opening.tree j.opening.base (seen.calls + 1) (j.opening.base + length j.commits.history) j.commits.history);
              knows = subst (KnowsNodes (items_now j)) (ap (λ (x : Session). x.nodes) (sym e)) h.session.knows;
              id = ap (λ (x : Session). x.next.id) e ∙ h.session.id;
              store = ap (λ (x : Session). x.next.store) e ∙ h.session.store;
            };
            given = record {
              ids = omega (arith, h.given.ids, ap (λ (x : Session). x.next.id) e, ap length items, settle_length later.calls s.history.items);
              stores = omega (arith, h.given.stores, ap (λ (x : Session). x.next.store) e, ap length items, settle_length later.calls s.history.items);
            };
            small = omega (arith, h.small, ap (λ (x : Session). node_count x.tree) e, ap length items, settle_length later.calls s.history.items);
            buffers = h.buffers;
          }

          -- every image left has the whole history
          whole-before : IfSome later.told (KeepsWhole later.size from (txns_of s.txns) s.base t.history.items)
          whole-before = told-map (KeepsAll flushed.log.size flushed.log.from flushed.opening.tree flushed.opening.base flushed.commits.history) (KeepsWhole later.size from (txns_of s.txns) s.base t.history.items) later.told
              (λ r all opening opens.
              subst (λ (n : ℕ). KeepsAll n from opening s.base t.history.items r) (h.size_is ∙ sym w.size)
              (subst (λ (n : ℕ). KeepsAll j.log.size n opening s.base t.history.items r) h.from_is
              (subst (λ (x : Tree). KeepsAll j.log.size j.log.from x s.base t.history.items r) (sym (opening-is opening opens))
              (subst (λ (n : ℕ). KeepsAll j.log.size j.log.from j.opening.tree n t.history.items r) (sym h.session.base)
              (subst (λ (es : List Entry). KeepsAll j.log.size j.log.from j.opening.tree j.opening.base es r) (sym history-is) all)))))
              (mounted-all flushed later ring pool mounted-now (settled-out (seen.calls + 1) (length j.commits.history) j out) refl)

          pub store-whole : IfSome later.told (KeepsWhole later.size from (txns_of t.txns) t.base t.history.items)
          store-whole =
              subst (λ (n : ℕ). IfSome later.told (KeepsWhole later.size from (txns_of t.txns) n t.history.items)) (sym (ap (λ (x : Session). x.base) e))
              (subst (λ (ts : Transactions). IfSome later.told (KeepsWhole later.size from ts s.base t.history.items)) (sym (ap (λ (x : Session). txns_of x.txns) e)) whole-before)

  -- ---- the end

  -- no entry is settled by a later call than were made
  pub store-by-now : All (λ (entry : Entry). entry.settled ≤ seen.calls) s.history.items
  store-by-now = subst (All (λ (entry : Entry). entry.settled ≤ seen.calls)) (sym h.session.history) is_journal.marked.by_now

  -- what the session knows of the commits that are settled
  pub store-first : SettledFirst s.settled s.history.items
  store-first = subst (λ (n : ℕ). SettledFirst n s.history.items) (sym h.session.settled) (subst (SettledFirst j.commits.marks) (sym h.session.history) is_journal.marked.first)

  pub store-marks : s.settled ≤ length s.history.items
  store-marks = omega (arith, h.session.settled, length-is, is_journal.marked.few)

  -- some blocks wait
  pub store-queue : (queue : List Queued) × HoldsQueue ring pool queue
  store-queue = (drop j.log.tail.written j.log.tail.blocks, h.mounted.ring_is.queue)

  -- the disk has room for the ring
  pub store-room : ring.size + 2 ≤ seen.size
  store-room = omega (arith, h.mounted.ring_is.size, is_journal.reading.head.rules.blocks_least, is_journal.reading.head.rules.ring_least, is_journal.reading.head.blocks, h.size_is)

  -- there is a buffer for one more block
  pub store-free : blocks_out pool + 1 ≤ 2 ^ pool.order
  store-free = omega (arith, h.buffers.out, h.buffers.enough, h.buffers.promised, h.buffers.ring_is.buffers_len, h.buffers.ring_is.own_places, h.buffers.ring_is.waiting)

  pub store-images : IfSome seen.told (KeepsImages seen.size from (txns_of s.txns) s.base s.history.items)
  store-images = told-map (IsOnDisk j) (KeepsImages seen.size from (txns_of s.txns) s.base s.history.items) seen.told
      (λ r d. record {
        super = subst (λ (n : ℕ). ChoosesSince n r) h.from_is d.journal.chooses;
        next = subst (λ (n : ℕ). ChoosesNext n r) h.from_is d.next;
        prefix = λ opening opens.
            subst (λ (n : ℕ). KeepsPrefix n from opening s.base s.history.items r) h.size_is
            (subst (λ (n : ℕ). KeepsPrefix j.log.size n opening s.base s.history.items r) h.from_is
            (subst (λ (x : Tree). KeepsPrefix j.log.size j.log.from x s.base s.history.items r) (sym (opening-is opening opens))
            (subst (λ (n : ℕ). KeepsPrefix j.log.size j.log.from j.opening.tree n s.history.items r) (sym h.session.base)
            (subst (λ (es : List Entry). KeepsPrefix j.log.size j.log.from j.opening.tree j.opening.base es r) (sym h.session.history) d.journal.keeps))));
      })
      h.mounted.disk

-- ---- a line that changes the tree

module _ {seen : DiskSeen} {from : ℕ} {s : Session} {ring : RingState} {pool : Region} (h : IsStore seen from s ring pool) (change : Change) (t : Session) (n : HasNoted s t)
    (commit : Commit) (number : commit.number ≡ s.base + length s.history.items + 1) (ready : (m : ItemMap) → IsSession m s → IsReadyCommit m t.nodes t.next change.step commit) where
  abbrev is_ready : IsReadyCommit (items_now h.journal) t.nodes t.next change.step commit
  is_ready = ready (items_now h.journal) (knows h)

  -- its record fits one block
  pub prepared-length : (1 ≤ length commit.record.items) × (length commit.record.items ≤ RECORD_BYTES)
  prepared-length =
      let r = is_ready in
      let l = plan_length (items_now h.journal) t.tree t.nodes t.next (n.session (items_now h.journal) (knows h)) change.step r.list commit.next r.plan commit.number in
      (omega (arith, l.0, ap length r.bytes), omega (arith, l.1, ap length r.bytes))

  pub prepared-done : (u : Session) (new : RingState) (region : Region) → Done change commit t u ring new pool region → 0 < change.client → refused (do_step s.tree change.step).0 ≡ None → IsStore seen from u new region
  prepared-done u new region d client done =
      store-done (store-prepared h t n) change commit u new region d is_ready
      (number ∙ omega (arith, ap (λ (x : Session). x.base) n.same, ap length n.history))
      client
      (ap (λ (x : Session). refused (do_step x.tree change.step).0) n.same ∙ done)

  pub prepared-undone : (u : Session) (new : RingState) (region : Region) → Undone t u ring new pool region → IsStore seen from u new region
  prepared-undone = store-undone (store-prepared h t n)
