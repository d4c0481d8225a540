-- A commit of the shared state is the next one of the journal, and leaves the two agreed.
use Rattle.std.proofs.Common.{◌≡◌, ℕ, ◌+◌, ◌<◌, ◌≤◌, ◌^◌, List, [], ◌∷◌, ◌++◌, Some, None, length, sym, ap, subst, ◌∙◌, append_assoc, arith}
use Rattle.std.specs.Prelude.{IsOk}
use Rattle.fx_item.specs.Item.{PlainItem, PlainKey}
use Rattle.fx_item.specs.Look.{ItemMap, after, after_all, next_id, next_store, value_of_entry}
use Rattle.fx_item.specs.Overlay.{AtKey, says}
use Rattle.fx_plain.specs.Bare.{bare}
use Rattle.fx_plain.specs.Table.{do_all}
use Rattle.fx_plain.specs.Tree.{Tree}
use Rattle.fx_namespace.proofs.Items.{after_all-more, next_id_after-more, next_store_after-more}
use Rattle.fx_history.specs.declared.entry.Entry.{Entry}
use Rattle.fx_history.specs.History.{Legal, tree_after, tree_at}
use Rattle.fx_history.proofs.Histories.{legal_next, tree_next}
use Rattle.fx_events.specs.Notes.{Commits, Note, entries_in, history_in, tree_in}
use Rattle.fx_events.proofs.Entries.{entries_more, legal_entries, tree_history}
use Rattle.fx_record.specs.Commits.{IsCommit}
use Rattle.fx_journal.specs.Ring.{Queued}
use Rattle.fx_image.specs.Standing.{StandsFor, lists_of}
use Rattle.fx_image.specs.Journal.{IsJournal, IsNextCommit, Journal, journal_id, journal_lists, journal_store, max_given, opening_id, opening_store, with_commit}
use Rattle.fx_image.proofs.Replay.{replay_more}
use Rattle.fx_parts.specs.Live.{MakesNames, live_in_lists, name_map}
use Rattle.fx_parts.specs.Parts.{IsPartOf, Part, SharedState, live_now}
use Rattle.fx_parts.specs.Sound.{IsSharedSound}
use Rattle.fx_parts.specs.Happening.{Commit, MakesNext, after_event, part_committed}
use Rattle.fx_parts.proofs.Events.{by_there}
use Rattle.fx_parts.proofs.Lives.{names_first}
use Rattle.std.specs.FinMap as finite
use Rattle.fx_core.specs.Logged.{IsLogged}
use Rattle.fx_core.proofs.Noted.{history_length, history_more, last_calls_commit, settled_commit}

module _ (calls : ℕ) (s : SharedState) (j : Journal) (sound : IsSharedSound MakesNames s) (l : IsLogged calls s j) (h : IsJournal j calls)
    (entry : Entry) (items : List PlainItem) (step : MakesNext MakesNames s entry items) where
  abbrev later : List Note
  later = s.notes ++ Commits entry ∷ []

  long : length j.commits.history ≡ length (entries_in s.notes)
  long = ap length l.history ∙ history_length s.notes

  number_is : entry.number ≡ j.opening.base + length j.commits.history + 1
  number_is = omega (arith, step.next.number, long, l.kept)

  -- the tree now, by the journal
  abbrev tree_then : Tree
  tree_then = tree_at j.opening.tree j.commits.history (j.opening.base + length j.commits.history)

  same_tree : tree_at s.mounted.tree (entries_in s.notes) (s.mounted.kept + length (entries_in s.notes)) ≡ tree_then
  same_tree =
      sym (tree_history s.mounted.tree s.notes (s.mounted.kept + length (entries_in s.notes)))
      ∙ ap (λ n. tree_at s.mounted.tree (history_in s.notes) (s.mounted.kept + n)) (sym long)
      ∙ ap (λ t. tree_at t (history_in s.notes) (s.mounted.kept + length j.commits.history)) l.tree
      ∙ ap (λ (e : List Entry). tree_at j.opening.tree e (s.mounted.kept + length j.commits.history)) (sym l.history)
      ∙ ap (λ n. tree_at j.opening.tree j.commits.history (n + length j.commits.history)) l.kept

  next_tree : tree_in s.mounted later ≡ tree_after tree_then entry
  next_tree =
      ap (λ (e : List Entry). tree_at s.mounted.tree e (s.mounted.kept + length e)) (entries_more s.notes (Commits entry ∷ []))
      ∙ tree_next s.mounted.tree s.mounted.kept (entries_in s.notes) entry (legal_entries s.mounted s.notes sound.happened) step.next.number
      ∙ ap (λ t. tree_after t entry) same_tree

  pub next_legal : Legal j.opening.tree j.opening.base (j.commits.history ++ entry ∷ [])
  next_legal = legal_next j.opening.tree j.opening.base j.commits.history entry h.legal number_is step.next.unsettled step.next.upkeep
      (subst (λ t. IsOk (do_all t entry.steps)) same_tree step.next.done)

  -- ---- what stands then

  after_same : (m n : ItemMap) (key : PlainKey) → m key ≡ n key → after m items key ≡ after n items key
  after_same m n key e = ap (λ o. elim (says items (AtKey key)) [ Some x ↦ value_of_entry x | None ↦ o ]) e

  pub next_items : (key : PlainKey) → after (after_all (journal_lists j)) items key ≡ name_map (live_in_lists (items ∷ s.lists)) key
  next_items key = after_same (after_all (journal_lists j)) (name_map (live_now s)) key (l.items key) ∙ sym (names_first items s.lists key)

  stands_then : StandsFor (after (after_all (journal_lists j)) items) (bare (tree_after tree_then entry))
  stands_then = subst (λ (m : ItemMap). StandsFor m (bare (tree_after tree_then entry))) (λ i key. sym (next_items key) i)
      (subst (λ (t : Tree). StandsFor (name_map (live_in_lists (items ∷ s.lists))) (bare t)) next_tree
      (record { stands = step.makes.stands; tree_is = step.makes.tree_is }))

  pub next_commit : IsCommit items → length j.commits.history < 2 ^ 20 → next_id (journal_id j) items ≤ opening_id j + max_given → next_store (journal_store j) items ≤ opening_store j + max_given → IsNextCommit j entry items
  next_commit are few id store = record {
    number = number_is;
    settled = step.next.unsettled;
    legal = next_legal;
    replays = replay_more j.opening.tree j.opening.base j.opening.txns j.commits.history j.commits.records entry items h.replays h.legal number_is stands_then;
    items_are = are;
    few = few;
    id = id;
    store = store;
  }

  -- ---- what is agreed then

  module _ (who : ℕ) (part : Part) (is : IsPartOf s who part) (closed : List Queued) (chain : ℕ) (text : List ℕ) where
    abbrev then : Journal
    then = with_commit j entry items closed chain text

    lists_then : journal_lists then ≡ journal_lists j ++ items ∷ []
    lists_then = sym (append_assoc (lists_of j.opening.txns) j.commits.records (items ∷ []))

    agreed : next_id (journal_id j) items ≤ s.ids → next_store (journal_store j) items ≤ s.stores
        → IsLogged calls (record s { notes = later; lists = items ∷ s.lists; parts = finite.insert s.parts who (part_committed entry.number part) }) then
    agreed id store = record {
      tree = l.tree;
      kept = l.kept;
      history = ap (λ (e : List Entry). e ++ entry ∷ []) l.history ∙ sym (history_more s.mounted s.notes entry sound.happened step.next.number step.next.unsettled);
      settled = l.settled ∙ sym (settled_commit s.mounted.kept s.notes entry);
      flushed = subst (λ n. n ≤ calls) (sym (last_calls_commit 0 s.notes entry)) l.flushed;
      items = λ key. ap (λ (m : ItemMap). m key) (ap after_all lists_then ∙ after_all-more (journal_lists j) items) ∙ next_items key;
      ids = omega (arith, id, ap (Rattle.fx_item.specs.Look.next_id_after j.log.head.super.next_id) lists_then, next_id_after-more j.log.head.super.next_id (journal_lists j) items);
      stores = omega (arith, store, ap (Rattle.fx_item.specs.Look.next_store_after j.log.head.super.next_store) lists_then, next_store_after-more j.log.head.super.next_store (journal_lists j) items);
    }

    pub agreed_after : next_id (journal_id j) items ≤ s.ids → next_store (journal_store j) items ≤ s.stores → IsLogged calls (after_event s (Commit who entry items)) then
    agreed_after id store = by_there (λ t. IsLogged calls t then) s who part (λ p. record s { notes = later; lists = items ∷ s.lists; parts = finite.insert s.parts who (part_committed entry.number p) }) is (agreed id store)
