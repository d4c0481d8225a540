-- The shared state right after a mount, and the journal that was read.
use Rattle.std.proofs.Common.{◌≡◌, ℕ, ◌≤◌, List, refl, sym, ap, subst, ◌∙◌, arith}
use Rattle.std.specs.Prelude.{reverse, IfSome}
use Rattle.std.proofs.lemmas.List.{append-nil}
use Rattle.fx_item.specs.Item.{PlainItem, PlainKey}
use Rattle.fx_item.specs.Look.{ItemMap, after_all, next_id_after, next_store_after}
use Rattle.fx_item.specs.Meeting.{AfterAllLaw}
use Rattle.fx_plain.specs.Bare.{bare}
use Rattle.fx_plain.specs.Tree.{Tree}
use Rattle.fx_super.specs.Super.{Fields}
use Rattle.fx_jblock.specs.declared.Start.{Start}
use Rattle.fx_journal.specs.declared.stream.StreamBlock.{StreamBlock}
use Rattle.fx_supers.specs.Supers.{Supers}
use Rattle.fx_disk.specs.Seen.{DiskSeen}
use Rattle.fx_disk.proofs.Told.{told-map}
use Rattle.fx_journal.specs.Ring.{RingState}
use Rattle.fx_pool.specs.Region.{Region}
use Rattle.fx_history.specs.declared.entry.Entry.{Entry}
use Rattle.fx_events.specs.Notes.{Mounted, history_in}
use Rattle.fx_image.specs.Standing.{StandsFor, Transactions, items_after, lists_of}
use Rattle.fx_image.specs.Journal.{IsOnDisk, Journal, new_journal}
use Rattle.fx_image.specs.Mounted.{IsMounted}
use Rattle.fx_image.specs.Prefix.{KeepsPrefix}
use Rattle.fx_parts.specs.Live.{MakesNames, live_in_lists, name_map}
use Rattle.fx_parts.specs.Parts.{SharedState}
use Rattle.fx_parts.specs.Happening.{opened_state}
use Rattle.fx_core.specs.Logged.{IsLogged}

module _ (law : AfterAllLaw) (mounted : Mounted) (txns : Transactions) where
  items_are : (key : PlainKey) → items_after txns key ≡ name_map (live_in_lists (reverse (lists_of txns))) key
  items_are key = law (lists_of txns) key

  pub makes_opening : StandsFor (items_after txns) mounted.tree → mounted.tree ≡ bare mounted.tree → MakesNames (live_in_lists (reverse (lists_of txns))) mounted.tree
  makes_opening stands is_bare =
      let there : StandsFor (name_map (live_in_lists (reverse (lists_of txns)))) (bare mounted.tree) = subst (λ (m : ItemMap). StandsFor m (bare mounted.tree)) (λ i key. items_are key i) (subst (StandsFor (items_after txns)) is_bare stands) in
      record { stands = there.stands; tree_is = there.tree_is }

  pub logged_opening : (calls size from : ℕ) (super : Fields) (read : List StreamBlock) (place : Start) (supers : Supers) (ids stores faults : ℕ)
      → next_id_after super.next_id (lists_of txns) ≤ ids → next_store_after super.next_store (lists_of txns) ≤ stores
      → IsLogged calls (opened_state mounted (reverse (lists_of txns)) ids stores faults) (new_journal size from mounted.tree mounted.kept super read place txns supers)
  logged_opening calls size from super read place supers ids stores faults i k = record {
    tree = refl;
    kept = refl;
    history = refl;
    settled = omega arith;
    flushed = omega arith;
    items = λ key. ap (λ (lists : List (List PlainItem)). after_all lists key) (append-nil (lists_of txns)) ∙ items_are key;
    ids = omega (arith, i, ap (next_id_after super.next_id) (append-nil (lists_of txns)));
    stores = omega (arith, k, ap (next_store_after super.next_store) (append-nil (lists_of txns)));
  }

-- what a stop leaves, by the state
pub kept_by_state : (calls : ℕ) (s : SharedState) (j : Journal) (seen : DiskSeen) (ring : RingState) (region : Region) → IsLogged calls s j → IsMounted j seen ring region
    → IfSome seen.told (KeepsPrefix j.log.size j.log.from s.mounted.tree s.mounted.kept (history_in s.notes))
kept_by_state calls s j seen ring region l m = told-map (IsOnDisk j) (KeepsPrefix j.log.size j.log.from s.mounted.tree s.mounted.kept (history_in s.notes)) seen.told (λ r h.
    subst (λ (t : Tree). KeepsPrefix j.log.size j.log.from t s.mounted.kept (history_in s.notes) r) (sym l.tree)
    (subst (λ n. KeepsPrefix j.log.size j.log.from j.opening.tree n (history_in s.notes) r) (sym l.kept)
    (subst (λ (e : List Entry). KeepsPrefix j.log.size j.log.from j.opening.tree j.opening.base e r) l.history h.journal.keeps))) m.disk
