-- A core that begins, and what a stop leaves of one.
use Rattle.std.proofs.Common.{◌≡◌, inl, ℕ, zero, suc, ◌+◌, ◌≤◌, ◌^◌, List, refl, sym, ap, subst, ◌∙◌, arith}
use Rattle.std.specs.Prelude.{IfSome, Option, None, Some, get_or, replicate, reverse}
use Rattle.std.specs.FinMap.{get-empty}
use Rattle.std.specs.Ordering.{nat_cmp}
use Rattle.fx_item.specs.Item.{PlainItem}
use Rattle.fx_item.specs.Meeting.{AfterAllLaw}
use Rattle.fx_plain.specs.Tree.{Tree}
use Rattle.fx_namespace.specs.Trees as holdings
use Rattle.fx_namespace.specs.Trees.{IsTreeOf}
use Rattle.fx_namespace.proofs.Trees.{one_tree}
use Rattle.fx_namespace.proofs.Items.{next_id_after-least, next_store_after-least}
use Rattle.fx_disk.specs.Seen.{DiskSeen}
use Rattle.fx_disk.proofs.Told.{told-map}
use Rattle.fx_pool.specs.Region.{Region}
use Rattle.fx_journal.specs.Ring.{RingState, begun}
use Rattle.fx_history.specs.declared.entry.Entry.{Entry}
use Rattle.fx_events.specs.Notes.{Mounted, history_in}
use Rattle.fx_layerset.specs.Levels.{SetLevels}
use Rattle.fx_log.specs.Raising.{ChoosesNext, ChoosesSince}
use Rattle.fx_image.specs.Standing.{Transactions, items_after, lists_of}
use Rattle.fx_image.specs.Prefix.{KeepsPrefix}
use Rattle.fx_image.specs.Journal.{IsOnDisk, Journal, new_journal}
use Rattle.fx_numbers.specs.State.{IsOpened, NumbersState, commit_now, lists_in, shared_of}
use Rattle.fx_numbers.specs.declared.given.Found.{Found}
use Rattle.fx_parts.specs.Live.{MakesNames, live_in_lists}
use Rattle.fx_parts.specs.Parts.{Part, SharedState}
use Rattle.fx_parts.specs.Sound.{IsSharedSound}
use Rattle.fx_parts.specs.Happening.{opened_state}
use Rattle.fx_parts.proofs.Opening.{opened_sound}
use Rattle.fx_core.specs.Core.{BeginsCore, LeavesHistory, OpensAs}
use Rattle.fx_core.specs.Inside.{GivenLimits, HoldsReached, IsCore, wanted_by}
use Rattle.fx_core.specs.Tail.{IsTail, TailState}
use Rattle.fx_core.proofs.Calls.{HoldsCore}
use Rattle.fx_core.proofs.Moves.{done_all}
use Rattle.fx_core.proofs.Opened.{logged_opening, makes_opening}

zeros : (n k : ℕ) → (let a : ℕ = get_or (replicate n 0) k 0 in a ≡ 0)
zeros zero k = refl
zeros (suc n) zero = refl
zeros (suc n) (suc k) = zeros n k

-- ---- the beginning

module _ (law : AfterAllLaw) {seen : DiskSeen} {from : ℕ} {txns : Transactions} {found : Found} {levels : SetLevels} {ring : RingState} {pool : Region} (b : BeginsCore seen from txns found levels ring pool) where
  abbrev j : Journal
  j = new_journal seen.size from b.tree found.kept b.super b.read b.place txns b.supers

  abbrev mounted : Mounted
  mounted = record { tree = b.tree; kept = found.kept; base = found.base; blocks = found.blocks; ring = found.ring }

  abbrev lists : List (List PlainItem)
  lists = reverse (lists_of txns)

  abbrev s : SharedState
  s = opened_state mounted (lists_in levels) found.ids found.stores found.faults

  first_id : 1 ≤ found.ids
  first_id = omega (arith, b.ids, b.mounted.journal.reading.head.rules.next_id_least, next_id_after-least b.super.next_id (lists_of txns))

  first_store : 1 ≤ found.stores
  first_store = omega (arith, b.stores, b.mounted.journal.reading.head.rules.next_store_least, next_store_after-least b.super.next_store (lists_of txns))

  makes : MakesNames (live_in_lists (lists_in levels)) b.tree
  makes = subst (λ (ls : List (List PlainItem)). MakesNames (live_in_lists ls) b.tree) (sym b.lists) (makes_opening law mounted txns b.stands b.is_bare)

  module _ (n : NumbersState) (opened : IsOpened found levels n) (t : TailState) (t_is : t ≡ record { ring = ring; pool = pool; wants = replicate 33 0; reached = replicate (found.ring + 2) 0; written = ring.closed; done = found.kept }) (end : GivenLimits)
      (ids_end : end.ids ≡ found.ids + 2 ^ 23) (stores_end : end.stores ≡ found.stores + 2 ^ 23) where
    none_reached : (k : ℕ) → get_or t.reached k 0 ≡ 0
    none_reached k = ap (λ (v : TailState). get_or v.reached k 0) t_is ∙ zeros (found.ring + 2) k

    reached : HoldsReached j t
    reached = record {
      count = 0;
      done_is = omega (arith, ap (λ (v : TailState). v.done) t_is);
      whole = record { more = omega arith; few = omega arith; whole = omega arith };
      known = λ k i e. absurd (omega (arith, e, none_reached k));
      lies = λ k i e le. absurd (omega (arith, e, none_reached k));
      ahead = λ k past. none_reached k;
      last = inl (omega (arith, ap (λ (v : TailState). v.done) t_is));
    }

    pub core_begun : HoldsCore seen from txns end n t
    core_begun = (
      b.tree,
      subst (λ (x : SharedState). IsCore seen from txns end x t) (sym (opened b.tree)) (record {
        journal = j;
        size_is = refl;
        from_is = refl;
        txns_is = refl;
        opens = b.stands;
        mounted = subst (λ (r : RingState). Rattle.fx_image.specs.Mounted.IsMounted j seen r t.pool) (sym (ap (λ (v : TailState). v.ring) t_is)) (subst (Rattle.fx_image.specs.Mounted.IsMounted j seen ring) (sym (ap (λ (v : TailState). v.pool) t_is)) b.mounted);
        shared = opened_sound MakesNames mounted (lists_in levels) found.ids found.stores found.faults makes first_id first_store b.unused;
        logged = let l = logged_opening law mounted txns seen.calls seen.size from b.super b.read b.place b.supers found.ids found.stores found.faults (omega (arith, b.ids)) (omega (arith, b.stores)) in record {
          tree = l.tree;
          kept = l.kept;
          history = l.history;
          settled = l.settled;
          flushed = l.flushed;
          items = λ key. l.items key ∙ ap (λ (ls : List (List PlainItem)). Rattle.fx_parts.specs.Live.name_map (live_in_lists ls) key) (sym b.lists);
          ids = l.ids;
          stores = l.stores;
        };
        end_is = λ i. record { ids = (ids_end ∙ ap (λ k. k + 2 ^ 23) b.ids) i; stores = (stores_end ∙ ap (λ k. k + 2 ^ 23) b.stores) i };
        ids = omega (arith, ids_end);
        stores = omega (arith, stores_end);
        wants = λ who. ap (λ (v : TailState). get_or v.wants who 0) t_is ∙ zeros 33 who ∙ sym (ap (λ (o : Option Part). elim o [ Some part ↦ Rattle.fx_core.specs.Inside.blocks_wanted part.reserved | None ↦ 0 ]) (get-empty {X = Part} nat_cmp who));
        reached = reached;
        faults = b.faults;
      }),
    )

-- ---- what is so of each core

module _ {seen : DiskSeen} {from : ℕ} {txns : Transactions} {end : GivenLimits} (n : NumbersState) {t : TailState} (h : HoldsCore seen from txns end n t) where
  -- the transactions stand for one tree
  opening_is : (tree : Tree) → OpensAs txns tree → tree ≡ h.0
  opening_is tree o =
      one_tree (items_after h.1.journal.opening.txns) holdings.bare tree h.1.journal.opening.tree (subst (λ (x : Transactions). IsTreeOf (items_after x) holdings.bare tree) h.1.txns_is o.tree_is) h.1.opens.tree_is
      ∙ sym h.1.logged.tree

  pub core_sound : (tree : Tree) → OpensAs txns tree → IsSharedSound MakesNames (shared_of tree n)
  core_sound tree o = subst (λ (x : Tree). IsSharedSound MakesNames (shared_of x n)) (sym (opening_is tree o)) h.1.shared

  pub core_images : IfSome seen.told (LeavesHistory seen.size from txns n)
  core_images = told-map (IsOnDisk h.1.journal) (LeavesHistory seen.size from txns n) seen.told
      (λ r d. record {
        super = subst (λ (k : ℕ). ChoosesSince k r) h.1.from_is d.journal.chooses;
        next = subst (λ (k : ℕ). ChoosesNext k r) h.1.from_is d.next;
        prefix = λ tree opens.
            subst (λ (k : ℕ). KeepsPrefix k from tree n.kept (history_in n.notes) r) h.1.size_is
            (subst (λ (k : ℕ). KeepsPrefix h.1.journal.log.size k tree n.kept (history_in n.notes) r) h.1.from_is
            (subst (λ (x : Tree). KeepsPrefix h.1.journal.log.size h.1.journal.log.from x n.kept (history_in n.notes) r) (sym h.1.logged.tree ∙ sym (opening_is tree opens))
            (subst (λ (k : ℕ). KeepsPrefix h.1.journal.log.size h.1.journal.log.from h.1.journal.opening.tree k (history_in n.notes) r) (sym h.1.logged.kept)
            (subst (λ (es : List Entry). KeepsPrefix h.1.journal.log.size h.1.journal.log.from h.1.journal.opening.tree h.1.journal.opening.base es r) h.1.logged.history d.journal.keeps))));
      })
      h.1.mounted.disk

  pub core_done : IsTail t → t.ring.queued + begun t.ring.text ≡ 0 → t.done ≡ commit_now n
  core_done is none = done_all h.1 is.written_is none
