-- Every event that is no commit leaves the commits of the state to the journal that has them.
use Rattle.std.proofs.Common.{◌≡◌, ℕ, ◌+◌, ◌≤◌, Bool, true, false, cond, List, [], ◌∷◌, ◌++◌, map, zero, suc, refl, sym, ap, subst, ◌∙◌, arith}
use Rattle.std.specs.Prelude.{Some, nat_le, Option, None}
use Rattle.std.proofs.lemmas.List.{append-nil}
use Rattle.fx_item.specs.Item.{PlainItem, PlainKey}
use Rattle.fx_item.specs.Look.{is_point_key, value_of_entry}
use Rattle.fx_item.specs.Overlay.{AtKey}
use Rattle.fx_item.specs.declared.lock.LockKey.{LockKey}
use Rattle.fx_item.specs.declared.lock.Mode.{Mode}
use Rattle.fx_keys.specs.Table.{Table}
use Rattle.fx_keys.specs.declared.table.Asked.{Asked}
use Rattle.fx_keys.specs.declared.table.Asked.TheVariants.{Held, Busy}
use Rattle.fx_history.specs.declared.entry.Entry.{Entry}
use Rattle.fx_history.specs.History.{settle_entry, settled_by}
use Rattle.fx_events.specs.Notes.{AreNotes, Commits, Mounted, Note, Raises, Settles, calls_in, entries_in, history_in, last_calls, settled_at, settled_upto}
use Rattle.fx_events.proofs.Entries.{entries_more}
use Rattle.fx_events.proofs.Numbers.{Rise, rise}
use Rattle.fx_image.specs.Journal.{Journal, settle_upto, with_settled}
use Rattle.fx_parts.specs.Live.{AgreeAll, LiveMap, MakesNames, live_in_lists, name_map}
use Rattle.fx_parts.specs.Parts.{Part, SharedState, live_now, number_now}
use Rattle.fx_parts.specs.Sound.{IsSharedSound}
use Rattle.fx_parts.specs.Happening.{AskKey, Commit, Count, DropSnapshot, Enter, Leave, MakeRoom, Mark, MayHappen, Meet, RaiseBase, RaiseKey, Reserve, RollBack, SharedEvent, TakeSnapshot, Tidy, Unlock, after_event, by_part, set_keys, set_part, with_key, with_raised, with_reserved, with_snapshot, without_keys, without_snapshot}
use Rattle.fx_core.specs.Logged.{IsLogged}
use Rattle.fx_core.specs.Events.{LeavesJournal}
use Rattle.fx_core.proofs.Noted.{history_base, last_calls_base, settled_base}
use Rattle.std.specs.FinMap as finite

-- more calls were made
pub logged_later : (calls more : ℕ) (s : SharedState) (j : Journal) → calls ≤ more → IsLogged calls s j → IsLogged more s j
logged_later calls more s j le l = record {
  tree = l.tree;
  kept = l.kept;
  history = l.history;
  settled = l.settled;
  flushed = omega (arith, l.flushed);
  items = l.items;
  ids = l.ids;
  stores = l.stores;
}

-- mount, notes and lists are as before, and no number is taken back
record Stays (s t : SharedState) : Type 0 where
  mounted : t.mounted ≡ s.mounted
  notes : t.notes ≡ s.notes
  lists : t.lists ≡ s.lists
  ids : s.ids ≤ t.ids
  stores : s.stores ≤ t.stores

stays_so : (s : SharedState) → Stays s s
stays_so s = record { mounted = refl; notes = refl; lists = refl; ids = omega arith; stores = omega arith }

-- what a number's part does not tell
by_stays : (s : SharedState) (who : ℕ) (f : Part → SharedState) → ((part : Part) → Stays s (f part)) → Stays s (by_part s who f)
by_stays s who f each = by (finite.get s.parts who)
  where
    by : (o : Option Part) → Stays s (elim o [ Some part ↦ f part | None ↦ s ])
    by (Some part) = each part
    by None = stays_so s

logged_stays : (calls : ℕ) (s t : SharedState) (j : Journal) → Stays s t → IsLogged calls s j → IsLogged calls t j
logged_stays calls s t j e l = record {
  tree = ap (λ (x : Mounted). x.tree) e.mounted ∙ l.tree;
  kept = ap (λ (x : Mounted). x.kept) e.mounted ∙ l.kept;
  history = l.history ∙ ap history_in (sym e.notes);
  settled = l.settled ∙ ap (λ (x : Mounted). settled_upto x.kept s.notes) (sym e.mounted) ∙ ap (settled_upto t.mounted.kept) (sym e.notes);
  flushed = subst (λ (notes : List Note). last_calls 0 notes ≤ calls) (sym e.notes) l.flushed;
  items = λ key. l.items key ∙ ap (λ (lists : List (List PlainItem)). name_map (live_in_lists lists) key) (sym e.lists);
  ids = omega (arith, l.ids, e.ids);
  stores = omega (arith, l.stores, e.stores);
}

ask_stays : (s : SharedState) (who : ℕ) (key : LockKey) (mode : Mode) (answer : Asked) (table : Table) → Stays s (after_event s (AskKey who key mode answer table))
ask_stays s who key mode Held table = by_stays s who (λ part. set_keys table who (with_key key mode (number_now s) part) s) (λ part. record { mounted = refl; notes = refl; lists = refl; ids = omega arith; stores = omega arith })
ask_stays s who key mode (Busy other) table = stays_so s

raise_stays : (s : SharedState) (who : ℕ) (key : LockKey) (answer : Asked) (table : Table) → Stays s (after_event s (RaiseKey who key answer table))
raise_stays s who key Held table = by_stays s who (λ part. set_keys table who (with_raised key part) s) (λ part. record { mounted = refl; notes = refl; lists = refl; ids = omega arith; stores = omega arith })
raise_stays s who key (Busy other) table = stays_so s

-- ---- other lists that say the same

names_agree : (m n : LiveMap) → AgreeAll m n → (key : PlainKey) → name_map m key ≡ name_map n key
names_agree m n same key = ap (λ o. cond (is_point_key key) (value_of_entry o) None) (sym (same (AtKey key)))

module _ (calls : ℕ) (s : SharedState) (j : Journal) (l : IsLogged calls s j) where
  tidied : (lists : List (List PlainItem)) → AgreeAll (live_now s) (live_in_lists lists) → IsLogged calls (record s { lists = lists }) j
  tidied lists same = record {
    tree = l.tree;
    kept = l.kept;
    history = l.history;
    settled = l.settled;
    flushed = l.flushed;
    items = λ key. l.items key ∙ names_agree (live_now s) (live_in_lists lists) same key;
    ids = l.ids;
    stores = l.stores;
  }

  based : (base : ℕ) → IsLogged calls (record s { notes = s.notes ++ Raises base ∷ [] }) j
  based base = record {
    tree = l.tree;
    kept = l.kept;
    history = l.history ∙ sym (history_base s.notes base);
    settled = l.settled ∙ sym (settled_base s.mounted.kept s.notes base);
    flushed = subst (λ n. n ≤ calls) (sym (last_calls_base 0 s.notes base)) l.flushed;
    items = l.items;
    ids = l.ids;
    stores = l.stores;
  }

  pub logged_leaves : (event : SharedEvent) → LeavesJournal event → MayHappen MakesNames s event → IsLogged calls (after_event s event) j
  logged_leaves (Enter who) leaves may = record { tree = l.tree; kept = l.kept; history = l.history; settled = l.settled; flushed = l.flushed; items = l.items; ids = l.ids; stores = l.stores }
  logged_leaves (Meet who) leaves may = logged_stays calls s _ j (by_stays s who (λ part. set_part who (record part { faults = s.faults }) s) (λ part. record { mounted = refl; notes = refl; lists = refl; ids = omega arith; stores = omega arith })) l
  logged_leaves (Leave who) leaves may = record { tree = l.tree; kept = l.kept; history = l.history; settled = l.settled; flushed = l.flushed; items = l.items; ids = l.ids; stores = l.stores }
  logged_leaves (MakeRoom who count table) leaves may = logged_stays calls s _ j (by_stays s who (λ part. set_keys table who (record part { room = part.room + count }) s) (λ part. record { mounted = refl; notes = refl; lists = refl; ids = omega arith; stores = omega arith })) l
  logged_leaves (AskKey who key mode answer table) leaves may = logged_stays calls s _ j (ask_stays s who key mode answer table) l
  logged_leaves (RaiseKey who key answer table) leaves may = logged_stays calls s _ j (raise_stays s who key answer table) l
  logged_leaves (Unlock who table) leaves may = logged_stays calls s _ j (by_stays s who (λ part. set_keys table who (without_keys part) s) (λ part. record { mounted = refl; notes = refl; lists = refl; ids = omega arith; stores = omega arith })) l
  logged_leaves (TakeSnapshot who) leaves may = logged_stays calls s _ j (by_stays s who (λ part. set_part who (with_snapshot s part) s) (λ part. record { mounted = refl; notes = refl; lists = refl; ids = omega arith; stores = omega arith })) l
  logged_leaves (DropSnapshot who index) leaves may = logged_stays calls s _ j (by_stays s who (λ part. set_part who (without_snapshot index part) s) (λ part. record { mounted = refl; notes = refl; lists = refl; ids = omega arith; stores = omega arith })) l
  logged_leaves (Reserve who need bytes) leaves may = logged_stays calls s _ j (by_stays s who (λ part. record s { parts = finite.insert s.parts who (with_reserved need bytes s part); ids = s.ids + need.nodes; stores = s.stores + need.nodes }) (λ part. record { mounted = refl; notes = refl; lists = refl; ids = omega arith; stores = omega arith })) l
  logged_leaves (RollBack who) leaves may = logged_stays calls s _ j (by_stays s who (λ part. set_part who (record part { reserved = None }) s) (λ part. record { mounted = refl; notes = refl; lists = refl; ids = omega arith; stores = omega arith })) l
  logged_leaves (Commit who entry items) leaves may = absurd leaves
  logged_leaves (Mark number done) leaves may = absurd leaves
  logged_leaves (RaiseBase base) leaves may = based base
  logged_leaves (Tidy lists) leaves may = tidied lists may
  logged_leaves (Count faults) leaves may = record { tree = l.tree; kept = l.kept; history = l.history; settled = l.settled; flushed = l.flushed; items = l.items; ids = l.ids; stores = l.stores }

-- ---- a flush that settles all

-- one more mark settles what was not settled
calls_mark : (number calls : ℕ) (notes : List Note) → Rise number calls notes → (n c m : ℕ) → calls_in (notes ++ Settles n c ∷ []) m ≡ settled_by (cond (nat_le m n) c 0) (calls_in notes m)
calls_mark number calls [] r n c m = refl
calls_mark number calls (Commits e ∷ notes) r n c m = calls_mark number calls notes r n c m
calls_mark number calls (Settles further later ∷ notes) r n c m = by (nat_le m further) (calls_mark further later notes r.3 n c m)
  where
    some : (k : ℕ) → 0 ≤ k → (let a : ℕ = k in 1 ≤ a) → k ≡ settled_by (cond (nat_le m n) c 0) k
    some zero low h = absurd (omega (arith, h))
    some (suc k) low h = refl

    by : (b : Bool) → calls_in (notes ++ Settles n c ∷ []) m ≡ settled_by (cond (nat_le m n) c 0) (calls_in notes m)
        → cond b later (calls_in (notes ++ Settles n c ∷ []) m) ≡ settled_by (cond (nat_le m n) c 0) (cond b later (calls_in notes m))
    by true rest = some later (omega arith) r.2
    by false rest = rest
calls_mark number calls (Raises base ∷ notes) r n c m = calls_mark number calls notes r n c m

pub settled_mark : (kept : ℕ) (notes : List Note) (n c : ℕ) → settled_upto kept (notes ++ Settles n c ∷ []) ≡ n
settled_mark kept [] n c = refl
settled_mark kept (Commits x ∷ notes) n c = settled_mark kept notes n c
settled_mark kept (Settles number calls ∷ notes) n c = settled_mark number notes n c
settled_mark kept (Raises base ∷ notes) n c = settled_mark kept notes n c

last_mark : (before : ℕ) (notes : List Note) (n c : ℕ) → last_calls before (notes ++ Settles n c ∷ []) ≡ c
last_mark before [] n c = refl
last_mark before (Commits x ∷ notes) n c = last_mark before notes n c
last_mark before (Settles number calls ∷ notes) n c = last_mark calls notes n c
last_mark before (Raises base ∷ notes) n c = last_mark before notes n c

-- entries up to the number are settled, where they were not before
each_settled : (old : ℕ → ℕ) (n c : ℕ) (xs : List Entry)
    → map (λ (x : Entry). settled_at (settled_by (cond (nat_le x.number n) c 0) (old x.number)) x) xs ≡ settle_upto c n (map (λ (x : Entry). settled_at (old x.number) x) xs)
each_settled old n c [] = refl
each_settled old n c (x ∷ xs) =
    ap (λ (y : Entry). y ∷ map (λ (z : Entry). settled_at (settled_by (cond (nat_le z.number n) c 0) (old z.number)) z) xs) (one (nat_le x.number n))
    ∙ ap (λ (ys : List Entry). cond (nat_le x.number n) (settle_entry c (settled_at (old x.number) x)) (settled_at (old x.number) x) ∷ ys) (each_settled old n c xs)
  where
    none : (k : ℕ) → settled_by 0 k ≡ k
    none zero = refl
    none (suc k) = refl

    one : (b : Bool) → settled_at (settled_by (cond b c 0) (old x.number)) x ≡ cond b (settle_entry c (settled_at (old x.number) x)) (settled_at (old x.number) x)
    one true = refl
    one false = ap (λ k. settled_at k x) (none (old x.number))

history_mark : (mounted : Mounted) (notes : List Note) (n c : ℕ) → AreNotes mounted notes → history_in (notes ++ Settles n c ∷ []) ≡ settle_upto c n (history_in notes)
history_mark mounted notes n c are =
    ap (λ (f : Entry → Entry). map f (entries_in (notes ++ Settles n c ∷ []))) (λ i x. settled_at (calls_mark mounted.kept 0 notes (rise mounted [] notes are) n c x.number i) x)
    ∙ ap (map (λ (x : Entry). settled_at (settled_by (cond (nat_le x.number n) c 0) (calls_in notes x.number)) x)) (entries_more notes (Settles n c ∷ []) ∙ append-nil (entries_in notes))
    ∙ each_settled (calls_in notes) n c (entries_in notes)

pub logged_mark : (calls done count : ℕ) (s : SharedState) (j : Journal) → IsSharedSound MakesNames s → IsLogged calls s j → IsLogged done (after_event s (Mark (s.mounted.kept + count) done)) (with_settled done count j)
logged_mark calls done count s j sound l = record {
  tree = l.tree;
  kept = l.kept;
  history = ap (settle_upto done (j.opening.base + count)) l.history ∙ ap (λ n. settle_upto done (n + count) (history_in s.notes)) (sym l.kept) ∙ sym (history_mark s.mounted s.notes (s.mounted.kept + count) done sound.happened);
  settled = omega (arith, l.kept, settled_mark s.mounted.kept s.notes (s.mounted.kept + count) done);
  flushed = omega (arith, last_mark 0 s.notes (s.mounted.kept + count) done);
  items = l.items;
  ids = l.ids;
  stores = l.stores;
}
