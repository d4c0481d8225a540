-- What events leave: the parts of other numbers, the notes that were there, and the trees before.
use Rattle.std.proofs.Common.{◌≡◌, ◌≢◌, ℕ, zero, suc, ◌+◌, ◌≤◌, false, List, [], ◌∷◌, ◌++◌, Option, Some, None, refl, sym, ap, subst, ◌∙◌, arith, length, length-append, append_assoc}
use Rattle.std.specs.Prelude.{slice_get}
use Rattle.std.specs.FinMap as finite
use Rattle.std.proofs.lemmas.List.{append-nil}
use Rattle.fx_keys.specs.declared.table.Asked.{Asked}
use Rattle.fx_keys.specs.declared.table.Asked.TheVariants.{Held, Busy}
use Rattle.fx_keys.specs.Table.{Table}
use Rattle.fx_item.specs.Item.{PlainItem}
use Rattle.fx_history.specs.declared.entry.Entry.{Entry}
use Rattle.fx_item.specs.declared.lock.LockKey.{LockKey}
use Rattle.fx_item.specs.declared.lock.Mode.{Mode}
use Rattle.fx_plain.specs.Tree.{Tree}
use Rattle.fx_history.specs.History.{tree_at}
use Rattle.fx_history.proofs.Histories.{tree_at_before}
use Rattle.fx_events.specs.Notes.{Commits, Note, Raises, Settles, entries_in, last_commit}
use Rattle.fx_events.proofs.Entries.{entries_more}
use Rattle.fx_parts.specs.Live.{AgreeAll, LiveMap}
use Rattle.fx_parts.specs.Parts.{IsPartOf, Part, SharedState, fresh_part, live_now, number_now}
use Rattle.fx_parts.specs.Sound.{IsSharedSound}
use Rattle.fx_parts.specs.Happening.{AskKey, Commit, Count, DropSnapshot, Enter, IsBetween, Leave, MakeRoom, Mark, MayHappen, Meet, RaiseBase, RaiseKey, Reserve, RollBack, RunsTo, SharedEvent, StateGoesOn, TakeSnapshot, Tidy, Unlock, actor_of, after_event, by_part, is_commit_event, part_committed, point_shown, set_keys, set_part, with_key, with_raised, with_reserved, with_snapshot, without_keys, without_snapshot}
use Rattle.fx_parts.proofs.Maps.{get_other, gone_other}
use Rattle.fx_parts.proofs.Events.{by_there, event_sound}

-- what is so of the state, and of what f makes of the part, is so of the state after
pub by_case : (P : SharedState → Type 0) (s : SharedState) (who : ℕ) (f : Part → SharedState) → P s → ((part : Part) → P (f part)) → P (by_part s who f)
by_case P s who f none some = by (finite.get s.parts who)
  where
    by : (o : Option Part) → P (elim o [ Some part ↦ f part | None ↦ s ])
    by None = none
    by (Some part) = some part

-- ---- the parts of others

module _ (s : SharedState) (w : ℕ) where
  abbrev SamePart : SharedState → Type 0
  SamePart t = finite.get t.parts w ≡ finite.get s.parts w

  other : (who : ℕ) → (let a : Option ℕ = Some who in a ≢ Some w) → (part : Part) → finite.get (finite.insert s.parts who part) w ≡ finite.get s.parts w
  other who ne part = get_other s.parts who w part (λ e. ne (ap Some (sym e)))

  asked : (who : ℕ) (key : LockKey) (mode : Mode) (answer : Asked) (table : Table) → (let a : Option ℕ = Some who in a ≢ Some w) → SamePart (after_event s (AskKey who key mode answer table))
  asked who key mode Held table ne = by_case SamePart s who (λ part. set_keys table who (with_key key mode (number_now s) part) s) refl (λ part. other who ne (with_key key mode (number_now s) part))
  asked who key mode (Busy by) table ne = refl

  was_raised : (who : ℕ) (key : LockKey) (answer : Asked) (table : Table) → (let a : Option ℕ = Some who in a ≢ Some w) → SamePart (after_event s (RaiseKey who key answer table))
  was_raised who key Held table ne = by_case SamePart s who (λ part. set_keys table who (with_raised key part) s) refl (λ part. other who ne (with_raised key part))
  was_raised who key (Busy by) table ne = refl

  pub event_others : (event : SharedEvent) → actor_of event ≢ Some w → SamePart (after_event s event)
  event_others (Enter who) ne = other who ne (fresh_part s.faults)
  event_others (Meet who) ne = by_case SamePart s who (λ part. set_part who (record part { faults = s.faults }) s) refl (λ part. other who ne (record part { faults = s.faults }))
  event_others (Leave who) ne = gone_other s.parts who w (λ e. ne (ap Some (sym e)))
  event_others (MakeRoom who count table) ne = by_case SamePart s who (λ part. set_keys table who (record part { room = part.room + count }) s) refl (λ part. other who ne (record part { room = part.room + count }))
  event_others (AskKey who key mode answer table) ne = asked who key mode answer table ne
  event_others (RaiseKey who key answer table) ne = was_raised who key answer table ne
  event_others (Unlock who table) ne = by_case SamePart s who (λ part. set_keys table who (without_keys part) s) refl (λ part. other who ne (without_keys part))
  event_others (TakeSnapshot who) ne = by_case SamePart s who (λ part. set_part who (with_snapshot s part) s) refl (λ part. other who ne (with_snapshot s part))
  event_others (DropSnapshot who index) ne = by_case SamePart s who (λ part. set_part who (without_snapshot index part) s) refl (λ part. other who ne (without_snapshot index part))
  event_others (Reserve who need bytes) ne = by_case SamePart s who (λ part. record s {
    parts = finite.insert s.parts who (with_reserved need bytes s part);
    ids = s.ids + need.nodes;
    stores = s.stores + need.nodes;
  }) refl (λ part. other who ne (with_reserved need bytes s part))
  event_others (RollBack who) ne = by_case SamePart s who (λ part. set_part who (record part { reserved = None }) s) refl (λ part. other who ne (record part { reserved = None }))
  event_others (Commit who entry items) ne = by_case SamePart s who (λ part. record s {
    notes = s.notes ++ Commits entry ∷ [];
    lists = items ∷ s.lists;
    parts = finite.insert s.parts who (part_committed entry.number part);
  }) refl (λ part. other who ne (part_committed entry.number part))
  event_others (Mark number calls) ne = refl
  event_others (RaiseBase base) ne = refl
  event_others (Tidy lists) ne = refl
  event_others (Count faults) ne = refl

-- ---- the notes

-- a state with the same notes, from which at least as much was given out
same_notes : (s t : SharedState) → t.mounted ≡ s.mounted → t.notes ≡ s.notes → s.ids ≤ t.ids → s.stores ≤ t.stores → StateGoesOn s t
same_notes s t mounted notes ids stores = record {
  mounted = mounted;
  more = [];
  notes = notes ∙ sym (append-nil s.notes);
  number = let e : number_now t ≡ number_now s = λ i. last_commit (mounted i).kept (notes i) in omega arith;
  ids = ids;
  stores = stores;
}

one_note : (s t : SharedState) (note : Note) → t.mounted ≡ s.mounted → t.notes ≡ s.notes ++ note ∷ [] → t.ids ≡ s.ids → t.stores ≡ s.stores → StateGoesOn s t
one_note s t note mounted notes ids stores = record {
  mounted = mounted;
  more = note ∷ [];
  notes = notes;
  number =
      let e : number_now t ≡ last_commit s.mounted.kept (s.notes ++ note ∷ []) = λ i. last_commit (mounted i).kept (notes i) in
      omega (arith, e, ap length (entries_more s.notes (note ∷ [])), length-append (entries_in s.notes) (entries_in (note ∷ [])));
  ids = omega (arith, ids);
  stores = omega (arith, stores);
}

module _ (s : SharedState) where
  abbrev On : SharedState → Type 0
  On t = StateGoesOn s t

  pub stays : StateGoesOn s s
  stays = same_notes s s refl refl (omega arith) (omega arith)

  set_on : (who : ℕ) (part : Part) → On (set_part who part s)
  set_on who part = same_notes s (set_part who part s) refl refl (omega arith) (omega arith)

  keys_on : (table : Table) (who : ℕ) (part : Part) → On (set_keys table who part s)
  keys_on table who part = same_notes s (set_keys table who part s) refl refl (omega arith) (omega arith)

  asked_on : (who : ℕ) (key : LockKey) (mode : Mode) (answer : Asked) (table : Table) → On (after_event s (AskKey who key mode answer table))
  asked_on who key mode Held table = by_case On s who (λ part. set_keys table who (with_key key mode (number_now s) part) s) stays (λ part. keys_on table who (with_key key mode (number_now s) part))
  asked_on who key mode (Busy by) table = stays

  raised_on : (who : ℕ) (key : LockKey) (answer : Asked) (table : Table) → On (after_event s (RaiseKey who key answer table))
  raised_on who key Held table = by_case On s who (λ part. set_keys table who (with_raised key part) s) stays (λ part. keys_on table who (with_raised key part))
  raised_on who key (Busy by) table = stays

  pub event_goes_on : (event : SharedEvent) → On (after_event s event)
  event_goes_on (Enter who) = set_on who (fresh_part s.faults)
  event_goes_on (Meet who) = by_case On s who (λ part. set_part who (record part { faults = s.faults }) s) stays (λ part. set_on who (record part { faults = s.faults }))
  event_goes_on (Leave who) = same_notes s (record s { parts = finite.remove s.parts who }) refl refl (omega arith) (omega arith)
  event_goes_on (MakeRoom who count table) = by_case On s who (λ part. set_keys table who (record part { room = part.room + count }) s) stays (λ part. keys_on table who (record part { room = part.room + count }))
  event_goes_on (AskKey who key mode answer table) = asked_on who key mode answer table
  event_goes_on (RaiseKey who key answer table) = raised_on who key answer table
  event_goes_on (Unlock who table) = by_case On s who (λ part. set_keys table who (without_keys part) s) stays (λ part. keys_on table who (without_keys part))
  event_goes_on (TakeSnapshot who) = by_case On s who (λ part. set_part who (with_snapshot s part) s) stays (λ part. set_on who (with_snapshot s part))
  event_goes_on (DropSnapshot who index) = by_case On s who (λ part. set_part who (without_snapshot index part) s) stays (λ part. set_on who (without_snapshot index part))
  event_goes_on (Reserve who need bytes) = by_case On s who (λ part. record s {
    parts = finite.insert s.parts who (with_reserved need bytes s part);
    ids = s.ids + need.nodes;
    stores = s.stores + need.nodes;
  }) stays (λ part. same_notes s (record s {
    parts = finite.insert s.parts who (with_reserved need bytes s part);
    ids = s.ids + need.nodes;
    stores = s.stores + need.nodes;
  }) refl refl (omega arith) (omega arith))
  event_goes_on (RollBack who) = by_case On s who (λ part. set_part who (record part { reserved = None }) s) stays (λ part. set_on who (record part { reserved = None }))
  event_goes_on (Commit who entry items) = by_case On s who (λ part. record s {
    notes = s.notes ++ Commits entry ∷ [];
    lists = items ∷ s.lists;
    parts = finite.insert s.parts who (part_committed entry.number part);
  }) stays (λ part. one_note s (record s {
    notes = s.notes ++ Commits entry ∷ [];
    lists = items ∷ s.lists;
    parts = finite.insert s.parts who (part_committed entry.number part);
  }) (Commits entry) refl refl refl refl)
  event_goes_on (Mark number calls) = one_note s (record s { notes = s.notes ++ Settles number calls ∷ [] }) (Settles number calls) refl refl refl refl
  event_goes_on (RaiseBase base) = one_note s (record s { notes = s.notes ++ Raises base ∷ [] }) (Raises base) refl refl refl refl
  event_goes_on (Tidy lists) = same_notes s (record s { lists = lists }) refl refl (omega arith) (omega arith)
  event_goes_on (Count faults) = same_notes s (record s { faults = faults }) refl refl (omega arith) (omega arith)

pub on_then : (s t u : SharedState) → StateGoesOn s t → StateGoesOn t u → StateGoesOn s u
on_then s t u a b = record {
  mounted = b.mounted ∙ a.mounted;
  more = a.more ++ b.more;
  notes = b.notes ∙ ap (λ n. n ++ b.more) a.notes ∙ append_assoc s.notes a.more b.more;
  number = let x = a.number in let y = b.number in omega arith;
  ids = let x = a.ids in let y = b.ids in omega arith;
  stores = let x = a.stores in let y = b.stores in omega arith;
}

-- ---- the items

module _ (Makes : LiveMap → Tree → Type 0) (s : SharedState) where
  abbrev SameItems : SharedState → Type 0
  SameItems t = AgreeAll (live_now s) (live_now t)

  same_items : SameItems s
  same_items point = refl

  asked_items : (who : ℕ) (key : LockKey) (mode : Mode) (answer : Asked) (table : Table) → SameItems (after_event s (AskKey who key mode answer table))
  asked_items who key mode Held table = by_case SameItems s who (λ part. set_keys table who (with_key key mode (number_now s) part) s) same_items (λ part point. refl)
  asked_items who key mode (Busy by) table = same_items

  raised_items : (who : ℕ) (key : LockKey) (answer : Asked) (table : Table) → SameItems (after_event s (RaiseKey who key answer table))
  raised_items who key Held table = by_case SameItems s who (λ part. set_keys table who (with_raised key part) s) same_items (λ part point. refl)
  raised_items who key (Busy by) table = same_items

  -- an event that is no commit leaves what stands
  pub event_items : (event : SharedEvent) → MayHappen Makes s event → is_commit_event event ≡ false → SameItems (after_event s event)
  event_items (Enter who) may kept = same_items
  event_items (Meet who) may kept = by_case SameItems s who (λ part. set_part who (record part { faults = s.faults }) s) same_items (λ part point. refl)
  event_items (Leave who) may kept = same_items
  event_items (MakeRoom who count table) may kept = by_case SameItems s who (λ part. set_keys table who (record part { room = part.room + count }) s) same_items (λ part point. refl)
  event_items (AskKey who key mode answer table) may kept = asked_items who key mode answer table
  event_items (RaiseKey who key answer table) may kept = raised_items who key answer table
  event_items (Unlock who table) may kept = by_case SameItems s who (λ part. set_keys table who (without_keys part) s) same_items (λ part point. refl)
  event_items (TakeSnapshot who) may kept = by_case SameItems s who (λ part. set_part who (with_snapshot s part) s) same_items (λ part point. refl)
  event_items (DropSnapshot who index) may kept = by_case SameItems s who (λ part. set_part who (without_snapshot index part) s) same_items (λ part point. refl)
  event_items (Reserve who need bytes) may kept = by_case SameItems s who (λ part. record s {
    parts = finite.insert s.parts who (with_reserved need bytes s part);
    ids = s.ids + need.nodes;
    stores = s.stores + need.nodes;
  }) same_items (λ part point. refl)
  event_items (RollBack who) may kept = by_case SameItems s who (λ part. set_part who (record part { reserved = None }) s) same_items (λ part point. refl)
  event_items (Commit who entry items) may kept = absurd (cc kept)
  event_items (Mark number calls) may kept = same_items
  event_items (RaiseBase base) may kept = same_items
  event_items (Tidy lists) may kept = may
  event_items (Count faults) may kept = same_items

-- ---- the trees

committed_number : (t : SharedState) (who : ℕ) (entry : Entry) (items : List PlainItem) (part : Part) → IsPartOf t who part → number_now (after_event t (Commit who entry items)) ≡ number_now t + 1
committed_number t who entry items part is = by_there (λ (z : SharedState). number_now z ≡ number_now t + 1) t who part (λ part. record t {
  notes = t.notes ++ Commits entry ∷ [];
  lists = items ∷ t.lists;
  parts = finite.insert t.parts who (part_committed entry.number part);
}) is (omega (arith, ap length (entries_more t.notes (Commits entry ∷ [])), length-append (entries_in t.notes) (entry ∷ [])))

module _ (s : SharedState) (n : ℕ) where
  abbrev SameTree : SharedState → Type 0
  SameTree t = tree_at t.mounted.tree (entries_in t.notes) n ≡ tree_at s.mounted.tree (entries_in s.notes) n

  asked_tree : (who : ℕ) (key : LockKey) (mode : Mode) (answer : Asked) (table : Table) → SameTree (after_event s (AskKey who key mode answer table))
  asked_tree who key mode Held table = by_case SameTree s who (λ part. set_keys table who (with_key key mode (number_now s) part) s) refl (λ part. refl)
  asked_tree who key mode (Busy by) table = refl

  raised_tree : (who : ℕ) (key : LockKey) (answer : Asked) (table : Table) → SameTree (after_event s (RaiseKey who key answer table))
  raised_tree who key Held table = by_case SameTree s who (λ part. set_keys table who (with_raised key part) s) refl (λ part. refl)
  raised_tree who key (Busy by) table = refl

  same_entries : (note : Note) → entries_in (note ∷ []) ≡ [] → tree_at s.mounted.tree (entries_in (s.notes ++ note ∷ [])) n ≡ tree_at s.mounted.tree (entries_in s.notes) n
  same_entries note none = ap (λ h. tree_at s.mounted.tree h n) (entries_more s.notes (note ∷ []) ∙ ap (λ h. entries_in s.notes ++ h) none ∙ append-nil (entries_in s.notes))

  module _ (Makes : LiveMap → Tree → Type 0) (low : n ≤ number_now s) where
    pub event_trees : (event : SharedEvent) → MayHappen Makes s event → SameTree (after_event s event)
    event_trees (Enter who) may = refl
    event_trees (Meet who) may = by_case SameTree s who (λ part. set_part who (record part { faults = s.faults }) s) refl (λ part. refl)
    event_trees (Leave who) may = refl
    event_trees (MakeRoom who count table) may = by_case SameTree s who (λ part. set_keys table who (record part { room = part.room + count }) s) refl (λ part. refl)
    event_trees (AskKey who key mode answer table) may = asked_tree who key mode answer table
    event_trees (RaiseKey who key answer table) may = raised_tree who key answer table
    event_trees (Unlock who table) may = by_case SameTree s who (λ part. set_keys table who (without_keys part) s) refl (λ part. refl)
    event_trees (TakeSnapshot who) may = by_case SameTree s who (λ part. set_part who (with_snapshot s part) s) refl (λ part. refl)
    event_trees (DropSnapshot who index) may = by_case SameTree s who (λ part. set_part who (without_snapshot index part) s) refl (λ part. refl)
    event_trees (Reserve who need bytes) may = by_case SameTree s who (λ part. record s {
      parts = finite.insert s.parts who (with_reserved need bytes s part);
      ids = s.ids + need.nodes;
      stores = s.stores + need.nodes;
    }) refl (λ part. refl)
    event_trees (RollBack who) may = by_case SameTree s who (λ part. set_part who (record part { reserved = None }) s) refl (λ part. refl)
    event_trees (Commit who entry items) may = by_case SameTree s who (λ part. record s {
      notes = s.notes ++ Commits entry ∷ [];
      lists = items ∷ s.lists;
      parts = finite.insert s.parts who (part_committed entry.number part);
    }) refl (λ part. ap (λ h. tree_at s.mounted.tree h n) (entries_more s.notes (Commits entry ∷ []))
        ∙ tree_at_before s.mounted.tree (entries_in s.notes) entry n (omega (arith, low, may.1.next.number)))
    event_trees (Mark number calls) may = same_entries (Settles number calls) refl
    event_trees (RaiseBase base) may = same_entries (Raises base) refl
    event_trees (Tidy lists) may = refl
    event_trees (Count faults) may = refl

-- ---- runs

module _ (Makes : LiveMap → Tree → Type 0) where
  pub run_sound : (s : SharedState) (events : List SharedEvent) (t : SharedState) → IsSharedSound Makes s → RunsTo Makes s events t → IsSharedSound Makes t
  run_sound s [] t sound run = subst (IsSharedSound Makes) run sound
  run_sound s (event ∷ events) t sound run = run_sound (after_event s event) events t (event_sound s sound event run.0) run.1

  pub run_goes_on : (s : SharedState) (events : List SharedEvent) (t : SharedState) → RunsTo Makes s events t → StateGoesOn s t
  run_goes_on s [] t run = subst (StateGoesOn s) run (stays s)
  run_goes_on s (event ∷ events) t run = on_then s (after_event s event) t (event_goes_on s event) (run_goes_on (after_event s event) events t run.1)

  pub run_trees : (s : SharedState) (events : List SharedEvent) (t : SharedState) (n : ℕ) → RunsTo Makes s events t → n ≤ number_now s
      → tree_at t.mounted.tree (entries_in t.notes) n ≡ tree_at s.mounted.tree (entries_in s.notes) n
  run_trees s [] t n run low = ap (λ (z : SharedState). tree_at z.mounted.tree (entries_in z.notes) n) (sym run)
  run_trees s (event ∷ events) t n run low =
      let a = (event_goes_on s event).number in
      run_trees (after_event s event) events t n run.1 (omega arith) ∙ event_trees s n Makes low event run.0

  pub run_others : (s : SharedState) (events : List SharedEvent) (t : SharedState) (w : ℕ) → RunsTo Makes s events t → ((i : ℕ) (event : SharedEvent) → slice_get events i ≡ Some event → actor_of event ≢ Some w)
      → finite.get t.parts w ≡ finite.get s.parts w
  run_others s [] t w run none = ap (λ (z : SharedState). finite.get z.parts w) (sym run)
  run_others s (event ∷ events) t w run none = run_others (after_event s event) events t w run.1 (λ i e got. none (suc i) e got) ∙ event_others s w event (none zero event refl)

  pub point_between : (s : SharedState) (before : List SharedEvent) (t : SharedState) (event : SharedEvent) (later : List SharedEvent) (u : SharedState) (point : ℕ)
      → RunsTo Makes s before t → MayHappen Makes t event → RunsTo Makes (after_event t event) later u → point_shown t event ≡ Some point
      → IsBetween (number_now s) (number_now u) (is_commit_event event) point
  point_between s before t event later u point run may rest shown = by event may rest shown
    where
      same : (a b : ℕ) → Some a ≡ Some b → a ≡ b
      same a b e = cc

      by : (event : SharedEvent) → MayHappen Makes t event → RunsTo Makes (after_event t event) later u → point_shown t event ≡ Some point → IsBetween (number_now s) (number_now u) (is_commit_event event) point
      by (TakeSnapshot who) may rest shown =
          let a = (run_goes_on s before t run).number in let b = (event_goes_on t (TakeSnapshot who)).number in let c = (run_goes_on (after_event t (TakeSnapshot who)) later u rest).number in
          let e = same (number_now t) point shown in
          record { from = omega arith; above = λ f. absurd (cc f); upto = omega arith }
      by (Commit who entry items) may rest shown =
          let a = (run_goes_on s before t run).number in
          let c = (run_goes_on (after_event t (Commit who entry items)) later u rest).number in
          let n = may.1.next.number in
          let e = same entry.number point shown in
          let d = committed_number t who entry items may.0.0 may.0.1 in
          record { from = omega (arith, n); above = λ f. omega (arith, n); upto = omega (arith, n, d) }
      by (Enter who) may rest shown = absurd (cc shown)
      by (Meet who) may rest shown = absurd (cc shown)
      by (Leave who) may rest shown = absurd (cc shown)
      by (MakeRoom who count table) may rest shown = absurd (cc shown)
      by (AskKey who key mode answer table) may rest shown = absurd (cc shown)
      by (RaiseKey who key answer table) may rest shown = absurd (cc shown)
      by (Unlock who table) may rest shown = absurd (cc shown)
      by (DropSnapshot who index) may rest shown = absurd (cc shown)
      by (Reserve who need bytes) may rest shown = absurd (cc shown)
      by (RollBack who) may rest shown = absurd (cc shown)
      by (Mark number calls) may rest shown = absurd (cc shown)
      by (RaiseBase base) may rest shown = absurd (cc shown)
      by (Tidy lists) may rest shown = absurd (cc shown)
      by (Count faults) may rest shown = absurd (cc shown)
