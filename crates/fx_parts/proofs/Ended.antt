-- How a line ended stays right while more happens.
use Rattle.std.proofs.Common.{◌≡◌, inl, inr, ℕ, ◌+◌, ◌<◌, ◌≤◌, List, [], ◌∷◌, ◌++◌, Some, None, refl, sym, ap, subst, ◌∙◌, arith}
use Rattle.std.specs.Prelude.{Err, slice_get}
use Rattle.std.specs.FinMap as finite
use Rattle.std.proofs.lemmas.List.{append-nil}
use Rattle.fx_item.specs.SpaceRule.{HasRoom}
use Rattle.fx_item.specs.declared.lock.LockKey.{LockKey}
use Rattle.fx_item.specs.declared.lock.Mode.{Mode}
use Rattle.fx_keys.specs.Table.{Table}
use Rattle.fx_keys.specs.declared.table.Asked.{Asked}
use Rattle.fx_keys.specs.declared.table.Asked.TheVariants.{Held, Busy}
use Rattle.fx_plain.specs.Table.{do_all}
use Rattle.fx_plain.specs.Tree.{Tree, sizes_of}
use Rattle.fx_plain.specs.declared.step.Step.{Step}
use Rattle.fx_history.specs.declared.entry.Entry.{Entry}
use Rattle.fx_history.specs.History.{tree_at}
use Rattle.fx_history.proofs.Histories.{got_more, got_split, tree_at_before}
use Rattle.fx_events.specs.Ends.{AreSettled, Committed, Compacted, Damaged, DeviceFailed, Ending, IsEndOf, IsLookedAt, NoMemory, NoSpace, Refused, RingFull, Seen, SentRequest, Steps, Synced, TooBig, WouldAllBeDone, max_written, need_of}
use Rattle.fx_events.specs.Notes.{ComesAfter, Commits, IsNextNote, Mounted, Note, Raises, Settles, base_number, calls_in, entries_in, history_in, last_commit, settled_at}
use Rattle.fx_events.proofs.Entries.{entries_more, map_get, map_got}
use Rattle.fx_events.proofs.Further.{goes_on}
use Rattle.fx_parts.specs.Live.{LiveMap}
use Rattle.fx_parts.specs.Parts.{SharedState, number_now}
use Rattle.fx_parts.specs.Happening.{AskKey, Commit, Count, DropSnapshot, Enter, Leave, MakeRoom, Mark, MayHappen, Meet, RaiseBase, RaiseKey, Reserve, RollBack, RunsTo, SharedEvent, TakeSnapshot, Tidy, Unlock, after_event, part_committed, set_keys, set_part, with_key, with_raised, with_reserved, with_snapshot, without_keys, without_snapshot}
use Rattle.fx_parts.proofs.Frames.{by_case, event_goes_on}

-- ---- one note more

tree_kept : (mounted : Mounted) (notes : List Note) (note : Note) (at : ℕ) → IsNextNote mounted notes note → at ≤ last_commit mounted.kept notes
    → tree_at mounted.tree (entries_in (notes ++ note ∷ [])) at ≡ tree_at mounted.tree (entries_in notes) at
tree_kept mounted notes (Commits entry) at next low = ap (λ h. tree_at mounted.tree h at) (entries_more notes (Commits entry ∷ [])) ∙ tree_at_before mounted.tree (entries_in notes) entry at (omega (arith, low, next.number))
tree_kept mounted notes (Settles number calls) at next low = ap (λ h. tree_at mounted.tree h at) (entries_more notes (Settles number calls ∷ []) ∙ append-nil (entries_in notes))
tree_kept mounted notes (Raises base) at next low = ap (λ h. tree_at mounted.tree h at) (entries_more notes (Raises base ∷ []) ∙ append-nil (entries_in notes))

-- an entry up to the last number stood there before
old_entry : (mounted : Mounted) (notes : List Note) (note : Note) (i : ℕ) (entry : Entry) → IsNextNote mounted notes note → entry.number ≤ last_commit mounted.kept notes
    → slice_get (entries_in (notes ++ note ∷ [])) i ≡ Some entry → slice_get (entries_in notes) i ≡ Some entry
old_entry mounted notes (Commits x) i entry next low got = elim (got_split (entries_in notes) x i entry (ap (λ h. slice_get h i) (sym (entries_more notes (Commits x ∷ []))) ∙ got)) [
  | inl old ↦ old
  | inr last ↦ absurd (omega (arith, low, next.number, ap (λ (e : Entry). e.number) last.1))
]
old_entry mounted notes (Settles number calls) i entry next low got = ap (λ h. slice_get h i) (sym (entries_more notes (Settles number calls ∷ []) ∙ append-nil (entries_in notes))) ∙ got
old_entry mounted notes (Raises base) i entry next low got = ap (λ h. slice_get h i) (sym (entries_more notes (Raises base ∷ []) ∙ append-nil (entries_in notes))) ∙ got

comes_after : (mounted : Mounted) (notes : List Note) (note : Note) → IsNextNote mounted notes note → ComesAfter 0 note
comes_after mounted notes (Commits x) next = tt
comes_after mounted notes (Settles number calls) next = next.some
comes_after mounted notes (Raises base) next = tt

settled_kept : (mounted : Mounted) (notes : List Note) (note : Note) (at calls : ℕ) → IsNextNote mounted notes note → at ≤ last_commit mounted.kept notes → AreSettled (history_in notes) at calls → AreSettled (history_in (notes ++ note ∷ [])) at calls
settled_kept mounted notes note at calls next low settled i entry got small =
    let put : Entry → Entry = λ x. settled_at (calls_in notes x.number) x in
    let now : Entry → Entry = λ x. settled_at (calls_in (notes ++ note ∷ []) x.number) x in
    let x = map_got now (entries_in (notes ++ note ∷ [])) i entry got in
    let number : x.0.number ≡ entry.number = ap (λ (e : Entry). e.number) x.2 in
    let old = old_entry mounted notes note i x.0 next (omega (arith, number, small, low)) x.1 in
    let before = map_get put (entries_in notes) i x.0 old in
    let was = settled i (put x.0) before (omega (arith, number, small)) in
    let same = ((goes_on 0 notes note (comes_after mounted notes note next)).each i (put x.0) entry before got).kept was.0 in
    (omega (arith, same, was.0), omega (arith, same, was.1))

base_more : (base : ℕ) (former latter : List Note) → base_number base (former ++ latter) ≡ base_number (base_number base former) latter
base_more base [] latter = refl
base_more base (Commits entry ∷ former) latter = base_more base former latter
base_more base (Settles number calls ∷ former) latter = base_more base former latter
base_more base (Raises higher ∷ former) latter = base_more higher former latter

base_kept : (mounted : Mounted) (notes : List Note) (note : Note) → IsNextNote mounted notes note → base_number mounted.base notes ≤ base_number mounted.base (notes ++ note ∷ [])
base_kept mounted notes (Commits entry) next = omega (arith, base_more mounted.base notes (Commits entry ∷ []))
base_kept mounted notes (Settles number calls) next = omega (arith, base_more mounted.base notes (Settles number calls ∷ []))
base_kept mounted notes (Raises base) next = omega (arith, base_more mounted.base notes (Raises base ∷ []), next.rises)

pub end_kept : (mounted : Mounted) (notes : List Note) (note : Note) (sent : SentRequest) (at : ℕ) (ending : Ending) → IsNextNote mounted notes note → at ≤ last_commit mounted.kept notes
    → IsEndOf mounted notes sent at ending → IsEndOf mounted (notes ++ note ∷ []) sent at ending
end_kept mounted notes note sent at Committed next low h =
    (h.0, h.1, ap (λ l. slice_get l h.0) (entries_more notes (note ∷ [])) ∙ got_more (entries_in notes) (entries_in (note ∷ [])) h.0 h.1 h.2, h.3)
end_kept mounted notes note sent at (Seen answer) next low h =
    subst (λ (t : Tree). (step : Step) × IsLookedAt t sent.request answer step) (sym (tree_kept mounted notes note at next low)) h
end_kept mounted notes note sent at (Refused index refusal) next low h =
    subst (λ (t : Tree). (steps : List Step) × (sent.request ≡ Steps steps) × (do_all t steps ≡ Err (index, refusal))) (sym (tree_kept mounted notes note at next low)) h
end_kept mounted notes note sent at TooBig next low h =
    subst (λ (t : Tree). (steps : List Step) × WouldAllBeDone t sent.request steps × (max_written < (need_of steps).blocks)) (sym (tree_kept mounted notes note at next low)) h
end_kept mounted notes note sent at (NoSpace beyond) next low h =
    subst (λ (t : Tree). (steps : List Step) × WouldAllBeDone t sent.request steps × ((need_of steps).blocks ≤ max_written) × (HasRoom mounted.blocks mounted.ring (sizes_of t) (need_of steps) beyond → ⊥))
    (sym (tree_kept mounted notes note at next low)) h
end_kept mounted notes note sent at RingFull next low h =
    subst (λ (t : Tree). (steps : List Step) × WouldAllBeDone t sent.request steps) (sym (tree_kept mounted notes note at next low)) h
end_kept mounted notes note sent at (Synced calls) next low h = (h.0, settled_kept mounted notes note at calls next low h.1)
end_kept mounted notes note sent at Compacted next low h = (h.0, (let a = h.1 in let b = base_kept mounted notes note next in omega arith))
end_kept mounted notes note sent at (DeviceFailed count) next low h = tt
end_kept mounted notes note sent at (Damaged block kept found) next low h = tt
end_kept mounted notes note sent at NoMemory next low h = tt

-- ---- one event more

module _ (s : SharedState) (sent : SentRequest) (at : ℕ) (ending : Ending) (right : IsEndOf s.mounted s.notes sent at ending) where
  abbrev Right : SharedState → Type 0
  Right t = IsEndOf t.mounted t.notes sent at ending

  asked_right : (who : ℕ) (key : LockKey) (mode : Mode) (answer : Asked) (table : Table) → Right (after_event s (AskKey who key mode answer table))
  asked_right who key mode Held table = by_case Right s who (λ part. set_keys table who (with_key key mode (number_now s) part) s) right (λ part. right)
  asked_right who key mode (Busy by) table = right

  raised_right : (who : ℕ) (key : LockKey) (answer : Asked) (table : Table) → Right (after_event s (RaiseKey who key answer table))
  raised_right who key Held table = by_case Right s who (λ part. set_keys table who (with_raised key part) s) right (λ part. right)
  raised_right who key (Busy by) table = right

  module _ (Makes : LiveMap → Tree → Type 0) (low : at ≤ number_now s) where
    event_right : (event : SharedEvent) → MayHappen Makes s event → Right (after_event s event)
    event_right (Enter who) may = right
    event_right (Meet who) may = by_case Right s who (λ part. set_part who (record part { faults = s.faults }) s) right (λ part. right)
    event_right (Leave who) may = right
    event_right (MakeRoom who count table) may = by_case Right s who (λ part. set_keys table who (record part { room = part.room + count }) s) right (λ part. right)
    event_right (AskKey who key mode answer table) may = asked_right who key mode answer table
    event_right (RaiseKey who key answer table) may = raised_right who key answer table
    event_right (Unlock who table) may = by_case Right s who (λ part. set_keys table who (without_keys part) s) right (λ part. right)
    event_right (TakeSnapshot who) may = by_case Right s who (λ part. set_part who (with_snapshot s part) s) right (λ part. right)
    event_right (DropSnapshot who index) may = by_case Right s who (λ part. set_part who (without_snapshot index part) s) right (λ part. right)
    event_right (Reserve who need bytes) may = by_case Right s who (λ part. record s {
      parts = finite.insert s.parts who (with_reserved need bytes s part);
      ids = s.ids + need.nodes;
      stores = s.stores + need.nodes;
    }) right (λ part. right)
    event_right (RollBack who) may = by_case Right s who (λ part. set_part who (record part { reserved = None }) s) right (λ part. right)
    event_right (Commit who entry items) may = by_case Right s who (λ part. record s {
      notes = s.notes ++ Commits entry ∷ [];
      lists = items ∷ s.lists;
      parts = finite.insert s.parts who (part_committed entry.number part);
    }) right (λ part. end_kept s.mounted s.notes (Commits entry) sent at ending may.1.next low right)
    event_right (Mark number calls) may = end_kept s.mounted s.notes (Settles number calls) sent at ending may low right
    event_right (RaiseBase base) may = end_kept s.mounted s.notes (Raises base) sent at ending may low right
    event_right (Tidy lists) may = right
    event_right (Count faults) may = right

pub run_right : (Makes : LiveMap → Tree → Type 0) (s : SharedState) (events : List SharedEvent) (t : SharedState) (sent : SentRequest) (at : ℕ) (ending : Ending) → RunsTo Makes s events t → at ≤ number_now s
    → IsEndOf s.mounted s.notes sent at ending → IsEndOf t.mounted t.notes sent at ending
run_right Makes s [] t sent at ending run low right = subst (λ (z : SharedState). IsEndOf z.mounted z.notes sent at ending) run right
run_right Makes s (event ∷ events) t sent at ending run low right =
    let rises = (event_goes_on s event).number in
    run_right Makes (after_event s event) events t sent at ending run.1 (omega arith) (event_right s sent at ending right Makes low event run.0)
