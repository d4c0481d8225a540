-- The ends of lines stay those of the lines while no client commits.
use Rattle.std.proofs.Common.{◌≡◌, inl, inr, ℕ, ◌+◌, ◌<◌, ◌≤◌, List, [], ◌∷◌, ◌++◌, Some, None, refl, sym, ap, ◌∙◌, arith, length, length-append}
use Rattle.std.specs.Prelude.{slice_get}
use Rattle.std.specs.FinMap as finite
use Rattle.std.proofs.lemmas.List.{append-nil}
use Rattle.fx_item.specs.declared.lock.LockKey.{LockKey}
use Rattle.fx_item.specs.declared.lock.Mode.{Mode}
use Rattle.fx_keys.specs.Table.{Table}
use Rattle.fx_keys.specs.declared.table.Asked.{Asked}
use Rattle.fx_keys.specs.declared.table.Asked.TheVariants.{Held, Busy}
use Rattle.fx_plain.specs.Tree.{Tree}
use Rattle.fx_history.specs.declared.entry.Entry.{Entry}
use Rattle.fx_history.proofs.Histories.{got_split}
use Rattle.fx_events.specs.Ends.{EndedAt, SentRequest}
use Rattle.fx_events.specs.Lines.{AreEnds}
use Rattle.fx_events.specs.Notes.{Commits, IsNextNote, Mounted, Note, Raises, Settles, entries_in, last_commit}
use Rattle.fx_events.proofs.Entries.{entries_more, follow_next}
use Rattle.fx_parts.specs.Live.{LiveMap}
use Rattle.fx_parts.specs.Parts.{SharedState, number_now}
use Rattle.fx_parts.specs.Happening.{AskKey, Commit, Count, DropSnapshot, Enter, Leave, MakeRoom, Mark, MayHappen, Meet, RaiseBase, RaiseKey, Reserve, RollBack, SharedEvent, TakeSnapshot, Tidy, Unlock, after_event, IsClientCommit, part_committed, set_keys, set_part, with_key, with_raised, with_reserved, with_snapshot, without_keys, without_snapshot}
use Rattle.fx_parts.proofs.Ended.{end_kept}
use Rattle.fx_parts.proofs.Frames.{by_case}

same_entries : (notes : List Note) (note : Note) → entries_in (note ∷ []) ≡ [] → entries_in (notes ++ note ∷ []) ≡ entries_in notes
same_entries notes note none = entries_more notes (note ∷ []) ∙ ap (λ h. entries_in notes ++ h) none ∙ append-nil (entries_in notes)

module _ (mounted : Mounted) (notes : List Note) (sents : List SentRequest) (ends : List EndedAt) (a : AreEnds mounted notes sents ends) where
  with_note : (note : Note) → IsNextNote mounted notes note → last_commit mounted.kept notes ≤ last_commit mounted.kept (notes ++ note ∷ [])
      → ((k : ℕ) (entry : Entry) → slice_get (entries_in (notes ++ note ∷ [])) k ≡ Some entry → 0 < entry.who → (j : ℕ) × (slice_get (entries_in notes) j ≡ Some entry))
      → AreEnds mounted (notes ++ note ∷ []) sents ends
  with_note note next rises old = record {
    happened = follow_next mounted [] notes note a.happened next;
    one_each = a.one_each;
    right = λ i s e gs ge. end_kept mounted notes note s e.at e.ending next (a.within i e ge).1 (a.right i s e gs ge);
    asked = λ k entry got some. let o = old k entry got some in a.asked o.0 entry o.1 some;
    within = λ i e got. let w = a.within i e got in (w.0, (let b = w.1 in omega (arith, rises)));
    in_order = a.in_order;
  }

  quiet : (note : Note) → IsNextNote mounted notes note → entries_in (note ∷ []) ≡ [] → AreEnds mounted (notes ++ note ∷ []) sents ends
  quiet note next none =
      with_note note next (omega (arith, ap length (same_entries notes note none)))
      (λ k entry got some. (k, ap (λ l. slice_get l k) (sym (same_entries notes note none)) ∙ got))

  upkeep : (entry : Entry) → IsNextNote mounted notes (Commits entry) → entry.who ≡ 0 → AreEnds mounted (notes ++ Commits entry ∷ []) sents ends
  upkeep entry next nobody =
      with_note (Commits entry) next (omega (arith, ap length (entries_more notes (Commits entry ∷ [])), length-append (entries_in notes) (entry ∷ [])))
      (λ k e got some. elim (got_split (entries_in notes) entry k e (ap (λ l. slice_get l k) (sym (entries_more notes (Commits entry ∷ []))) ∙ got)) [
        | inl old ↦ (k, old)
        | inr last ↦ absurd (omega (arith, some, nobody, ap (λ (z : Entry). z.who) last.1))
      ])

module _ (s : SharedState) (sents : List SentRequest) (ends : List EndedAt) (a : AreEnds s.mounted s.notes sents ends) where
  abbrev Ended : SharedState → Type 0
  Ended t = AreEnds t.mounted t.notes sents ends

  asked_ends : (who : ℕ) (key : LockKey) (mode : Mode) (answer : Asked) (table : Table) → Ended (after_event s (AskKey who key mode answer table))
  asked_ends who key mode Held table = by_case Ended s who (λ part. set_keys table who (with_key key mode (number_now s) part) s) a (λ part. a)
  asked_ends who key mode (Busy by) table = a

  raised_ends : (who : ℕ) (key : LockKey) (answer : Asked) (table : Table) → Ended (after_event s (RaiseKey who key answer table))
  raised_ends who key Held table = by_case Ended s who (λ part. set_keys table who (with_raised key part) s) a (λ part. a)
  raised_ends who key (Busy by) table = a

  module _ (Makes : LiveMap → Tree → Type 0) where
    pub event_ends : (event : SharedEvent) → MayHappen Makes s event → (IsClientCommit event → ⊥) → Ended (after_event s event)
    event_ends (Enter who) may none = a
    event_ends (Meet who) may none = by_case Ended s who (λ part. set_part who (record part { faults = s.faults }) s) a (λ part. a)
    event_ends (Leave who) may none = a
    event_ends (MakeRoom who count table) may none = by_case Ended s who (λ part. set_keys table who (record part { room = part.room + count }) s) a (λ part. a)
    event_ends (AskKey who key mode answer table) may none = asked_ends who key mode answer table
    event_ends (RaiseKey who key answer table) may none = raised_ends who key answer table
    event_ends (Unlock who table) may none = by_case Ended s who (λ part. set_keys table who (without_keys part) s) a (λ part. a)
    event_ends (TakeSnapshot who) may none = by_case Ended s who (λ part. set_part who (with_snapshot s part) s) a (λ part. a)
    event_ends (DropSnapshot who index) may none = by_case Ended s who (λ part. set_part who (without_snapshot index part) s) a (λ part. a)
    event_ends (Reserve who need bytes) may none = by_case Ended s who (λ part. record s {
      parts = finite.insert s.parts who (with_reserved need bytes s part);
      ids = s.ids + need.nodes;
      stores = s.stores + need.nodes;
    }) a (λ part. a)
    event_ends (RollBack who) may none = by_case Ended s who (λ part. set_part who (record part { reserved = None }) s) a (λ part. a)
    event_ends (Commit who entry items) may none = by_case Ended s who (λ part. record s {
      notes = s.notes ++ Commits entry ∷ [];
      lists = items ∷ s.lists;
      parts = finite.insert s.parts who (part_committed entry.number part);
    }) a (λ part. upkeep s.mounted s.notes sents ends a entry may.1.next (omega (arith, none)))
    event_ends (Mark number calls) may none = quiet s.mounted s.notes sents ends a (Settles number calls) may refl
    event_ends (RaiseBase base) may none = quiet s.mounted s.notes sents ends a (Raises base) may refl
    event_ends (Tidy lists) may none = a
    event_ends (Count faults) may none = a

-- right after a mount no line has ended
pub no_ends : (mounted : Mounted) → AreEnds mounted [] [] []
no_ends mounted = record {
  happened = tt;
  one_each = refl;
  right = λ i s e gs ge. absurd (cc gs);
  asked = λ k entry got some. absurd (cc got);
  within = λ i e got. absurd (cc got);
  in_order = λ i j former latter before after less gf gl same gb ga. absurd (cc gf);
}
