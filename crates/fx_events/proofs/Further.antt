-- One note more settles entries that were not settled, by its own calls.
use Rattle.std.proofs.Common.{◌≡◌, ℕ, ◌<◌, Bool, true, false, cond, List, [], ◌∷◌, ◌++◌, length, length-append, refl, sym, ap, subst, ◌∙◌, arith, inl, inr}
use Rattle.std.specs.Prelude.{Some, nat_le, slice_get, ◌⊎◌}
use Rattle.std.proofs.lemmas.List.{length-map}
use Rattle.fx_history.specs.declared.entry.Entry.{Entry}
use Rattle.fx_history.proofs.Histories.{got_more}
use Rattle.fx_events.specs.Notes.{ComesAfter, GoesOnTo, Note, Commits, OnlySettles, Raises, Settles, calls_in, entries_in, history_in, settled_at}
use Rattle.fx_events.proofs.Entries.{entries_more, map_get, map_got}

-- what one note more leaves of the calls by which a number was settled
record Leaves (calls old new : ℕ) : Type 0 where
  kept : 0 < old → new ≡ old
  later : old ≡ 0 → (new ≡ 0) ⊎ (calls < new)

leaves : (calls : ℕ) (notes : List Note) (note : Note) → ComesAfter calls note → (n : ℕ) → Leaves calls (calls_in notes n) (calls_in (notes ++ note ∷ []) n)
leaves calls [] (Commits entry) after n = record { kept = λ some. refl; later = λ none. inl refl }
leaves calls [] (Settles number done) after n = record { kept = λ some. absurd (omega arith); later = λ none. by (nat_le n number) }
  where
    by : (b : Bool) → (cond b done 0 ≡ 0) ⊎ (calls < cond b done 0)
    by true = inr after
    by false = inl refl
leaves calls [] (Raises base) after n = record { kept = λ some. refl; later = λ none. inl refl }
leaves calls (Commits entry ∷ notes) note after n = leaves calls notes note after n
leaves calls (Settles number done ∷ notes) note after n = by (nat_le n number) (leaves calls notes note after n)
  where
    by : (b : Bool) → Leaves calls (calls_in notes n) (calls_in (notes ++ note ∷ []) n) → Leaves calls (cond b done (calls_in notes n)) (cond b done (calls_in (notes ++ note ∷ []) n))
    by true rest = record { kept = λ some. refl; later = λ none. inl none }
    by false rest = rest
leaves calls (Raises base ∷ notes) note after n = leaves calls notes note after n

abbrev put : List Note → Entry → Entry
put notes entry = settled_at (calls_in notes entry.number) entry

pub goes_on : (calls : ℕ) (notes : List Note) (note : Note) → ComesAfter calls note → GoesOnTo calls (history_in notes) (history_in (notes ++ note ∷ []))
goes_on calls notes note after = record {
  longer = omega (arith, length-map (entries_in notes) (put notes), length-map (entries_in (notes ++ note ∷ [])) (put (notes ++ note ∷ [])), ap length (entries_more notes (note ∷ [])), length-append (entries_in notes) (entries_in (note ∷ [])));
  each = λ i old new before now.
      let a = map_got (put notes) (entries_in notes) i old before in
      let there : slice_get (entries_in (notes ++ note ∷ [])) i ≡ Some a.0 = ap (λ (h : List Entry). slice_get h i) (entries_more notes (note ∷ [])) ∙ got_more (entries_in notes) (entries_in (note ∷ [])) i a.0 a.1 in
      let same : put (notes ++ note ∷ []) a.0 ≡ new = cc (sym (map_get (put (notes ++ note ∷ [])) (entries_in (notes ++ note ∷ [])) i a.0 there) ∙ now) in
      let l = leaves calls notes note after a.0.number in
      let is : OnlySettles calls (put notes a.0) (put (notes ++ note ∷ []) a.0) = record { same = refl; kept = l.kept; later = l.later } in
      subst (λ (x : Entry). OnlySettles calls x new) a.2 (subst (λ (x : Entry). OnlySettles calls (put notes a.0) x) same is);
}
