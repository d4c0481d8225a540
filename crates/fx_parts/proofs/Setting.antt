-- A shared state stays sound where one part is set that fits beside the others.
use Rattle.std.proofs.Common.{◌≡◌, ◌≢◌, inl, inr, ℕ, ◌+◌, ◌≤◌, List, [], ◌∷◌, ◌++◌, Some, refl, sym, ap, subst, ◌∙◌, arith, length}
use Rattle.std.specs.FinMap as finite
use Rattle.fx_item.specs.Item.{PlainItem}
use Rattle.fx_keys.specs.Table.{Table}
use Rattle.fx_keys.specs.declared.table.TheConstants.{MAX_NUMBERS}
use Rattle.fx_plain.specs.Tree.{Tree}
use Rattle.fx_history.specs.History.{tree_at}
use Rattle.fx_events.specs.Notes.{IsNextNote, Note, entries_in, last_commit, tree_in}
use Rattle.fx_events.proofs.Entries.{follow_next}
use Rattle.fx_parts.specs.Live.{AgreeAll, LiveMap, live_in_lists}
use Rattle.fx_parts.specs.Parts.{IsPartOf, Part, Reservation, SharedState, live_now}
use Rattle.fx_parts.specs.Sound.{AreGivenApart, IsPartSound, IsSharedSound, KeysAgree}
use Rattle.fx_parts.specs.Happening.{set_keys}
use Rattle.fx_parts.proofs.Maps.{found, stayed}
use Rattle.fx_parts.proofs.Moving.{part_moves, notes_stay, items_stay}

pub apart_turned : (part other : Part) → AreGivenApart part other → AreGivenApart other part
apart_turned part other apart r t node is also here there = apart t r node also is there here

-- a part that a number may have beside the others
pub record FitsIn (Makes : LiveMap → Tree → Type 0) (s : SharedState) (who : ℕ) (part : Part) : Type 0 where
  pub sound : IsPartSound Makes s.mounted s.notes (live_now s) s.ids s.stores s.faults part
  pub number : (1 ≤ who) × (who ≤ MAX_NUMBERS)
  pub apart : (other : ℕ) (its : Part) → other ≢ who → IsPartOf s other its → AreGivenApart part its

module _ {Makes : LiveMap → Tree → Type 0} (s : SharedState) (sound : IsSharedSound Makes s) where
  pub parts_apart : (who : ℕ) (part : Part) → ((other : ℕ) (its : Part) → other ≢ who → IsPartOf s other its → AreGivenApart part its)
      → (a b : ℕ) (p q : Part) → a ≢ b → finite.get (finite.insert s.parts who part) a ≡ Some p → finite.get (finite.insert s.parts who part) b ≡ Some q → AreGivenApart p q
  parts_apart who part fits a b p q ne pa qb = elim (found s.parts who a part p pa) [
    | inl here ↦ elim (found s.parts who b part q qb) [
      | inl also ↦ absurd (ne (here.0 ∙ sym also.0))
      | inr old ↦ subst (λ z. AreGivenApart z q) here.1 (fits b q old.0 old.1)
    ]
    | inr old ↦ elim (found s.parts who b part q qb) [
      | inl also ↦ subst (λ z. AreGivenApart p z) also.1 (apart_turned part p (fits a p old.0 old.1))
      | inr older ↦ sound.apart a b p q ne old.1 older.1
    ]
  ]

  pub set_sound : (table : Table) (who : ℕ) (part : Part) → FitsIn Makes s who part → KeysAgree table (finite.insert s.parts who part) → IsSharedSound Makes (set_keys table who part s)
  set_sound table who part fits keys = record {
    happened = sound.happened;
    makes = sound.makes;
    keys = keys;
    parts = λ q p is. elim (found s.parts who q part p is) [
      | inl here ↦ subst (IsPartSound Makes s.mounted s.notes (live_now s) s.ids s.stores s.faults) here.1 fits.sound
      | inr old ↦ sound.parts q p old.1
    ];
    numbers = λ q p is. elim (found s.parts who q part p is) [
      | inl here ↦ subst (λ z. (1 ≤ z) × (z ≤ MAX_NUMBERS)) (sym here.0) fits.number
      | inr old ↦ sound.numbers q p old.1
    ];
    apart = parts_apart who part fits.apart;
    unused = sound.unused;
    first = sound.first;
  }

  -- a part that has at most what was reserved for the old one fits
  pub fits_as : (who : ℕ) (old part : Part) → IsPartOf s who old → ((r : Reservation) → part.reserved ≡ Some r → old.reserved ≡ Some r)
      → IsPartSound Makes s.mounted s.notes (live_now s) s.ids s.stores s.faults part → FitsIn Makes s who part
  fits_as who old part is same k = record {
    sound = k;
    number = sound.numbers who old is;
    apart = λ other its ne got r t node mine theirs. sound.apart who other old its (λ e. ne (sym e)) is got r t node (same r mine) theirs;
  }

  pub leave_sound : (who : ℕ) → KeysAgree s.table (finite.remove s.parts who) → IsSharedSound Makes (record s { parts = finite.remove s.parts who })
  leave_sound who keys = record {
    happened = sound.happened;
    makes = sound.makes;
    keys = keys;
    parts = λ q p is. sound.parts q p (stayed s.parts who q p is).1;
    numbers = λ q p is. sound.numbers q p (stayed s.parts who q p is).1;
    apart = λ a b p q ne pa qb. sound.apart a b p q ne (stayed s.parts who a p pa).1 (stayed s.parts who b q qb).1;
    unused = sound.unused;
    first = sound.first;
  }

  -- a note that is no entry
  pub note_sound : (note : Note) → IsNextNote s.mounted s.notes note → entries_in (s.notes ++ note ∷ []) ≡ entries_in s.notes → IsSharedSound Makes (record s { notes = s.notes ++ note ∷ [] })
  note_sound note next same =
      let number : last_commit s.mounted.kept (s.notes ++ note ∷ []) ≡ last_commit s.mounted.kept s.notes = ap (λ h. s.mounted.kept + length h) same in
      record {
        happened = follow_next s.mounted [] s.notes note sound.happened next;
        makes = subst (Makes (live_now s)) (sym ((λ i. tree_at s.mounted.tree (same i) (number i)))) sound.makes;
        keys = sound.keys;
        parts = λ q p is. part_moves (record {
          trees = λ n l. ap (λ h. tree_at s.mounted.tree h n) same;
          rises = omega (arith, number);
          current = λ e point. refl;
        }) s.ids s.stores s.faults s.ids s.stores s.faults p (omega arith) (omega arith) (omega arith) (items_stay (live_now s) (live_now s) p (λ point. refl)) (sound.parts q p is);
        numbers = sound.numbers;
        apart = sound.apart;
        unused = sound.unused;
        first = sound.first;
      }

  pub tidy_sound : (lists : List (List PlainItem)) → AgreeAll (live_now s) (live_in_lists lists) → IsSharedSound Makes (record s { lists = lists })
  tidy_sound lists same =
      let path : live_now s ≡ live_in_lists lists = λ i point. sym (same point) i in
      record {
        happened = sound.happened;
        makes = subst (λ m. Makes m (tree_in s.mounted s.notes)) path sound.makes;
        keys = sound.keys;
        parts = λ q p is. subst (λ m. IsPartSound Makes s.mounted s.notes m s.ids s.stores s.faults p) path (sound.parts q p is);
        numbers = sound.numbers;
        apart = sound.apart;
        unused = λ node not_given point here. same point ∙ sound.unused node not_given point here;
        first = sound.first;
      }

  pub count_sound : (faults : ℕ) → s.faults ≤ faults → IsSharedSound Makes (record s { faults = faults })
  count_sound faults rises = record {
    happened = sound.happened;
    makes = sound.makes;
    keys = sound.keys;
    parts = λ q p is. part_moves (notes_stay s.mounted s.notes (live_now s)) s.ids s.stores s.faults s.ids s.stores faults p (omega arith) (omega arith) rises
        (items_stay (live_now s) (live_now s) p (λ point. refl)) (sound.parts q p is);
    numbers = sound.numbers;
    apart = sound.apart;
    unused = sound.unused;
    first = sound.first;
  }
