-- What notes leave of what is so of all fields, and the state right after a mount.
use Rattle.std.proofs.Common.{◌≡◌, ℕ, ◌+◌, ◌*◌, ◌<◌, ◌≤◌, List, [], ◌∷◌, ◌++◌, length, Some, refl, sym, ap, subst, ◌∙◌, arith, length-append}
use Rattle.std.specs.FinMap as finite
use Rattle.std.specs.FinMap.{get-empty}
use Rattle.std.specs.Ordering.{nat_cmp}
use Rattle.fx_history.specs.declared.entry.Entry.{Entry}
use Rattle.fx_keys.specs.Table.{empty_table}
use Rattle.fx_plain.specs.Tree.{Tree}
use Rattle.fx_events.specs.Notes.{Commits, IsNextFlush, Note, Raises, Settles, base_number, entries_in, last_commit, settled_upto}
use Rattle.fx_parts.specs.Parts.{Part}
use Rattle.fx_parts.specs.Sound.{KeysAgree}
use Rattle.fx_parts.proofs.Opening.{opened_sound}
use Rattle.fx_numbers.specs.Noted.{NoteList}
use Rattle.fx_numbers.specs.State.{NumbersState, commit_now, mounted_with}
use Rattle.fx_numbers.specs.Inner.{AreNumbers, numbers_from}
use Rattle.fx_numbers.specs.declared.numbers.Numbers.TheInside.{Inside}

-- ---- one more note

entries_settles : (notes : List Note) (number calls : ℕ) → entries_in (notes ++ Settles number calls ∷ []) ≡ entries_in notes
entries_settles [] number calls = refl
entries_settles (Commits entry ∷ notes) number calls = ap (λ l. entry ∷ l) (entries_settles notes number calls)
entries_settles (Settles n c ∷ notes) number calls = entries_settles notes number calls
entries_settles (Raises b ∷ notes) number calls = entries_settles notes number calls

entries_raises : (notes : List Note) (base : ℕ) → entries_in (notes ++ Raises base ∷ []) ≡ entries_in notes
entries_raises [] base = refl
entries_raises (Commits entry ∷ notes) base = ap (λ l. entry ∷ l) (entries_raises notes base)
entries_raises (Settles n c ∷ notes) base = entries_raises notes base
entries_raises (Raises b ∷ notes) base = entries_raises notes base

entries_commits : (notes : List Note) (entry : Entry) → entries_in (notes ++ Commits entry ∷ []) ≡ entries_in notes ++ entry ∷ []
entries_commits [] entry = refl
entries_commits (Commits e ∷ notes) entry = ap (λ l. e ∷ l) (entries_commits notes entry)
entries_commits (Settles n c ∷ notes) entry = entries_commits notes entry
entries_commits (Raises b ∷ notes) entry = entries_commits notes entry

pub last_settles : (kept : ℕ) (notes : List Note) (number calls : ℕ) → last_commit kept (notes ++ Settles number calls ∷ []) ≡ last_commit kept notes
last_settles kept notes number calls = ap (λ l. kept + length l) (entries_settles notes number calls)

pub last_raises : (kept : ℕ) (notes : List Note) (base : ℕ) → last_commit kept (notes ++ Raises base ∷ []) ≡ last_commit kept notes
last_raises kept notes base = ap (λ l. kept + length l) (entries_raises notes base)

pub last_commits : (kept : ℕ) (notes : List Note) (entry : Entry) → last_commit kept (notes ++ Commits entry ∷ []) ≡ last_commit kept notes + 1
last_commits kept notes entry =
    let h = ap length (entries_commits notes entry) ∙ length-append (entries_in notes) (entry ∷ []) in
    omega (arith, h)

pub settled_settles : (kept : ℕ) (notes : List Note) (number calls : ℕ) → settled_upto kept (notes ++ Settles number calls ∷ []) ≡ number
settled_settles kept [] number calls = refl
settled_settles kept (Commits entry ∷ notes) number calls = settled_settles kept notes number calls
settled_settles kept (Settles n c ∷ notes) number calls = settled_settles n notes number calls
settled_settles kept (Raises b ∷ notes) number calls = settled_settles kept notes number calls

pub settled_raises : (kept : ℕ) (notes : List Note) (base : ℕ) → settled_upto kept (notes ++ Raises base ∷ []) ≡ settled_upto kept notes
settled_raises kept [] base = refl
settled_raises kept (Commits entry ∷ notes) base = settled_raises kept notes base
settled_raises kept (Settles n c ∷ notes) base = settled_raises n notes base
settled_raises kept (Raises b ∷ notes) base = settled_raises kept notes base

pub settled_commits : (kept : ℕ) (notes : List Note) (entry : Entry) → settled_upto kept (notes ++ Commits entry ∷ []) ≡ settled_upto kept notes
settled_commits kept [] entry = refl
settled_commits kept (Commits e ∷ notes) entry = settled_commits kept notes entry
settled_commits kept (Settles n c ∷ notes) entry = settled_commits n notes entry
settled_commits kept (Raises b ∷ notes) entry = settled_commits kept notes entry

pub base_settles : (base : ℕ) (notes : List Note) (number calls : ℕ) → base_number base (notes ++ Settles number calls ∷ []) ≡ base_number base notes
base_settles base [] number calls = refl
base_settles base (Commits entry ∷ notes) number calls = base_settles base notes number calls
base_settles base (Settles n c ∷ notes) number calls = base_settles base notes number calls
base_settles base (Raises b ∷ notes) number calls = base_settles b notes number calls

pub base_raises : (base : ℕ) (notes : List Note) (higher : ℕ) → base_number base (notes ++ Raises higher ∷ []) ≡ higher
base_raises base [] higher = refl
base_raises base (Commits entry ∷ notes) higher = base_raises base notes higher
base_raises base (Settles n c ∷ notes) higher = base_raises base notes higher
base_raises base (Raises b ∷ notes) higher = base_raises b notes higher

pub base_commits : (base : ℕ) (notes : List Note) (entry : Entry) → base_number base (notes ++ Commits entry ∷ []) ≡ base_number base notes
base_commits base [] entry = refl
base_commits base (Commits e ∷ notes) entry = base_commits base notes entry
base_commits base (Settles n c ∷ notes) entry = base_commits base notes entry
base_commits base (Raises b ∷ notes) entry = base_commits b notes entry

-- ---- a flush

module _ (i : Inside) (inv : AreNumbers i) (v : NumbersState) (view : numbers_from i ≡ v) (number calls : ℕ) (tree : Tree) (next : IsNextFlush (mounted_with tree v) v.notes number calls) where
  further : i.settled < number
  further =
      let h = next.further in
      let e = inv.settled ∙ ap (λ (z : NumbersState). settled_upto z.kept z.notes) view in
      omega (arith, h, e)

  within : number ≤ i.number
  within =
      let h = next.within in
      let e = inv.number ∙ ap commit_now view in
      omega (arith, h, e)

  pub mark_room : length i.log.notes < i.log.room
  mark_room = let h = inv.notes in omega (arith, h, further, within)

  pub marked_numbers : (log : NoteList) → log ≡ record i.log { notes = i.log.notes ++ Settles number calls ∷ [] } → AreNumbers (record i { log = log; settled = number })
  marked_numbers log is = subst (λ (l : NoteList). AreNumbers (record i { log = l; settled = number })) (sym is) (record {
    keys = inv.keys;
    numbers = inv.numbers;
    number = inv.number ∙ sym (last_settles i.kept i.log.notes number calls);
    settled = sym (settled_settles i.kept i.log.notes number calls);
    folded = inv.folded ∙ sym (base_settles i.base i.log.notes number calls);
    upto = within;
    notes = let h = inv.notes in omega (arith, h, further, within, length-append i.log.notes (Settles number calls ∷ []));
    batches = inv.batches;
  })

-- ---- a raised base

-- more room, and the same notes
pub roomier_numbers : (i : Inside) → AreNumbers i → (log : NoteList) → log.notes ≡ i.log.notes → i.log.room ≤ log.room → AreNumbers (record i { log = log })
roomier_numbers i inv log same more = record {
  keys = inv.keys;
  numbers = inv.numbers;
  number = inv.number ∙ ap (last_commit i.kept) (sym same);
  settled = inv.settled ∙ ap (settled_upto i.kept) (sym same);
  folded = inv.folded ∙ ap (base_number i.base) (sym same);
  upto = inv.upto;
  notes = let h = inv.notes in omega (arith, h, more, ap length same);
  batches = inv.batches;
}

pub raised_numbers : (i : Inside) → AreNumbers i → (log : NoteList) (base : ℕ) → (((length log.notes + i.number) + 2 * i.parts.reserved) + 1 ≤ log.room + i.settled) → log.notes ≡ i.log.notes → (new : NoteList) → new ≡ record log { notes = log.notes ++ Raises base ∷ [] } → AreNumbers (record i { log = new; folded = base })
raised_numbers i inv log base room same new is = subst (λ (l : NoteList). AreNumbers (record i { log = l; folded = base })) (sym is) (record {
  keys = inv.keys;
  numbers = inv.numbers;
  number = inv.number ∙ ap (last_commit i.kept) (sym same) ∙ sym (last_raises i.kept log.notes base);
  settled = inv.settled ∙ ap (settled_upto i.kept) (sym same) ∙ sym (settled_raises i.kept log.notes base);
  folded = sym (base_raises i.base log.notes base);
  upto = inv.upto;
  notes = omega (arith, room, length-append log.notes (Raises base ∷ []));
  batches = inv.batches;
})

-- ---- right after a mount

no_part : (who : ℕ) (part : Part) → finite.get (finite.empty {K = ℕ} {X = Part} {R = nat_cmp}) who ≡ Some part → ⊥
no_part who part is = let none = get-empty {X = Part} nat_cmp who in absurd (cc (sym none ∙ is))

no_keys : KeysAgree empty_table finite.empty
no_keys = (opened_sound (λ live tree. Unit {0}) (record { tree = finite.empty; kept = 0; base = 0; blocks = 0; ring = 0 }) [] 1 1 0 tt (omega arith) (omega arith) (λ node not_given point here. refl)).keys

pub opened_numbers : (i : Inside) → i.log.notes ≡ [] → i.table ≡ empty_table → i.parts.parts ≡ finite.empty → i.parts.reserved ≡ 0 → i.number ≡ i.kept → i.settled ≡ i.kept → i.folded ≡ i.base → AreNumbers i
opened_numbers i notes table parts reserved number settled folded = record {
  keys = subst (λ t. KeysAgree t i.parts.parts) (sym table) (subst (KeysAgree empty_table) (sym parts) no_keys);
  numbers = λ who part is. absurd (no_part who part (ap (λ m. finite.get m who) (sym parts) ∙ is));
  number = number ∙ sym (ap (last_commit i.kept) notes ∙ (let e : last_commit i.kept [] ≡ i.kept = omega arith in e));
  settled = settled ∙ sym (ap (settled_upto i.kept) notes);
  folded = folded ∙ sym (ap (base_number i.base) notes);
  upto = omega (arith, number, settled);
  notes = omega (arith, ap length notes, number, settled, reserved);
  batches = λ some. absurd (omega (arith, some, reserved));
}
