-- What is reserved, and commits.
use Rattle.std.proofs.Common.{◌≡◌, ℕ, ◌+◌, ◌-◌, ◌*◌, ◌<◌, ◌≤◌, cond, List, [], ◌∷◌, ◌++◌, length, reverse, Option, None, Some, sym, ap, subst, ◌∙◌, arith, is_some, length-append}
use Rattle.std.specs.FinMap as finite
use Rattle.std.specs.Option.{IsSome}
use Rattle.std.proofs.lemmas.List.{reverse-append}
use Rattle.fx_history.specs.declared.entry.Entry.{Entry}
use Rattle.fx_item.specs.Item.{PlainItem}
use Rattle.fx_item.specs.declared.space.Need.{Need}
use Rattle.fx_layerset.specs.Levels.{PlainLevel, SetLevels, SetState, batch_level, item_lists, pushed_batch}
use Rattle.fx_plain.specs.Tree.{Tree}
use Rattle.fx_events.specs.Notes.{Commits, base_number, last_commit, settled_upto}
use Rattle.fx_parts.specs.Parts.{Part, Reservation, SharedState}
use Rattle.fx_parts.specs.Happening.{Commit, Reserve, after_event, part_committed, with_reserved}
use Rattle.fx_parts.proofs.Events.{by_there}
use Rattle.fx_numbers.specs.Noted.{NoteList}
use Rattle.fx_numbers.specs.Slots.{PartMap, promised_by}
use Rattle.fx_numbers.specs.State.{NumbersState, lists_in, reserved_next, shared_of}
use Rattle.fx_numbers.specs.Inner.{AreNumbers, numbers_from}
use Rattle.fx_numbers.specs.declared.numbers.Numbers.TheInside.{Inside}
use Rattle.fx_numbers.proofs.Changing.{IsSwapped, kept_keys, part_out, swapped_numbers}
use Rattle.fx_numbers.proofs.Noting.{base_commits, last_commits, settled_commits}

-- ---- a commit

pub pushed_lists : (set : SetState) (items : List PlainItem) → lists_in (pushed_batch set items).levels ≡ items ∷ lists_in set.levels
pushed_lists set items =
    ap (λ (l : List PlainLevel). item_lists (l ++ reverse set.levels.objects ++ reverse set.levels.allocs)) (reverse-append set.levels.batches (batch_level items ∷ []))

pub one_promised : (part : Part) → IsSome part.reserved → promised_by part ≡ 1
one_promised part some = ap (λ b. cond b 1 0) some

pub none_promised : (part : Part) → part.reserved ≡ None → promised_by part ≡ 0
none_promised part none = ap (λ (o : Option Reservation). cond (is_some o) 1 0) none

-- there is memory for the commit of a part that has something reserved
pub batch_place : (i : Inside) → AreNumbers i → (mid : PartMap) (part : Part) → mid.reserved + promised_by part ≡ i.parts.reserved → promised_by part ≡ 1 → length i.set.levels.batches < i.set.room.batches
batch_place i inv mid part less one = let h = inv.batches (omega (arith, less, one)) in omega (arith, h, less, one)

pub note_place : (i : Inside) → AreNumbers i → (mid : PartMap) (part : Part) → mid.reserved + promised_by part ≡ i.parts.reserved → promised_by part ≡ 1 → length i.log.notes < i.log.room
note_place i inv mid part less one = let h = inv.notes in let u = inv.upto in omega (arith, h, u, less, one)

module _ (i : Inside) (new : PartMap) (who : ℕ) (part after : Part) (sw : IsSwapped i.parts new who part after) (entry : Entry) (items : List PlainItem) (done : after ≡ part_committed entry.number part) where
  module _ (inv : AreNumbers i) (one : promised_by part ≡ 1) (next : entry.number ≡ last_commit i.kept i.log.notes + 1) (log : NoteList) (set : SetState) (log_is : log ≡ record i.log { notes = i.log.notes ++ Commits entry ∷ [] }) (set_is : set ≡ pushed_batch i.set items) where
    none_left : promised_by after ≡ 0
    none_left = ap promised_by done

    pub commit_numbers : AreNumbers (record i { log = log; set = set; parts = new; number = entry.number })
    commit_numbers = subst (λ (l : NoteList). AreNumbers (record i { log = l; set = set; parts = new; number = entry.number })) (sym log_is)
        (subst (λ (s : SetState). AreNumbers (record i { log = record i.log { notes = i.log.notes ++ Commits entry ∷ [] }; set = s; parts = new; number = entry.number })) (sym set_is) (record {
          keys = kept_keys i inv new who part after sw (ap (λ (p : Part). p.grants) done) (ap (λ (p : Part). p.room) done);
          numbers = swapped_numbers i inv new who part after sw;
          number = next ∙ sym (last_commits i.kept i.log.notes entry);
          settled = inv.settled ∙ sym (settled_commits i.kept i.log.notes entry);
          folded = inv.folded ∙ sym (base_commits i.base i.log.notes entry);
          upto = let u = inv.upto in omega (arith, u, next, inv.number);
          notes = let h = inv.notes in omega (arith, h, next, inv.number, sw.reserved, one, none_left, length-append i.log.notes (Commits entry ∷ []));
          batches = λ some. let h = inv.batches (omega (arith, some, sw.reserved, one, none_left)) in omega (arith, h, sw.reserved, one, none_left, length-append i.set.levels.batches (batch_level items ∷ []));
        }))

  module _ (v : NumbersState) (view : numbers_from i ≡ v) (log : NoteList) (set : SetState) (log_is : log ≡ record i.log { notes = i.log.notes ++ Commits entry ∷ [] }) (set_is : set ≡ pushed_batch i.set items) (tree : Tree) where
    abbrev makes : SharedState → Part → SharedState
    makes s p = record s {
      notes = s.notes ++ Commits entry ∷ [];
      lists = items ∷ s.lists;
      parts = finite.insert s.parts who p;
    }

    lists_now : lists_in set.levels ≡ items ∷ lists_in i.set.levels
    lists_now = ap (λ (s : SetState). lists_in s.levels) set_is ∙ pushed_lists i.set items

    now_is : shared_of tree (numbers_from (record i { log = log; set = set; parts = new; number = entry.number })) ≡ makes (shared_of tree v) (part_committed entry.number part)
    now_is =
        ap (λ (l : NoteList). let w : SharedState = record (shared_of tree (numbers_from i)) { notes = l.notes; lists = lists_in set.levels; parts = new.parts } in w) log_is
        ∙ ap (λ l. let w : SharedState = record (shared_of tree (numbers_from i)) { notes = i.log.notes ++ Commits entry ∷ []; lists = l; parts = new.parts } in w) lists_now
        ∙ ap (λ m. let w : SharedState = record (shared_of tree (numbers_from i)) { notes = i.log.notes ++ Commits entry ∷ []; lists = items ∷ lists_in i.set.levels; parts = m } in w) sw.parts
        ∙ ap (makes (shared_of tree (numbers_from i))) done
        ∙ ap (λ (z : NumbersState). makes (shared_of tree z) (part_committed entry.number part)) view

    pub commit_step : shared_of tree (numbers_from (record i { log = log; set = set; parts = new; number = entry.number })) ≡ after_event (shared_of tree v) (Commit who entry items)
    commit_step = by_there (λ z. shared_of tree (numbers_from (record i { log = log; set = set; parts = new; number = entry.number })) ≡ z) (shared_of tree v) who part (λ p. makes (shared_of tree v) (part_committed entry.number p)) (part_out i v view who part sw.was) now_is

-- ---- a reservation

module _ (i : Inside) (new : PartMap) (who : ℕ) (part after : Part) (sw : IsSwapped i.parts new who part after) (r : Reservation) (done : after ≡ record part { reserved = Some r }) (log : NoteList) (set : SetState) (levels : set.levels ≡ i.set.levels) (notes : log.notes ≡ i.log.notes) (ids stores : ℕ) where
  pub reserve_numbers : AreNumbers i → part.reserved ≡ None → (promised : ℕ) → promised ≡ i.parts.reserved + 1 → length set.levels.batches + promised ≤ set.room.batches → (length log.notes + (i.number - i.settled)) + 2 * promised ≤ log.room
      → AreNumbers (record i { log = log; set = set; parts = new; ids = ids; stores = stores })
  reserve_numbers inv free promised count batches room =
      let zero = none_promised part free in
      let one = ap promised_by done in
      record {
        keys = kept_keys i inv new who part after sw (ap (λ (p : Part). p.grants) done) (ap (λ (p : Part). p.room) done);
        numbers = swapped_numbers i inv new who part after sw;
        number = inv.number ∙ ap (last_commit i.kept) (sym notes);
        settled = inv.settled ∙ ap (settled_upto i.kept) (sym notes);
        folded = inv.folded ∙ ap (base_number i.base) (sym notes);
        upto = inv.upto;
        notes = let u = inv.upto in omega (arith, u, count, room, sw.reserved, zero, one);
        batches = λ some. omega (arith, count, batches, sw.reserved, zero, one);
      }

  module _ (v : NumbersState) (view : numbers_from i ≡ v) (need : Need) (bytes : ℕ) (given : r ≡ reserved_next v need bytes) (more_ids : ids ≡ i.ids + need.nodes) (more_stores : stores ≡ i.stores + need.nodes) (tree : Tree) where
    abbrev gives : SharedState → Part → SharedState
    gives s p = record s { parts = finite.insert s.parts who p; ids = s.ids + need.nodes; stores = s.stores + need.nodes }

    reserved_is : shared_of tree (numbers_from (record i { log = log; set = set; parts = new; ids = ids; stores = stores })) ≡ gives (shared_of tree v) (with_reserved need bytes (shared_of tree v) part)
    reserved_is =
        ap (λ l. let w : SharedState = record (shared_of tree (numbers_from i)) { notes = l; lists = lists_in set.levels; parts = new.parts; ids = ids; stores = stores } in w) notes
        ∙ ap (λ (l : SetLevels). let w : SharedState = record (shared_of tree (numbers_from i)) { lists = lists_in l; parts = new.parts; ids = ids; stores = stores } in w) levels
        ∙ ap (λ m. let w : SharedState = record (shared_of tree (numbers_from i)) { parts = m; ids = ids; stores = stores } in w) sw.parts
        ∙ ap (λ n. let w : SharedState = record (shared_of tree (numbers_from i)) { parts = finite.insert i.parts.parts who after; ids = n; stores = stores } in w) more_ids
        ∙ ap (λ n. let w : SharedState = record (shared_of tree (numbers_from i)) { parts = finite.insert i.parts.parts who after; ids = i.ids + need.nodes; stores = n } in w) more_stores
        ∙ ap (gives (shared_of tree (numbers_from i))) (done ∙ ap (λ (z : Reservation). let w : Part = record part { reserved = Some z } in w) given)
        ∙ ap (λ (z : NumbersState). gives (shared_of tree z) (with_reserved need bytes (shared_of tree v) part)) view

    pub reserve_step : shared_of tree (numbers_from (record i { log = log; set = set; parts = new; ids = ids; stores = stores })) ≡ after_event (shared_of tree v) (Reserve who need bytes)
    reserve_step = by_there (λ z. shared_of tree (numbers_from (record i { log = log; set = set; parts = new; ids = ids; stores = stores })) ≡ z) (shared_of tree v) who part (λ p. gives (shared_of tree v) (with_reserved need bytes (shared_of tree v) p)) (part_out i v view who part sw.was) reserved_is
