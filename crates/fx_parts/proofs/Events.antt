-- Each event leaves a sound state.
use Rattle.std.proofs.Common.{◌≡◌, ◌⊎◌, inl, inr, ℕ, zero, suc, ◌+◌, List, [], ◌∷◌, ◌++◌, Option, Some, None, refl, sym, ap, subst, ◌∙◌, arith, take, drop}
use Rattle.std.specs.Prelude.{slice_get}
use Rattle.std.specs.FinMap as finite
use Rattle.std.specs.FinMap.{get-empty}
use Rattle.std.proofs.lemmas.List.{append-nil}
use Rattle.fx_item.specs.LockKey as lock
use Rattle.fx_item.specs.declared.lock.LockKey.{LockKey}
use Rattle.fx_item.specs.declared.lock.Mode.{Mode}
use Rattle.fx_item.specs.declared.lock.Mode.TheVariants.{Write}
use Rattle.fx_keys.specs.Table.{AskGives, GainsRoom, Leaves, RaiseGives, Table}
use Rattle.fx_keys.specs.declared.table.Asked.{Asked}
use Rattle.fx_keys.specs.declared.table.Asked.TheVariants.{Held, Busy}
use Rattle.fx_plain.specs.Tree.{Tree}
use Rattle.fx_history.proofs.Histories.{got_split}
use Rattle.fx_events.specs.Notes.{Commits, Raises, Settles, entries_in}
use Rattle.fx_events.proofs.Entries.{entries_more}
use Rattle.fx_item.specs.Overlay.{Point}
use Rattle.fx_parts.specs.Live.{LiveMap, live_in_lists, node_of_point}
use Rattle.fx_parts.specs.Parts.{Grant, IsPartOf, Part, Reservation, SharedState, TakenSnapshot, fresh_part, live_now, number_now}
use Rattle.fx_parts.specs.Sound.{IsPartSound, IsSharedSound, IsSnapshotSound}
use Rattle.fx_parts.specs.Happening.{AskKey, Commit, Count, DropSnapshot, Enter, Leave, MakeRoom, Mark, MayAsk, MayEnter, MayHappen, MayRaise, Meet, RaiseBase, RaiseKey, Reserve, RollBack, SharedEvent, TakeSnapshot, Tidy, Unlock, after_event, by_part, part_committed, set_keys, set_part, with_key, with_raised, with_reserved, with_snapshot, without_keys, without_snapshot}
use Rattle.fx_parts.proofs.Maps.{key_found}
use Rattle.fx_parts.proofs.Agreeing.{keys_ask, keys_enter, keys_kept, keys_leave, keys_raise, keys_room, keys_unlock}
use Rattle.fx_parts.proofs.Setting.{count_sound, fits_as, leave_sound, note_sound, set_sound, tidy_sound}
use Rattle.fx_parts.proofs.Committing.{commit_sound, reserve_sound}

-- what is so of what f makes of the part is so of the state after
pub by_there : (P : SharedState → Type 0) (s : SharedState) (who : ℕ) (part : Part) (f : Part → SharedState) → IsPartOf s who part → P (f part) → P (by_part s who f)
by_there P s who part f is p = subst (λ (o : Option Part). P (elim o [ Some part ↦ f part | None ↦ s ])) (sym is) p

no_grant : (key : LockKey) (grant : Grant) → finite.get (finite.empty {K = LockKey} {X = Grant} {R = lock.key_cmp}) key ≡ Some grant → ⊥
no_grant key grant e = let none = get-empty {X = Grant} lock.key_cmp key in absurd (cc (sym none ∙ e))

no_snapshot : (i : ℕ) (snapshot : TakenSnapshot) → (let a : List TakenSnapshot = [] in slice_get a i ≡ Some snapshot) → ⊥
no_snapshot i snapshot e = cc e

pub no_reservation : (r : Reservation) → (let a : Option Reservation = None in a ≡ Some r) → ⊥
no_reservation r e = cc

-- what stands in a list without one element stood there
got_without : {X : Type 0} (xs : List X) (index i : ℕ) (x : X) → slice_get (take index xs ++ drop (suc index) xs) i ≡ Some x → (j : ℕ) × (slice_get xs j ≡ Some x)
got_without [] zero i x e = absurd (cc e)
got_without [] (suc index) i x e = absurd (cc e)
got_without (y ∷ xs) zero i x e = (suc i, e)
got_without (y ∷ xs) (suc index) zero x e = (zero, e)
got_without (y ∷ xs) (suc index) (suc i) x e = let k = got_without xs index i x e in (suc k.0, k.1)

module _ {Makes : LiveMap → Tree → Type 0} (s : SharedState) (sound : IsSharedSound Makes s) where
  abbrev Sound : SharedState → Type 0
  Sound t = IsSharedSound Makes t

  abbrev SoundPart : Part → Type 0
  SoundPart part = IsPartSound Makes s.mounted s.notes (live_now s) s.ids s.stores s.faults part

  enter_sound : (who : ℕ) → MayEnter s who → Sound (after_event s (Enter who))
  enter_sound who may = set_sound s sound s.table who (fresh_part s.faults)
      (record {
        sound = record {
          snapshots = λ i snapshot got. absurd (no_snapshot i snapshot got);
          keeps = λ i snapshot key grant got held. absurd (no_snapshot i snapshot got);
          granted = λ key grant held. absurd (no_grant key grant held);
          committed = omega arith;
          reserves = λ r is. absurd (no_reservation r is);
          met = omega arith;
        };
        number = (may.first, may.few);
        apart = λ other its ne got r t node e. absurd (no_reservation r e);
      })
      (keys_enter s.table s.parts who sound.keys (fresh_part s.faults) may.free refl refl)

  module _ (who : ℕ) (part : Part) (is : IsPartOf s who part) where
    mine : SoundPart part
    mine = sound.parts who part is

    -- a part that differs in nothing that is said of keys and of what was reserved
    kept : (new : Part) → new.grants ≡ part.grants → new.room ≡ part.room → ((r : Reservation) → new.reserved ≡ Some r → part.reserved ≡ Some r) → SoundPart new → Sound (set_part who new s)
    kept new grants room reserved k = set_sound s sound s.table who new (fits_as s sound who part new is reserved k) (keys_kept s.table s.parts who sound.keys part new is grants room)

    meet_sound : Sound (set_part who (record part { faults = s.faults }) s)
    meet_sound = kept (record part { faults = s.faults }) refl refl (λ r e. e) (record {
      snapshots = mine.snapshots;
      keeps = mine.keeps;
      granted = mine.granted;
      committed = mine.committed;
      reserves = mine.reserves;
      met = omega arith;
    })

    rollback_sound : Sound (set_part who (record part { reserved = None }) s)
    rollback_sound = kept (record part { reserved = None }) refl refl (λ r e. absurd (no_reservation r e)) (record {
      snapshots = mine.snapshots;
      keeps = mine.keeps;
      granted = mine.granted;
      committed = mine.committed;
      reserves = λ r e. absurd (no_reservation r e);
      met = mine.met;
    })

    abbrev taken : TakenSnapshot
    taken = record { point = number_now s; lists = s.lists }

    taken_sound : IsSnapshotSound Makes s.mounted s.notes (live_now s) taken
    taken_sound = record { from = omega arith; upto = omega arith; makes = sound.makes; current = λ e point. refl }

    snapshot_sound : Sound (set_part who (with_snapshot s part) s)
    snapshot_sound = kept (with_snapshot s part) refl refl (λ r e. e) (record {
      snapshots = λ i snapshot got. elim (got_split part.snapshots taken i snapshot got) [
        | inl old ↦ mine.snapshots i snapshot old
        | inr last ↦ subst (IsSnapshotSound Makes s.mounted s.notes (live_now s)) last.1 taken_sound
      ];
      keeps = λ i snapshot key grant got held before since there. elim (got_split part.snapshots taken i snapshot got) [
        | inl old ↦ mine.keeps i snapshot key grant old held before since there
        | inr last ↦ subst (λ (z : TakenSnapshot). (point : Point) → node_of_point point ≡ Some key → live_now s point ≡ live_in_lists z.lists point) last.1 (λ point here. refl)
      ];
      granted = mine.granted;
      committed = mine.committed;
      reserves = mine.reserves;
      met = mine.met;
    })

    drop_sound : (index : ℕ) → Sound (set_part who (without_snapshot index part) s)
    drop_sound index = kept (without_snapshot index part) refl refl (λ r e. e) (record {
      snapshots = λ i snapshot got. let old = got_without part.snapshots index i snapshot got in mine.snapshots old.0 snapshot old.1;
      keeps = λ i snapshot key grant got held. let old = got_without part.snapshots index i snapshot got in mine.keeps old.0 snapshot key grant old.1 held;
      granted = mine.granted;
      committed = mine.committed;
      reserves = mine.reserves;
      met = mine.met;
    })

    -- a part with other keys, each of which was granted up to now, where it was not held already
    keyed : (new : Part) → new.snapshots ≡ part.snapshots → new.reserved ≡ part.reserved → new.last ≡ part.last → new.faults ≡ part.faults
        → ((key : LockKey) (grant : Grant) → finite.get new.grants key ≡ Some grant → (grant.number ≡ number_now s) ⊎ ((old : Grant) × (finite.get part.grants key ≡ Some old) × (grant.number ≡ old.number)))
        → SoundPart new
    keyed new snapshots reserved last faults from = record {
      snapshots = λ i snapshot got. mine.snapshots i snapshot (ap (λ z. slice_get z i) (sym snapshots) ∙ got);
      keeps = λ i snapshot key grant got held before since there.
          let old = ap (λ z. slice_get z i) (sym snapshots) ∙ got in
          elim (from key grant held) [
            | inl now ↦ let k = mine.snapshots i snapshot old in (λ point here. k.current (omega (arith, now, k.upto, before)) point)
            | inr was ↦ mine.keeps i snapshot key was.0 old was.1 (omega (arith, was.2, before)) (omega (arith, last, since)) there
          ];
      granted = λ key grant held. elim (from key grant held) [
        | inl now ↦ omega (arith, now)
        | inr was ↦ omega (arith, was.2, mine.granted key was.0 was.1)
      ];
      committed = omega (arith, last, mine.committed);
      reserves = λ r e. mine.reserves r (sym reserved ∙ e);
      met = omega (arith, faults, mine.met);
    }

    room_sound : (count : ℕ) (table : Table) → GainsRoom s.table table who count → Sound (set_keys table who (record part { room = part.room + count }) s)
    room_sound count table gains =
        let new : Part = record part { room = part.room + count } in
        set_sound s sound table who new (fits_as s sound who part new is (λ r e. e) (keyed new refl refl refl refl (λ key grant held. inr (grant, held, refl))))
        (keys_room s.table s.parts who sound.keys table part new is count gains refl refl)

    unlock_sound : (table : Table) → Leaves s.table table who → Sound (set_keys table who (without_keys part) s)
    unlock_sound table leaves =
        set_sound s sound table who (without_keys part) (fits_as s sound who part (without_keys part) is (λ r e. e) (keyed (without_keys part) refl refl refl refl (λ key grant held. absurd (no_grant key grant held))))
        (keys_unlock s.table s.parts who sound.keys table part (without_keys part) is leaves refl refl)

    ask_sound : (key : LockKey) (mode : Mode) (answer : Asked) (table : Table) → MayAsk key mode part → AskGives s.table who key mode answer table → Sound (after_event s (AskKey who key mode answer table))
    ask_sound key mode Held table may gives =
        let new : Part = with_key key mode (number_now s) part in
        by_there Sound s who part (λ part. set_keys table who (with_key key mode (number_now s) part) s) is
        (set_sound s sound table who new
        (fits_as s sound who part new is (λ r e. e) (keyed new refl refl refl refl (λ k grant held. elim (key_found part.grants key k (record { mode = mode; number = number_now s }) grant held) [
          | inl here ↦ inl (ap (λ (g : Grant). g.number) (sym here.1))
          | inr old ↦ inr (grant, old.1, refl)
        ])))
        (keys_ask s.table s.parts who sound.keys table part new is key mode (number_now s) gives.0 gives.1 refl refl))
    ask_sound key mode (Busy other) table may gives = sound

    raise_sound : (key : LockKey) (answer : Asked) (table : Table) → MayRaise key part → RaiseGives s.table who key answer table → Sound (after_event s (RaiseKey who key answer table))
    raise_sound key Held table may gives =
        let new : Part = with_raised key part in
        let set : new.grants ≡ finite.insert part.grants key (record { mode = Write; number = may.grant.number }) =
        ap (λ (o : Option Grant). let a : finite.FinMap lock.key_cmp Grant = elim o [ Some grant ↦ finite.insert part.grants key (record grant { mode = Write }) | None ↦ part.grants ] in a) may.held in
        by_there Sound s who part (λ part. set_keys table who (with_raised key part) s) is
        (set_sound s sound table who new
        (fits_as s sound who part new is (λ r e. e) (keyed new refl refl refl refl (λ k grant held. elim (key_found part.grants key k (record { mode = Write; number = may.grant.number }) grant (ap (λ g. finite.get g k) (sym set) ∙ held)) [
          | inl here ↦ inr (may.grant, ap (finite.get part.grants) here.0 ∙ may.held, ap (λ (g : Grant). g.number) (sym here.1))
          | inr old ↦ inr (grant, old.1, refl)
        ])))
        (keys_raise s.table s.parts who sound.keys table part new is key may.grant may.held may.change gives.0 gives.1 set refl))
    raise_sound key (Busy other) table may gives = sound

  pub event_sound : (event : SharedEvent) → MayHappen Makes s event → Sound (after_event s event)
  event_sound (Enter who) may = enter_sound who may
  event_sound (Meet who) may = by_there Sound s who may.0 (λ part. set_part who (record part { faults = s.faults }) s) may.1 (meet_sound who may.0 may.1)
  event_sound (Leave who) may = leave_sound s sound who (keys_leave s.table s.parts who sound.keys may.0 may.1 may.2.grants may.2.room)
  event_sound (MakeRoom who count table) may = by_there Sound s who may.0.0 (λ part. set_keys table who (record part { room = part.room + count }) s) may.0.1 (room_sound who may.0.0 may.0.1 count table may.1)
  event_sound (AskKey who key mode answer table) may = ask_sound who may.0.0 may.0.1 key mode answer table may.0.2 may.1
  event_sound (RaiseKey who key answer table) may = raise_sound who may.0.0 may.0.1 key answer table may.0.2 may.1
  event_sound (Unlock who table) may = by_there Sound s who may.0.0 (λ part. set_keys table who (without_keys part) s) may.0.1 (unlock_sound who may.0.0 may.0.1 table may.1)
  event_sound (TakeSnapshot who) may = by_there Sound s who may.0 (λ part. set_part who (with_snapshot s part) s) may.1 (snapshot_sound who may.0 may.1)
  event_sound (DropSnapshot who index) may = by_there Sound s who may.0 (λ part. set_part who (without_snapshot index part) s) may.1 (drop_sound who may.0 may.1 index)
  event_sound (Reserve who need bytes) may = by_there Sound s who may.0 (λ part. record s {
    parts = finite.insert s.parts who (with_reserved need bytes s part);
    ids = s.ids + need.nodes;
    stores = s.stores + need.nodes;
  }) may.1 (reserve_sound s sound who may.0 may.1 need bytes)
  event_sound (RollBack who) may = by_there Sound s who may.0 (λ part. set_part who (record part { reserved = None }) s) may.1 (rollback_sound who may.0 may.1)
  event_sound (Commit who entry items) may = by_there Sound s who may.0.0 (λ part. record s {
    notes = s.notes ++ Commits entry ∷ [];
    lists = items ∷ s.lists;
    parts = finite.insert s.parts who (part_committed entry.number part);
  }) may.0.1 (commit_sound s sound who may.0.0 may.0.1 entry items may.0.2 may.1)
  event_sound (Mark number calls) may = note_sound s sound (Settles number calls) may (entries_more s.notes (Settles number calls ∷ []) ∙ append-nil (entries_in s.notes))
  event_sound (RaiseBase base) may = note_sound s sound (Raises base) may (entries_more s.notes (Raises base ∷ []) ∙ append-nil (entries_in s.notes))
  event_sound (Tidy lists) may = tidy_sound s sound lists may
  event_sound (Count faults) may = count_sound s sound faults may
