-- The kind of an Object stays, and none comes anew under a key whose Object was taken away.
use Rattle.std.proofs.Common.{◌≡◌, inl, inr, ℕ, ◌+◌, List, [], ◌∷◌, ◌++◌, Option, Some, None, refl, sym, ap, subst, ◌∙◌, arith}
use Rattle.std.specs.FinMap as finite
use Rattle.fx_item.specs.Item.{ObjectKey, PlainItem}
use Rattle.fx_item.specs.Look.{value_of_entry}
use Rattle.fx_item.specs.Overlay.{AtKey}
use Rattle.fx_item.specs.declared.lock.LockKey.{LockKey}
use Rattle.fx_item.specs.declared.lock.Mode.{Mode}
use Rattle.fx_item.specs.declared.space.Need.{Need}
use Rattle.fx_keys.specs.Table.{Table}
use Rattle.fx_keys.specs.declared.table.Asked.{Asked}
use Rattle.fx_keys.specs.declared.table.Asked.TheVariants.{Held, Busy}
use Rattle.fx_plain.specs.Tree.{Tree}
use Rattle.fx_plain.specs.declared.kind.Kind.{Kind}
use Rattle.fx_namespace.specs.Nodes.{NodeId, object_kind, told_kind}
use Rattle.fx_events.specs.Notes.{Commits}
use Rattle.fx_parts.specs.Live.{IsUnusedNode, LiveMap, live_in_lists, name_map}
use Rattle.fx_parts.specs.Parts.{IsGivenNode, IsNotGiven, IsPartOf, Part, Reservation, SharedState, fresh_part, live_now, number_now}
use Rattle.fx_parts.specs.Plans.{ByGift, ByKey, IsChangeable, IsCommitBacked, IsGiftTo}
use Rattle.fx_parts.specs.Sound.{IsSharedSound}
use Rattle.fx_parts.specs.Happening.{AskKey, Commit, Count, DropSnapshot, Enter, Leave, MakeRoom, Mark, MayHappen, Meet, RaiseBase, RaiseKey, Reserve, RollBack, RunsTo, SharedEvent, TakeSnapshot, Tidy, Unlock, after_event, by_part, part_committed, set_keys, set_part, with_key, with_raised, with_reserved, with_snapshot, without_keys, without_snapshot}
use Rattle.fx_parts.proofs.Maps.{found, some_is, stayed}
use Rattle.fx_parts.proofs.Lives.{names_first, no_kind, object_agrees, put_or_same}
use Rattle.fx_parts.proofs.Events.{by_there, event_sound, no_reservation}
use Rattle.fx_parts.proofs.Frames.{event_items}

-- what f makes of the number's part is so, and the state as it was
by_own : (P : SharedState → Type 0) (s : SharedState) (who : ℕ) (f : Part → SharedState) → P s → ((part : Part) → IsPartOf s who part → P (f part)) → P (by_part s who f)
by_own P s who f none some = by (finite.get s.parts who) refl
  where
    by : (o : Option Part) → finite.get s.parts who ≡ o → P (elim o [ Some part ↦ f part | None ↦ s ])
    by None e = none
    by (Some part) e = some part e

abbrev object_now : SharedState → NodeId → Option Kind
object_now s node = object_kind (name_map (live_now s)) node

-- the node was given out, and no number has it to come
record IsSpent (s : SharedState) (node : NodeId) : Type 0 where
  given : IsNotGiven s.ids s.stores node → ⊥
  kept : (who : ℕ) (part : Part) → IsPartOf s who part → IsGiftTo part node → ⊥

unused_object : (live : LiveMap) (node : NodeId) → IsUnusedNode live node → object_kind (name_map live) node ≡ None
unused_object live node unused = ap (λ o. told_kind (value_of_entry o)) (unused (AtKey (ObjectKey node.store node.id)) refl)

-- a node with an Object is so
there_spent : {Makes : LiveMap → Tree → Type 0} (s : SharedState) → IsSharedSound Makes s → (node : NodeId) (kind : Kind) → object_now s node ≡ Some kind → IsSpent s node
there_spent s sound node kind is = record {
  given = λ n. no_kind kind (sym (unused_object (live_now s) node (sound.unused node n)) ∙ is);
  kept = λ who part got gift. no_kind kind (sym (unused_object (live_now s) node (((sound.parts who part got).reserves gift.0 gift.1).unused node gift.2)) ∙ is);
}

-- ---- it stays so

module _ (s : SharedState) (node : NodeId) (spent : IsSpent s node) where
  abbrev Spent : SharedState → Type 0
  Spent t = IsSpent t node

  with_part : (t : SharedState) (who : ℕ) (part : Part) → t.parts ≡ finite.insert s.parts who part → (IsNotGiven t.ids t.stores node → IsNotGiven s.ids s.stores node) → (IsGiftTo part node → ⊥) → Spent t
  with_part t who part parts older none = record {
    given = λ n. spent.given (older n);
    kept = λ q p got gift. elim (found s.parts who q part p (ap (λ m. finite.get m q) (sym parts) ∙ got)) [
      | inl here ↦ none (subst (λ z. IsGiftTo z node) (sym here.1) gift)
      | inr old ↦ spent.kept q p old.1 gift
    ];
  }

  set_spent : (who : ℕ) (part : Part) → (IsGiftTo part node → ⊥) → Spent (set_part who part s)
  set_spent who part none = with_part (set_part who part s) who part refl (λ n. n) none

  keys_spent : (table : Table) (who : ℕ) (part : Part) → (IsGiftTo part node → ⊥) → Spent (set_keys table who part s)
  keys_spent table who part none = with_part (set_keys table who part s) who part refl (λ n. n) none

  asked_spent : (who : ℕ) (key : LockKey) (mode : Mode) (answer : Asked) (table : Table) → Spent (after_event s (AskKey who key mode answer table))
  asked_spent who key mode Held table = by_own Spent s who (λ part. set_keys table who (with_key key mode (number_now s) part) s) spent (λ part is. keys_spent table who (with_key key mode (number_now s) part) (spent.kept who part is))
  asked_spent who key mode (Busy by) table = spent

  raised_spent : (who : ℕ) (key : LockKey) (answer : Asked) (table : Table) → Spent (after_event s (RaiseKey who key answer table))
  raised_spent who key Held table = by_own Spent s who (λ part. set_keys table who (with_raised key part) s) spent (λ part is. keys_spent table who (with_raised key part) (spent.kept who part is))
  raised_spent who key (Busy by) table = spent

  module _ (need : Need) (bytes : ℕ) where
    abbrev gift_now : Reservation
    gift_now = record { need = need; bytes = bytes; id = s.ids; store = s.stores }

    not_given : IsGivenNode gift_now node → IsNotGiven s.ids s.stores node
    not_given (inl g) = inl g.0
    not_given (inr g) = inr (g.0, g.1)

    not_given_yet : IsNotGiven (s.ids + need.nodes) (s.stores + need.nodes) node → IsNotGiven s.ids s.stores node
    not_given_yet (inl n) = inl (omega arith)
    not_given_yet (inr n) = inr (n.0, (let a = n.1 in omega arith))

    reserve_spent : (who : ℕ) (part : Part) → Spent (record s {
      parts = finite.insert s.parts who (with_reserved need bytes s part);
      ids = s.ids + need.nodes;
      stores = s.stores + need.nodes;
    })
    reserve_spent who part = with_part (record s {
      parts = finite.insert s.parts who (with_reserved need bytes s part);
      ids = s.ids + need.nodes;
      stores = s.stores + need.nodes;
    }) who (with_reserved need bytes s part) refl not_given_yet
        (λ gift. spent.given (not_given (subst (λ z. IsGivenNode z node) (sym (some_is gift_now gift.0 gift.1)) gift.2)))

  event_spent : (event : SharedEvent) → Spent (after_event s event)
  event_spent (Enter who) = set_spent who (fresh_part s.faults) (λ gift. no_reservation gift.0 gift.1)
  event_spent (Meet who) = by_own Spent s who (λ part. set_part who (record part { faults = s.faults }) s) spent (λ part is. set_spent who (record part { faults = s.faults }) (spent.kept who part is))
  event_spent (Leave who) = record { given = spent.given; kept = λ q p got. spent.kept q p (stayed s.parts who q p got).1 }
  event_spent (MakeRoom who count table) = by_own Spent s who (λ part. set_keys table who (record part { room = part.room + count }) s) spent (λ part is. keys_spent table who (record part { room = part.room + count }) (spent.kept who part is))
  event_spent (AskKey who key mode answer table) = asked_spent who key mode answer table
  event_spent (RaiseKey who key answer table) = raised_spent who key answer table
  event_spent (Unlock who table) = by_own Spent s who (λ part. set_keys table who (without_keys part) s) spent (λ part is. keys_spent table who (without_keys part) (spent.kept who part is))
  event_spent (TakeSnapshot who) = by_own Spent s who (λ part. set_part who (with_snapshot s part) s) spent (λ part is. set_spent who (with_snapshot s part) (spent.kept who part is))
  event_spent (DropSnapshot who index) = by_own Spent s who (λ part. set_part who (without_snapshot index part) s) spent (λ part is. set_spent who (without_snapshot index part) (spent.kept who part is))
  event_spent (Reserve who need bytes) = by_own Spent s who (λ part. record s {
    parts = finite.insert s.parts who (with_reserved need bytes s part);
    ids = s.ids + need.nodes;
    stores = s.stores + need.nodes;
  }) spent (λ part is. reserve_spent need bytes who part)
  event_spent (RollBack who) = by_own Spent s who (λ part. set_part who (record part { reserved = None }) s) spent (λ part is. set_spent who (record part { reserved = None }) (λ gift. no_reservation gift.0 gift.1))
  event_spent (Commit who entry items) = by_own Spent s who (λ part. record s {
    notes = s.notes ++ Commits entry ∷ [];
    lists = items ∷ s.lists;
    parts = finite.insert s.parts who (part_committed entry.number part);
  }) spent (λ part is. with_part (record s {
    notes = s.notes ++ Commits entry ∷ [];
    lists = items ∷ s.lists;
    parts = finite.insert s.parts who (part_committed entry.number part);
  }) who (part_committed entry.number part) refl (λ n. n) (λ gift. no_reservation gift.0 gift.1))
  event_spent (Mark number calls) = record { given = spent.given; kept = spent.kept }
  event_spent (RaiseBase base) = record { given = spent.given; kept = spent.kept }
  event_spent (Tidy lists) = record { given = spent.given; kept = spent.kept }
  event_spent (Count faults) = record { given = spent.given; kept = spent.kept }

run_spent : (Makes : LiveMap → Tree → Type 0) (s : SharedState) (events : List SharedEvent) (t : SharedState) (node : NodeId) → IsSpent s node → RunsTo Makes s events t → IsSpent t node
run_spent Makes s [] t node spent run = subst (λ (z : SharedState). IsSpent z node) run spent
run_spent Makes s (event ∷ events) t node spent run = run_spent Makes (after_event s event) events t node (event_spent s node spent event) run.1

-- ---- its Object is then the one that was there

module _ {Makes : LiveMap → Tree → Type 0} where
  module _ (s : SharedState) (sound : IsSharedSound Makes s) (node : NodeId) (spent : IsSpent s node) (kind : Kind) where
    module _ (who : ℕ) (part : Part) (is : IsPartOf s who part) (items : List PlainItem) (backed : IsCommitBacked part items) where
      abbrev then_live : LiveMap
      then_live = live_in_lists backed.snapshot.lists

      -- it is now of the kind that it has in the snapshot, where the number may change it
      was_then : IsChangeable part backed.snapshot node → object_kind (name_map then_live) node ≡ Some kind → object_now s node ≡ Some kind
      was_then (ByKey grant held raised since there) e =
          object_agrees then_live (live_now s) node ((sound.parts who part is).keeps backed.index backed.snapshot node grant backed.taken held since backed.since there) ∙ e
      was_then (ByGift r own given) e = absurd (spent.kept who part is (r, own, given))

      commit_kind : object_kind (name_map (live_in_lists (items ∷ s.lists))) node ≡ Some kind → object_now s node ≡ Some kind
      commit_kind after_is =
          let e = sym (ap told_kind (names_first items s.lists (ObjectKey node.store node.id))) ∙ after_is in
          elim (put_or_same (name_map (live_now s)) items node) [
            | inr silent ↦ sym silent.0 ∙ e
            | inl said ↦ elim (backed.kinds node kind (sym said.1 ∙ e)) [
              | inl old ↦ was_then (backed.changes (AtKey (ObjectKey node.store node.id)) node refl said.0) old
              | inr gift ↦ absurd (spent.kept who part is gift)
            ]
          ]

    event_kind : (event : SharedEvent) → MayHappen Makes s event → object_now (after_event s event) node ≡ Some kind → object_now s node ≡ Some kind
    event_kind (Commit who entry items) may = by_there (λ (t : SharedState). object_now t node ≡ Some kind → object_now s node ≡ Some kind) s who may.0.0 (λ part. record s {
      notes = s.notes ++ Commits entry ∷ [];
      lists = items ∷ s.lists;
      parts = finite.insert s.parts who (part_committed entry.number part);
    }) may.0.1 (commit_kind who may.0.0 may.0.1 items may.0.2)
    event_kind event may = λ e. sym (object_agrees (live_now s) (live_now (after_event s event)) node (λ point here. event_items Makes s event may refl point)) ∙ e

  run_kind : (s : SharedState) (events : List SharedEvent) (t : SharedState) (node : NodeId) (kind : Kind) → IsSharedSound Makes s → IsSpent s node → RunsTo Makes s events t
      → object_now t node ≡ Some kind → object_now s node ≡ Some kind
  run_kind s [] t node kind sound spent run e = subst (λ (z : SharedState). object_now z node ≡ Some kind) (sym run) e
  run_kind s (event ∷ events) t node kind sound spent run e =
      event_kind s sound node spent kind event run.0
      (run_kind (after_event s event) events t node kind (event_sound s sound event run.0) (event_spent s node spent event) run.1 e)

  pub run_kinds : (s : SharedState) (events : List SharedEvent) (t : SharedState) (node : NodeId) (kind other : Kind) → IsSharedSound Makes s → RunsTo Makes s events t
      → object_now s node ≡ Some kind → object_now t node ≡ Some other → other ≡ kind
  run_kinds s events t node kind other sound run is e =
      some_is other kind (sym (run_kind s events t node other sound (there_spent s sound node kind is) run e) ∙ is)

  pub run_gone : (s : SharedState) (before : List SharedEvent) (t : SharedState) (later : List SharedEvent) (u : SharedState) (node : NodeId) (kind : Kind)
      → IsSharedSound Makes s → IsSharedSound Makes t → RunsTo Makes s before t → RunsTo Makes t later u
      → object_now s node ≡ Some kind → object_now t node ≡ None → object_now u node ≡ None
  run_gone s before t later u node kind sound sound_then run rest is gone = by (object_now u node) refl
    where
      spent : IsSpent t node
      spent = run_spent Makes s before t node (there_spent s sound node kind is) run

      by : (o : Option Kind) → object_now u node ≡ o → object_now u node ≡ None
      by None e = e
      by (Some other) e = absurd (no_kind other (sym gone ∙ run_kind t later u node other sound_then spent rest e))
