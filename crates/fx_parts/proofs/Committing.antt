-- A shared state stays sound where ids are given out, and where a number commits.
use Rattle.std.proofs.Common.{◌≡◌, ◌≢◌, ◌⊎◌, inl, inr, ℕ, ◌+◌, ◌≤◌, true, List, [], ◌∷◌, ◌++◌, Option, Some, None, refl, sym, ap, subst, ◌∙◌, arith, length, length-append}
use Rattle.std.specs.Prelude.{option_map}
use Rattle.std.specs.FinMap as finite
use Rattle.fx_item.specs.Item.{PlainItem}
use Rattle.fx_item.specs.Overlay.{Point, says}
use Rattle.fx_item.specs.declared.lock.LockKey.{LockKey}
use Rattle.fx_item.specs.declared.lock.Mode.{Mode}
use Rattle.fx_item.specs.declared.lock.Mode.TheVariants.{Share, Change, Write, Read}
use Rattle.fx_item.specs.declared.space.Need.{Need}
use Rattle.fx_keys.specs.Conflict.{are_conflicting}
use Rattle.fx_keys.specs.Table.{mode_of}
use Rattle.fx_keys.specs.declared.table.TheConstants.{MAX_NUMBERS}
use Rattle.fx_plain.specs.Tree.{Tree}
use Rattle.fx_history.specs.declared.entry.Entry.{Entry}
use Rattle.fx_history.specs.History.{tree_at}
use Rattle.fx_history.proofs.Histories.{tree_at_before}
use Rattle.fx_namespace.specs.Nodes.{NodeId, root_node}
use Rattle.fx_events.specs.Notes.{Commits, Note, entries_in, last_commit}
use Rattle.fx_events.proofs.Entries.{entries_more, follow_next}
use Rattle.fx_parts.specs.Live.{AgreeAt, IsNodeThere, IsUnusedNode, LiveMap, live_in_lists}
use Rattle.fx_parts.specs.Parts.{Grant, IsGivenNode, IsNotGiven, IsPartOf, Part, Reservation, SharedState, live_now, number_now}
use Rattle.fx_parts.specs.Sound.{AreGivenApart, IsPartSound, IsReservationSound, IsSharedSound}
use Rattle.fx_parts.specs.Plans.{ByGift, ByKey, IsChangeable, IsCommitBacked}
use Rattle.fx_parts.specs.Happening.{MakesNext, part_committed, with_reserved}
use Rattle.fx_parts.proofs.Maps.{found, some_is}
use Rattle.fx_parts.proofs.Agreeing.{keys_kept, mode_by_entry}
use Rattle.fx_parts.proofs.Lives.{laid_first, said_or_same, there_agrees, unused_there}
use Rattle.fx_parts.proofs.Moving.{NotesMove, ItemsMove, part_moves, snapshot_moves, notes_stay, items_stay}
use Rattle.fx_parts.proofs.Setting.{parts_apart}

none_some : (r : Reservation) → (let a : Option Reservation = None in a ≡ Some r) → ⊥
none_some r e = cc

-- the root was not given to anybody, and never will be
pub given_root : (r : Reservation) (node : NodeId) → 1 ≤ r.id → 1 ≤ r.store → node ≡ root_node → IsGivenNode r node → ⊥
given_root r node id store e (inl g) = let same : node.id ≡ 0 = ap (λ (z : NodeId). z.id) e in let a = g.0 in omega arith
given_root r node id store e (inr g) = let same : node.store ≡ 0 = ap (λ (z : NodeId). z.store) e in let a = g.1 in omega arith

not_given_root : (ids stores : ℕ) (node : NodeId) → 1 ≤ ids → 1 ≤ stores → node ≡ root_node → IsNotGiven ids stores node → ⊥
not_given_root ids stores node i k e (inl g) = let same : node.id ≡ 0 = ap (λ (z : NodeId). z.id) e in omega arith
not_given_root ids stores node i k e (inr g) = let same : node.store ≡ 0 = ap (λ (z : NodeId). z.store) e in let a = g.1 in omega arith

-- what was given out is not what was not
given_out : (r : Reservation) (ids stores : ℕ) (node : NodeId) → 1 ≤ r.id → 1 ≤ ids → r.id + r.need.nodes ≤ ids → r.store + r.need.nodes ≤ stores → IsGivenNode r node → IsNotGiven ids stores node → ⊥
given_out r ids stores node first some i k (inl g) (inl n) = let a = g.1 in omega arith
given_out r ids stores node first some i k (inl g) (inr n) = let a = g.0 in let b = n.0 in omega arith
given_out r ids stores node first some i k (inr g) (inl n) = let a = g.0 in omega arith
given_out r ids stores node first some i k (inr g) (inr n) = let a = g.2 in let b = n.1 in omega arith

write_conflicts : (m : Mode) → are_conflicting Write m ≡ true
write_conflicts Share = refl
write_conflicts Change = refl
write_conflicts Write = refl
write_conflicts Read = refl

module _ {Makes : LiveMap → Tree → Type 0} (s : SharedState) (sound : IsSharedSound Makes s) (who : ℕ) (part : Part) (is : IsPartOf s who part) where
  mine : IsPartSound Makes s.mounted s.notes (live_now s) s.ids s.stores s.faults part
  mine = sound.parts who part is

  -- ---- ids are given out

  module _ (need : Need) (bytes : ℕ) where
    abbrev gift : Reservation
    gift = record { need = need; bytes = bytes; id = s.ids; store = s.stores }

    gift_new : (node : NodeId) → IsGivenNode gift node → IsNotGiven s.ids s.stores node
    gift_new node (inl g) = inl g.0
    gift_new node (inr g) = inr (g.0, g.1)

    gift_sound : IsReservationSound (live_now s) (s.ids + need.nodes) (s.stores + need.nodes) gift
    gift_sound = record {
      first_id = sound.first.0;
      first_store = sound.first.1;
      given_ids = omega arith;
      given_stores = omega arith;
      unused = λ node given. sound.unused node (gift_new node given);
    }

    with_gift : IsPartSound Makes s.mounted s.notes (live_now s) (s.ids + need.nodes) (s.stores + need.nodes) s.faults (with_reserved need bytes s part)
    with_gift = record {
      snapshots = mine.snapshots;
      keeps = mine.keeps;
      granted = mine.granted;
      committed = mine.committed;
      reserves = λ r e. subst (IsReservationSound (live_now s) (s.ids + need.nodes) (s.stores + need.nodes)) (some_is gift r e) gift_sound;
      met = mine.met;
    }

    gift_apart : (other : ℕ) (its : Part) → other ≢ who → IsPartOf s other its → AreGivenApart (with_reserved need bytes s part) its
    gift_apart other its ne got r t node e theirs here there =
        let k = (sound.parts other its got).reserves t theirs in
        given_out t s.ids s.stores node k.first_id sound.first.0 k.given_ids k.given_stores there
        (gift_new node (subst (λ z. IsGivenNode z node) (sym (some_is gift r e)) here))

    older : (node : NodeId) → IsNotGiven (s.ids + need.nodes) (s.stores + need.nodes) node → IsNotGiven s.ids s.stores node
    older node (inl n) = inl (omega arith)
    older node (inr n) = inr (n.0, (let a = n.1 in omega arith))

    pub reserve_sound : IsSharedSound Makes (record s { parts = finite.insert s.parts who (with_reserved need bytes s part); ids = s.ids + need.nodes; stores = s.stores + need.nodes })
    reserve_sound = record {
      happened = sound.happened;
      makes = sound.makes;
      keys = keys_kept s.table s.parts who sound.keys part (with_reserved need bytes s part) is refl refl;
      parts = λ q p got. elim (found s.parts who q (with_reserved need bytes s part) p got) [
        | inl here ↦ subst (IsPartSound Makes s.mounted s.notes (live_now s) (s.ids + need.nodes) (s.stores + need.nodes) s.faults) here.1 with_gift
        | inr old ↦ part_moves (notes_stay s.mounted s.notes (live_now s)) s.ids s.stores s.faults (s.ids + need.nodes) (s.stores + need.nodes) s.faults p (omega arith) (omega arith) (omega arith)
            (items_stay (live_now s) (live_now s) p (λ point. refl)) (sound.parts q p old.1)
      ];
      numbers = λ q p got. elim (found s.parts who q (with_reserved need bytes s part) p got) [
        | inl here ↦ subst (λ z. (1 ≤ z) × (z ≤ MAX_NUMBERS)) (sym here.0) (sound.numbers who part is)
        | inr old ↦ sound.numbers q p old.1
      ];
      apart = parts_apart s sound who (with_reserved need bytes s part) gift_apart;
      unused = λ node not_given. sound.unused node (older node not_given);
      first = (let a = sound.first.0 in omega arith, let a = sound.first.1 in omega arith);
    }

  -- ---- a commit

  module _ (entry : Entry) (items : List PlainItem) (backed : IsCommitBacked part items) (step : MakesNext Makes s entry items) where
    abbrev later : List Note
    later = s.notes ++ Commits entry ∷ []

    abbrev new : LiveMap
    new = live_in_lists (items ∷ s.lists)

    next_number : last_commit s.mounted.kept later ≡ number_now s + 1
    next_number = omega (arith, ap length (entries_more s.notes (Commits entry ∷ [])), length-append (entries_in s.notes) (entry ∷ []))

    go : NotesMove s.mounted s.notes later (live_now s) new
    go = record {
      trees = λ n l. ap (λ h. tree_at s.mounted.tree h n) (entries_more s.notes (Commits entry ∷ []))
          ∙ tree_at_before s.mounted.tree (entries_in s.notes) entry n (omega (arith, l, step.next.number));
      rises = omega (arith, next_number);
      current = λ e. absurd (omega (arith, next_number, e));
    }

    changed : (point : Point) → (says items point ≢ None) ⊎ (new point ≡ live_now s point)
    changed point = elim (said_or_same items (live_now s) point) [ inl said ↦ inl said | inr same ↦ inr (laid_first items s.lists point ∙ same) ]

    agrees : (node : NodeId) (grant : Grant) → finite.get part.grants node ≡ Some grant → grant.number ≤ backed.snapshot.point → IsNodeThere (live_in_lists backed.snapshot.lists) node → IsNodeThere (live_now s) node
    agrees node grant held since there = there_agrees (live_in_lists backed.snapshot.lists) (live_now s) node (mine.keeps backed.index backed.snapshot node grant backed.taken held since backed.since there) there

    -- what may be changed and has no item yet is new
    in_use : (node : NodeId) → IsChangeable part backed.snapshot node → IsUnusedNode (live_now s) node → (node ≡ root_node) ⊎ ((r : Reservation) × (part.reserved ≡ Some r) × IsGivenNode r node)
    in_use node (ByKey grant held raised since there) unused = inl (unused_there (live_now s) node unused (agrees node grant held since there))
    in_use node (ByGift r given here) unused = inr (r, given, here)

    stays_unused : (node : NodeId) → IsUnusedNode (live_now s) node → node ≢ root_node → ((r : Reservation) → part.reserved ≡ Some r → IsGivenNode r node → ⊥) → IsUnusedNode new node
    stays_unused node unused inner not_mine point here = elim (changed point) [
      | inr same ↦ same ∙ unused point here
      | inl said ↦ absurd (elim (in_use node (backed.changes point node here said) unused) [ inl top ↦ inner top | inr g ↦ not_mine g.0 g.1 g.2 ])
    ]

    module _ (other : ℕ) (its : Part) (ne : other ≢ who) (got : IsPartOf s other its) where
      mode_here : (q : ℕ) (p : Part) (key : LockKey) (grant : Grant) → IsPartOf s q p → finite.get p.grants key ≡ Some grant → mode_of s.table q key ≡ Some grant.mode
      mode_here q p key grant pq held = sound.keys.held q key ∙ ap (mode_by_entry key) pq ∙ ap (option_map (λ (g : Grant). g.mode)) held

      not_changed : (key : LockKey) (grant : Grant) → finite.get its.grants key ≡ Some grant → IsNodeThere (live_now s) key → IsChangeable part backed.snapshot key → ⊥
      not_changed key grant held there (ByKey g own raised since was) =
          sound.keys.consistent key who other g.mode grant.mode (λ e. ne (sym e)) (mode_here who part key g is own) (mode_here other its key grant got held)
          (ap (λ m. are_conflicting m grant.mode) raised ∙ write_conflicts grant.mode)
      not_changed key grant held there (ByGift r given here) =
          let k = mine.reserves r given in
          given_root r key k.first_id k.first_store (unused_there (live_now s) key (k.unused key here) there) here

      pub others_move : ItemsMove (live_now s) new its
      others_move = record {
        keys = λ key grant held there point here. elim (changed point) [
          | inr same ↦ same
          | inl said ↦ absurd (not_changed key grant held there (backed.changes point key here said))
        ];
        gifts = λ t node theirs given unused.
            let k = (sound.parts other its got).reserves t theirs in
            stays_unused node unused (λ top. given_root t node k.first_id k.first_store top given)
            (λ r own here. sound.apart who other part its (λ e. ne (sym e)) is got r t node own theirs here given);
      }

    own_sound : IsPartSound Makes s.mounted later new s.ids s.stores s.faults (part_committed entry.number part)
    own_sound = record {
      snapshots = λ j snapshot got. snapshot_moves go snapshot (mine.snapshots j snapshot got);
      keeps = λ j snapshot key grant got held before since there. absurd (omega (arith, since, (mine.snapshots j snapshot got).upto, step.next.number));
      granted = λ key grant held. omega (arith, mine.granted key grant held, next_number);
      committed = omega (arith, step.next.number, next_number);
      reserves = λ r e. absurd (none_some r e);
      met = mine.met;
    }

    pub commit_sound : IsSharedSound Makes (record s { notes = later; lists = items ∷ s.lists; parts = finite.insert s.parts who (part_committed entry.number part) })
    commit_sound = record {
      happened = follow_next s.mounted [] s.notes (Commits entry) sound.happened step.next;
      makes = step.makes;
      keys = keys_kept s.table s.parts who sound.keys part (part_committed entry.number part) is refl refl;
      parts = λ q p got. elim (found s.parts who q (part_committed entry.number part) p got) [
        | inl here ↦ subst (IsPartSound Makes s.mounted later new s.ids s.stores s.faults) here.1 own_sound
        | inr old ↦ part_moves go s.ids s.stores s.faults s.ids s.stores s.faults p (omega arith) (omega arith) (omega arith) (others_move q p old.0 old.1) (sound.parts q p old.1)
      ];
      numbers = λ q p got. elim (found s.parts who q (part_committed entry.number part) p got) [
        | inl here ↦ subst (λ z. (1 ≤ z) × (z ≤ MAX_NUMBERS)) (sym here.0) (sound.numbers who part is)
        | inr old ↦ sound.numbers q p old.1
      ];
      apart = parts_apart s sound who (part_committed entry.number part) (λ other its ne got r t node e theirs here there. none_some r e);
      unused = λ node not_given. stays_unused node (sound.unused node not_given) (λ top. not_given_root s.ids s.stores node sound.first.0 sound.first.1 top not_given)
          (λ r own here. let k = mine.reserves r own in given_out r s.ids s.stores node k.first_id sound.first.0 k.given_ids k.given_stores here not_given);
      first = sound.first;
    }

-- a commit leaves each node that its number may not change
pub commit_spares : (lists : List (List PlainItem)) (part : Part) (items : List PlainItem) (backed : IsCommitBacked part items) (node : NodeId) → (IsChangeable part backed.snapshot node → ⊥)
    → AgreeAt node (live_in_lists lists) (live_in_lists (items ∷ lists))
commit_spares lists part items backed node not_changed point here = elim (said_or_same items (live_in_lists lists) point) [
  | inl said ↦ absurd (not_changed (backed.changes point node here said))
  | inr same ↦ laid_first items lists point ∙ same
]
