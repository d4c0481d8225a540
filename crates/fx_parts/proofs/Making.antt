-- One number alone makes a directory in the root.
use Rattle.std.proofs.Common.{◌≡◌, inl, inr, ℕ, ◌+◌, List, [], ◌∷◌, ◌++◌, Option, Some, None, refl, sym, ap, subst, ◌∙◌, arith}
use Rattle.std.specs.Prelude.{unwrap_or}
use Rattle.std.specs.FinMap as finite
use Rattle.std.specs.FinMap.{get-empty}
use Rattle.std.specs.Ordering.{nat_cmp}
use Rattle.std.specs.declared.cmp.Ordering.TheVariants.{Less}
use Rattle.fx_item.specs.Item.{ChildKey, PlainItem}
use Rattle.fx_item.specs.Look.{ItemMap}
use Rattle.fx_item.specs.LockKey as lock
use Rattle.fx_item.specs.declared.lock.LockKey.{LockKey}
use Rattle.fx_item.specs.declared.lock.Mode.{Mode}
use Rattle.fx_item.specs.declared.lock.Mode.TheVariants.{Change, Read, Write as ForWrite}
use Rattle.fx_keys.specs.Table.{AskGives, GainsRoom, RaiseGives, empty_table, hold_cmp}
use Rattle.fx_keys.specs.declared.table.Asked.TheVariants.{Held}
use Rattle.fx_keys.proofs.Orders.{get-insert_other, key_irreflexive}
use Rattle.fx_plain.specs.Node.{empty_dir}
use Rattle.fx_plain.specs.declared.kind.Kind.TheVariants as kinds
use Rattle.fx_plain.specs.declared.step.Answer.TheVariants.{Done}
use Rattle.fx_plain.specs.declared.step.Step.TheVariants.{Mkdir}
use Rattle.fx_plain.proofs.Bare.{mkdir_made}
use Rattle.fx_history.specs.declared.entry.Entry.{Entry}
use Rattle.fx_namespace.specs.Commits.{new_items}
use Rattle.fx_namespace.specs.Nodes.{NodeId, node_at, root_node}
use Rattle.fx_events.specs.Notes.{Commits, Mounted, tree_in}
use Rattle.fx_parts.specs.Example.{asked_table, making_entry, making_events, one_node, raised_table, room_table}
use Rattle.fx_parts.specs.Live.{MakesNames, live_in_lists, name_map}
use Rattle.fx_parts.specs.Parts.{Grant, IsPartOf, Part, Reservation, SharedState, TakenSnapshot, fresh_part, number_now}
use Rattle.fx_parts.specs.Plans.{IsHeldSince, IsPlanKey, IsPlannedCommit, KeyOfFile, KeyOfParent, KeyOfWay, OfCreate, OfMkdir, OfWrite, PlansDirectory}
use Rattle.fx_parts.specs.Sound.{IsSharedSound}
use Rattle.fx_parts.specs.Happening.{AskKey, Commit, Enter, MakeRoom, MayAsk, MayHappen, MayRaise, RaiseKey, Reserve, RunsTo, SharedEvent, TakeSnapshot, after_event, opened_state, part_committed, set_keys, set_part, with_key, with_raised, with_reserved, with_snapshot}
use Rattle.fx_parts.proofs.Events.{by_there, event_sound}
use Rattle.fx_parts.proofs.Maps.{get_other, get_same, key_found, key_same}
use Rattle.fx_parts.proofs.Readied.{does_now, may_commit, tree_then}

no_mode : (key : LockKey) (who : ℕ) (mode : Mode) → finite.get (finite.empty {K = LockKey × ℕ} {X = Mode} {R = hold_cmp}) (key, who) ≡ Some mode → ⊥
no_mode key who mode e = let none = get-empty {X = Mode} hold_cmp (key, who) in absurd (cc (sym none ∙ e))

no_grant : (key : LockKey) (grant : Grant) → finite.get (finite.empty {K = LockKey} {X = Grant} {R = lock.key_cmp}) key ≡ Some grant → ⊥
no_grant key grant e = let none = get-empty {X = Grant} lock.key_cmp key in absurd (cc (sym none ∙ e))

-- ---- the answers of the key table

gains_room : GainsRoom empty_table room_table 1 1
gains_room = record {
  holds = refl;
  room = ap (λ o. unwrap_or o 0) (get_same finite.empty 1 1) ∙ sym (ap (λ o. unwrap_or o 0 + 1) (get-empty {X = ℕ} nat_cmp 1));
  others = λ w ne. ap (λ o. unwrap_or o 0) (get_other finite.empty 1 w 1 ne);
}

is_held : AskGives room_table 1 root_node Change Held asked_table
is_held = (
  λ w h. no_mode root_node w h.held h.holds,
  record {
    holds = refl;
    room = ap (λ o. unwrap_or o 0 + 1) (get_same room_table.rooms 1 0) ∙ sym (ap (λ o. unwrap_or o 0) (get_same finite.empty 1 1));
    others = λ w ne. ap (λ o. unwrap_or o 0) (get_other room_table.rooms 1 w 0 ne);
  },
)

is_raised : RaiseGives asked_table 1 root_node Held raised_table
is_raised = (
  λ w h. no_mode root_node w Read (sym (get-insert_other finite.empty root_node 1 Change root_node w h.apart) ∙ h.holds),
  record { holds = refl; rooms = refl },
)

-- ---- the only key

mkdir_path : (a b : List (List ℕ)) → Mkdir a ≡ Mkdir b → a ≡ b
mkdir_path a b e = cc

first_only : (name : List ℕ) (before : List (List ℕ)) (next : List ℕ) (rest : List (List ℕ)) → name ∷ [] ≡ before ++ next ∷ rest → before ≡ []
first_only name [] next rest e = refl
first_only name (x ∷ []) next rest e = absurd (cc e)
first_only name (x ∷ y ∷ before) next rest e = absurd (cc e)

at_root : (m : ItemMap) (before : List (List ℕ)) (node : NodeId) → before ≡ [] → node_at m before ≡ Some node → root_node ≡ node
at_root m before node e way = top (sym (ap (node_at m) e) ∙ way)
  where
    top : Some root_node ≡ Some node → root_node ≡ node
    top e = cc

only_root : (m : ItemMap) (name : List ℕ) (node : NodeId) (mode : Mode) → IsPlanKey m (Mkdir (name ∷ [])) node mode → root_node ≡ node
only_root m name node mode (KeyOfWay path (OfMkdir e) walked is) = at_root m walked.before node (first_only name walked.before walked.name walked.rest (mkdir_path (name ∷ []) path e ∙ walked.path_is)) walked.way
only_root m name node mode (KeyOfWay path (OfCreate e) walked is) = absurd (cc e)
only_root m name node mode (KeyOfWay path (OfWrite at text e) walked is) = absurd (cc e)
only_root m name node mode (KeyOfParent above next (inl e) way is) = at_root m above node (first_only name above next [] (mkdir_path (name ∷ []) (above ++ next ∷ []) e)) way
only_root m name node mode (KeyOfParent above next (inr e) way is) = absurd (cc e)
only_root m name node mode (KeyOfFile path at text e way is) = absurd (cc e)

-- one event, and then others
then_run : (s : SharedState) (event : SharedEvent) (u : SharedState) (events : List SharedEvent) (t : SharedState) → MayHappen MakesNames s event → after_event s event ≡ u → RunsTo MakesNames u events t → RunsTo MakesNames s (event ∷ events) t
then_run s event u events t may e run = (may, subst (λ z. RunsTo MakesNames z events t) (sym e) run)

module _ (mounted : Mounted) (lists : List (List PlainItem)) (ids stores faults : ℕ) (name : List ℕ) (sound : IsSharedSound MakesNames (opened_state mounted lists ids stores faults))
    (free : name_map (live_in_lists lists) (ChildKey 0 0 name) ≡ None) where
  abbrev s0 : SharedState
  s0 = opened_state mounted lists ids stores faults

  abbrev p1 : Part
  p1 = fresh_part faults

  abbrev s1 : SharedState
  s1 = set_part 1 p1 s0

  abbrev p2 : Part
  p2 = record p1 { room = p1.room + 1 }

  abbrev s2 : SharedState
  s2 = set_keys room_table 1 p2 s1

  abbrev p3 : Part
  p3 = with_key root_node Change (number_now s2) p2

  abbrev s3 : SharedState
  s3 = set_keys asked_table 1 p3 s2

  abbrev p4 : Part
  p4 = with_snapshot s3 p3

  abbrev s4 : SharedState
  s4 = set_part 1 p4 s3

  abbrev p5 : Part
  p5 = with_reserved one_node 0 s4 p4

  abbrev s5 : SharedState
  s5 = record s4 { parts = finite.insert s4.parts 1 p5; ids = s4.ids + 1; stores = s4.stores + 1 }

  abbrev p6 : Part
  p6 = with_raised root_node p5

  abbrev s6 : SharedState
  s6 = set_keys raised_table 1 p6 s5

  abbrev node : NodeId
  node = record { store = stores; id = 0 }

  abbrev items : List PlainItem
  items = new_items root_node name node kinds.Dir

  abbrev entry : Entry
  entry = making_entry mounted name

  abbrev s7 : SharedState
  s7 = record s6 { notes = s6.notes ++ Commits entry ∷ []; lists = items ∷ s6.lists; parts = finite.insert s6.parts 1 (part_committed entry.number p6) }

  -- ---- each event may happen

  enters : MayHappen MakesNames s0 (Enter 1)
  enters = record { free = get-empty {X = Part} nat_cmp 1; first = omega arith; few = omega arith }

  has1 : IsPartOf s1 1 p1
  has1 = get_same s0.parts 1 p1

  roomy : MayHappen MakesNames s1 (MakeRoom 1 1 room_table)
  roomy = ((p1, has1, tt), gains_room)

  has2 : IsPartOf s2 1 p2
  has2 = get_same s1.parts 1 p2

  may_ask : MayAsk root_node Change p2
  may_ask = record { room = omega arith; asked = λ e. cc e; above = λ k grant held. absurd (no_grant k grant held) }

  asks : MayHappen MakesNames s2 (AskKey 1 root_node Change Held asked_table)
  asks = ((p2, has2, may_ask), is_held)

  has3 : IsPartOf s3 1 p3
  has3 = get_same s2.parts 1 p3

  takes : MayHappen MakesNames s3 (TakeSnapshot 1)
  takes = (p3, has3, tt)

  has4 : IsPartOf s4 1 p4
  has4 = get_same s3.parts 1 p4

  reserves : MayHappen MakesNames s4 (Reserve 1 one_node 0)
  reserves = (p4, has4, refl)

  has5 : IsPartOf s5 1 p5
  has5 = get_same s4.parts 1 p5

  abbrev asked : Grant
  asked = record { mode = Change; number = number_now s2 }

  held5 : finite.get p5.grants root_node ≡ Some asked
  held5 = key_same p2.grants root_node asked

  may_raise : MayRaise root_node p5
  may_raise = record {
    grant = asked;
    held = held5;
    change = refl;
    next = λ k other less got. elim (key_found p2.grants root_node k asked other got) [
      | inl here ↦ absurd (key_irreflexive root_node (subst (λ z. lock.key_cmp z root_node ≡ Less) here.0 less))
      | inr old ↦ absurd (no_grant k other old.1)
    ];
  }

  raises : MayHappen MakesNames s5 (RaiseKey 1 root_node Held raised_table)
  raises = ((p5, has5, may_raise), is_raised)

  has6 : IsPartOf s6 1 p6
  has6 = get_same s5.parts 1 p6

  -- ---- where each event leads

  is2 : after_event s1 (MakeRoom 1 1 room_table) ≡ s2
  is2 = by_there (λ z. z ≡ s2) s1 1 p1 (λ part. set_keys room_table 1 (record part { room = part.room + 1 }) s1) has1 refl

  is3 : after_event s2 (AskKey 1 root_node Change Held asked_table) ≡ s3
  is3 = by_there (λ z. z ≡ s3) s2 1 p2 (λ part. set_keys asked_table 1 (with_key root_node Change (number_now s2) part) s2) has2 refl

  is4 : after_event s3 (TakeSnapshot 1) ≡ s4
  is4 = by_there (λ z. z ≡ s4) s3 1 p3 (λ part. set_part 1 (with_snapshot s3 part) s3) has3 refl

  is5 : after_event s4 (Reserve 1 one_node 0) ≡ s5
  is5 = by_there (λ z. z ≡ s5) s4 1 p4 (λ part. record s4 {
    parts = finite.insert s4.parts 1 (with_reserved one_node 0 s4 part);
    ids = s4.ids + one_node.nodes;
    stores = s4.stores + one_node.nodes;
  }) has4 refl

  is6 : after_event s5 (RaiseKey 1 root_node Held raised_table) ≡ s6
  is6 = by_there (λ z. z ≡ s6) s5 1 p5 (λ part. set_keys raised_table 1 (with_raised root_node part) s5) has5 refl

  is7 : after_event s6 (Commit 1 entry items) ≡ s7
  is7 = by_there (λ z. z ≡ s7) s6 1 p6 (λ part. record s6 {
    notes = s6.notes ++ Commits entry ∷ [];
    lists = items ∷ s6.lists;
    parts = finite.insert s6.parts 1 (part_committed entry.number part);
  }) has6 refl

  abbrev Sound : SharedState → Type 0
  Sound s = IsSharedSound MakesNames s

  sound6 : Sound s6
  sound6 =
      let a : Sound s1 = event_sound s0 sound (Enter 1) enters in
      let b : Sound s2 = subst Sound is2 (event_sound s1 a (MakeRoom 1 1 room_table) roomy) in
      let c : Sound s3 = subst Sound is3 (event_sound s2 b (AskKey 1 root_node Change Held asked_table) asks) in
      let d : Sound s4 = subst Sound is4 (event_sound s3 c (TakeSnapshot 1) takes) in
      let e : Sound s5 = subst Sound is5 (event_sound s4 d (Reserve 1 one_node 0) reserves) in
      subst Sound is6 (event_sound s5 e (RaiseKey 1 root_node Held raised_table) raises)

  -- ---- the commit

  abbrev write : Grant
  write = record { mode = ForWrite; number = number_now s2 }

  held6 : finite.get p6.grants root_node ≡ Some write
  held6 =
      ap (λ (o : Option Grant). finite.get (elim o [ Some grant ↦ finite.insert p5.grants root_node (record grant { mode = ForWrite }) | None ↦ p5.grants ]) root_node) held5
      ∙ key_same p5.grants root_node write

  abbrev snapshot : TakenSnapshot
  snapshot = record { point = number_now s3; lists = lists }

  abbrev given : Reservation
  given = record { need = one_node; bytes = 0; id = ids; store = stores }

  planned : IsPlannedCommit p6 entry items
  planned = record {
    index = 0;
    snapshot = snapshot;
    taken = refl;
    since = omega arith;
    r = given;
    reserved = refl;
    step = Mkdir (name ∷ []);
    alone = refl;
    plan = PlansDirectory [] name root_node node refl (record {
      depth = omega arith;
      way = refl;
      directory = refl;
      free = free;
      next = inl (refl, refl, refl);
      given = omega arith;
    }) refl;
    keys = λ at mode key. subst (λ z. IsHeldSince p6 snapshot.point z mode) (only_root (name_map (live_in_lists lists)) name at mode key)
        (record { grant = write; held = held6; since = omega arith; raised = λ e. refl });
  }

  number : entry.number ≡ number_now s6 + 1
  number = omega arith

  commits : MayHappen MakesNames s6 (Commit 1 entry items)
  commits = may_commit s6 sound6 1 p6 has6 entry items planned number refl refl

  pub made : (t : SharedState) × RunsTo MakesNames s0 (making_events mounted stores name) t × (tree_in t.mounted t.notes ≡ finite.insert mounted.tree (name ∷ []) empty_dir)
  unfolding planned
  made = (
    s7,
    (
      enters,
      then_run s1 (MakeRoom 1 1 room_table) s2 (AskKey 1 root_node Change Held asked_table ∷ TakeSnapshot 1 ∷ Reserve 1 one_node 0 ∷ RaiseKey 1 root_node Held raised_table ∷ Commit 1 entry items ∷ []) s7 roomy is2
          (then_run s2 (AskKey 1 root_node Change Held asked_table) s3 (TakeSnapshot 1 ∷ Reserve 1 one_node 0 ∷ RaiseKey 1 root_node Held raised_table ∷ Commit 1 entry items ∷ []) s7 asks is3
          (then_run s3 (TakeSnapshot 1) s4 (Reserve 1 one_node 0 ∷ RaiseKey 1 root_node Held raised_table ∷ Commit 1 entry items ∷ []) s7 takes is4
          (then_run s4 (Reserve 1 one_node 0) s5 (RaiseKey 1 root_node Held raised_table ∷ Commit 1 entry items ∷ []) s7 reserves is5
          (then_run s5 (RaiseKey 1 root_node Held raised_table) s6 (Commit 1 entry items ∷ []) s7 raises is6
          (then_run s6 (Commit 1 entry items) s7 [] s7 commits is7 refl))))),
    ),
    tree_then s6 sound6 1 p6 has6 entry items planned number
        ∙ (mkdir_made mounted.tree (name ∷ []) Done (does_now s6 sound6 1 p6 has6 entry items planned).done).inserted,
  )
