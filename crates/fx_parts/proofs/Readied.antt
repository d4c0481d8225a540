-- A planned commit may happen, by the part of its number alone.
use Rattle.std.proofs.Common.{◌≡◌, ◌≢◌, ◌⊎◌, inl, inr, ℕ, ◌+◌, ◌≤◌, Bool, true, false, cond, List, [], ◌∷◌, ◌++◌, Option, Some, None, refl, sym, ap, subst, ◌∙◌, arith, length}
use Rattle.std.specs.Prelude.{Result, Ok, IsOk}
use Rattle.std.specs.Result.{result_unwrap_or}
use Rattle.fx_item.specs.Item.{AttributeValue, ChildKey, ChildValue, DirectoryValue, ExtentValue, FileValue, GoneValue, ObjectKey, PlainItem, PlainValue, TakenValue, WaitingValue}
use Rattle.fx_item.specs.Overlay.{AtDeviceBlock, AtFileBlock, AtKey, Point, covers, entry_in, says}
use Rattle.fx_item.specs.declared.lock.Mode.{Mode}
use Rattle.fx_item.specs.declared.lock.Mode.TheVariants.{Change}
use Rattle.fx_plain.specs.Table.{do_all, do_step, go_on}
use Rattle.fx_plain.specs.Tree.{Tree}
use Rattle.fx_plain.specs.declared.kind.Kind.{Kind}
use Rattle.fx_plain.specs.declared.kind.Kind.TheVariants as kinds
use Rattle.fx_plain.specs.declared.step.Answer.{Answer}
use Rattle.fx_plain.specs.declared.step.Refusal.{Refusal}
use Rattle.fx_plain.specs.declared.step.Step.{Step}
use Rattle.fx_history.specs.declared.entry.Entry.{Entry}
use Rattle.fx_history.specs.History.{tree_at}
use Rattle.fx_history.proofs.Histories.{tree_next}
use Rattle.fx_namespace.specs.Commits.{IsNextNode, new_items, new_value, written_items}
use Rattle.fx_item.specs.Look.{ItemMap, after, no_items}
use Rattle.fx_namespace.specs.Changes.{Resizes}
use Rattle.fx_namespace.proofs.Commits.{new_gains, written_resizes}
use Rattle.fx_namespace.specs.Nodes.{NodeId, Stands, is_root, kind_of, node_at, object_kind, root_node, told_kind}
use Rattle.fx_namespace.proofs.Items.{covers_key, same_key_is}
use Rattle.fx_namespace.proofs.Walks.{EndsWith, ends_with, last_step, node_path, same_node}
use Rattle.fx_events.specs.Notes.{Commits, entries_in, tree_in}
use Rattle.fx_events.proofs.Entries.{entries_more, legal_entries}
use Rattle.fx_parts.specs.Live.{AgreeAt, IsNodeThere, LiveMap, MakesNames, live_in_lists, name_map, node_of_key, node_of_point}
use Rattle.fx_parts.specs.Parts.{IsGivenNode, IsPartOf, Part, SharedState, live_now, number_now}
use Rattle.fx_parts.specs.Sound.{IsPartSound, IsSharedSound}
use Rattle.fx_parts.specs.Plans.{ByGift, ByKey, DoesStep, IsChangeable, IsCommitBacked, IsGiftTo, IsPlanKey, IsPlanOf, IsPlannedCommit, KeyOfFile, KeyOfParent, KeyOfWay, PlansDirectory, PlansFile, PlansWrite, put_kind}
use Rattle.fx_parts.specs.Happening.{Commit, MakesNext, MayHappen}
use Rattle.fx_parts.proofs.Lives.{laid_first, names_first, no_kind, put_or_same, unused_there}
use Rattle.fx_parts.proofs.Committing.{given_root}
use Rattle.fx_parts.proofs.Planned.{does_plan, given_next}
use Rattle.fx_parts.proofs.Walking.{plan_kept}

-- ---- which nodes items are about

-- a list says something of a point by its first item or by the others
says_by : (x : PlainItem) (rest : List PlainItem) (point : Point) → says (x ∷ rest) point ≢ None → (covers x.key point ≡ true) ⊎ (says rest point ≢ None)
says_by x rest point said = by (covers x.key point) refl
  where
    by : (b : Bool) → covers x.key point ≡ b → (covers x.key point ≡ true) ⊎ (says rest point ≢ None)
    by true e = inl e
    by false e = inr (λ h. said (ap (λ b. cond b (Some (entry_in x.key x.value point)) (says rest point)) e ∙ h))

object_covers : (store id : ℕ) (point : Point) → covers (ObjectKey store id) point ≡ true → node_of_point point ≡ Some (record { store = store; id = id })
object_covers store id (AtKey key) e = ap node_of_key (sym (same_key_is (ObjectKey store id) key (sym (covers_key (ObjectKey store id) key) ∙ e)))
object_covers store id (AtFileBlock t j place) e = absurd (cc e)
object_covers store id (AtDeviceBlock block) e = absurd (cc e)

child_covers : (store id : ℕ) (name : List ℕ) (point : Point) → covers (ChildKey store id name) point ≡ true → node_of_point point ≡ Some (record { store = store; id = id })
child_covers store id name (AtKey key) e = ap node_of_key (sym (same_key_is (ChildKey store id name) key (sym (covers_key (ChildKey store id name) key) ∙ e)))
child_covers store id name (AtFileBlock t j place) e = absurd (cc e)
child_covers store id name (AtDeviceBlock block) e = absurd (cc e)

one_node : (point : Point) (a b : NodeId) → node_of_point point ≡ Some a → node_of_point point ≡ Some b → a ≡ b
one_node point a b e f = some_node (sym e ∙ f)
  where
    some_node : Some a ≡ Some b → a ≡ b
    some_node e = cc

abbrev child_item : NodeId → List ℕ → NodeId → PlainItem
child_item parent name node = record { key = ChildKey parent.store parent.id name; value = ChildValue node.store node.id }

abbrev object_item : NodeId → PlainValue → PlainItem
object_item node value = record { key = ObjectKey node.store node.id; value = value }

new_about : (parent node : NodeId) (name : List ℕ) (kind : Kind) (point : Point) (other : NodeId) → node_of_point point ≡ Some other → says (new_items parent name node kind) point ≢ None → (parent ≡ other) ⊎ (node ≡ other)
new_about parent node name kind point other here said = elim (says_by (child_item parent name node) (object_item node (new_value kind) ∷ []) point said) [
  | inl e ↦ inl (one_node point parent other (child_covers parent.store parent.id name point e) here)
  | inr more ↦ elim (says_by (object_item node (new_value kind)) [] point more) [
    | inl e ↦ inr (one_node point node other (object_covers node.store node.id point e) here)
    | inr none ↦ absurd (none refl)
  ]
]

written_about : (node : NodeId) (point : Point) (other : NodeId) → node_of_point point ≡ Some other → says (written_items node) point ≢ None → node ≡ other
written_about node point other here said = elim (says_by (object_item node (FileValue 0)) [] point said) [
  | inl e ↦ one_node point node other (object_covers node.store node.id point e) here
  | inr none ↦ absurd (none refl)
]

-- a write leaves the kind of each Object
written_object : (m : ItemMap) (file node : NodeId) → object_kind m file ≡ Some kinds.File → told_kind (after m (written_items file) (ObjectKey node.store node.id)) ≡ object_kind m node
written_object m file node kind = by (same_node node file)
  where
    len_of : (o : Option PlainValue) → told_kind o ≡ Some kinds.File → (len : ℕ) × (o ≡ Some (FileValue len))
    len_of None e = absurd (cc)
    len_of (Some (FileValue len)) e = (len, refl)
    len_of (Some DirectoryValue) e = absurd (cc)
    len_of (Some GoneValue) e = absurd (cc)
    len_of (Some (AttributeValue text)) e = absurd (cc)
    len_of (Some (ChildValue store id)) e = absurd (cc)
    len_of (Some WaitingValue) e = absurd (cc)
    len_of (Some (ExtentValue block sums)) e = absurd (cc)
    len_of (Some TakenValue) e = absurd (cc)

    resized : (len : ℕ) × Resizes m (after m (written_items file)) file len 0
    resized = let l = len_of (m (ObjectKey file.store file.id)) kind in (l.0, written_resizes m file l.0 l.1)

    by : (node ≡ file) ⊎ (node ≢ file) → told_kind (after m (written_items file) (ObjectKey node.store node.id)) ≡ object_kind m node
    by (inl same) = subst (λ z. told_kind (after m (written_items file) (ObjectKey z.store z.id)) ≡ object_kind m z) (sym same) (ap told_kind resized.1.after ∙ sym kind)
    by (inr ne) = ap told_kind (resized.1.others (ObjectKey node.store node.id) (λ q. ne (node_path node file (cc q) (cc q))))

-- an Object that the items put is there after them
put_stands : (m : ItemMap) (items : List PlainItem) (node : NodeId) (kind : Kind) → put_kind items node ≡ Some kind → object_kind (after m items) node ≡ Some kind
put_stands m items node kind put = elim (put_or_same m items node) [
  | inl said ↦ said.1 ∙ put
  | inr silent ↦ absurd (no_kind kind (sym silent.1 ∙ put))
]

-- a new node's items put its Object alone
new_put : (parent new : NodeId) (name : List ℕ) (made : Kind) (node : NodeId) (kind : Kind) → put_kind (new_items parent name new made) node ≡ Some kind → node ≡ new
new_put parent new name made node kind put = by (same_node node new)
  where
    by : (node ≡ new) ⊎ (node ≢ new) → node ≡ new
    by (inl same) = same
    by (inr ne) = absurd (no_kind kind (
        sym (ap told_kind ((new_gains no_items parent name new made).others (ObjectKey node.store node.id) (λ q. ne (node_path node new (cc q) (cc q))) (λ q. cc q))) ∙ put))

-- ---- nodes that a path leads to are there

some_kind : (b : Bool) (o : Option Kind) (kind : Kind) → o ≡ Some kind → (found : Kind) × (cond b (Some kinds.Dir) o ≡ Some found)
some_kind true o kind e = (kinds.Dir, refl)
some_kind false o kind e = (kind, e)

object_there : (live : LiveMap) (node : NodeId) (kind : Kind) → object_kind (name_map live) node ≡ Some kind → IsNodeThere live node
object_there live node kind e = some_kind (is_root node) (object_kind (name_map live) node) kind e

way_there : (live : LiveMap) → Stands (name_map live) → (path : List (List ℕ)) (node : NodeId) → node_at (name_map live) path ≡ Some node → IsNodeThere live node
way_there live stands path node way = by (ends_with path)
  where
    top : Some root_node ≡ Some node → root_node ≡ node
    top e = cc

    by : EndsWith path → IsNodeThere live node
    by (inl is) = subst (IsNodeThere live) (top (sym (ap (node_at (name_map live)) is) ∙ way)) (kinds.Dir, refl)
    by (inr parts) =
        let l = last_step (name_map live) parts.0 parts.1 node (sym (ap (node_at (name_map live)) parts.2) ∙ way) in
        let o = stands.objects l.0 parts.1 node l.2 in
        object_there live node o.0 o.1

key_way : (live : LiveMap) (step : Step) (node : NodeId) (mode : Mode) → IsPlanKey (name_map live) step node mode → (path : List (List ℕ)) × (node_at (name_map live) path ≡ Some node)
key_way live step node mode (KeyOfWay path is walked e) = (walked.before, walked.way)
key_way live step node mode (KeyOfParent above name is way e) = (above, way)
key_way live step node mode (KeyOfFile path at text is way e) = (path, way)

module _ (s : SharedState) (sound : IsSharedSound MakesNames s) (who : ℕ) (part : Part) (is : IsPartOf s who part) (entry : Entry) (items : List PlainItem) (p : IsPlannedCommit part entry items) where
  mine : IsPartSound MakesNames s.mounted s.notes (live_now s) s.ids s.stores s.faults part
  mine = sound.parts who part is

  abbrev then_live : LiveMap
  then_live = live_in_lists p.snapshot.lists

  stands_then : Stands (name_map then_live)
  stands_then = (mine.snapshots p.index p.snapshot p.taken).makes.stands

  -- what stands now agrees at each key of the step
  agrees : (node : NodeId) (mode : Mode) → IsPlanKey (name_map then_live) p.step node mode → AgreeAt node then_live (live_now s)
  agrees node mode key =
      let held = p.keys node mode key in
      let way = key_way then_live p.step node mode key in
      mine.keeps p.index p.snapshot node held.grant p.taken held.held held.since p.since (way_there then_live stands_then way.0 node way.1)

  plan_now : IsPlanOf (name_map (live_now s)) p.r p.step items
  plan_now = plan_kept then_live (live_now s) p.step agrees p.r items p.plan

  abbrev tree_now : Tree
  tree_now = tree_in s.mounted s.notes

  pub does_now : DoesStep (live_now s) tree_now p.step items
  does_now =
      let r = mine.reserves p.r p.reserved in
      does_plan (live_now s) tree_now sound.makes p.r r.first_id r.first_store r.unused p.step items plan_now

  all_done : do_all tree_now entry.steps ≡ Ok (do_step tree_now p.step).1
  all_done = ap (do_all tree_now) p.alone ∙ ap (λ (o : Result Answer Refusal). let a : Result Tree (ℕ × Refusal) = go_on 1 o (Ok (do_step tree_now p.step).1) in a) does_now.done

  -- ---- the nodes that its items are about

  for_change : (node : NodeId) → IsPlanKey (name_map then_live) p.step node Change → IsNodeThere then_live node → IsChangeable part p.snapshot node
  for_change node key there = let held = p.keys node Change key in ByKey held.grant held.held (held.raised refl) held.since there

  changes_by : (point : Point) (node : NodeId) → node_of_point point ≡ Some node → says items point ≢ None → IsPlanOf (name_map then_live) p.r p.step items → IsChangeable part p.snapshot node
  changes_by point node here said (PlansDirectory above name parent new e room are) = elim (new_about parent new name kinds.Dir point node here (subst (λ xs. says xs point ≢ None) are said)) [
    | inl same ↦ subst (IsChangeable part p.snapshot) same (for_change parent (KeyOfParent above name (inl e) room.way refl) (kinds.Dir, room.directory))
    | inr same ↦ subst (IsChangeable part p.snapshot) same (ByGift p.r p.reserved (given_next p.r parent new kinds.Dir room.given room.next))
  ]
  changes_by point node here said (PlansFile above name parent new e below room are) = elim (new_about parent new name kinds.File point node here (subst (λ xs. says xs point ≢ None) are said)) [
    | inl same ↦ subst (IsChangeable part p.snapshot) same (for_change parent (KeyOfParent above name (inr e) room.way refl) (kinds.Dir, room.directory))
    | inr same ↦ subst (IsChangeable part p.snapshot) same (ByGift p.r p.reserved (given_next p.r parent new kinds.File room.given room.next))
  ]
  changes_by point node here said (PlansWrite path at text file e small way kind are) =
      subst (IsChangeable part p.snapshot) (written_about file point node here (subst (λ xs. says xs point ≢ None) are said))
      (for_change file (KeyOfFile path at text e way refl) (object_there then_live file kinds.File kind))

  kinds_by : (node : NodeId) (kind : Kind) → put_kind items node ≡ Some kind → IsPlanOf (name_map then_live) p.r p.step items → (object_kind (name_map then_live) node ≡ Some kind) ⊎ IsGiftTo part node
  kinds_by node kind put (PlansDirectory above name parent new e room are) =
      let same = new_put parent new name kinds.Dir node kind (subst (λ xs. put_kind xs node ≡ Some kind) are put) in
      inr (p.r, p.reserved, subst (IsGivenNode p.r) (sym same) (given_next p.r parent new kinds.Dir room.given room.next))
  kinds_by node kind put (PlansFile above name parent new e below room are) =
      let same = new_put parent new name kinds.File node kind (subst (λ xs. put_kind xs node ≡ Some kind) are put) in
      inr (p.r, p.reserved, subst (IsGivenNode p.r) (sym same) (given_next p.r parent new kinds.File room.given room.next))
  kinds_by node kind put (PlansWrite path at text file e small way is_file are) =
      inl (sym (written_object (name_map then_live) file node is_file) ∙ put_stands (name_map then_live) (written_items file) node kind (subst (λ xs. put_kind xs node ≡ Some kind) are put))

  backed : IsCommitBacked part items
  backed = record {
    index = p.index;
    snapshot = p.snapshot;
    taken = p.taken;
    since = p.since;
    changes = λ point node here said. changes_by point node here said p.plan;
    kinds = λ node kind put. kinds_by node kind put p.plan;
  }

  module _ (number : entry.number ≡ number_now s + 1) where
    -- the tree after the commit is the one that its step makes of the tree now
    pub tree_then : tree_in s.mounted (s.notes ++ Commits entry ∷ []) ≡ (do_step tree_now p.step).1
    tree_then =
        ap (λ h. tree_at s.mounted.tree h (s.mounted.kept + length h)) (entries_more s.notes (Commits entry ∷ []))
        ∙ tree_next s.mounted.tree s.mounted.kept (entries_in s.notes) entry (legal_entries s.mounted s.notes sound.happened) number
        ∙ ap (λ r. result_unwrap_or r tree_now) all_done

    makes_next : entry.settled ≡ 0 → entry.who ≢ 0 → MakesNext MakesNames s entry items
    makes_next unsettled client = record {
      next = record {
        number = number;
        unsettled = unsettled;
        done = subst IsOk (sym all_done) refl;
        upkeep = λ nobody. absurd (client nobody);
      };
      makes = subst (λ t. MakesNames (live_in_lists (items ∷ s.lists)) t) (sym tree_then)
          (subst (λ m. MakesNames m (do_step tree_now p.step).1) (λ i point. sym (laid_first items s.lists point) i) does_now.makes);
    }

    pub may_commit : entry.settled ≡ 0 → entry.who ≡ who → MayHappen MakesNames s (Commit who entry items)
    may_commit unsettled own =
        let one = (sound.numbers who part is).0 in
        ((part, is, backed), makes_next unsettled (λ nobody. omega (arith, one, own, nobody)), inl own)

  -- ---- kinds stay

  new_object : (parent new : NodeId) (name : List ℕ) (kind : Kind) (node : NodeId) → 1 ≤ p.r.need.nodes → IsNextNode parent new kind p.r.id p.r.store → IsNodeThere (live_now s) node
      → after (name_map (live_now s)) (new_items parent name new kind) (ObjectKey node.store node.id) ≡ name_map (live_now s) (ObjectKey node.store node.id)
  new_object parent new name kind node some next there = by (same_node node new)
    where
      by : (node ≡ new) ⊎ (node ≢ new) → after (name_map (live_now s)) (new_items parent name new kind) (ObjectKey node.store node.id) ≡ name_map (live_now s) (ObjectKey node.store node.id)
      by (inl same) =
          let r = mine.reserves p.r p.reserved in
          let given : IsGivenNode p.r node = subst (IsGivenNode p.r) (sym same) (given_next p.r parent new kind some next) in
          absurd (given_root p.r node r.first_id r.first_store (unused_there (live_now s) node (r.unused node given) there) given)
      by (inr ne) = (new_gains (name_map (live_now s)) parent name new kind).others (ObjectKey node.store node.id) (λ q. ne (node_path node new (cc q) (cc q))) (λ q. cc q)

  object_then : (node : NodeId) → IsNodeThere (live_now s) node → IsPlanOf (name_map (live_now s)) p.r p.step items
      → told_kind (after (name_map (live_now s)) items (ObjectKey node.store node.id)) ≡ object_kind (name_map (live_now s)) node
  object_then node there (PlansDirectory above name parent new e room are) = ap (λ xs. told_kind (after (name_map (live_now s)) xs (ObjectKey node.store node.id))) are ∙ ap told_kind (new_object parent new name kinds.Dir node room.given room.next there)
  object_then node there (PlansFile above name parent new e below room are) = ap (λ xs. told_kind (after (name_map (live_now s)) xs (ObjectKey node.store node.id))) are ∙ ap told_kind (new_object parent new name kinds.File node room.given room.next there)
  object_then node there (PlansWrite path at text file e small way kind are) = ap (λ xs. told_kind (after (name_map (live_now s)) xs (ObjectKey node.store node.id))) are ∙ written_object (name_map (live_now s)) file node kind

  -- a node that is there is of the same kind after the commit
  pub kinds_then : (node : NodeId) (kind : Kind) → kind_of (name_map (live_now s)) node ≡ Some kind → kind_of (name_map (live_in_lists (items ∷ s.lists))) node ≡ Some kind
  kinds_then node kind e =
      ap (λ o. cond (is_root node) (Some kinds.Dir) o) (ap told_kind (names_first items s.lists (ObjectKey node.store node.id)) ∙ object_then node (kind, e) plan_now) ∙ e
