-- Items that leave the names as they stand, and a commit of upkeep.
use Rattle.std.proofs.Common.{◌≡◌, ◌≢◌, ◌⊎◌, inl, inr, ℕ, ◌+◌, List, [], ◌∷◌, ◌++◌, Option, Some, None, refl, sym, ap, subst, ◌∙◌, cond, length}
use Rattle.std.specs.Prelude.{IsOk, option_and_then, option_map}
use Rattle.std.specs.Result.{result_unwrap_or}
use Rattle.fx_item.specs.Item.{ChildKey, ObjectKey, PlainItem, PlainKey, PlainValue}
use Rattle.fx_item.specs.Look.{ItemMap, after, value_of_entry}
use Rattle.fx_item.specs.Overlay.{AtKey, Entry, Point, says}
use Rattle.fx_plain.specs.Bare.{bare}
use Rattle.fx_plain.specs.Node.{empty_dir}
use Rattle.fx_plain.specs.Table.{do_all}
use Rattle.fx_plain.specs.Tree.{Tree}
use Rattle.fx_history.specs.declared.entry.Entry.{Entry as CommitEntry}
use Rattle.fx_history.specs.History.{tree_at}
use Rattle.fx_history.proofs.Histories.{tree_next}
use Rattle.fx_namespace.specs.Nodes.{NodeId, Stands, child, is_root, led_to, node_at, node_from, object_kind, root_node}
use Rattle.fx_namespace.specs.Trees.{IsTreeOf, node_of, shown}
use Rattle.fx_namespace.specs.Trees as holdings
use Rattle.fx_namespace.proofs.Walks.{object_value}
use Rattle.fx_events.specs.Notes.{Commits, entries_in, tree_in}
use Rattle.fx_events.proofs.Entries.{entries_more, legal_entries}
use Rattle.fx_parts.specs.Live.{AgreeAt, LiveMap, MakesNames, live_in_lists, name_map, node_of_point}
use Rattle.fx_parts.specs.Parts.{IsPartOf, Part, SharedState, live_now, number_now}
use Rattle.fx_parts.specs.Plans.{ByKey, IsCommitBacked, IsUpkeepCommit, LeavesNames}
use Rattle.fx_parts.specs.Sound.{IsSharedSound}
use Rattle.fx_parts.specs.Happening.{Commit, MayHappen}
use Rattle.fx_parts.proofs.Lives.{entry_agrees, names_first, no_kind, object_agrees, put_or_same}

-- ---- what a list says of one point

is_silent : (items : List PlainItem) (point : Point) → (says items point ≡ None) ⊎ (says items point ≢ None)
is_silent items point = by (says items point) refl
  where
    some_none : (e : Option Entry) → (let a : Option (Option Entry) = Some e in a ≡ None) → ⊥
    some_none e h = cc

    by : (o : Option (Option Entry)) → says items point ≡ o → (says items point ≡ None) ⊎ (says items point ≢ None)
    by None e = inl e
    by (Some entry) e = inr (λ h. some_none entry (sym e ∙ h))

abbrev value_by : Option PlainValue → Option (Option Entry) → Option PlainValue
value_by old o = elim o [ Some entry ↦ value_of_entry entry | None ↦ old ]

after_silent : (m : ItemMap) (items : List PlainItem) (key : PlainKey) → says items (AtKey key) ≡ None → after m items key ≡ m key
after_silent m items key none = ap (value_by (m key)) none

after_said : (m n : ItemMap) (items : List PlainItem) (key : PlainKey) → says items (AtKey key) ≢ None → after m items key ≡ after n items key
after_said m n items key said = by (says items (AtKey key)) refl
  where
    by : (o : Option (Option Entry)) → says items (AtKey key) ≡ o → after m items key ≡ after n items key
    by None e = absurd (said e)
    by (Some entry) e = ap (value_by (m key)) e ∙ sym (ap (value_by (n key)) e)

-- ---- the names stand as they did

and_then_same : {A B : Type 0} (f h : A → Option B) → ((x : A) → f x ≡ h x) → (o : Option A) → option_and_then f o ≡ option_and_then h o
and_then_same f h k None = refl
and_then_same f h k (Some x) = k x

module _ (m : ItemMap) (items : List PlainItem) (leaves : LeavesNames m items) where
  abbrev left : ItemMap
  left = after m items

  same_child : (y : NodeId) (x : List ℕ) → child left y x ≡ child m y x
  same_child y x = ap led_to (leaves.children y x)

  same_walk : (q : List (List ℕ)) (y : NodeId) → node_from left y q ≡ node_from m y q
  same_walk [] y = refl
  same_walk (x ∷ q) y =
      ap (option_and_then (λ z. node_from left z q)) (same_child y x)
      ∙ and_then_same (λ z. node_from left z q) (λ z. node_from m z q) (λ z. same_walk q z) (child m y x)

  same_kind : (y : NodeId) → object_kind left y ≡ object_kind m y
  same_kind y = elim (put_or_same m items y) [
    | inl said ↦ (let k = leaves.objects y said.0 in said.1 ∙ k.1 ∙ sym k.2)
    | inr silent ↦ silent.0
  ]

  had : (y : NodeId) (v : PlainValue) → left (ObjectKey y.store y.id) ≡ Some v → (w : PlainValue) × (m (ObjectKey y.store y.id) ≡ Some w)
  had y v e = elim (is_silent items (AtKey (ObjectKey y.store y.id))) [
    | inl none ↦ (v, sym (after_silent m items (ObjectKey y.store y.id) none) ∙ e)
    | inr said ↦ (let k = leaves.objects y said in object_value m y k.0 k.2)
  ]

  stands_left : Stands m → Stands left
  stands_left s = record {
    volumes = λ x v e. s.volumes x v (sym (leaves.children root_node x) ∙ e);
    inner = λ y x v ne e. s.inner y x v ne (sym (leaves.children y x) ∙ e);
    objects = λ y x z e. let o = s.objects y x z (sym (same_child y x) ∙ e) in (o.0, same_kind z ∙ o.1);
    tops = λ x z e. same_kind z ∙ s.tops x z (sym (same_child root_node x) ∙ e);
    parents = λ y x v ne e. same_kind y ∙ s.parents y x v ne (sym (leaves.children y x) ∙ e);
    once = λ a b x y z e f. s.once a b x y z (sym (same_child a x) ∙ e) (sym (same_child b y) ∙ f);
    reached = λ y v e. let h = had y v e in let w = s.reached y h.0 h.1 in (w.0, w.1, same_walk (w.0 ++ w.1 ∷ []) root_node ∙ w.2);
    depth = λ q z e. s.depth q z (sym (same_walk q root_node) ∙ e);
  }

  same_shown : (y : NodeId) → shown left holdings.bare y ≡ shown m holdings.bare y
  same_shown y = ap (λ k. cond (is_root y) (Some empty_dir) (option_map (node_of holdings.bare y) k)) (same_kind y)

  tree_left : (t : Tree) → IsTreeOf m holdings.bare t → IsTreeOf left holdings.bare t
  tree_left t a = record {
    at = λ q. a.at q ∙ sym (ap (option_and_then (shown left holdings.bare)) (same_walk q root_node)
        ∙ and_then_same (shown left holdings.bare) (shown m holdings.bare) same_shown (node_at m q));
  }

-- ---- a commit of upkeep

module _ (s : SharedState) (sound : IsSharedSound MakesNames s) (who : ℕ) (part : Part) (is : IsPartOf s who part) (items : List PlainItem) (p : IsUpkeepCommit part items) where
  abbrev then_live : LiveMap
  then_live = live_in_lists p.snapshot.lists

  agrees : (point : Point) (node : NodeId) → node_of_point point ≡ Some node → says items point ≢ None → AgreeAt node then_live (live_now s)
  agrees point node here said =
      let k = p.keys point node here said in
      (sound.parts who part is).keeps p.index p.snapshot node k.0.grant p.taken k.0.held k.0.since p.since k.1

  leaves_now : LeavesNames (name_map (live_now s)) items
  leaves_now = record {
    objects = λ node said.
        let k = p.names.objects node said in
        (k.0, k.1, object_agrees then_live (live_now s) node (agrees (AtKey (ObjectKey node.store node.id)) node refl said) ∙ k.2);
    children = λ node name. elim (is_silent items (AtKey (ChildKey node.store node.id name))) [
      | inl none ↦ after_silent (name_map (live_now s)) items (ChildKey node.store node.id name) none
      | inr said ↦ after_said (name_map (live_now s)) (name_map then_live) items (ChildKey node.store node.id name) said ∙ p.names.children node name
          ∙ sym (entry_agrees then_live (live_now s) node name (agrees (AtKey (ChildKey node.store node.id name)) node refl said))
    ];
  }

  backed : IsCommitBacked part items
  backed = record {
    index = p.index;
    snapshot = p.snapshot;
    taken = p.taken;
    since = p.since;
    changes = λ point node here said. let k = p.keys point node here said in ByKey k.0.grant k.0.held (k.0.raised refl) k.0.since k.1;
    kinds = λ node kind put. elim (put_or_same (name_map then_live) items node) [
      | inl said ↦ inl (let k = p.names.objects node said.0 in k.2 ∙ sym k.1 ∙ put)
      | inr silent ↦ absurd (no_kind kind (sym silent.1 ∙ put))
    ];
  }

  abbrev tree_now : Tree
  tree_now = tree_in s.mounted s.notes

  makes_left : MakesNames (live_in_lists (items ∷ s.lists)) tree_now
  makes_left =
      let path : after (name_map (live_now s)) items ≡ name_map (live_in_lists (items ∷ s.lists)) = λ i key. sym (names_first items s.lists key) i in
      record {
        stands = subst Stands path (stands_left (name_map (live_now s)) items leaves_now sound.makes.stands);
        tree_is = subst (λ m. IsTreeOf m holdings.bare (bare tree_now)) path (tree_left (name_map (live_now s)) items leaves_now (bare tree_now) sound.makes.tree_is);
      }

  module _ (entry : CommitEntry) (number : entry.number ≡ number_now s + 1) (none : entry.steps ≡ []) where
    pub tree_kept : tree_in s.mounted (s.notes ++ Commits entry ∷ []) ≡ tree_now
    tree_kept =
        ap (λ h. tree_at s.mounted.tree h (s.mounted.kept + length h)) (entries_more s.notes (Commits entry ∷ []))
        ∙ tree_next s.mounted.tree s.mounted.kept (entries_in s.notes) entry (legal_entries s.mounted s.notes sound.happened) number
        ∙ ap (λ steps. result_unwrap_or (do_all tree_now steps) tree_now) none

    pub may_upkeep : entry.settled ≡ 0 → entry.who ≡ 0 → MayHappen MakesNames s (Commit who entry items)
    may_upkeep unsettled nobody = (
      (part, is, backed),
      record {
        next = record {
          number = number;
          unsettled = unsettled;
          done = subst (λ steps. IsOk (do_all tree_now steps)) (sym none) refl;
          upkeep = λ e. none;
        };
        makes = subst (MakesNames (live_in_lists (items ∷ s.lists))) (sym tree_kept) makes_left;
      },
      inr nobody,
    )
