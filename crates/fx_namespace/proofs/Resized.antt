-- A file's Object tells another length: the items stand again and make the same tree, or the tree with
-- the file's new contents.
use Rattle.std.proofs.Common.{◌≡◌, ◌≢◌, ◌⊎◌, inl, inr, ℕ, ◌++◌, List, [], ◌∷◌, refl, sym, ap, ◌∙◌, cond}
use Rattle.std.specs.Prelude.{Option, Some, None, option_and_then, option_map}
use Rattle.std.specs.FinMap.{get, insert}
use Rattle.fx_item.specs.Item.{ObjectKey, ChildKey, PlainValue, FileValue}
use Rattle.fx_plain.specs.Node.{Node, empty_dir}
use Rattle.fx_plain.specs.Node as plain
use Rattle.fx_plain.specs.Tree.{Tree}
use Rattle.fx_plain.specs.declared.kind.Kind.{Kind}
use Rattle.fx_plain.specs.declared.kind.Kind.TheVariants.{Dir, File}
use Rattle.fx_item.specs.Look.{ItemMap}
use Rattle.fx_namespace.specs.Nodes.{NodeId, root_node, is_root, led_to, child, node_from, node_at, told_kind, object_kind, Stands}
use Rattle.fx_namespace.specs.Trees.{Holdings, IsTreeOf, node_of, shown}
use Rattle.fx_namespace.specs.Changes.{Resizes, SameBut}
use Rattle.fx_namespace.proofs.Walks.{one_path, root_not_led, last_step, same_node, node_path}
use Rattle.fx_plain.proofs.Trees.{Left, left}
use Rattle.fx_namespace.proofs.Trees.{shown_inner}

module _ {m n : ItemMap} {node : NodeId} {old new : ℕ} (r : Resizes m n node old new) where
  same_entry : (y : NodeId) (x : List ℕ) → n (ChildKey y.store y.id x) ≡ m (ChildKey y.store y.id x)
  same_entry y x = r.others (ChildKey y.store y.id x) (λ q. cc)

  same_child : (y : NodeId) (x : List ℕ) → child n y x ≡ child m y x
  same_child y x = ap led_to (same_entry y x)

  and_then_at : {A B : Type 0} (f h : A → Option B) → ((x : A) → f x ≡ h x) → (o : Option A) → option_and_then f o ≡ option_and_then h o
  and_then_at f h k None = refl
  and_then_at f h k (Some x) = k x

  pub same_walk : (q : List (List ℕ)) (y : NodeId) → node_from n y q ≡ node_from m y q
  same_walk [] y = refl
  same_walk (x ∷ q) y =
      ap (option_and_then (λ z. node_from n z q)) (same_child y x) ∙ and_then_at (λ z. node_from n z q) (λ z. node_from m z q) (λ z. same_walk q z) (child m y x)

  kind_by : (y : NodeId) → (y ≡ node) ⊎ (y ≢ node) → object_kind n y ≡ object_kind m y
  kind_by y (inl a) = ap (object_kind n) a ∙ ap told_kind r.after ∙ sym (ap told_kind r.before) ∙ sym (ap (object_kind m) a)
  kind_by y (inr a) = ap told_kind (r.others (ObjectKey y.store y.id) (λ q. a (node_path y node (cc q) (cc q))))

  same_kind : (y : NodeId) → object_kind n y ≡ object_kind m y
  same_kind y = kind_by y (same_node y node)

  had_by : (y : NodeId) (v : PlainValue) → n (ObjectKey y.store y.id) ≡ Some v → (y ≡ node) ⊎ (y ≢ node) → (w : PlainValue) × (m (ObjectKey y.store y.id) ≡ Some w)
  had_by y v e (inl a) = (FileValue old, ap (λ z. m (ObjectKey z.store z.id)) a ∙ r.before)
  had_by y v e (inr a) = (v, sym (r.others (ObjectKey y.store y.id) (λ q. a (node_path y node (cc q) (cc q)))) ∙ e)

  pub stands : Stands m → Stands n
  stands s = record {
    volumes = λ x v e. s.volumes x v (sym (same_entry root_node x) ∙ e);
    inner = λ y x v ne e. s.inner y x v ne (sym (same_entry y x) ∙ e);
    objects = λ y x z e. let o = s.objects y x z (sym (same_child y x) ∙ e) in (o.0, same_kind z ∙ o.1);
    tops = λ x z e. same_kind z ∙ s.tops x z (sym (same_child root_node x) ∙ e);
    parents = λ y x v ne e. same_kind y ∙ s.parents y x v ne (sym (same_entry y x) ∙ e);
    once = λ a b x y z e f. s.once a b x y z (sym (same_child a x) ∙ e) (sym (same_child b y) ∙ f);
    reached = λ y v e. let h = had_by y v e (same_node y node) in let w = s.reached y h.0 h.1 in (w.0, w.1, same_walk (w.0 ++ w.1 ∷ []) root_node ∙ w.2);
    depth = λ q z e. s.depth q z (sym (same_walk q root_node) ∙ e);
  }

  same_shown : (h : Holdings) (y : NodeId) → shown n h y ≡ shown m h y
  same_shown h y = ap (λ k. cond (is_root y) (Some empty_dir) (option_map (node_of h y) k)) (same_kind y)

  pub tree : (h : Holdings) (t : Tree) → IsTreeOf m h t → IsTreeOf n h t
  tree h t a = record {
    at = λ q. a.at q ∙ sym (ap (option_and_then (shown n h)) (same_walk q root_node) ∙ and_then_at (shown n h) (shown m h) (same_shown h) (node_at m q));
  }

  -- ---- with new contents

  module _ {g h : Holdings} (s : Stands m) (b : SameBut node g h) where
    not_root : node ≢ root_node
    not_root is =
        let w = s.reached node (FileValue old) r.before in
        let l = last_step m w.0 w.1 node w.2 in
        root_not_led m s l.0 w.1 (l.2 ∙ ap Some is)

    node_there : (y : NodeId) → y ≢ node → (k : Option Kind) → option_map (node_of h y) k ≡ option_map (node_of g y) k
    node_there y ne None = refl
    node_there y ne (Some Dir) = ap (λ a. Some (plain.Dir a)) (b.attributes y)
    node_there y ne (Some File) = ap (λ c. Some (plain.File c (h.attributes y))) (b.contents y ne) ∙ ap (λ a. Some (plain.File (g.contents y) a)) (b.attributes y)

    shown_there : (y : NodeId) → y ≢ node → shown n h y ≡ shown m g y
    shown_there y ne = ap (λ k. cond (is_root y) (Some empty_dir) k) (ap (option_map (node_of h y)) (same_kind y) ∙ node_there y ne (object_kind m y))

    shown_here : shown n h node ≡ Some (node_of h node File)
    shown_here = shown_inner n h node not_root ∙ ap (option_map (node_of h node)) (ap told_kind r.after)

    module _ (path : List (List ℕ)) (way : node_at m path ≡ Some node) where
      at_other : (q : List (List ℕ)) → q ≢ path → (o : Option NodeId) → node_at m q ≡ o → option_and_then (shown m g) o ≡ option_and_then (shown n h) o
      at_other q ne None e = refl
      at_other q ne (Some y) e = sym (shown_there y (λ is. ne (one_path m s q path node (e ∙ ap Some is) way)))

      pub contents : (t : Tree) → IsTreeOf m g t → IsTreeOf n h (insert t path (node_of h node File))
      contents t a = record { at = λ q. at q (left t path (node_of h node File) q) }
        where
          at : (q : List (List ℕ)) → Left t path (node_of h node File) q → get (insert t path (node_of h node File)) q ≡ option_and_then (shown n h) (node_at n q)
          at q (inl c) = c.1 ∙ sym shown_here ∙ sym (ap (option_and_then (shown n h)) (same_walk q root_node ∙ ap (node_at m) c.0 ∙ way))
          at q (inr c) = c.1 ∙ a.at q ∙ at_other q c.0 (node_at m q) refl ∙ sym (ap (option_and_then (shown n h)) (same_walk q root_node))
