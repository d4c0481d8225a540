-- One node without children less: the items stand again, and their tree has nothing at its path.
use Rattle.std.proofs.Common.{◌≡◌, ◌≢◌, ◌⊎◌, inl, inr, ℕ, List, [], ◌∷◌, ◌++◌, refl, sym, ap, ◌∙◌, cond}
use Rattle.std.specs.Prelude.{Option, Some, None, option_and_then, option_map}
use Rattle.std.specs.Cmp.{tied_itself}
use Rattle.std.specs.FinMap.{get, remove, get-remove}
use Rattle.std.specs.Ordering.{is_eq}
use Rattle.std.specs.declared.cmp.Ordering.{Ordering}
use Rattle.std.specs.declared.cmp.Ordering.TheVariants.{Less, Equal, Greater}
use Rattle.std.proofs.lemmas.Option.{option_and_then_some}
use Rattle.fx_item.specs.Item.{ObjectKey, ChildKey, PlainValue, ChildValue}
use Rattle.fx_item.specs.Look.{ItemMap}
use Rattle.fx_plain.specs.Node.{empty_dir}
use Rattle.fx_plain.specs.Tree.{Tree, path_cmp}
use Rattle.fx_plain.proofs.Paths.{paths_total, paths_exact}
use Rattle.fx_namespace.specs.Nodes.{NodeId, root_node, is_root, led_to, child, node_from, node_at, told_kind, object_kind, Stands}
use Rattle.fx_namespace.specs.Trees.{Holdings, IsTreeOf, node_of, shown}
use Rattle.fx_namespace.proofs.Walks.{child_value, last_step, one_path, same_node, same_name, node_path, more_step}
use Rattle.fx_contents.specs.Removal.{LosesNode}

-- what a removal leaves at a path
abbrev Stays : Tree → List (List ℕ) → List (List ℕ) → Type 0
Stays tree p q = ((q ≡ p) × (get (remove tree p) q ≡ None)) ⊎ ((q ≢ p) × (get (remove tree p) q ≡ get tree q))

less_equal : let a : Ordering = Less in a ≡ Equal → ⊥
less_equal e = cc

greater_equal : let a : Ordering = Greater in a ≡ Equal → ⊥
greater_equal e = cc

stays : (tree : Tree) (p q : List (List ℕ)) → Stays tree p q
stays tree p q = by_order (path_cmp q p) refl
  where
    by_order : (o : Ordering) → path_cmp q p ≡ o → Stays tree p q
    by_order Equal e = inl (paths_exact q p e, get-remove paths_total tree p q ∙ ap (λ o. cond (is_eq o) None (get tree q)) e)
    by_order Less e = inr (λ s. less_equal (sym e ∙ ap (λ x. path_cmp x p) s ∙ tied_itself paths_total p), get-remove paths_total tree p q ∙ ap (λ o. cond (is_eq o) None (get tree q)) e)
    by_order Greater e = inr (λ s. greater_equal (sym e ∙ ap (λ x. path_cmp x p) s ∙ tied_itself paths_total p), get-remove paths_total tree p q ∙ ap (λ o. cond (is_eq o) None (get tree q)) e)

module _ {m n : ItemMap} {parent : NodeId} {name : List ℕ} {node : NodeId} (s : Stands m) (r : LosesNode m n parent name node)
    (leaf : (x : List ℕ) → m (ChildKey node.store node.id x) ≡ None) where
  led : child m parent name ≡ Some node
  led = ap led_to r.entry

  -- an entry that is there stood before, and is another one
  was_by : (y : NodeId) (x : List ℕ) (v : PlainValue) → n (ChildKey y.store y.id x) ≡ Some v → (y ≡ parent) ⊎ (y ≢ parent) → (x ≡ name) ⊎ (x ≢ name) → m (ChildKey y.store y.id x) ≡ Some v
  was_by y x v e (inl a) (inl b) = absurd (let q : None ≡ Some v = sym r.no_entry ∙ sym (ap (λ (z : NodeId). n (ChildKey z.store z.id name)) a) ∙ sym (ap (λ z. n (ChildKey y.store y.id z)) b) ∙ e in cc)
  was_by y x v e (inr a) b = sym (r.others (ChildKey y.store y.id x) (λ q. cc) (λ q. a (node_path y parent (cc q) (cc q)))) ∙ e
  was_by y x v e a (inr b) = sym (r.others (ChildKey y.store y.id x) (λ q. cc) (λ q. b (cc q))) ∙ e

  was : (y : NodeId) (x : List ℕ) (v : PlainValue) → n (ChildKey y.store y.id x) ≡ Some v → m (ChildKey y.store y.id x) ≡ Some v
  was y x v e = was_by y x v e (same_node y parent) (same_name x name)

  was_child : (y : NodeId) (x : List ℕ) (z : NodeId) → child n y x ≡ Some z → child m y x ≡ Some z
  was_child y x z e = ap led_to (was y x (ChildValue z.store z.id) (child_value n y x z e))

  -- no entry leads to the node any more
  unled : (y : NodeId) (x : List ℕ) (z : NodeId) → child n y x ≡ Some z → z ≢ node
  unled y x z e is =
      let o = s.once y parent x name node (was_child y x z e ∙ ap Some is) led in
      let q : None ≡ Some (ChildValue z.store z.id) = sym r.no_entry ∙ sym (ap (λ (w : NodeId). n (ChildKey w.store w.id name)) o.0) ∙ sym (ap (λ w. n (ChildKey y.store y.id w)) o.1) ∙ child_value n y x z e in cc

  same_kind : (y : NodeId) → y ≢ node → object_kind n y ≡ object_kind m y
  same_kind y ne = ap told_kind (r.others (ObjectKey y.store y.id) (λ q. ne (node_path y node (cc q) (cc q))) (λ q. cc))

  -- an entry to another node stays
  stay_by : (y : NodeId) (x : List ℕ) (z : NodeId) → child m y x ≡ Some z → z ≢ node → (y ≡ parent) ⊎ (y ≢ parent) → (x ≡ name) ⊎ (x ≢ name) → child n y x ≡ Some z
  stay_by y x z e ne (inl a) (inl b) = absurd (ne (let q : Some z ≡ Some node = sym e ∙ ap (λ w. child m w x) a ∙ ap (λ w. child m parent w) b ∙ led in cc))
  stay_by y x z e ne (inr a) b = ap led_to (r.others (ChildKey y.store y.id x) (λ q. cc) (λ q. a (node_path y parent (cc q) (cc q)))) ∙ e
  stay_by y x z e ne a (inr b) = ap led_to (r.others (ChildKey y.store y.id x) (λ q. cc) (λ q. b (cc q))) ∙ e

  -- walks
  was_walk : (q : List (List ℕ)) (y z : NodeId) → node_from n y q ≡ Some z → node_from m y q ≡ Some z
  was_walk [] y z e = e
  was_walk (x ∷ q) y z e = option_and_then_some (λ w. node_from n w q) (child n y x) z e (λ w step rest.
      ap (option_and_then (λ v. node_from m v q)) (was_child y x w step) ∙ was_walk q w z rest)

  stuck : (q : List (List ℕ)) (y z : NodeId) → y ≡ node → node_from m y q ≡ Some z → z ≢ node → ⊥
  stuck [] y z is e ne = ne (let q : Some y ≡ Some z = e in let w : y ≡ z = cc q in sym w ∙ is)
  stuck (x ∷ q) y z is e ne =
      let gone : child m y x ≡ None = ap (λ w. child m w x) is ∙ ap led_to (leaf x) in
      let f : None ≡ Some z = sym (ap (option_and_then (λ v. node_from m v q)) gone) ∙ e in cc

  stay_walk : (q : List (List ℕ)) (y z : NodeId) → node_from m y q ≡ Some z → z ≢ node → node_from n y q ≡ Some z
  stay_walk [] y z e ne = e
  stay_walk (x ∷ q) y z e ne = option_and_then_some (λ w. node_from m w q) (child m y x) z e (λ w step rest.
      ap (option_and_then (λ v. node_from n v q)) (stay_by y x w step (λ is. stuck q w z is rest ne) (same_node y parent) (same_name x name)) ∙ stay_walk q w z rest ne)

  not_lost : (y : NodeId) (v : PlainValue) → n (ObjectKey y.store y.id) ≡ Some v → y ≢ node
  not_lost y v e is = let q : None ≡ Some v = sym r.no_object ∙ sym (ap (λ (w : NodeId). n (ObjectKey w.store w.id)) is) ∙ e in cc

  not_parent : (y : NodeId) (x : List ℕ) (v : PlainValue) → n (ChildKey y.store y.id x) ≡ Some v → y ≢ node
  not_parent y x v e is = let q : None ≡ Some v = sym (leaf x) ∙ sym (ap (λ (w : NodeId). m (ChildKey w.store w.id x)) is) ∙ was y x v e in cc

  pub stands : Stands n
  stands = record {
    volumes = λ x v e. s.volumes x v (was root_node x v e);
    inner = λ y x v ne e. s.inner y x v ne (was y x v e);
    objects = λ y x z e. let o = s.objects y x z (was_child y x z e) in (o.0, same_kind z (unled y x z e) ∙ o.1);
    tops = λ x z e. same_kind z (unled root_node x z e) ∙ s.tops x z (was_child root_node x z e);
    parents = λ y x v ne e. same_kind y (not_parent y x v e) ∙ s.parents y x v ne (was y x v e);
    once = λ a b x y z e f. s.once a b x y z (was_child a x z e) (was_child b y z f);
    reached = λ y v e. let ne = not_lost y v e in
        let w = s.reached y v (sym (r.others (ObjectKey y.store y.id) (λ q. ne (node_path y node (cc q) (cc q))) (λ q. cc)) ∙ e) in (w.0, w.1, stay_walk (w.0 ++ w.1 ∷ []) root_node y w.2 ne);
    depth = λ q z e. s.depth q z (was_walk q root_node z e);
  }

  module _ (h g : Holdings) (same : (y : NodeId) → y ≢ node → (node_of g y ≡ node_of h y)) (above : List (List ℕ)) (way : node_at m above ≡ Some parent) where
    way_to : node_at m (above ++ name ∷ []) ≡ Some node
    way_to = more_step m above parent name node way led

    at_path : (o : Option NodeId) → node_at n (above ++ name ∷ []) ≡ o → option_and_then (shown n g) o ≡ None
    at_path None e = refl
    at_path (Some z) e =
        let l = last_step n above name z e in
        let q : Some z ≡ Some node = sym (was_walk (above ++ name ∷ []) root_node z e) ∙ way_to in
        let is : z ≡ node = cc q in
        absurd (unled l.0 name z l.2 is)

    shown_there : (y : NodeId) → y ≢ node → shown n g y ≡ shown m h y
    shown_there y ne = ap (λ k. cond (is_root y) (Some empty_dir) k) (ap (option_map (node_of g y)) (same_kind y ne) ∙ ap (λ f. option_map f (object_kind m y)) (same y ne))

    at_other : (q : List (List ℕ)) → q ≢ above ++ name ∷ [] → (o : Option NodeId) → node_at m q ≡ o → (p : Option NodeId) → node_at n q ≡ p → option_and_then (shown m h) o ≡ option_and_then (shown n g) p
    at_other q ne None e None f = refl
    at_other q ne None e (Some z) f = absurd (let c : None ≡ Some z = sym e ∙ was_walk q root_node z f in cc)
    at_other q ne (Some z) e None f =
        let other : z ≢ node = λ is. ne (one_path m s q (above ++ name ∷ []) node (e ∙ ap Some is) way_to) in
        absurd (let c : None ≡ Some z = sym f ∙ stay_walk q root_node z e other in cc)
    at_other q ne (Some z) e (Some w) f =
        let other : z ≢ node = λ is. ne (one_path m s q (above ++ name ∷ []) node (e ∙ ap Some is) way_to) in
        let c : Some w ≡ Some z = sym f ∙ stay_walk q root_node z e other in
        let is : w ≡ z = cc c in
        sym (ap (shown n g) is ∙ shown_there z other)

    pub tree : (t : Tree) → IsTreeOf m h t → IsTreeOf n g (remove t (above ++ name ∷ []))
    tree t a = record { at = λ q. at q (stays t (above ++ name ∷ []) q) } where
      at : (q : List (List ℕ)) → Stays t (above ++ name ∷ []) q → get (remove t (above ++ name ∷ [])) q ≡ option_and_then (shown n g) (node_at n q)
      at q (inl c) = c.1 ∙ sym (ap (λ x. option_and_then (shown n g) (node_at n x)) c.0 ∙ at_path (node_at n (above ++ name ∷ [])) refl)
      at q (inr c) = c.1 ∙ a.at q ∙ at_other q c.0 (node_at m q) refl (node_at n q) refl
