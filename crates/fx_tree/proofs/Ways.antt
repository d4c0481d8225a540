-- Walks over what stands, with the graveyard and without: a path leads to no node that waits there.
use Rattle.std.proofs.Common.{◌≡◌, inl, inr, ℕ, List, [], ◌∷◌, ◌++◌, refl, sym, ap, ◌∙◌, cond}
use Rattle.std.specs.Prelude.{Option, Some, None, option_and_then, option_map}
use Rattle.fx_item.specs.Item.{PlainKey, ObjectKey, AttributeKey, ExtentKey, ChildKey, GraveKey, AllocationKey, PlainValue}
use Rattle.fx_plain.specs.Node.{empty_dir}
use Rattle.fx_plain.specs.Tree.{Tree}
use Rattle.fx_plain.specs.declared.kind.Kind.TheVariants.{Dir}
use Rattle.fx_namespace.specs.Nodes.{NodeId, root_node, is_root, child, node_from, node_at, told_kind, object_kind, kind_of}
use Rattle.fx_namespace.specs.Commits.{IsBelow}
use Rattle.fx_namespace.specs.Trees.{Holdings, IsTreeOf, node_of, shown}
use Rattle.fx_namespace.proofs.Walks.{EndsWith, ends_with}
use Rattle.fx_contents.specs.Points.{Points, named, unless_waiting, value_under}
use Rattle.fx_contents.specs.Standing.{StandForTree, holdings_of}
use Rattle.fx_contents.proofs.OneTree.{not_waiting}

pub same_from : (m : Points) (a : NodeId) (path : List (List ℕ)) → node_from (named m) a path ≡ node_from (value_under m) a path
same_from m a [] = refl
same_from m a (name ∷ names) = λ i. option_and_then (λ next. same_from m next names i) (child (value_under m) a name)

pub same_at : (m : Points) (path : List (List ℕ)) → node_at (named m) path ≡ node_at (value_under m) path
same_at m path = same_from m root_node path

shown_value : (grave object : Option PlainValue) (v : PlainValue) → unless_waiting grave object ≡ Some v → object ≡ Some v
shown_value None object v e = e
shown_value (Some g) object v e = absurd (let q : None ≡ Some v = e in cc)

-- what the names see stands
pub named_value : (m : Points) (key : PlainKey) (v : PlainValue) → named m key ≡ Some v → value_under m key ≡ Some v
named_value m (ObjectKey store id) v e = shown_value (value_under m (GraveKey store id)) (value_under m (ObjectKey store id)) v e
named_value m (AttributeKey store id name) v e = absurd (let q : None ≡ Some v = e in cc)
named_value m (ExtentKey store id start stop) v e = absurd (let q : None ≡ Some v = e in cc)
named_value m (ChildKey store id name) v e = e
named_value m (GraveKey store id) v e = absurd (let q : None ≡ Some v = e in cc)
named_value m (AllocationKey start stop) v e = absurd (let q : None ≡ Some v = e in cc)

pub named_below : (m : Points) (id store : ℕ) → IsBelow (value_under m) id store → IsBelow (named m) id store
named_below m id store b = record {
  root_id = b.root_id;
  root_store = b.root_store;
  key = λ key v e. b.key key v (named_value m key v e);
  value = λ key v e. b.value key v (named_value m key v e);
}

module _ {m : Points} {f : ℕ → List ℕ} {t : Tree} (s : StandForTree m f t) where
  same_object : (above : List (List ℕ)) (name : List ℕ) (node : NodeId) → node_at (named m) (above ++ name ∷ []) ≡ Some node → object_kind (named m) node ≡ object_kind (value_under m) node
  same_object above name node way = ap (λ g. told_kind (unless_waiting g (value_under m (ObjectKey node.store node.id)))) (not_waiting m f t above name node s way)

  kind_by : (path : List (List ℕ)) (node : NodeId) → node_at (named m) path ≡ Some node → EndsWith path → kind_of (named m) node ≡ kind_of (value_under m) node
  kind_by path node way (inl is) =
      let q : Some root_node ≡ Some node = sym (ap (node_at (named m)) is) ∙ way in
      let top : root_node ≡ node = cc q in
      sym (ap (kind_of (named m)) top) ∙ ap (kind_of (value_under m)) top
  kind_by path node way (inr k) =
      ap (λ o. cond (is_root node) (Some Dir) o) (same_object k.0 k.1 node (sym (ap (node_at (named m)) k.2) ∙ way))

  -- the kind of a node that a path leads to
  pub same_kind : (path : List (List ℕ)) (node : NodeId) → node_at (named m) path ≡ Some node → kind_of (named m) node ≡ kind_of (value_under m) node
  same_kind path node way = kind_by path node way (ends_with path)

  shown_by : (h : Holdings) (path : List (List ℕ)) (node : NodeId) → node_at (named m) path ≡ Some node → EndsWith path → shown (named m) h node ≡ shown (value_under m) h node
  shown_by h path node way (inl is) =
      let q : Some root_node ≡ Some node = sym (ap (node_at (named m)) is) ∙ way in
      let top : root_node ≡ node = cc q in
      sym (ap (shown (named m) h) top) ∙ ap (shown (value_under m) h) top
  shown_by h path node way (inr k) =
      ap (λ o. cond (is_root node) (Some empty_dir) (option_map (node_of h node) o)) (same_object k.0 k.1 node (sym (ap (node_at (named m)) k.2) ∙ way))

  shown_all : (h : Holdings) (path : List (List ℕ)) (o : Option NodeId) → node_at (named m) path ≡ o → option_and_then (shown (named m) h) o ≡ option_and_then (shown (value_under m) h) o
  shown_all h path None e = refl
  shown_all h path (Some node) e = shown_by h path node e (ends_with path)

  -- the tree is that of what stands, too
  pub seen_tree : IsTreeOf (value_under m) (holdings_of m f s.attributes) t
  seen_tree = record {
    at = λ path. s.tree_is.at path ∙ shown_all (holdings_of m f s.attributes) path (node_at (named m) path) refl
        ∙ ap (option_and_then (shown (value_under m) (holdings_of m f s.attributes))) (same_at m path);
  }
