-- Items and contents stand for one tree, and none of its nodes waits in the graveyard.
use Rattle.std.proofs.Common.{◌≡◌, ◌≢◌, ◌++◌, [], ◌∷◌, ℕ, List, refl, sym, ap, ◌∙◌, subst}
use Rattle.std.specs.Prelude.{Option, Some, None}
use Rattle.std.proofs.lemmas.Cmp.{nat_list_cmp_total}
use Rattle.std.specs.FinMap.{same_map, nat_cmp-IsAntisymmetric, slice_cmp-IsAntisymmetric}
use Rattle.fx_item.specs.Item.{ObjectKey, ChildKey, GraveKey, PlainValue}
use Rattle.fx_plain.specs.Node.{Attributes}
use Rattle.fx_plain.specs.Tree.{Tree, IsTree}
use Rattle.fx_plain.specs.declared.kind.Kind.{Kind}
use Rattle.fx_plain.specs.declared.kind.Kind.TheVariants.{Dir}
use Rattle.fx_namespace.specs.Nodes.{NodeId, node_at, root_node, told_kind}
use Rattle.fx_namespace.specs.Trees.{IsTreeOf}
use Rattle.fx_namespace.proofs.Trees.{is_tree, one_tree}
use Rattle.fx_namespace.proofs.Walks.{last_step}
use Rattle.fx_contents.specs.Points.{Points, named, value_under, unless_waiting}
use Rattle.fx_contents.specs.Standing.{AreAttributesOf, holdings_of, StandForTree}
use Rattle.fx_contents.proofs.Amiss.{none_at}

-- the items tell the attributes of each node
pub same_attributes : (m : Points) (a b : NodeId → Attributes) → AreAttributesOf m a → AreAttributesOf m b → a ≡ b
same_attributes m a b p q = λ i node. same_map nat_list_cmp_total (slice_cmp-IsAntisymmetric nat_cmp-IsAntisymmetric)
    (a node) (b node) (λ name. p.at node name ∙ sym (q.at node name)) i

pub one_tree_of : (m : Points) (f : ℕ → List ℕ) (t u : Tree) → StandForTree m f t → StandForTree m f u → t ≡ u
one_tree_of m f t u a b =
    let same = same_attributes m a.attributes b.attributes a.attributes_are b.attributes_are in
    one_tree (named m) (holdings_of m f b.attributes) t u
    (subst (λ x. IsTreeOf (named m) (holdings_of m f x) t) same a.tree_is) b.tree_is

pub tree_of : (m : Points) (f : ℕ → List ℕ) (t : Tree) → StandForTree m f t → IsTree t
tree_of m f t s = is_tree (named m) (holdings_of m f s.attributes) t s.stands s.tree_is

pub not_waiting : (m : Points) (f : ℕ → List ℕ) (t : Tree) (above : List (List ℕ)) (name : List ℕ) (node : NodeId)
    → StandForTree m f t → node_at (named m) (above ++ name ∷ []) ≡ Some node
    → value_under m (GraveKey node.store node.id) ≡ None
not_waiting m f t above name node s way =
    let l = last_step (named m) above name node way in
    let o = s.stands.objects l.0 name node l.2 in
    by (value_under m (GraveKey node.store node.id)) (value_under m (ObjectKey node.store node.id)) o.0 o.1
  where
    by : (grave object : Option PlainValue) (kind : Kind) → told_kind (unless_waiting grave object) ≡ Some kind → grave ≡ None
    by None object kind e = refl
    by (Some v) object kind e = absurd (let q : None ≡ Some kind = e in cc)

-- a node that waits has no children
pub waiting_leaf : (m : Points) (f : ℕ → List ℕ) (t : Tree) (node : NodeId) (name : List ℕ) (grave : PlainValue) → StandForTree m f t
    → value_under m (GraveKey node.store node.id) ≡ Some grave → value_under m (ChildKey node.store node.id name) ≡ None
waiting_leaf m f t node name grave s w = none_at (value_under m (ChildKey node.store node.id name)) child where
  not_root : node ≢ root_node
  not_root is = let q : None ≡ Some grave = sym s.within.root ∙ sym (ap (λ (y : NodeId). value_under m (GraveKey y.store y.id)) is) ∙ w in cc

  hidden : named m (ObjectKey node.store node.id) ≡ None
  hidden = ap (λ g. unless_waiting g (value_under m (ObjectKey node.store node.id))) w

  child : (v : PlainValue) → value_under m (ChildKey node.store node.id name) ≡ Some v → ⊥
  child v e = let q : None ≡ Some Dir = sym (ap told_kind hidden) ∙ s.stands.parents node name v not_root e in cc
