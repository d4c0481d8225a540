-- The tree of items: it is one, and a tree.
use Rattle.std.proofs.Common.{◌≡◌, ◌≢◌, ◌⊎◌, inl, inr, ℕ, ◌++◌, List, [], ◌∷◌, sym, ap, ◌∙◌, cond}
use Rattle.std.specs.Prelude.{Some, option_and_then, option_map}
use Rattle.std.specs.FinMap.{empty, same_map}
use Rattle.std.proofs.lemmas.Option.{option_and_then_some}
use Rattle.fx_plain.specs.Node.{Dir, empty_dir}
use Rattle.fx_plain.specs.Tree.{IsTree, Tree}
use Rattle.fx_plain.proofs.Paths.{paths_total, paths_exact}
use Rattle.fx_item.specs.Look.{ItemMap}
use Rattle.fx_namespace.specs.Nodes.{NodeId, root_node, child, node_at, object_kind, Stands}
use Rattle.fx_namespace.specs.Trees.{Holdings, IsTreeOf, node_of, shown}
use Rattle.fx_namespace.proofs.Walks.{child_value, last_step, same_node, root_is, root_not}

pub one_tree : (m : ItemMap) (h : Holdings) (t u : Tree) → IsTreeOf m h t → IsTreeOf m h u → t ≡ u
one_tree m h t u a b = same_map paths_total paths_exact t u (λ q. a.at q ∙ sym (b.at q))

-- what is shown at a node that is not the root
pub shown_inner : (m : ItemMap) (h : Holdings) (y : NodeId) → y ≢ root_node → shown m h y ≡ option_map (node_of h y) (object_kind m y)
shown_inner m h y ne = ap (λ b. cond b (Some empty_dir) (option_map (node_of h y) (object_kind m y))) (root_not y ne)

-- a parent is shown as a directory
dir_shown : (m : ItemMap) (h : Holdings) → Stands m → (y x : NodeId) (name : List ℕ) → child m y name ≡ Some x → (attributes : _) × (shown m h y ≡ Some (Dir attributes))
dir_shown m h s y x name e = by_node (same_node y root_node)
  where
    by_node : (y ≡ root_node) ⊎ (y ≢ root_node) → (attributes : _) × (shown m h y ≡ Some (Dir attributes))
    by_node (inl is) = (empty, ap (λ b. cond b (Some empty_dir) (option_map (node_of h y) (object_kind m y))) (root_is y is))
    by_node (inr ne) = (h.attributes y, shown_inner m h y ne ∙ ap (option_map (node_of h y)) (s.parents y name _ ne (child_value m y name x e)))

pub is_tree : (m : ItemMap) (h : Holdings) (t : Tree) → Stands m → IsTreeOf m h t → IsTree t
is_tree m h t s a = record {
  top = a.at [];
  above = λ path name there e. option_and_then_some (shown m h) (node_at m (path ++ name ∷ [])) there (sym (a.at (path ++ name ∷ [])) ∙ e) (λ x way seen.
      let l = last_step m path name x way in
      let d = dir_shown m h s l.0 x name l.2 in
      (d.0, a.at path ∙ ap (option_and_then (shown m h)) l.1 ∙ d.1));
}
