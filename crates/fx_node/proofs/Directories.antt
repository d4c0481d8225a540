-- Walks and names over items with a graveyard are those of the tree.
use Rattle.std.proofs.Common.{◌≡◌, ℕ, List, [], ◌∷◌, refl, sym, ap, ◌∙◌, cond}
use Rattle.std.specs.Prelude.{Option, Some, None, option_and_then, option_map}
use Rattle.fx_item.specs.Look.{map_of}
use Rattle.fx_item.specs.Overlay.{Said, live_in}
use Rattle.fx_plain.specs.Node.{empty_dir}
use Rattle.fx_plain.specs.Tree.{Tree, children}
use Rattle.fx_namespace.specs.Nodes.{NodeId, child, is_root, node_at, node_from, told_kind}
use Rattle.fx_namespace.specs.Trees.{Holdings, IsTreeOf, node_of, shown}
use Rattle.fx_contents.specs.Points.{named}
use Rattle.fx_contents.specs.Standing.{StandForTree, holdings_of}
use Rattle.fx_dir.specs.Children.{AreChildren}
use Rattle.fx_dir.proofs.TreeNames.{same_children}
use Rattle.fx_node.proofs.Seen.{object_seen}

module _ (said : Said) where
  -- both lead to the same nodes
  same_from : (y : NodeId) (path : List (List ℕ)) → node_from (map_of said) y path ≡ node_from (named (live_in said)) y path
  same_from y [] = refl
  same_from y (x ∷ path) = by (child (map_of said) y x) (λ z. same_from z path)
    where
      by : (o : Option NodeId) → ((z : NodeId) → node_from (map_of said) z path ≡ node_from (named (live_in said)) z path)
          → option_and_then (λ z. node_from (map_of said) z path) o ≡ option_and_then (λ z. node_from (named (live_in said)) z path) o
      by None rest = refl
      by (Some z) rest = rest z

  same_at : (path : List (List ℕ)) → node_at (map_of said) path ≡ node_at (named (live_in said)) path
  same_at path = same_from _ path

  module _ {f : ℕ → List ℕ} {t : Tree} (s : StandForTree (live_in said) f t) where
    abbrev held : Holdings
    held = holdings_of (live_in said) f s.attributes

    seen_by : (path : List (List ℕ)) (o : Option NodeId) → node_at (named (live_in said)) path ≡ o
        → option_and_then (shown (named (live_in said)) held) o ≡ option_and_then (shown (map_of said) held) o
    seen_by path None e = refl
    seen_by path (Some y) e = ap (λ v. cond (is_root y) (Some empty_dir) (option_map (node_of held y) (told_kind v))) (sym (object_seen s path y e))

    pub tree_of_look : IsTreeOf (map_of said) (holdings_of (live_in said) f s.attributes) t
    tree_of_look = record {
      at = λ path. s.tree_is.at path ∙ seen_by path (node_at (named (live_in said)) path) refl ∙ ap (option_and_then (shown (map_of said) held)) (sym (same_at path));
    }

    pub children_of_look : (path : List (List ℕ)) (node : NodeId) → node_at (named (live_in said)) path ≡ Some node → (names : List (List ℕ)) → AreChildren (map_of said) node names → names ≡ children t path
    children_of_look path node way names c = same_children s.stands s.tree_is path way names (record { there = c.there; all = c.all; rising = c.rising })
