-- No items at all make the root alone.
use Rattle.std.proofs.Common.{◌≡◌, inl, inr, ℕ, ◌≤◌, List, [], ◌∷◌, length, refl, ◌∙◌, arith}
use Rattle.std.specs.Prelude.{Some, None, option_and_then}
use Rattle.std.specs.FinMap.{get, empty, get-empty}
use Rattle.fx_plain.specs.Node.{empty_dir}
use Rattle.fx_plain.specs.Tree.{path_cmp, root}
use Rattle.fx_item.specs.Look.{ItemMap}
use Rattle.fx_namespace.specs.Nodes.{NodeId, node_at, Stands}
use Rattle.fx_namespace.specs.Trees.{Holdings, IsTreeOf, shown}
use Rattle.fx_plain.proofs.Trees.{Left, left}

abbrev none : ItemMap
none = λ key. None

deep : (q : List (List ℕ)) (y : NodeId) → node_at none q ≡ Some y → length q ≤ 64
deep [] y e = omega arith
deep (x ∷ q) y e = absurd (cc)

pub stands : Stands (λ key. None)
stands = record {
  volumes = λ x v e. absurd (cc);
  inner = λ y x v ne e. absurd (cc);
  objects = λ y x z e. absurd (cc);
  tops = λ x z e. absurd (cc);
  parents = λ y x v ne e. absurd (cc);
  once = λ a b x y z e f. absurd (cc);
  reached = λ y v e. absurd (cc);
  depth = deep;
}

at : (h : Holdings) (q : List (List ℕ)) → Left empty [] empty_dir q → get root q ≡ option_and_then (shown none h) (node_at none q)
at h [] (inl a) = a.1
at h (x ∷ q) (inl a) = absurd (cc a.0)
at h [] (inr a) = absurd (a.0 refl)
at h (x ∷ q) (inr a) = a.1 ∙ get-empty path_cmp (x ∷ q)

pub tree : (h : Holdings) → IsTreeOf (λ key. None) h root
tree h = record { at = λ q. at h q (left empty [] empty_dir q) }
