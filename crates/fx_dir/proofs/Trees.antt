-- A walk over items meets what the walk of their tree meets.
use Rattle.std.proofs.Common.{◌≡◌, ℕ, ◌<◌, ◌++◌, List, [], ◌∷◌, length, take, refl, sym, ap, ◌∙◌, arith, get_or, Bool, true, false, cond, zero, suc, append_assoc}
use Rattle.std.specs.Prelude.{Option, Some, None, slice_get, option_map, option_and_then}
use Rattle.std.specs.FinMap.{get}
use Rattle.std.proofs.lemmas.List.{append-nil}
use Rattle.std.proofs.lemmas.Option.{slice_get-get_or}
use Rattle.fx_item.specs.Look.{ItemMap}
use Rattle.fx_item.specs.declared.lock.LockKey.{LockKey}
use Rattle.fx_plain.specs.Node as plain
use Rattle.fx_plain.specs.Table.{obstacle, or_else, walk_from}
use Rattle.fx_plain.specs.Tree.{Tree}
use Rattle.fx_plain.specs.declared.kind.Kind.{Kind}
use Rattle.fx_plain.specs.declared.kind.Kind.TheVariants.{Dir, File}
use Rattle.fx_plain.specs.declared.step.Refusal.{Refusal}
use Rattle.fx_namespace.specs.Nodes.{is_root, kind_at, kind_of, node_at, object_kind, root_node}
use Rattle.fx_namespace.specs.Trees.{Holdings, IsTreeOf, node_of, shown}
use Rattle.fx_dir.specs.declared.walk.WalkEnd.{WalkEnd}
use Rattle.fx_dir.specs.declared.walk.WalkEnd.TheVariants.{Node, Missing, Stopped}
use Rattle.fx_dir.specs.Walk.{EndsAfter, EndsInTree, GoesThrough, kind_in_tree, refusal_of}

-- ---- the walk of a tree, by what stands in the way at each front of the path

no_obstacle : (tree : Tree) (before rest : List (List ℕ)) → ((j : ℕ) → j < length rest → obstacle (get tree (before ++ take j rest)) ≡ None) → walk_from tree before rest ≡ None
no_obstacle tree before [] free = refl
no_obstacle tree before (x ∷ rest) free =
    let here : obstacle (get tree before) ≡ None = ap (λ p. obstacle (get tree p)) (sym (append-nil before)) ∙ free 0 (omega arith) in
    let below = no_obstacle tree (before ++ x ∷ []) rest (λ j less. ap (λ p. obstacle (get tree p)) (append_assoc before (x ∷ []) (take j rest)) ∙ free (suc j) (omega arith)) in
    ap (λ o. or_else o (walk_from tree (before ++ x ∷ []) rest)) here ∙ below

first_obstacle : (tree : Tree) (before rest : List (List ℕ)) (i : ℕ) (refusal : Refusal) → i < length rest → ((j : ℕ) → j < i → obstacle (get tree (before ++ take j rest)) ≡ None)
    → obstacle (get tree (before ++ take i rest)) ≡ Some refusal → walk_from tree before rest ≡ Some refusal
first_obstacle tree before [] i refusal less free is = absurd (omega arith)
first_obstacle tree before (x ∷ rest) zero refusal less free is =
    ap (λ o. or_else o (walk_from tree (before ++ x ∷ []) rest)) (ap (λ p. obstacle (get tree p)) (sym (append-nil before)) ∙ is)
first_obstacle tree before (x ∷ rest) (suc i) refusal less free is =
    let here : obstacle (get tree before) ≡ None = ap (λ p. obstacle (get tree p)) (sym (append-nil before)) ∙ free 0 (omega arith) in
    let below = first_obstacle tree (before ++ x ∷ []) rest i refusal (omega arith)
    (λ j l. ap (λ p. obstacle (get tree p)) (append_assoc before (x ∷ []) (take j rest)) ∙ free (suc j) (omega arith))
    (ap (λ p. obstacle (get tree p)) (append_assoc before (x ∷ []) (take i rest)) ∙ is) in
    ap (λ o. or_else o (walk_from tree (before ++ x ∷ []) rest)) here ∙ below

-- ---- the kinds in the tree are those of the nodes

shown_kind : (h : Holdings) (y : LockKey) (b : Bool) (o : Option Kind) → option_map kind_in_tree (cond b (Some plain.empty_dir) (option_map (node_of h y) o)) ≡ cond b (Some Dir) o
shown_kind h y true o = refl
shown_kind h y false None = refl
shown_kind h y false (Some Dir) = refl
shown_kind h y false (Some File) = refl

map_then : {A B C : Type 0} (f : B → C) (g : A → Option B) (k : A → Option C) → ((x : A) → option_map f (g x) ≡ k x) → (o : Option A) → option_map f (option_and_then g o) ≡ option_and_then k o
map_then f g k e None = refl
map_then f g k e (Some x) = e x

obstacle_kind : (o : Option plain.Node) → obstacle o ≡ refusal_of (option_map kind_in_tree o)
obstacle_kind None = refl
obstacle_kind (Some (plain.Dir attributes)) = refl
obstacle_kind (Some (plain.File contents attributes)) = refl

no_node : (o : Option plain.Node) → option_map kind_in_tree o ≡ None → o ≡ None
no_node None e = refl
no_node (Some x) e = absurd (cc)

module _ {m : ItemMap} {h : Holdings} {tree : Tree} (t : IsTreeOf m h tree) where
  pub tree_kind : (path : List (List ℕ)) → option_map kind_in_tree (get tree path) ≡ kind_at m path
  tree_kind path = ap (option_map kind_in_tree) (t.at path) ∙ map_then kind_in_tree (shown m h) (kind_of m) (λ y. shown_kind h y (is_root y) (object_kind m y)) (node_at m path)

  obstacle_at : (path : List (List ℕ)) → obstacle (get tree path) ≡ refusal_of (kind_at m path)
  obstacle_at path = obstacle_kind (get tree path) ∙ ap refusal_of (tree_kind path)

  module _ (path : List (List ℕ)) (dirs : List LockKey) (p : GoesThrough m path dirs) where
    free_at : (j : ℕ) → j < length dirs → obstacle (get tree (take j path)) ≡ None
    free_at j less =
        let dir = get_or dirs j root_node in
        let is : slice_get dirs j ≡ Some dir = slice_get-get_or dirs j root_node less in
        obstacle_at (take j path) ∙ ap refusal_of (ap (option_and_then (kind_of m)) (p.node j dir is) ∙ p.kind j dir is)

    pub in_tree : (end : WalkEnd) → EndsAfter m path (length dirs) end → EndsInTree tree path end
    in_tree (Node node kind) e =
        (no_obstacle tree [] path (λ j less. free_at j (omega (arith, e.0))), tree_kind path ∙ ap (option_and_then (kind_of m)) e.1 ∙ e.2)
    in_tree Missing e =
        (no_obstacle tree [] path (λ j less. free_at j (omega (arith, e.0))), no_node (get tree path) (tree_kind path ∙ e.1))
    in_tree (Stopped refusal) e =
        first_obstacle tree [] path (length dirs) refusal e.0 (λ j less. free_at j less) (obstacle_at (take (length dirs) path) ∙ e.1)
