-- What lies in the tree where paths lead, and what stands in the way.
use Rattle.std.proofs.Common.{◌≡◌, ◌≢◌, ◌⊎◌, inl, inr, ℕ, List, [], ◌∷◌, ◌++◌, refl, sym, ap, ◌∙◌, cond}
use Rattle.std.specs.Prelude.{Option, Some, None, option_and_then, option_map}
use Rattle.std.specs.FinMap.{get}
use Rattle.std.proofs.lemmas.Option.{option_and_then_some}
use Rattle.fx_item.specs.Item.{ChildKey}
use Rattle.fx_item.specs.Look.{ItemMap}
use Rattle.fx_plain.specs.Node.{Attributes, Node, empty_dir}
use Rattle.fx_plain.specs.Node as plain
use Rattle.fx_plain.specs.Table.{obstacle, or_else, walk, walk_from}
use Rattle.fx_plain.specs.Tree.{Tree}
use Rattle.fx_plain.specs.declared.kind.Kind.{Kind}
use Rattle.fx_plain.specs.declared.kind.Kind.TheVariants.{Dir}
use Rattle.fx_namespace.specs.Nodes.{NodeId, Stands, root_node, led_to, child, node_from, node_at, object_kind, kind_of}
use Rattle.fx_namespace.specs.Trees.{Holdings, IsTreeOf, node_of, shown}
use Rattle.fx_namespace.proofs.Commits.{nothing_there}
use Rattle.fx_namespace.proofs.Trees.{shown_inner}
use Rattle.fx_namespace.proofs.Walks.{child_value, more_step, node_from-append, root_is, root_not, root_not_led, same_node}

-- one more step
pub step_at : (m : ItemMap) (q : List (List ℕ)) (x : List ℕ) → node_at m (q ++ x ∷ []) ≡ option_and_then (λ y. child m y x) (node_at m q)
step_at m q x = node_from-append m root_node q (x ∷ []) ∙ last (node_at m q)
  where
    again : (o : Option NodeId) → option_and_then (λ z. Some z) o ≡ o
    again None = refl
    again (Some z) = refl

    last : (o : Option NodeId) → option_and_then (λ z. node_from m z (x ∷ [])) o ≡ option_and_then (λ y. child m y x) o
    last None = refl
    last (Some z) = again (child m z x)

pub free_step : (m : ItemMap) (above : List (List ℕ)) (parent : NodeId) (name : List ℕ) → node_at m above ≡ Some parent → m (ChildKey parent.store parent.id name) ≡ None
    → (rest : List (List ℕ)) → node_at m ((above ++ name ∷ []) ++ rest) ≡ None
free_step m above parent name way free rest =
    node_from-append m root_node (above ++ name ∷ []) rest
    ∙ ap (option_and_then (λ z. node_from m z rest)) (step_at m above name ∙ ap (option_and_then (λ y. child m y name)) way ∙ ap led_to free)

module _ {m : ItemMap} {h : Holdings} {t : Tree} (s : Stands m) (is : IsTreeOf m h t) where
  shown_at : (path : List (List ℕ)) (y : NodeId) → node_at m path ≡ Some y → get t path ≡ shown m h y
  shown_at path y e = is.at path ∙ ap (option_and_then (shown m h)) e

  dir_by : (y : NodeId) → kind_of m y ≡ Some Dir → (y ≡ root_node) ⊎ (y ≢ root_node) → (attributes : Attributes) × (shown m h y ≡ Some (plain.Dir attributes))
  dir_by y e (inl top) = (_, ap (λ b. cond b (Some empty_dir) (option_map (node_of h y) (object_kind m y))) (root_is y top))
  dir_by y e (inr inner) = (h.attributes y, shown_inner m h y inner ∙ ap (option_map (node_of h y)) (sym (ap (λ b. cond b (Some Dir) (object_kind m y)) (root_not y inner)) ∙ e))

  pub dir_at : (path : List (List ℕ)) (y : NodeId) → node_at m path ≡ Some y → kind_of m y ≡ Some Dir → (attributes : Attributes) × (get t path ≡ Some (plain.Dir attributes))
  dir_at path y e k = let d = dir_by y k (same_node y root_node) in (d.0, shown_at path y e ∙ d.1)

  no_obstacle : (path : List (List ℕ)) (y : NodeId) → node_at m path ≡ Some y → kind_of m y ≡ Some Dir → obstacle (get t path) ≡ None
  no_obstacle path y e k = let d = dir_at path y e k in ap obstacle d.1

  parent_kind : (y : NodeId) (x : List ℕ) (z : NodeId) → child m y x ≡ Some z → (y ≡ root_node) ⊎ (y ≢ root_node) → kind_of m y ≡ Some Dir
  parent_kind y x z e (inl top) = ap (λ b. cond b (Some Dir) (object_kind m y)) (root_is y top)
  parent_kind y x z e (inr inner) = ap (λ b. cond b (Some Dir) (object_kind m y)) (root_not y inner) ∙ s.parents y x _ inner (child_value m y x z e)

  -- what has a child is a directory
  pub parent_dir : (y : NodeId) (x : List ℕ) (z : NodeId) → child m y x ≡ Some z → kind_of m y ≡ Some Dir
  parent_dir y x z e = parent_kind y x z e (same_node y root_node)

  -- a path below a directory that is led to is walked
  walked_from : (before rest : List (List ℕ)) (y parent : NodeId) (name : List ℕ) → node_at m before ≡ Some y → node_from m y rest ≡ Some parent → kind_of m parent ≡ Some Dir
      → walk_from t before (rest ++ name ∷ []) ≡ None
  walked_from before [] y parent name a b k = ap (λ o. or_else o None) (no_obstacle before parent (a ∙ b) k)
  walked_from before (x ∷ rest) y parent name a b k = option_and_then_some (λ z. node_from m z rest) (child m y x) parent b (λ z e c.
      ap (λ o. or_else o (walk_from t (before ++ x ∷ []) (rest ++ name ∷ []))) (no_obstacle before y a (parent_dir y x z e))
      ∙ walked_from (before ++ x ∷ []) rest z parent name (more_step m before y x z a e) c k)

  pub walked : (above : List (List ℕ)) (parent : NodeId) (name : List ℕ) → node_at m above ≡ Some parent → kind_of m parent ≡ Some Dir → walk t (above ++ name ∷ []) ≡ None
  walked above parent name a k = walked_from [] above root_node parent name refl a k

  pub nothing_at : (above : List (List ℕ)) (parent : NodeId) (name : List ℕ) → node_at m above ≡ Some parent → m (ChildKey parent.store parent.id name) ≡ None
      → (rest : List (List ℕ)) → get t ((above ++ name ∷ []) ++ rest) ≡ None
  nothing_at above parent name way free rest = nothing_there m h t is ((above ++ name ∷ []) ++ rest) (free_step m above parent name way free rest)

  -- what a child leads to lies there
  pub lies_at : (above : List (List ℕ)) (parent : NodeId) (name : List ℕ) (node : NodeId) → node_at m above ≡ Some parent → child m parent name ≡ Some node
      → (kind : Kind) × (object_kind m node ≡ Some kind) × (get t (above ++ name ∷ []) ≡ Some (node_of h node kind))
  lies_at above parent name node way e =
      let k = s.objects parent name node e in (
        k.0,
        k.1,
        shown_at (above ++ name ∷ []) node (more_step m above parent name node way e)
            ∙ shown_inner m h node (λ top. root_not_led m s parent name (e ∙ ap Some top)) ∙ ap (option_map (node_of h node)) k.1,
      )
