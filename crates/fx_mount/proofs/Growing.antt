-- The tree of an image, as its nodes are put into it one after another.
use Rattle.std.proofs.Common.{◌≡◌, ◌≢◌, ◌⊎◌, inl, inr, ℕ, ◌+◌, ◌<◌, List, [], ◌∷◌, ◌++◌, length, get_or, refl, sym, ap, subst, ◌∙◌, arith, append-nil, append_assoc}
use Rattle.std.specs.Prelude.{Option, None, Some, Result, Ok, slice_get, option_and_then, option_map}
use Rattle.std.specs.FinMap.{get, insert, empty, get-empty}
use Rattle.std.proofs.lemmas.Bool.{cases_lt}
use Rattle.std.proofs.lemmas.Option.{same_Some, slice_get-get_or, slice_get_within}
use Rattle.fx_item.specs.Look.{ItemMap}
use Rattle.fx_plain.specs.Node.{Attributes, Node, Dir, empty_dir}
use Rattle.fx_plain.specs.Tree.{Tree, IsTree, IsDirAt, path_cmp, root}
use Rattle.fx_plain.specs.Table.{do_step, obstacle, or_else, place, walk, walk_from}
use Rattle.fx_plain.specs.declared.kind.Kind.{Kind}
use Rattle.fx_plain.specs.declared.kind.Kind.TheVariants as kinds
use Rattle.fx_plain.specs.declared.step.Answer.{Answer}
use Rattle.fx_plain.specs.declared.step.Answer.TheVariants.{Done}
use Rattle.fx_plain.specs.declared.step.Refusal.{Refusal}
use Rattle.fx_plain.proofs.Trees.{IsTree-do_step, IsTree-root, left}
use Rattle.fx_namespace.specs.Nodes.{NodeId, Stands, child, node_at, object_kind, root_node}
use Rattle.fx_namespace.specs.Trees.{IsTreeOf, bare, node_of, shown}
use Rattle.fx_namespace.proofs.Trees.{shown_inner}
use Rattle.fx_namespace.proofs.Walks.{child_value, ends_with, last_step, one_path}
use Rattle.fx_nodes.specs.declared.walk.TreeNode.{TreeNode}
use Rattle.fx_nodes.specs.Tree.{AreTreeNodes}
use Rattle.fx_mount.specs.Growing.{AreParentsFirst, HasNodes, HasPaths, MayStand, empty_node}
use Rattle.fx_store.specs.Nodes.{NodeTable}
use Rattle.fx_store.specs.Session.{KnowsNodes, new_step}
use Rattle.fx_store.proofs.Planning as tables

-- ---- ways

-- whatever lies above a directory is one
dirs_above : (tree : Tree) → IsTree tree → (p q : List (List ℕ)) → IsDirAt tree (p ++ q) → IsDirAt tree p
dirs_above tree k p [] d = subst (IsDirAt tree) (append-nil p) d
dirs_above tree k p (x ∷ q) d =
    let next : IsDirAt tree (p ++ x ∷ []) = dirs_above tree k (p ++ x ∷ []) q (subst (IsDirAt tree) (sym (append_assoc p (x ∷ []) q)) d) in
    k.above p x (Dir next.0) next.1

passes : (there : Option Node) (attributes : Attributes) (next : Option Refusal) → there ≡ Some (Dir attributes) → next ≡ None → or_else (obstacle there) next ≡ None
passes there attributes next e f = ap (λ o. or_else (obstacle o) next) e ∙ f

-- nothing stands in the way of a path whose parent is a directory
way_from : (tree : Tree) → IsTree tree → (before rest : List (List ℕ)) (name : List ℕ) → IsDirAt tree (before ++ rest) → walk_from tree before (rest ++ name ∷ []) ≡ None
way_from tree k before [] name d =
    let here : IsDirAt tree before = subst (IsDirAt tree) (append-nil before) d in
    passes (get tree before) here.0 None here.1 refl
way_from tree k before (x ∷ rest) name d =
    let here : IsDirAt tree before = dirs_above tree k before (x ∷ rest) d in
    passes (get tree before) here.0 (walk_from tree (before ++ x ∷ []) (rest ++ name ∷ [])) here.1
    (way_from tree k (before ++ x ∷ []) rest name (subst (IsDirAt tree) (sym (append_assoc before (x ∷ []) rest)) d))

pub way_below : (tree : Tree) → IsTree tree → (above : List (List ℕ)) (name : List ℕ) → IsDirAt tree above → walk tree (above ++ name ∷ []) ≡ None
way_below tree k above name d = way_from tree k [] above name d

-- ---- one step

placed : (tree : Tree) (path : List (List ℕ)) (node : Node) (way : Option Refusal) (there : Option Node) → way ≡ None → there ≡ None → place tree path node way there ≡ (Ok Done, insert tree path node)
placed tree path node None None e f = refl
placed tree path node (Some r) there e f = absurd (cc)
placed tree path node None (Some other) e f = absurd (cc)

made_at : (tree : Tree) (above : List (List ℕ)) (name : List ℕ) (kind : Kind) → walk tree (above ++ name ∷ []) ≡ None → get tree (above ++ name ∷ []) ≡ None → (kind ≡ kinds.File → above ≢ [])
    → do_step tree (new_step kind (above ++ name ∷ [])) ≡ (Ok Done, insert tree (above ++ name ∷ []) (empty_node kind))
made_at tree [] name kinds.Dir way free volume = placed tree (name ∷ []) empty_dir (walk tree (name ∷ [])) (get tree (name ∷ [])) way free
made_at tree (v ∷ vs) name kinds.Dir way free volume = placed tree (v ∷ (vs ++ name ∷ [])) empty_dir (walk tree (v ∷ (vs ++ name ∷ []))) (get tree (v ∷ (vs ++ name ∷ []))) way free
made_at tree [] name kinds.File way free volume = absurd (volume refl refl)
made_at tree (v ∷ []) name kinds.File way free volume = placed tree (v ∷ name ∷ []) (empty_node kinds.File) (walk tree (v ∷ name ∷ [])) (get tree (v ∷ name ∷ [])) way free
made_at tree (v ∷ w ∷ vs) name kinds.File way free volume = placed tree (v ∷ w ∷ (vs ++ name ∷ [])) (empty_node kinds.File) (walk tree (v ∷ w ∷ (vs ++ name ∷ []))) (get tree (v ∷ w ∷ (vs ++ name ∷ []))) way free

pub makes : (tree : Tree) (path : List (List ℕ)) (kind : Kind) → MayStand tree path kind → do_step tree (new_step kind path) ≡ (Ok Done, insert tree path (empty_node kind))
makes tree path kind m =
    subst (λ (p : List (List ℕ)). do_step tree (new_step kind p) ≡ (Ok Done, insert tree p (empty_node kind))) (sym m.path_is)
    (made_at tree m.above m.name kind
    (subst (λ (p : List (List ℕ)). walk tree p ≡ None) m.path_is m.way)
    (subst (λ (p : List (List ℕ)). get tree p ≡ None) m.path_is m.free)
    m.volume)

-- ---- all of them

pub stands_at : {X : Type 0} → (xs : List X) (i : ℕ) (x : X) → i < length xs → x ≡ get_or xs i x → slice_get xs i ≡ Some x
stands_at xs i x lt e = slice_get-get_or xs i x lt ∙ ap Some (sym e)

same_or_before : (n i : ℕ) → i < n + 1 → (i ≡ n) ⊎ (i < n)
same_or_before n i lt = elim (cases_lt i n) [ inl less ↦ inr less | inr more ↦ inl (omega arith) ]

module _ (nodes : List TreeNode) (first : AreParentsFirst nodes) where
  pub none_yet : HasNodes nodes 0 root
  none_yet = record {
    is_tree = IsTree-root;
    listed = λ i x lt got. absurd (omega arith);
    only = λ path node there. elim (left empty [] empty_dir path) [ inl a ↦ inl a.0 | inr a ↦ absurd (cc (sym there ∙ a.1 ∙ get-empty path_cmp path)) ];
  }

  module _ (n : ℕ) (x : TreeNode) (tree : Tree) (got : slice_get nodes n ≡ Some x) (has : HasNodes nodes n tree) where
    parent_dir : (above : List (List ℕ)) (name : List ℕ) → x.path ≡ above ++ name ∷ [] → IsDirAt tree above
    parent_dir [] name e = (_, has.is_tree.top)
    parent_dir (v ∷ vs) name e =
        let p = first.parent n x (v ∷ vs) name got e (λ no. cc) in (
          _,
          subst (λ (path : List (List ℕ)). get tree path ≡ Some empty_dir) p.4
              (has.listed p.0 p.1 p.2 p.3 ∙ ap (λ (k : Kind). Some (empty_node k)) p.5),
        )

    free_yet : (there : Option Node) → get tree x.path ≡ there → there ≡ None
    free_yet None e = refl
    free_yet (Some node) e = elim (has.only x.path node e) [
      | inl empty ↦ absurd (first.named n x got empty)
      | inr other ↦ absurd (let same : other.0 ≡ n = first.once other.0 n other.1 x other.3 got other.4 in omega (arith, other.2))
    ]

    may_by : (above : List (List ℕ)) (name : List ℕ) → x.path ≡ above ++ name ∷ [] → MayStand tree x.path x.kind
    may_by above name e = record {
      above = above;
      name = name;
      path_is = e;
      way = subst (λ (p : List (List ℕ)). walk tree p ≡ None) (sym e) (way_below tree has.is_tree above name (parent_dir above name e));
      free = free_yet (get tree x.path) refl;
      volume = λ file top. cc (sym file ∙ first.volume n x name got (e ∙ ap (λ (a : List (List ℕ)). a ++ name ∷ []) top));
    }

    pub may_stand : MayStand tree x.path x.kind
    may_stand = elim (ends_with x.path) [ inl empty ↦ absurd (first.named n x got empty) | inr last ↦ may_by last.0 last.1 last.2 ]

    stays : IsTree (insert tree x.path (empty_node x.kind))
    stays = subst (λ (r : Result Answer Refusal × Tree). IsTree r.1) (makes tree x.path x.kind may_stand) (IsTree-do_step tree (new_step x.kind x.path) has.is_tree)

    listed_more : (i : ℕ) (y : TreeNode) → i < n + 1 → slice_get nodes i ≡ Some y → get (insert tree x.path (empty_node x.kind)) y.path ≡ Some (empty_node y.kind)
    listed_more i y lt gets = elim (same_or_before n i lt) [
      | inl same ↦
          let is : y ≡ x = same_Some y x (sym gets ∙ ap (slice_get nodes) same ∙ got) in
          elim (left tree x.path (empty_node x.kind) y.path) [
            | inl a ↦ a.1 ∙ ap (λ (z : TreeNode). Some (empty_node z.kind)) (sym is)
            | inr a ↦ absurd (a.0 (ap (λ (z : TreeNode). z.path) is))
          ]
      | inr before ↦ elim (left tree x.path (empty_node x.kind) y.path) [
        | inl a ↦ absurd (let same : i ≡ n = first.once i n y x gets got a.0 in omega (arith, before))
        | inr a ↦ a.1 ∙ has.listed i y before gets
      ]
    ]

    only_more : (path : List (List ℕ)) (node : Node) → get (insert tree x.path (empty_node x.kind)) path ≡ Some node
        → (path ≡ []) ⊎ ((i : ℕ) × (y : TreeNode) × (i < n + 1) × (slice_get nodes i ≡ Some y) × (y.path ≡ path))
    only_more path node there = elim (left tree x.path (empty_node x.kind) path) [
      | inl a ↦ inr (n, x, omega arith, got, sym a.0)
      | inr a ↦ elim (has.only path node (sym a.1 ∙ there)) [
        | inl empty ↦ inl empty
        | inr other ↦ inr (other.0, other.1, omega (arith, other.2), other.3, other.4)
      ]
    ]

    pub one_more : HasNodes nodes (n + 1) (insert tree x.path (empty_node x.kind))
    one_more = record { is_tree = stays; listed = listed_more; only = only_more }

-- ---- the node of each path

pub no_paths : (nodes : List TreeNode) → HasPaths nodes 0 (insert empty [] root_node)
no_paths nodes = record {
  top = elim (tables.left empty [] root_node []) [ inl a ↦ a.1 | inr a ↦ absurd (a.0 refl) ];
  listed = λ i x lt got. absurd (omega arith);
}

pub one_path_more : (nodes : List TreeNode) → AreParentsFirst nodes → (n : ℕ) (x : TreeNode) (table : NodeTable) → slice_get nodes n ≡ Some x → HasPaths nodes n table → HasPaths nodes (n + 1) (insert table x.path x.node)
one_path_more nodes first n x table got has = record {
  top = elim (tables.left table x.path x.node []) [ inl a ↦ absurd (first.named n x got (sym a.0)) | inr a ↦ a.1 ∙ has.top ];
  listed = λ i y lt gets. elim (same_or_before n i lt) [
    | inl same ↦
        let is : y ≡ x = same_Some y x (sym gets ∙ ap (slice_get nodes) same ∙ got) in
        elim (tables.left table x.path x.node y.path) [
          | inl a ↦ a.1 ∙ ap (λ (z : TreeNode). Some z.node) (sym is)
          | inr a ↦ absurd (a.0 (ap (λ (z : TreeNode). z.path) is))
        ]
    | inr before ↦ elim (tables.left table x.path x.node y.path) [
      | inl a ↦ absurd (let same : i ≡ n = first.once i n y x gets got a.0 in omega (arith, before))
      | inr a ↦ a.1 ∙ has.listed i y before gets
    ]
  ];
}

-- ---- the nodes of items that stand

not_empty : (above : List (List ℕ)) (name : List ℕ) → above ++ name ∷ [] ≡ [] → ⊥
not_empty [] name e = cc
not_empty (x ∷ above) name e = cc

bare_empty : (node : NodeId) (kind : Kind) → node_of bare node kind ≡ empty_node kind
bare_empty node kinds.Dir = refl
bare_empty node kinds.File = refl

module _ (m : ItemMap) (nodes : List TreeNode) (stands : Stands m) (listed : AreTreeNodes m nodes) where
  kind_same : (i : ℕ) (x : TreeNode) → slice_get nodes i ≡ Some x → (kind : Kind) → object_kind m x.node ≡ Some kind → x.kind ≡ kind
  kind_same i x got kind e = same_Some x.kind kind (sym (listed.kind i x got) ∙ e)

  parent_first : (i : ℕ) (x : TreeNode) (above : List (List ℕ)) (name : List ℕ) → slice_get nodes i ≡ Some x → x.path ≡ above ++ name ∷ [] → above ≢ []
      → (j : ℕ) × (y : TreeNode) × (j < i) × (slice_get nodes j ≡ Some y) × (y.path ≡ above) × (y.kind ≡ kinds.Dir)
  parent_first i x above name got e some =
      let p = listed.parent i x above name got e some in
      let step = last_step m above name x.node (subst (λ (q : List (List ℕ)). node_at m q ≡ Some x.node) e (listed.node i x got)) in
      let there : node_at m above ≡ Some p.1.node = subst (λ (q : List (List ℕ)). node_at m q ≡ Some p.1.node) p.4 (listed.node p.0 p.1 p.3) in
      let same : p.1.node ≡ step.0 = same_Some p.1.node step.0 (sym there ∙ step.1) in
      let inner : step.0 ≢ root_node = λ r. some (one_path m stands above [] step.0 step.1 (ap Some (sym r))) in
      let dir : object_kind m step.0 ≡ Some kinds.Dir = stands.parents step.0 name _ inner (child_value m step.0 name x.node step.2) in
      (p.0, p.1, p.2, p.3, p.4, kind_same p.0 p.1 p.3 kinds.Dir (ap (object_kind m) same ∙ dir))

  volume_first : (i : ℕ) (x : TreeNode) (name : List ℕ) → slice_get nodes i ≡ Some x → x.path ≡ name ∷ [] → x.kind ≡ kinds.Dir
  volume_first i x name got e =
      let step = last_step m [] name x.node (subst (λ (q : List (List ℕ)). node_at m q ≡ Some x.node) e (listed.node i x got)) in
      let top : child m root_node name ≡ Some x.node = ap (λ (y : NodeId). child m y name) (same_Some root_node step.0 step.1) ∙ step.2 in
      kind_same i x got kinds.Dir (stands.tops name x.node top)

  pub parents_first : AreParentsFirst nodes
  parents_first = record { once = listed.once; named = listed.named; parent = parent_first; volume = volume_first }

  module _ (tree : Tree) (has : HasNodes nodes (length nodes) tree) where
    inner_node : (above : List (List ℕ)) (name : List ℕ) (node : NodeId) → node_at m (above ++ name ∷ []) ≡ Some node → node ≢ root_node
    inner_node above name node way is = not_empty above name (one_path m stands (above ++ name ∷ []) [] root_node (way ∙ ap Some is) refl)

    led : (above : List (List ℕ)) (name : List ℕ) (found : Option NodeId) → node_at m (above ++ name ∷ []) ≡ found → get tree (above ++ name ∷ []) ≡ option_and_then (shown m bare) found
    led above name (Some node) e =
        let w = listed.whole above name node e in
        let there : node_at m (above ++ name ∷ []) ≡ Some w.1.node = subst (λ (q : List (List ℕ)). node_at m q ≡ Some w.1.node) w.3 (listed.node w.0 w.1 w.2) in
        let same : w.1.node ≡ node = same_Some w.1.node node (sym there ∙ e) in
        let kind : object_kind m node ≡ Some w.1.kind = ap (object_kind m) (sym same) ∙ listed.kind w.0 w.1 w.2 in
        subst (λ (q : List (List ℕ)). get tree q ≡ Some (empty_node w.1.kind)) w.3 (has.listed w.0 w.1 (slice_get_within nodes w.0 w.1 w.2) w.2)
        ∙ sym (shown_inner m bare node (inner_node above name node e) ∙ ap (option_map (node_of bare node)) kind ∙ ap Some (bare_empty node w.1.kind))
    led above name None e = nothing (get tree (above ++ name ∷ [])) refl
      where
        nothing : (there : Option Node) → get tree (above ++ name ∷ []) ≡ there → there ≡ None
        nothing None f = refl
        nothing (Some other) f = elim (has.only (above ++ name ∷ []) other f) [
          | inl empty ↦ absurd (not_empty above name empty)
          | inr at ↦ absurd (cc (sym e ∙ subst (λ (q : List (List ℕ)). node_at m q ≡ Some at.1.node) at.4 (listed.node at.0 at.1 at.3)))
        ]

    at : (path : List (List ℕ)) → get tree path ≡ option_and_then (shown m bare) (node_at m path)
    at path = elim (ends_with path) [
      | inl empty ↦ subst (λ (q : List (List ℕ)). get tree q ≡ option_and_then (shown m bare) (node_at m q)) (sym empty) has.is_tree.top
      | inr last ↦ subst (λ (q : List (List ℕ)). get tree q ≡ option_and_then (shown m bare) (node_at m q)) (sym last.2) (led last.0 last.1 (node_at m (last.0 ++ last.1 ∷ [])) refl)
    ]

    pub tree_is : IsTreeOf m bare tree
    tree_is = record { at = at }

  pub knows_nodes : (table : NodeTable) → HasPaths nodes (length nodes) table → KnowsNodes m table
  knows_nodes table has = record {
    knows = λ path node way. elim (ends_with path) [
      | inl empty ↦ ap (get table) empty ∙ has.top ∙ sym (ap (node_at m) empty) ∙ way
      | inr last ↦
          let w = listed.whole last.0 last.1 node (ap (node_at m) (sym last.2) ∙ way) in
          let same : w.1.path ≡ path = w.3 ∙ sym last.2 in
          ap (get table) (sym same) ∙ has.listed w.0 w.1 (slice_get_within nodes w.0 w.1 w.2) w.2 ∙ sym (listed.node w.0 w.1 w.2) ∙ ap (node_at m) same ∙ way
    ];
  }
