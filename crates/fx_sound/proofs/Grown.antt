-- Where nothing is amiss there is a tree: the nodes of its paths, put together, with what they hold.
use Rattle.std.proofs.Common.{◌≡◌, ◌≢◌, ◌⊎◌, inl, inr, ℕ, Bool, true, false, cond, List, [], ◌∷◌, ◌++◌, refl, sym, ap, subst, ◌∙◌}
use Rattle.std.specs.Prelude.{Option, Some, None, option_and_then, option_map, slice_get}
use Rattle.std.specs.FinMap as map
use Rattle.std.specs.FinMap.{get, insert, empty, get-empty, get-insert, nat_cmp-IsAntisymmetric, slice_cmp-IsAntisymmetric}
use Rattle.std.specs.Cmp.{tied_itself}
use Rattle.std.specs.Ordering.{is_eq}
use Rattle.std.proofs.lemmas.Cmp.{nat_list_cmp_total}
use Rattle.fx_base.proofs.TotalOrders.{apart_no_tie}
use Rattle.fx_item.specs.Item.{AttributeKey, GraveKey, PlainKey, ObjectKey, ExtentKey, ChildKey, AllocationKey, PlainValue, GoneValue, DirectoryValue, FileValue, AttributeValue, ChildValue, WaitingValue, ExtentValue, TakenValue, PlainItem, Suits}
use Rattle.fx_item.specs.Look.{ItemMap, is_gone, value_in}
use Rattle.fx_item.specs.Name.{name_cmp}
use Rattle.fx_plain.specs.Node.{Attributes, Node, empty_dir}
use Rattle.fx_plain.specs.Tree.{Tree, root}
use Rattle.fx_plain.specs.declared.path.TheConstants.{MAX_NAMES}
use Rattle.fx_plain.proofs.Trees.{left}
use Rattle.fx_namespace.specs.Nodes.{NodeId, Stands, node_at, object_kind, root_node}
use Rattle.fx_namespace.specs.Trees.{Holdings, IsTreeOf, node_of, shown}
use Rattle.fx_namespace.proofs.Trees.{shown_inner}
use Rattle.fx_namespace.proofs.Walks.{ends_with, one_path, same_name, same_node}
use Rattle.fx_nodes.specs.Lists.{IsIn}
use Rattle.fx_nodes.specs.Tree.{AreTreeNodes, levels}
use Rattle.fx_nodes.specs.declared.walk.TreeNode.{TreeNode}
use Rattle.fx_nodes.proofs.NothingWrong as names
use Rattle.fx_nodes.proofs.Keys.{item_keys}
use Rattle.fx_nodes.proofs.Tree.{are_tree_nodes, at_in, in_at}
use Rattle.fx_contents.specs.Amiss.{IsAmissAt, NamesAmiss}
use Rattle.fx_contents.specs.Points.{Points, attribute_at, named, text_in, unless_waiting, value_under}
use Rattle.fx_contents.specs.Standing.{AreAttributesOf, StandForTree, holdings_of}
use Rattle.fx_contents.proofs.Amiss.{all_on_disk, all_within}
use Rattle.fx_sound.specs.Image.{AreStanding, PlainImage, points_in}
use Rattle.fx_sound.specs.Parts.{HasTree}
use Rattle.fx_sound.specs.Faults.{HasNoBadNode}
use Rattle.fx_sound.proofs.Listed.{alive_in, good_in, value_listed, value_stands}
use Rattle.fx_sound.proofs.Named.{keys_listed, live_names, names_in, names_kept, names_map}

not_empty : (above : List (List ℕ)) (name : List ℕ) → above ++ name ∷ [] ≡ [] → ⊥
not_empty [] name e = cc
not_empty (x ∷ above) name e = cc

-- ---- a tree of nodes

pub grown : (TreeNode → Node) → List TreeNode → Tree
grown show [] = root
grown show (x ∷ xs) = insert (grown show xs) x.path (show x)

-- what lies at a path is that of a node with this path, or of the root
abbrev Grown : (TreeNode → Node) → List TreeNode → List (List ℕ) → Type 0
Grown show xs q = ((y : TreeNode) × IsIn xs y × (y.path ≡ q) × (get (grown show xs) q ≡ Some (show y)))
    ⊎ (((y : TreeNode) → IsIn xs y → y.path ≢ q) × (get (grown show xs) q ≡ get root q))

grown_at : (show : TreeNode → Node) (xs : List TreeNode) (q : List (List ℕ)) → Grown show xs q
unfolding grown
grown_at show [] q = inr (λ y i. absurd i, refl)
grown_at show (x ∷ xs) q = elim (left (grown show xs) x.path (show x) q) [
  | inl a ↦ inl (x, inl refl, sym a.0, a.1)
  | inr a ↦ elim (grown_at show xs q) [
    | inl b ↦ inl (b.0, inr b.1, b.2, a.1 ∙ b.3)
    | inr b ↦ inr (λ y i. elim i [ inl e ↦ λ f. a.0 (sym (ap (λ (z : TreeNode). z.path) e ∙ f)) | inr j ↦ b.0 y j ], a.1 ∙ b.1)
  ]
]

root_at : get root [] ≡ Some empty_dir
root_at = elim (left empty [] empty_dir []) [ inl a ↦ a.1 | inr a ↦ absurd (a.0 refl) ]

root_none : (q : List (List ℕ)) → q ≢ [] → get root q ≡ None
root_none q ne = elim (left empty [] empty_dir q) [ inl a ↦ absurd (ne a.0) | inr a ↦ a.1 ∙ get-empty _ q ]

module _ (m : ItemMap) (h : Holdings) (nodes : List TreeNode) (stands : Stands m) (listed : AreTreeNodes m nodes) where
  show : TreeNode → Node
  show x = node_of h x.node x.kind

  inner : (above : List (List ℕ)) (name : List ℕ) (node : NodeId) → node_at m (above ++ name ∷ []) ≡ Some node → node ≢ root_node
  inner above name node way is = not_empty above name (one_path m stands (above ++ name ∷ []) [] root_node (way ∙ ap Some is) refl)

  here : (x : TreeNode) → IsIn nodes x → (node_at m x.path ≡ Some x.node) × (object_kind m x.node ≡ Some x.kind)
  here x i = let k = at_in nodes x i in (listed.node k.0 x k.2, listed.kind k.0 x k.2)

  shown_at : (above : List (List ℕ)) (name : List ℕ) (x : TreeNode) → IsIn nodes x → x.path ≡ above ++ name ∷ []
      → option_and_then (shown m h) (node_at m (above ++ name ∷ [])) ≡ Some (node_of h x.node x.kind)
  shown_at above name x i e =
      let k = here x i in
      let way : node_at m (above ++ name ∷ []) ≡ Some x.node = ap (node_at m) (sym e) ∙ k.0 in
      ap (option_and_then (shown m h)) way ∙ shown_inner m h x.node (inner above name x.node way) ∙ ap (option_map (node_of h x.node)) k.1

  last_at : (above : List (List ℕ)) (name : List ℕ) (found : Option NodeId) → node_at m (above ++ name ∷ []) ≡ found
      → Grown (λ (x : TreeNode). node_of h x.node x.kind) nodes (above ++ name ∷ [])
      → get (grown (λ (x : TreeNode). node_of h x.node x.kind) nodes) (above ++ name ∷ []) ≡ option_and_then (shown m h) (node_at m (above ++ name ∷ []))
  last_at above name found e (inl g) = g.3 ∙ sym (shown_at above name g.0 g.1 g.2)
  last_at above name None e (inr g) = g.1 ∙ root_none (above ++ name ∷ []) (not_empty above name) ∙ sym (ap (option_and_then (shown m h)) e)
  last_at above name (Some node) e (inr g) = let w = listed.whole above name node e in absurd (g.0 w.1 (in_at nodes w.0 w.1 w.2) w.3)

  first_at : Grown (λ (x : TreeNode). node_of h x.node x.kind) nodes [] → get (grown (λ (x : TreeNode). node_of h x.node x.kind) nodes) [] ≡ Some empty_dir
  first_at (inl g) = let k = at_in nodes g.0 g.1 in absurd (listed.named k.0 g.0 k.2 g.2)
  first_at (inr g) = g.1 ∙ root_at

  pub grown_tree : IsTreeOf m h (grown (λ (x : TreeNode). node_of h x.node x.kind) nodes)
  grown_tree = record {
    at = λ path. elim (ends_with path) [
      | inl none ↦ subst (λ (q : List (List ℕ)). get (grown (λ (x : TreeNode). node_of h x.node x.kind) nodes) q ≡ option_and_then (shown m h) (node_at m q)) (sym none)
          (first_at (grown_at (λ (x : TreeNode). node_of h x.node x.kind) nodes []))
      | inr last ↦ subst (λ (q : List (List ℕ)). get (grown (λ (x : TreeNode). node_of h x.node x.kind) nodes) q ≡ option_and_then (shown m h) (node_at m q)) (sym last.2)
          (last_at last.0 last.1 (node_at m (last.0 ++ last.1 ∷ [])) refl (grown_at (λ (x : TreeNode). node_of h x.node x.kind) nodes (last.0 ++ last.1 ∷ [])))
    ];
  }

-- ---- attributes

-- what one item adds to the attributes of a node
marked_by : NodeId → PlainKey → PlainValue → Attributes → Attributes
marked_by node (AttributeKey s i name) (AttributeValue text) old = elim (same_node (record { store = s; id = i }) node) [ inl e ↦ insert old name text | inr e ↦ old ]
marked_by node k v old = old

marks : NodeId → List PlainItem → Attributes
marks node [] = empty
marks node (x ∷ xs) = marked_by node x.key x.value (marks node xs)

abbrev text_item : NodeId → List ℕ → List ℕ → PlainItem
text_item node name text = record { key = AttributeKey node.store node.id name; value = AttributeValue text }

-- the attribute of that name is an item's, or no item has it
abbrev Marked : NodeId → List PlainItem → List ℕ → Attributes → Type 0
Marked node xs name attributes = ((text : List ℕ) × IsIn xs (text_item node name text) × (get attributes name ≡ Some text))
    ⊎ (((text : List ℕ) → IsIn xs (text_item node name text) → ⊥) × (get attributes name ≡ None))

set_at : (old : Attributes) (name text q : List ℕ) → ((name ≡ q) × (get (insert old name text) q ≡ Some text)) ⊎ ((name ≢ q) × (get (insert old name text) q ≡ get old q))
set_at old name text q = elim (same_name name q) [
  | inl e ↦ inl (e, subst (λ (z : List ℕ). get (insert old name text) z ≡ Some text) e (get-insert nat_list_cmp_total old name text name ∙ ap (λ o. cond (is_eq o) (Some text) (get old name)) (tied_itself nat_list_cmp_total name)))
  | inr ne ↦ inr (ne, get-insert nat_list_cmp_total old name text q ∙ ap (λ b. cond b (Some text) (get old q)) (apart_no_tie nat_list_cmp_total (slice_cmp-IsAntisymmetric nat_cmp-IsAntisymmetric) q name (λ e. ne (sym e))))
]

-- an item that is no attribute of the node of that name adds nothing of it
marked_none : (node : NodeId) (name : List ℕ) (x : PlainItem) (xs : List PlainItem) (new old : Attributes) → ((text : List ℕ) → x ≢ text_item node name text) → get new name ≡ get old name
    → Marked node xs name old → Marked node (x ∷ xs) name new
marked_none node name x xs new old ne same (inl g) = inl (g.0, inr g.1, same ∙ g.2)
marked_none node name x xs new old ne same (inr g) = inr (λ text i. elim i [ inl e ↦ ne text e | inr j ↦ g.0 text j ], same ∙ g.1)

key_names : (s i t j : ℕ) (x y : List ℕ) → AttributeKey s i x ≡ AttributeKey t j y → (s ≡ t) × (i ≡ j) × (x ≡ y)
key_names s i t j x y e = (cc, cc, cc)

marked_step : (node : NodeId) (name : List ℕ) (k : PlainKey) (v : PlainValue) (xs : List PlainItem) (old : Attributes) → Marked node xs name old
    → Marked node (record { key = k; value = v } ∷ xs) name (marked_by node k v old)
unfolding marked_by
marked_step node name (AttributeKey s i n) (AttributeValue text) xs old g = by (same_node (record { store = s; id = i }) node)
  where
    x : PlainItem
    x = record { key = AttributeKey s i n; value = AttributeValue text }

    by : (d : (record { store = s; id = i } ≡ node) ⊎ (record { store = s; id = i } ≢ node)) → Marked node (record { key = AttributeKey s i n; value = AttributeValue text } ∷ xs) name (elim d [ inl e ↦ insert old n text | inr e ↦ old ])
    by (inl e) = elim (set_at old n text name) [
      | inl a ↦ inl (text, inl (λ d. record { key = AttributeKey (e d).store (e d).id (a.0 d); value = AttributeValue text }), a.1)
      | inr a ↦ marked_none node name (record { key = AttributeKey s i n; value = AttributeValue text }) xs (insert old n text) old
          (λ other same. a.0 (key_names s i node.store node.id n name (ap (λ (z : PlainItem). z.key) same)).2) a.1 g
    ]
    by (inr ne) = marked_none node name (record { key = AttributeKey s i n; value = AttributeValue text }) xs old old
        (λ other same. let p = key_names s i node.store node.id n name (ap (λ (z : PlainItem). z.key) same) in ne (λ d. record { store = p.0 d; id = p.1 d })) refl g
marked_step node name (AttributeKey s i n) v xs old g = marked_none node name (record { key = AttributeKey s i n; value = v }) xs old old (λ text e. let q = ap (λ (z : PlainItem). z.value) e in cc) refl g
marked_step node name k v xs old g = marked_none node name (record { key = k; value = v }) xs old old (λ text e. let q = ap (λ (z : PlainItem). z.key) e in cc) refl g

marked : (node : NodeId) (name : List ℕ) (xs : List PlainItem) → Marked node xs name (marks node xs)
unfolding marks
marked node name [] = inr (λ text i. absurd i, get-empty _ name)
marked node name (x ∷ xs) = marked_step node name x.key x.value xs (marks node xs) (marked node name xs)

-- a value of an attribute is a text
text_value : (s i : ℕ) (name : List ℕ) (v : PlainValue) → Suits (AttributeKey s i name) v → is_gone v ≡ false → (text : List ℕ) × (v ≡ AttributeValue text)
text_value s i name (AttributeValue text) suits alive = (text, refl)
text_value s i name GoneValue suits alive = absurd (cc)
text_value s i name v suits alive = absurd suits

module _ (items : List PlainItem) (s : AreStanding items) where
  -- the attributes of each node: none where it waits
  unless : Option PlainValue → Attributes → Attributes
  unless (Some grave) attributes = empty
  unless None attributes = attributes

  attributes_of : NodeId → Attributes
  attributes_of node = unless (value_under (points_in items) (GraveKey node.store node.id)) (marks node items)

  told : (node : NodeId) (name : List ℕ) (o : Option PlainValue) → value_under (points_in items) (AttributeKey node.store node.id name) ≡ o
      → Marked node items name (marks node items) → get (marks node items) name ≡ text_in o
  told node name o e (inl g) = g.2 ∙ ap text_in (sym (value_stands items s (text_item node name g.0) g.1 refl) ∙ e)
  told node name None e (inr g) = g.1
  told node name (Some v) e (inr g) =
      let i = value_listed items s (AttributeKey node.store node.id name) v e in
      let t = text_value node.store node.id name v (good_in items s (record { key = AttributeKey node.store node.id name; value = v }) i).value (alive_in items s (record { key = AttributeKey node.store node.id name; value = v }) i) in
      absurd (g.0 t.0 (subst (λ z. IsIn items (record { key = AttributeKey node.store node.id name; value = z })) t.1 i))

  attribute_told : (node : NodeId) (name : List ℕ) (grave : Option PlainValue) → get (unless grave (marks node items)) name
      ≡ text_in (unless_waiting grave (value_under (points_in items) (AttributeKey node.store node.id name)))
  unfolding unless
  attribute_told node name None = told node name (value_under (points_in items) (AttributeKey node.store node.id name)) refl (marked node name items)
  attribute_told node name (Some grave) = get-empty _ name

  attributes_are : AreAttributesOf (points_in items) attributes_of
  unfolding attributes_of
  attributes_are = record { at = λ node name. attribute_told node name (value_under (points_in items) (GraveKey node.store node.id)) }

  module _ (ring disk : ℕ) (fine : (node : NodeId) → IsAmissAt ring disk (points_in items) node → ⊥) where
    names_stand : Stands (named (points_in items))
    names_stand = names.stands (named (points_in items)) (live_names items s) (item_keys items) (keys_listed items s) (λ node wrong. fine node (NamesAmiss wrong))

    tree_nodes : AreTreeNodes (named (points_in items)) (levels (names_in items s) MAX_NAMES)
    tree_nodes =
        let there : Stands (value_in (names_in items s)) = subst Stands (sym (names_map items s)) names_stand in
        subst (λ (m : ItemMap). AreTreeNodes m (levels (names_in items s) MAX_NAMES)) (names_map items s) (are_tree_nodes (names_in items s) (names_kept items s) there MAX_NAMES there.depth)

    pub stand_for : (f : ℕ → List ℕ) → (tree : Tree) × StandForTree (points_in items) f tree
    stand_for f = (
      grown (λ (x : TreeNode). node_of (holdings_of (points_in items) f attributes_of) x.node x.kind) (levels (names_in items s) MAX_NAMES),
      record {
        stands = names_stand;
        within = all_within ring disk (points_in items) fine;
        attributes = attributes_of;
        attributes_are = attributes_are;
        tree_is = grown_tree (named (points_in items)) (holdings_of (points_in items) f attributes_of) (levels (names_in items s) MAX_NAMES) names_stand tree_nodes;
      },
    )

pub has_tree : (image : PlainImage) → AreStanding image.items → HasNoBadNode image → HasTree image
has_tree image s fine = record {
  tree = stand_for image.items s image.ring image.disk fine;
  on_disk = all_on_disk image.ring image.disk (points_in image.items) fine;
}
