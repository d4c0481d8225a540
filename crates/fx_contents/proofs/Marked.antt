-- The tree after an attribute is set or taken away.
use Rattle.std.proofs.Common.{◌≡◌, ◌≢◌, ◌⊎◌, inl, inr, ℕ, List, [], refl, sym, ap, ◌∙◌, subst, cond}
use Rattle.std.specs.Prelude.{Option, Some, None, option_and_then, option_map}
use Rattle.std.specs.Cmp.{tied_itself}
use Rattle.std.specs.FinMap.{get, insert, get-insert, get-remove, nat_cmp-IsAntisymmetric, slice_cmp-IsAntisymmetric}
use Rattle.std.specs.Ordering.{is_eq}
use Rattle.std.specs.declared.cmp.Ordering.{Ordering}
use Rattle.std.specs.declared.cmp.Ordering.TheVariants.{Less, Equal, Greater}
use Rattle.std.proofs.lemmas.Cmp.{nat_list_cmp_total}
use Rattle.fx_item.specs.Item.{PlainKey, ObjectKey, AttributeKey, ExtentKey, ChildKey, GraveKey, AllocationKey, PlainValue}
use Rattle.fx_item.specs.Look.{ItemMap, value_of_entry}
use Rattle.fx_item.specs.Name.{name_cmp}
use Rattle.fx_item.specs.Overlay.{AtKey, AtFileBlock}
use Rattle.fx_plain.specs.Node.{Attributes, Node, empty_dir}
use Rattle.fx_plain.specs.Node as plain
use Rattle.fx_plain.specs.Tree.{Tree}
use Rattle.fx_plain.specs.declared.kind.Kind.{Kind}
use Rattle.fx_plain.specs.declared.kind.Kind.TheVariants.{Dir, File}
use Rattle.fx_plain.proofs.Trees.{Left, left}
use Rattle.fx_namespace.specs.Nodes.{NodeId, Stands, is_root, node_at, object_kind, root_node, told_kind}
use Rattle.fx_namespace.specs.Trees.{IsTreeOf, node_of, shown}
use Rattle.fx_namespace.proofs.Commits.{root_way}
use Rattle.fx_namespace.proofs.Trees.{shown_inner}
use Rattle.fx_namespace.proofs.Walks.{same_node, node_path, one_path}
use Rattle.fx_contents.specs.Points.{Points, value_under, named, unless_waiting, block_in, device_block, attribute_at, text_in}
use Rattle.fx_contents.specs.Files.{byte_at}
use Rattle.fx_contents.specs.Standing.{contents_by, holdings_of, AreAttributesOf, AreWithin, HasObject, StandForTree, AreClear}
use Rattle.fx_contents.specs.Marks.{IsMarked, SetsAttribute, marked_node, with_attribute}

-- ---- one attribute told anew

-- what the attributes have under a name x
abbrev TellsAt : List ℕ → Option (List ℕ) → Attributes → List ℕ → Type 0
TellsAt name text a x = ((x ≡ name) × (get (with_attribute name text a) x ≡ text))
    ⊎ ((x ≢ name) × (get (with_attribute name text a) x ≡ get a x))

less_equal : let a : Ordering = Less in a ≡ Equal → ⊥
less_equal e = cc

greater_equal : let a : Ordering = Greater in a ≡ Equal → ⊥
greater_equal e = cc

found_by : (name : List ℕ) (text : Option (List ℕ)) (a : Attributes) (x : List ℕ)
    → get (with_attribute name text a) x ≡ cond (is_eq (name_cmp x name)) text (get a x)
found_by name (Some text) a x = get-insert nat_list_cmp_total a name text x
found_by name None a x = get-remove nat_list_cmp_total a name x

tells : (name : List ℕ) (text : Option (List ℕ)) (a : Attributes) (x : List ℕ) → TellsAt name text a x
tells name text a x = by_order (name_cmp x name) refl
  where
    by_order : (o : Ordering) → name_cmp x name ≡ o → TellsAt name text a x
    by_order Equal e = inl (slice_cmp-IsAntisymmetric nat_cmp-IsAntisymmetric x name e, found_by name text a x ∙ ap (λ o. cond (is_eq o) text (get a x)) e)
    by_order Less e = inr (λ s. less_equal (sym e ∙ ap (λ y. name_cmp y name) s ∙ tied_itself nat_list_cmp_total name), found_by name text a x ∙ ap (λ o. cond (is_eq o) text (get a x)) e)
    by_order Greater e = inr (λ s. greater_equal (sym e ∙ ap (λ y. name_cmp y name) s ∙ tied_itself nat_list_cmp_total name), found_by name text a x ∙ ap (λ o. cond (is_eq o) text (get a x)) e)

module _ (m n : Points) (node : NodeId) (name : List ℕ) (text : Option (List ℕ)) (r : SetsAttribute m n node name text) where
  -- ---- all else is as before

  same_grave : (store id : ℕ) → value_under n (GraveKey store id) ≡ value_under m (GraveKey store id)
  same_grave store id = ap value_of_entry (r.others (AtKey (GraveKey store id)) (λ q. cc) (λ b q. cc))

  same_object : (store id : ℕ) → value_under n (ObjectKey store id) ≡ value_under m (ObjectKey store id)
  same_object store id = ap value_of_entry (r.others (AtKey (ObjectKey store id)) (λ q. cc) (λ b q. cc))

  same_attribute : (store id : ℕ) (x : List ℕ) → AttributeKey store id x ≢ AttributeKey node.store node.id name → value_under n (AttributeKey store id x) ≡ value_under m (AttributeKey store id x)
  same_attribute store id x ne = ap value_of_entry (r.others (AtKey (AttributeKey store id x)) (λ q. ne (cc q)) (λ b q. cc))

  same_entry : (store id k : ℕ) → n (AtFileBlock store id k) ≡ m (AtFileBlock store id k)
  same_entry store id k = r.others (AtFileBlock store id k) (λ q. cc) (λ b q. cc)

  same_block : (other : NodeId) → device_block n other ≡ device_block m other
  same_block other = λ i k. block_in (same_entry other.store other.id k i)

  same_named : (key : PlainKey) → named n key ≡ named m key
  same_named (ExtentKey store id start stop) = refl
  same_named (AllocationKey start stop) = refl
  same_named (ObjectKey store id) = λ i. unless_waiting (same_grave store id i) (same_object store id i)
  same_named (AttributeKey store id x) = refl
  same_named (ChildKey store id x) = ap value_of_entry (r.others (AtKey (ChildKey store id x)) (λ q. cc) (λ b q. cc))
  same_named (GraveKey store id) = refl

  names_are : named m ≡ named n
  names_are = λ i key. sym (same_named key) i

  -- ---- the attributes afterwards

  abbrev changed : (NodeId → Attributes) → (other : NodeId) → (other ≡ node) ⊎ (other ≢ node) → Attributes
  changed a other (inl is) = with_attribute name text (a other)
  changed a other (inr ne) = a other

  abbrev attributes_after : (NodeId → Attributes) → NodeId → Attributes
  attributes_after a other = changed a other (same_node other node)

  changed_here : (a : NodeId → Attributes) (d : (node ≡ node) ⊎ (node ≢ node)) → changed a node d ≡ with_attribute name text (a node)
  changed_here a (inl is) = refl
  changed_here a (inr ne) = absurd (ne refl)

  changed_not : (a : NodeId → Attributes) (other : NodeId) → other ≢ node → (d : (other ≡ node) ⊎ (other ≢ node)) → changed a other d ≡ a other
  changed_not a other ne (inl is) = absurd (ne is)
  changed_not a other ne (inr is) = refl

  attribute_other : (other : NodeId) (x : List ℕ) → AttributeKey other.store other.id x ≢ AttributeKey node.store node.id name → attribute_at n other x ≡ attribute_at m other x
  attribute_other other x ne = λ i. text_in (unless_waiting (same_grave other.store other.id i) (same_attribute other.store other.id x ne i))

  attribute_here : value_under m (GraveKey node.store node.id) ≡ None → attribute_at n node name ≡ text
  attribute_here none = ap (λ g. text_in (unless_waiting g (value_under n (AttributeKey node.store node.id name)))) (same_grave node.store node.id ∙ none) ∙ r.after

  told_here : (a : NodeId → Attributes) → AreAttributesOf m a → value_under m (GraveKey node.store node.id) ≡ None → (other : NodeId) → other ≡ node → (x : List ℕ) → TellsAt name text (a other) x
      → get (with_attribute name text (a other)) x ≡ attribute_at n other x
  told_here a are none other is x (inl e) = e.1 ∙ sym (ap (λ y. attribute_at n y x) is ∙ ap (attribute_at n node) e.0 ∙ attribute_here none)
  told_here a are none other is x (inr e) = e.1 ∙ are.at other x ∙ sym (attribute_other other x (λ q. e.0 (cc q)))

  told : (a : NodeId → Attributes) → AreAttributesOf m a → value_under m (GraveKey node.store node.id) ≡ None → (other : NodeId) (x : List ℕ) (d : (other ≡ node) ⊎ (other ≢ node))
      → get (changed a other d) x ≡ attribute_at n other x
  told a are none other x (inl is) = told_here a are none other is x (tells name text (a other) x)
  told a are none other x (inr ne) = are.at other x ∙ sym (attribute_other other x (λ q. ne (node_path other node (cc q) (cc q))))

  -- ---- the items stand again

  still : (store id : ℕ) → HasObject m store id → HasObject n store id
  still store id x = (x.0, ap told_kind (same_object store id) ∙ x.1)

  attribute_by : AreWithin m → HasObject m node.store node.id → (store id : ℕ) (x : List ℕ) (v : PlainValue) → value_under n (AttributeKey store id x) ≡ Some v
      → (record { store = store; id = id } ≡ node) ⊎ (record { store = store; id = id } ≢ node) → HasObject n store id
  attribute_by w had store id x v e (inl is) = still store id (had.0, ap (λ (y : NodeId). told_kind (value_under m (ObjectKey y.store y.id))) is ∙ had.1)
  attribute_by w had store id x v e (inr ne) =
      let apart : AttributeKey store id x ≢ AttributeKey node.store node.id name = λ q. ne (node_path (record { store = store; id = id }) node (cc q) (cc q)) in
      still store id (w.attribute store id x v (sym (same_attribute store id x apart) ∙ e))

  within_after : AreWithin m → HasObject m node.store node.id → AreWithin n
  within_after w had = record {
    root = same_grave 0 0 ∙ w.root;
    extent = λ store id k entry e. (let x = w.extent store id k entry (sym (same_entry store id k) ∙ e) in (x.0, same_object store id ∙ x.1, x.2));
    grave = λ store id v e. still store id (w.grave store id v (sym (same_grave store id) ∙ e));
    attribute = λ store id x v e. attribute_by w had store id x v e (same_node (record { store = store; id = id }) node);
  }

  pub mark_clear : (f : ℕ → List ℕ) → AreClear m f → AreClear n f
  mark_clear f c = record { zero = λ other len i e h. ap (λ b. byte_at f b i) (same_block other) ∙ c.zero other len i (sym (same_named (ObjectKey other.store other.id)) ∙ e) h }

  module _ (f : ℕ → List ℕ) (t : Tree) (s : StandForTree m f t) (path : List (List ℕ)) (way : node_at (named m) path ≡ Some node) (below : path ≢ []) where
    not_root : node ≢ root_node
    not_root is = below (root_way (named m) s.stands path node way is)

    same_holdings : (a : NodeId → Attributes) → holdings_of n f a ≡ holdings_of m f a
    same_holdings a = λ i. record { contents = λ other. contents_by f (same_named (ObjectKey other.store other.id) i) (same_block other i); attributes = a }

    node_other : (z : NodeId) → z ≢ node → node_of (holdings_of m f s.attributes) z ≡ node_of (holdings_of m f (attributes_after s.attributes)) z
    node_other z ne = λ i k. by k i where
      by : (k : Kind) → node_of (holdings_of m f s.attributes) z k ≡ node_of (holdings_of m f (attributes_after s.attributes)) z k
      by Dir = ap plain.Dir (sym (changed_not s.attributes z ne (same_node z node)))
      by File = ap (plain.File ((holdings_of m f s.attributes).contents z)) (sym (changed_not s.attributes z ne (same_node z node)))

    node_here : (k : Kind) → marked_node name text (node_of (holdings_of m f s.attributes) node k) ≡ node_of (holdings_of m f (attributes_after s.attributes)) node k
    node_here Dir = ap plain.Dir (sym (changed_here s.attributes (same_node node node)))
    node_here File = ap (plain.File ((holdings_of m f s.attributes).contents node)) (sym (changed_here s.attributes (same_node node node)))

    at_other : (q : List (List ℕ)) → q ≢ path → (o : Option NodeId) → node_at (named m) q ≡ o
        → option_and_then (shown (named m) (holdings_of m f s.attributes)) o ≡ option_and_then (shown (named m) (holdings_of m f (attributes_after s.attributes))) o
    at_other q ne None e = refl
    at_other q ne (Some z) e =
        let other : z ≢ node = λ is. ne (one_path (named m) s.stands q path node (e ∙ ap Some is) way) in
        ap (λ k. cond (is_root z) (Some empty_dir) k) (ap (λ h. option_map h (object_kind (named m) z)) (node_other z other))

    -- the node's kind, by what the tree has there
    kind_of_it : (x : Node) (o : Option Kind) → object_kind (named m) node ≡ o → option_map (node_of (holdings_of m f s.attributes) node) o ≡ Some x
        → (kind : Kind) × (object_kind (named m) node ≡ Some kind) × (node_of (holdings_of m f s.attributes) node kind ≡ x)
    kind_of_it x None e is = absurd (let q : None ≡ Some x = is in cc)
    kind_of_it x (Some kind) e is = (kind, e, let q : Some (node_of (holdings_of m f s.attributes) node kind) ≡ Some x = is in cc q)

    unhidden : (grave object : Option PlainValue) (kind : Kind) → told_kind (unless_waiting grave object) ≡ Some kind → (grave ≡ None) × (told_kind object ≡ Some kind)
    unhidden None object kind e = (refl, e)
    unhidden (Some v) object kind e = absurd (let q : None ≡ Some kind = e in cc)

    pub mark_done : (u : Tree) → IsMarked t path name text u → StandForTree n f u
    mark_done u d =
        let there : option_map (node_of (holdings_of m f s.attributes) node) (object_kind (named m) node) ≡ Some d.node =
        sym (shown_inner (named m) (holdings_of m f s.attributes) node not_root) ∙ sym (ap (option_and_then (shown (named m) (holdings_of m f s.attributes))) way) ∙ sym (s.tree_is.at path) ∙ d.there in
        let k = kind_of_it d.node (object_kind (named m) node) refl there in
        let o = unhidden (value_under m (GraveKey node.store node.id)) (value_under m (ObjectKey node.store node.id)) k.0 k.1 in
        record {
          stands = subst Stands names_are s.stands;
          within = within_after s.within (k.0, o.1);
          attributes = attributes_after s.attributes;
          attributes_are = record { at = λ other x. told s.attributes s.attributes_are o.0 other x (same_node other node) };
          tree_is = subst (λ h. IsTreeOf (named n) h u) (sym (same_holdings (attributes_after s.attributes)))
              (subst (λ (x : ItemMap). IsTreeOf x (holdings_of m f (attributes_after s.attributes)) u) names_are
              (subst (IsTreeOf (named m) (holdings_of m f (attributes_after s.attributes))) (sym d.inserted) (record { at = λ q. at d.node k.0 k.1 k.2 q (left t path (marked_node name text d.node) q) })));
        }
      where
        at : (x : Node) (kind : Kind) → object_kind (named m) node ≡ Some kind → node_of (holdings_of m f s.attributes) node kind ≡ x → (q : List (List ℕ)) → Left t path (marked_node name text x) q
            → get (insert t path (marked_node name text x)) q ≡ option_and_then (shown (named m) (holdings_of m f (attributes_after s.attributes))) (node_at (named m) q)
        at x kind kind_is is q (inl e) = e.1 ∙ ap (λ y. Some (marked_node name text y)) (sym is) ∙ ap Some (node_here kind)
            ∙ sym (ap (λ y. option_and_then (shown (named m) (holdings_of m f (attributes_after s.attributes))) (node_at (named m) y)) e.0
            ∙ ap (option_and_then (shown (named m) (holdings_of m f (attributes_after s.attributes)))) way
            ∙ shown_inner (named m) (holdings_of m f (attributes_after s.attributes)) node not_root
            ∙ ap (option_map (node_of (holdings_of m f (attributes_after s.attributes)) node)) kind_is)
        at x kind kind_is is q (inr e) = e.1 ∙ s.tree_is.at q ∙ at_other q e.0 (node_at (named m) q) refl
