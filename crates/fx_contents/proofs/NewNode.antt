-- A new node holds nothing: the items stand for the tree with an empty directory or file at its path.
use Rattle.std.proofs.Common.{◌≡◌, ◌≢◌, ◌⊎◌, inl, inr, ℕ, ◌/◌, ◌%◌, ◌≤◌, List, [], ◌∷◌, ◌++◌, refl, sym, ap, ◌∙◌, subst}
use Rattle.std.specs.Prelude.{Option, Some, None}
use Rattle.std.proofs.lemmas.Cmp.{nat_list_cmp_total}
use Rattle.std.specs.FinMap as map
use Rattle.std.specs.FinMap.{insert, same_map, nat_cmp-IsAntisymmetric, slice_cmp-IsAntisymmetric}
use Rattle.fx_item.specs.Item.{PlainKey, ObjectKey, AttributeKey, ExtentKey, ChildKey, GraveKey, AllocationKey, FileValue}
use Rattle.fx_item.specs.Look.{value_of_entry}
use Rattle.fx_item.specs.Name.{name_cmp}
use Rattle.fx_item.specs.Overlay.{AtKey, AtFileBlock, Entry}
use Rattle.fx_plain.specs.Node.{Attributes, no_contents}
use Rattle.fx_plain.specs.Node as plain
use Rattle.fx_plain.specs.Tree.{Tree}
use Rattle.fx_base.specs.declared.block.TheConstants.{BLOCK_BYTES}
use Rattle.fx_plain.specs.declared.kind.Kind.{Kind}
use Rattle.fx_plain.specs.declared.kind.Kind.TheVariants.{Dir, File}
use Rattle.fx_namespace.specs.Changes.{GainsNode, IsPlaceFor}
use Rattle.fx_namespace.specs.Commits.{new_value}
use Rattle.fx_namespace.specs.Nodes.{NodeId, told_kind}
use Rattle.fx_namespace.specs.Trees.{IsTreeOf, bare, node_of}
use Rattle.fx_namespace.proofs.Gained as gained
use Rattle.fx_namespace.proofs.Walks.{same_node, node_path}
use Rattle.fx_contents.specs.Points.{Points, value_under, named, unless_waiting, block_in, device_block, text_in}
use Rattle.fx_contents.specs.Files.{byte_in, byte_at}
use Rattle.fx_contents.specs.Standing.{contents_by, holdings_of, AreAttributesOf, AreWithin, HasObject, StandForTree, AreClear}
use Rattle.fx_contents.specs.Removal.{GainsEmpty}
use Rattle.fx_contents.proofs.Amiss.{none_at}
use Rattle.fx_contents.proofs.NamesAlone.{no_bytes, no_text}

module _ (m n : Points) (parent : NodeId) (name : List ℕ) (node : NodeId) (kind : Kind) (r : GainsEmpty m n parent name node (new_value kind)) (within : AreWithin m) where
  no_object : HasObject m node.store node.id → ⊥
  no_object x = let q : None ≡ Some x.0 = sym (ap told_kind r.fresh) ∙ x.1 in cc

  not_node : (store id : ℕ) → HasObject m store id → ObjectKey store id ≡ ObjectKey node.store node.id → ⊥
  not_node store id x q = no_object (x.0, sym (ap (λ k. told_kind (value_under m k)) q) ∙ x.1)

  no_grave_then : value_under m (GraveKey node.store node.id) ≡ None
  no_grave_then = none_at (value_under m (GraveKey node.store node.id)) (λ v e. no_object (within.grave node.store node.id v e))

  no_attribute : (x : List ℕ) → value_under m (AttributeKey node.store node.id x) ≡ None
  no_attribute x = none_at (value_under m (AttributeKey node.store node.id x)) (λ v e. no_object (within.attribute node.store node.id x v e))

  -- ---- all else is as before

  same_value : (key : PlainKey) → key ≢ ObjectKey node.store node.id → key ≢ ChildKey parent.store parent.id name → value_under n key ≡ value_under m key
  same_value (ExtentKey store id start stop) a b = refl
  same_value (AllocationKey start stop) a b = refl
  same_value (ObjectKey store id) a b = ap value_of_entry (r.others (AtKey (ObjectKey store id)) (λ q. a (cc q)) (λ q. cc) (λ x q. cc))
  same_value (AttributeKey store id x) a b = ap value_of_entry (r.others (AtKey (AttributeKey store id x)) (λ q. cc) (λ q. cc) (λ x q. cc))
  same_value (ChildKey store id x) a b = ap value_of_entry (r.others (AtKey (ChildKey store id x)) (λ q. cc) (λ q. b (cc q)) (λ x q. cc))
  same_value (GraveKey store id) a b = ap value_of_entry (r.others (AtKey (GraveKey store id)) (λ q. cc) (λ q. cc) (λ x q. cc))

  same_grave : (store id : ℕ) → value_under n (GraveKey store id) ≡ value_under m (GraveKey store id)
  same_grave store id = same_value (GraveKey store id) (λ q. cc) (λ q. cc)

  same_attribute : (store id : ℕ) (x : List ℕ) → value_under n (AttributeKey store id x) ≡ value_under m (AttributeKey store id x)
  same_attribute store id x = same_value (AttributeKey store id x) (λ q. cc) (λ q. cc)

  same_named : (key : PlainKey) → key ≢ ObjectKey node.store node.id → key ≢ ChildKey parent.store parent.id name → named n key ≡ named m key
  same_named (ExtentKey store id start stop) a b = refl
  same_named (AllocationKey start stop) a b = refl
  same_named (ObjectKey store id) a b = λ i. unless_waiting (same_grave store id i) (same_value (ObjectKey store id) a b i)
  same_named (AttributeKey store id x) a b = refl
  same_named (ChildKey store id x) a b = same_value (ChildKey store id x) a b
  same_named (GraveKey store id) a b = refl

  same_block : (other : NodeId) → device_block n other ≡ device_block m other
  same_block other = λ i k. block_in (r.others (AtFileBlock other.store other.id k) (λ q. cc) (λ q. cc) (λ x q. cc) i)

  object_now : named n (ObjectKey node.store node.id) ≡ Some (new_value kind)
  object_now = λ i. unless_waiting ((same_grave node.store node.id ∙ no_grave_then) i) (r.object i)

  object_then : named m (ObjectKey node.store node.id) ≡ None
  object_then = λ i. unless_waiting (no_grave_then i) (r.fresh i)

  gains : GainsNode (named m) (named n) parent name node (new_value kind)
  gains = record { object = object_now; entry = r.entry; others = same_named }

  -- ---- the nodes hold what they held, and the new one nothing

  holds_nothing : (f : ℕ → List ℕ) (k : Kind) (held : ℕ → Option ℕ) → contents_by f (Some (new_value k)) held ≡ no_contents
  holds_nothing f Dir held = refl
  holds_nothing f File held = no_bytes f held

  nothing_now : (f : ℕ → List ℕ) → contents_by f (named n (ObjectKey node.store node.id)) (device_block n node) ≡ no_contents
  nothing_now f = ap (λ o. contents_by f o (device_block n node)) object_now ∙ holds_nothing f kind (device_block n node)

  same_contents : (f : ℕ → List ℕ) (other : NodeId) → (other ≡ node) ⊎ (other ≢ node)
      → contents_by f (named n (ObjectKey other.store other.id)) (device_block n other) ≡ contents_by f (named m (ObjectKey other.store other.id)) (device_block m other)
  same_contents f other (inl is) =
      ap (λ (x : NodeId). contents_by f (named n (ObjectKey x.store x.id)) (device_block n x)) is ∙ nothing_now f
      ∙ sym (ap (λ o. contents_by f o (device_block m other)) (ap (λ (x : NodeId). named m (ObjectKey x.store x.id)) is ∙ object_then))
  same_contents f other (inr ne) = λ i. contents_by f (same_named (ObjectKey other.store other.id) (λ q. ne (node_path other node (cc q) (cc q))) (λ q. cc) i) (same_block other i)

  same_holdings : (f : ℕ → List ℕ) (a : NodeId → Attributes) → holdings_of n f a ≡ holdings_of m f a
  same_holdings f a = λ i. record { contents = λ other. same_contents f other (same_node other node) i; attributes = a }

  attributes_stay : (a : NodeId → Attributes) → AreAttributesOf m a → AreAttributesOf n a
  attributes_stay a are = record {
    at = λ other x. are.at other x
        ∙ sym (λ i. text_in (unless_waiting (same_grave other.store other.id i) (same_attribute other.store other.id x i)));
  }

  no_attributes : (a : NodeId → Attributes) → AreAttributesOf m a → a node ≡ map.empty
  no_attributes a are = same_map nat_list_cmp_total (slice_cmp-IsAntisymmetric nat_cmp-IsAntisymmetric) (a node) map.empty (λ x.
      are.at node x ∙ no_text (value_under m (GraveKey node.store node.id)) (value_under m (AttributeKey node.store node.id x)) (no_attribute x) ∙ sym (map.get-empty name_cmp x))

  node_is : (f : ℕ → List ℕ) (a : NodeId → Attributes) → AreAttributesOf m a → (k : Kind) → node_of (holdings_of n f a) node k ≡ node_of bare node k
  node_is f a are Dir = ap plain.Dir (no_attributes a are)
  node_is f a are File = λ i. plain.File (nothing_now f i) (no_attributes a are i)

  -- ---- the items stand again

  object_still : (store id : ℕ) → HasObject m store id → HasObject n store id
  object_still store id x = (x.0, ap told_kind (same_value (ObjectKey store id) (not_node store id x) (λ q. cc)) ∙ x.1)

  within_after : AreWithin n
  within_after = record {
    root = same_grave 0 0 ∙ within.root;
    extent = λ store id k entry e. (let x = within.extent store id k entry (sym (r.others (AtFileBlock store id k) (λ q. cc) (λ q. cc) (λ b q. cc)) ∙ e) in
        (x.0, same_value (ObjectKey store id) (not_node store id (File, ap told_kind x.1)) (λ q. cc) ∙ x.1, x.2));
    grave = λ store id v e. object_still store id (within.grave store id v (sym (same_grave store id) ∙ e));
    attribute = λ store id x v e. object_still store id (within.attribute store id x v (sym (same_attribute store id x) ∙ e));
  }

  kind_told : (k : Kind) → told_kind (Some (new_value k)) ≡ Some k
  kind_told Dir = refl
  kind_told File = refl

  pub gain_stands : (f : ℕ → List ℕ) (t : Tree) (above : List (List ℕ)) → StandForTree m f t → IsPlaceFor (named m) above parent name node kind
      → StandForTree n f (insert t (above ++ name ∷ []) (node_of bare node kind))
  gain_stands f t above s p = record {
    stands = gained.stands s.stands p gains (kind_told kind);
    within = within_after;
    attributes = s.attributes;
    attributes_are = attributes_stay s.attributes s.attributes_are;
    tree_is = subst (λ x. IsTreeOf (named n) (holdings_of n f s.attributes) (insert t (above ++ name ∷ []) x)) (node_is f s.attributes s.attributes_are kind)
        (gained.tree s.stands p gains (kind_told kind) (holdings_of n f s.attributes) t (subst (λ h. IsTreeOf (named m) h t) (sym (same_holdings f s.attributes)) s.tree_is));
  }

  -- no block of the new node
  no_block : (k : ℕ) (o : Option Entry) → m (AtFileBlock node.store node.id k) ≡ o → block_in o ≡ None
  no_block k None e = refl
  no_block k (Some entry) e = absurd (let x = within.extent node.store node.id k entry e in no_object (File, ap told_kind x.1))

  pub gain_clear : (f : ℕ → List ℕ) → AreClear m f → AreClear n f
  gain_clear f c = record { zero = λ other len i e h. by other len i e h (same_node other node) } where
    by : (other : NodeId) (len i : ℕ) → named n (ObjectKey other.store other.id) ≡ Some (FileValue len) → len ≤ i → (other ≡ node) ⊎ (other ≢ node) → byte_at f (device_block n other) i ≡ 0
    by other len i e h (inl is) = ap (λ (x : NodeId). byte_at f (device_block n x) i) is ∙ ap (λ b. byte_at f b i) (same_block node) ∙ ap (λ o. byte_in f o (i % BLOCK_BYTES)) (no_block (i / BLOCK_BYTES) (m (AtFileBlock node.store node.id (i / BLOCK_BYTES))) refl)
    by other len i e h (inr ne) = ap (λ b. byte_at f b i) (same_block other)
        ∙ c.zero other len i (sym (same_named (ObjectKey other.store other.id) (λ q. ne (node_path other node (cc q) (cc q))) (λ q. cc)) ∙ e) h
