-- A node that waits in the graveyard is not in the tree: what it loses is not seen.
use Rattle.std.proofs.Common.{◌≡◌, ◌≢◌, ◌⊎◌, inl, inr, ℕ, ◌≤◌, List, refl, sym, ap, ◌∙◌, subst}
use Rattle.std.specs.Prelude.{Option, Some, None}
use Rattle.fx_item.specs.Item.{PlainKey, ObjectKey, AttributeKey, ExtentKey, ChildKey, GraveKey, AllocationKey, PlainValue, FileValue}
use Rattle.fx_item.specs.Look.{ItemMap, value_of_entry}
use Rattle.fx_item.specs.Overlay.{AtKey, AtFileBlock}
use Rattle.fx_plain.specs.Node.{Attributes}
use Rattle.fx_plain.specs.Tree.{Tree}
use Rattle.fx_namespace.specs.Nodes.{NodeId, Stands, told_kind}
use Rattle.fx_namespace.specs.Trees.{IsTreeOf}
use Rattle.fx_namespace.proofs.Walks.{same_node, node_path}
use Rattle.fx_contents.specs.Points.{Points, value_under, named, unless_waiting, block_in, device_block, attribute_at, text_in}
use Rattle.fx_contents.specs.Files.{byte_at}
use Rattle.fx_contents.specs.Standing.{contents_by, holdings_of, AreAttributesOf, StandForTree, AreClear}
use Rattle.fx_contents.specs.Removal.{Trims}
use Rattle.fx_contents.proofs.NamesAlone.{no_text}
use Rattle.fx_contents.proofs.Amiss.{none_at}

module _ (m n : Points) (node : NodeId) (r : Trims m n node) where
  -- ---- all other nodes are as before

  module _ (store id : ℕ) (ne : record { store = store; id = id } ≢ node) where
    other_object : value_under n (ObjectKey store id) ≡ value_under m (ObjectKey store id)
    other_object = ap value_of_entry (r.others (AtKey (ObjectKey store id)) (record {
      object = λ q. ne (node_path (record { store = store; id = id }) node (cc q) (cc q));
      grave = λ q. cc;
      file = λ k q. cc;
      attribute = λ x q. cc;
      device = λ b q. cc;
    }))

    other_grave : value_under n (GraveKey store id) ≡ value_under m (GraveKey store id)
    other_grave = ap value_of_entry (r.others (AtKey (GraveKey store id)) (record {
      object = λ q. cc;
      grave = λ q. ne (node_path (record { store = store; id = id }) node (cc q) (cc q));
      file = λ k q. cc;
      attribute = λ x q. cc;
      device = λ b q. cc;
    }))

    other_attribute : (x : List ℕ) → value_under n (AttributeKey store id x) ≡ value_under m (AttributeKey store id x)
    other_attribute x = ap value_of_entry (r.others (AtKey (AttributeKey store id x)) (record {
      object = λ q. cc;
      grave = λ q. cc;
      file = λ k q. cc;
      attribute = λ y q. ne (node_path (record { store = store; id = id }) node (cc q) (cc q));
      device = λ b q. cc;
    }))

    other_block : (k : ℕ) → n (AtFileBlock store id k) ≡ m (AtFileBlock store id k)
    other_block k = r.others (AtFileBlock store id k) (record {
      object = λ q. cc;
      grave = λ q. cc;
      file = λ j q. ne (node_path (record { store = store; id = id }) node (cc q) (cc q));
      attribute = λ x q. cc;
      device = λ b q. cc;
    })

  same_child : (store id : ℕ) (x : List ℕ) → value_under n (ChildKey store id x) ≡ value_under m (ChildKey store id x)
  same_child store id x = ap value_of_entry (r.others (AtKey (ChildKey store id x)) (record {
    object = λ q. cc;
    grave = λ q. cc;
    file = λ k q. cc;
    attribute = λ y q. cc;
    device = λ b q. cc;
  }))

  same_block : (other : NodeId) → other ≢ node → device_block n other ≡ device_block m other
  same_block other ne = λ i k. block_in (other_block other.store other.id (λ q. ne q) k i)

  -- ---- the names see the same

  hidden : (grave object : Option PlainValue) → (grave ≡ Some r.grave) ⊎ (object ≡ None) → unless_waiting grave object ≡ None
  hidden grave object (inl e) = ap (λ g. unless_waiting g object) e
  hidden None object (inr e) = e
  hidden (Some v) object (inr e) = refl

  waiting : named m (ObjectKey node.store node.id) ≡ None
  waiting = ap (λ g. unless_waiting g (value_under m (ObjectKey node.store node.id))) r.waits

  object_by : (store id : ℕ) → (record { store = store; id = id } ≡ node) ⊎ (record { store = store; id = id } ≢ node) → named n (ObjectKey store id) ≡ named m (ObjectKey store id)
  object_by store id (inl is) =
      ap (λ (x : NodeId). named n (ObjectKey x.store x.id)) is ∙ hidden (value_under n (GraveKey node.store node.id)) (value_under n (ObjectKey node.store node.id)) r.after
      ∙ sym (ap (λ (x : NodeId). named m (ObjectKey x.store x.id)) is ∙ waiting)
  object_by store id (inr ne) = λ i. unless_waiting (other_grave store id ne i) (other_object store id ne i)

  same_named : (key : PlainKey) → named n key ≡ named m key
  same_named (ExtentKey store id start stop) = refl
  same_named (AllocationKey start stop) = refl
  same_named (ObjectKey store id) = object_by store id (same_node (record { store = store; id = id }) node)
  same_named (AttributeKey store id x) = refl
  same_named (ChildKey store id x) = same_child store id x
  same_named (GraveKey store id) = refl

  -- ---- the nodes of the tree hold the same

  same_contents : (f : ℕ → List ℕ) (other : NodeId) → (other ≡ node) ⊎ (other ≢ node)
      → contents_by f (named n (ObjectKey other.store other.id)) (device_block n other) ≡ contents_by f (named m (ObjectKey other.store other.id)) (device_block m other)
  same_contents f other (inl is) =
      ap (λ o. contents_by f o (device_block n other)) (same_named (ObjectKey other.store other.id) ∙ ap (λ (x : NodeId). named m (ObjectKey x.store x.id)) is ∙ waiting)
      ∙ sym (ap (λ o. contents_by f o (device_block m other)) (ap (λ (x : NodeId). named m (ObjectKey x.store x.id)) is ∙ waiting))
  same_contents f other (inr ne) = λ i. contents_by f (same_named (ObjectKey other.store other.id) i) (same_block other ne i)

  same_holdings : (f : ℕ → List ℕ) (a : NodeId → Attributes) → holdings_of n f a ≡ holdings_of m f a
  same_holdings f a = λ i. record { contents = λ other. same_contents f other (same_node other node) i; attributes = a }

  -- after it the node has a grave, or no Object and so no attribute
  no_attribute : (x : List ℕ) → (value_under n (GraveKey node.store node.id) ≡ Some r.grave) ⊎ (value_under n (ObjectKey node.store node.id) ≡ None) → attribute_at n node x ≡ None
  no_attribute x (inl e) = ap (λ g. text_in (unless_waiting g (value_under n (AttributeKey node.store node.id x)))) e
  no_attribute x (inr none) = no_text (value_under n (GraveKey node.store node.id)) (value_under n (AttributeKey node.store node.id x))
      (none_at (value_under n (AttributeKey node.store node.id x)) (λ v e. let o = r.within.attribute node.store node.id x v e in
      let q : None ≡ Some o.0 = sym (ap told_kind none) ∙ o.1 in cc))

  same_attribute : (other : NodeId) (x : List ℕ) → (other ≡ node) ⊎ (other ≢ node) → attribute_at m other x ≡ attribute_at n other x
  same_attribute other x (inl is) =
      ap (λ y. attribute_at m y x) is ∙ ap (λ g. text_in (unless_waiting g (value_under m (AttributeKey node.store node.id x)))) r.waits
      ∙ sym (ap (λ y. attribute_at n y x) is ∙ no_attribute x r.after)
  same_attribute other x (inr ne) = sym (λ i. text_in (unless_waiting (other_grave other.store other.id (λ q. ne q) i) (other_attribute other.store other.id (λ q. ne q) x i)))

  attributes_stay : (a : NodeId → Attributes) → AreAttributesOf m a → AreAttributesOf n a
  attributes_stay a are = record { at = λ other x. are.at other x ∙ same_attribute other x (same_node other node) }

  names_are : named m ≡ named n
  names_are = λ i key. sym (same_named key) i

  pub trims_stands : (f : ℕ → List ℕ) (t : Tree) → StandForTree m f t → StandForTree n f t
  trims_stands f t s = record {
    stands = subst Stands names_are s.stands;
    within = r.within;
    attributes = s.attributes;
    attributes_are = attributes_stay s.attributes s.attributes_are;
    tree_is = subst (λ h. IsTreeOf (named n) h t) (sym (same_holdings f s.attributes)) (subst (λ (x : ItemMap). IsTreeOf x (holdings_of m f s.attributes) t) names_are s.tree_is);
  }

  pub trims_clear : (f : ℕ → List ℕ) → AreClear m f → AreClear n f
  trims_clear f c = record { zero = λ other len i e h. by other len i e h (same_node other node) } where
    by : (other : NodeId) (len i : ℕ) → named n (ObjectKey other.store other.id) ≡ Some (FileValue len) → len ≤ i → (other ≡ node) ⊎ (other ≢ node) → byte_at f (device_block n other) i ≡ 0
    by other len i e h (inl is) = absurd (let q : None ≡ Some (FileValue len) = sym (same_named (ObjectKey other.store other.id) ∙ ap (λ (x : NodeId). named m (ObjectKey x.store x.id)) is ∙ waiting) ∙ e in cc)
    by other len i e h (inr ne) = ap (λ b. byte_at f b i) (same_block other ne)
        ∙ c.zero other len i (sym (same_named (ObjectKey other.store other.id)) ∙ e) h
