-- The tree after a node is removed into the graveyard.
use Rattle.std.proofs.Common.{◌≡◌, ◌≢◌, ◌⊎◌, inl, inr, ℕ, ◌≤◌, List, [], ◌∷◌, ◌++◌, refl, sym, ap, ◌∙◌}
use Rattle.std.specs.Prelude.{Option, Some, None}
use Rattle.std.specs.FinMap as map
use Rattle.std.specs.FinMap.{remove}
use Rattle.fx_item.specs.Item.{PlainKey, ObjectKey, AttributeKey, ExtentKey, ChildKey, GraveKey, AllocationKey, PlainValue, FileValue}
use Rattle.fx_item.specs.Look.{value_of_entry}
use Rattle.fx_item.specs.Name.{name_cmp}
use Rattle.fx_item.specs.Overlay.{AtKey, AtFileBlock}
use Rattle.fx_plain.specs.Node.{Attributes}
use Rattle.fx_plain.specs.Node as plain
use Rattle.fx_plain.specs.Tree.{Tree}
use Rattle.fx_plain.specs.declared.kind.Kind.{Kind}
use Rattle.fx_plain.specs.declared.kind.Kind.TheVariants.{Dir, File}
use Rattle.fx_namespace.specs.Nodes.{NodeId, node_at, led_to, told_kind}
use Rattle.fx_namespace.specs.Trees.{node_of}
use Rattle.fx_namespace.proofs.Walks.{same_node, node_path, root_not_led}
use Rattle.fx_contents.specs.Points.{Points, value_under, named, unless_waiting, block_in, device_block, attribute_at, text_in}
use Rattle.fx_contents.specs.Files.{byte_at}
use Rattle.fx_contents.specs.Standing.{contents_by, holdings_of, AreAttributesOf, AreWithin, HasObject, StandForTree, AreClear}
use Rattle.fx_contents.specs.Removal.{Buries, LosesNode}
use Rattle.fx_contents.proofs.LostNode as lost

module _ (m n : Points) (parent : NodeId) (name : List ℕ) (node : NodeId) (r : Buries m n parent name node) where
  -- ---- all else is as before

  same_grave : (store id : ℕ) → (record { store = store; id = id } ≢ node) → value_under n (GraveKey store id) ≡ value_under m (GraveKey store id)
  same_grave store id ne = ap value_of_entry (r.others (AtKey (GraveKey store id)) (λ q. cc) (λ q. ne (node_path (record { store = store; id = id }) node (cc q) (cc q))) (λ b q. cc))

  same_object : (store id : ℕ) → value_under n (ObjectKey store id) ≡ value_under m (ObjectKey store id)
  same_object store id = ap value_of_entry (r.others (AtKey (ObjectKey store id)) (λ q. cc) (λ q. cc) (λ b q. cc))

  same_attribute : (store id : ℕ) (x : List ℕ) → value_under n (AttributeKey store id x) ≡ value_under m (AttributeKey store id x)
  same_attribute store id x = ap value_of_entry (r.others (AtKey (AttributeKey store id x)) (λ q. cc) (λ q. cc) (λ b q. cc))

  same_block : (other : NodeId) → device_block n other ≡ device_block m other
  same_block other = λ i k. block_in (r.others (AtFileBlock other.store other.id k) (λ q. cc) (λ q. cc) (λ b q. cc) i)

  same_named : (key : PlainKey) → key ≢ ObjectKey node.store node.id → key ≢ ChildKey parent.store parent.id name → named n key ≡ named m key
  same_named (ExtentKey store id start stop) a b = refl
  same_named (AllocationKey start stop) a b = refl
  same_named (ObjectKey store id) a b = λ i. unless_waiting (same_grave store id (λ is. a (λ j. ObjectKey (is j).store (is j).id)) i) (same_object store id i)
  same_named (AttributeKey store id x) a b = refl
  same_named (ChildKey store id x) a b = ap value_of_entry (r.others (AtKey (ChildKey store id x)) (λ q. b (cc q)) (λ q. cc) (λ z q. cc))
  same_named (GraveKey store id) a b = refl

  other_named : (other : NodeId) → other ≢ node → named n (ObjectKey other.store other.id) ≡ named m (ObjectKey other.store other.id)
  other_named other ne = same_named (ObjectKey other.store other.id) (λ q. ne (node_path other node (cc q) (cc q))) (λ q. cc)

  pub buries : LosesNode (named m) (named n) parent name node
  buries = record {
    entry = r.entry;
    no_entry = r.gone;
    no_object = ap (λ g. unless_waiting g (value_under n (ObjectKey node.store node.id))) r.waits.1;
    others = same_named;
  }

  -- ---- the attributes of the nodes of the tree

  abbrev spared : (NodeId → Attributes) → (other : NodeId) → (other ≡ node) ⊎ (other ≢ node) → Attributes
  spared a other (inl is) = map.empty
  spared a other (inr ne) = a other

  abbrev attributes_after : (NodeId → Attributes) → NodeId → Attributes
  attributes_after a other = spared a other (same_node other node)

  told : (a : NodeId → Attributes) → AreAttributesOf m a → (other : NodeId) (x : List ℕ) (d : (other ≡ node) ⊎ (other ≢ node)) → map.get (spared a other d) x ≡ attribute_at n other x
  told a are other x (inl is) = map.get-empty name_cmp x
      ∙ sym (ap (λ y. attribute_at n y x) is ∙ ap (λ g. text_in (unless_waiting g (value_under n (AttributeKey node.store node.id x)))) r.waits.1)
  told a are other x (inr ne) = are.at other x
      ∙ sym (λ i. text_in (unless_waiting (same_grave other.store other.id (λ q. ne q) i) (same_attribute other.store other.id x i)))

  kept : (a : NodeId → Attributes) (other : NodeId) → other ≢ node → (d : (other ≡ node) ⊎ (other ≢ node)) → spared a other d ≡ a other
  kept a other ne (inl is) = absurd (ne is)
  kept a other ne (inr is) = refl

  module _ (f : ℕ → List ℕ) where
    same_contents : (other : NodeId) → other ≢ node
        → contents_by f (named n (ObjectKey other.store other.id)) (device_block n other) ≡ contents_by f (named m (ObjectKey other.store other.id)) (device_block m other)
    same_contents other ne = λ i. contents_by f (other_named other ne i) (same_block other i)

    same_nodes : (a : NodeId → Attributes) (other : NodeId) → other ≢ node → node_of (holdings_of n f (attributes_after a)) other ≡ node_of (holdings_of m f a) other
    same_nodes a other ne = λ i k. by k i where
      by : (k : Kind) → node_of (holdings_of n f (attributes_after a)) other k ≡ node_of (holdings_of m f a) other k
      by Dir = ap plain.Dir (kept a other ne (same_node other node))
      by File = λ i. plain.File (same_contents other ne i) (kept a other ne (same_node other node) i)

    -- ---- zeros past the ends

    clear_by : AreClear m f → (other : NodeId) (len i : ℕ) → named n (ObjectKey other.store other.id) ≡ Some (FileValue len) → len ≤ i → (other ≡ node) ⊎ (other ≢ node) → byte_at f (device_block n other) i ≡ 0
    clear_by c other len i e h (inl is) =
        absurd (let q : None ≡ Some (FileValue len) = sym buries.no_object ∙ sym (ap (λ (x : NodeId). named n (ObjectKey x.store x.id)) is) ∙ e in cc)
    clear_by c other len i e h (inr ne) = ap (λ b. byte_at f b i) (same_block other) ∙ c.zero other len i (sym (other_named other ne) ∙ e) h

    pub bury_clear : AreClear m f → AreClear n f
    bury_clear c = record { zero = λ other len i e h. clear_by c other len i e h (same_node other node) }

    -- ---- the items stand again

    module _ (t : Tree) (s : StandForTree m f t) (leaf : (x : List ℕ) → value_under m (ChildKey node.store node.id x) ≡ None) where
      unhidden : (grave object : Option PlainValue) (kind : Kind) → told_kind (unless_waiting grave object) ≡ Some kind → told_kind object ≡ Some kind
      unhidden None object kind e = e
      unhidden (Some v) object kind e = absurd (let q : None ≡ Some kind = e in cc)

      had_object : HasObject m node.store node.id
      had_object =
          let o = s.stands.objects parent name node (ap led_to r.entry) in
          (o.0, unhidden (value_under m (GraveKey node.store node.id)) (value_under m (ObjectKey node.store node.id)) o.0 o.1)

      still : (store id : ℕ) → HasObject m store id → HasObject n store id
      still store id x = (x.0, ap told_kind (same_object store id) ∙ x.1)

      grave_by : (store id : ℕ) (value : PlainValue) → value_under n (GraveKey store id) ≡ Some value → (record { store = store; id = id } ≡ node) ⊎ (record { store = store; id = id } ≢ node) → HasObject n store id
      grave_by store id value e (inl is) = still store id (had_object.0, ap (λ (x : NodeId). told_kind (value_under m (ObjectKey x.store x.id))) is ∙ had_object.1)
      grave_by store id value e (inr ne) = still store id (s.within.grave store id value (sym (same_grave store id ne) ∙ e))

      root_stays : value_under n (GraveKey 0 0) ≡ None
      root_stays = same_grave 0 0 (λ is. root_not_led (named m) s.stands parent name (ap led_to r.entry ∙ sym (ap Some is))) ∙ s.within.root

      within_after : AreWithin n
      within_after = record {
        root = root_stays;
        extent = λ store id k entry e. (let x = s.within.extent store id k entry (sym (r.others (AtFileBlock store id k) (λ q. cc) (λ q. cc) (λ b q. cc)) ∙ e) in
            (x.0, same_object store id ∙ x.1, x.2));
        grave = λ store id value e. grave_by store id value e (same_node (record { store = store; id = id }) node);
        attribute = λ store id x value e. still store id (s.within.attribute store id x value (sym (same_attribute store id x) ∙ e));
      }

      pub bury_stands : (above : List (List ℕ)) → node_at (named m) above ≡ Some parent → StandForTree n f (remove t (above ++ name ∷ []))
      bury_stands above way = record {
        stands = lost.stands s.stands buries leaf;
        within = within_after;
        attributes = attributes_after s.attributes;
        attributes_are = record { at = λ other x. told s.attributes s.attributes_are other x (same_node other node) };
        tree_is = lost.tree s.stands buries leaf (holdings_of m f s.attributes) (holdings_of n f (attributes_after s.attributes)) (same_nodes s.attributes) above way t s.tree_is;
      }
