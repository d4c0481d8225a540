-- Names alone: items without blocks, attributes and graves, whose files have no bytes.
use Rattle.std.proofs.Common.{◌≡◌, ℕ, List, refl, sym, ap, ◌∙◌, subst}
use Rattle.std.specs.Prelude.{Option, Some, None, option_map}
use Rattle.std.specs.FinMap as map
use Rattle.fx_item.specs.Item.{PlainKey, ObjectKey, AttributeKey, ExtentKey, ChildKey, GraveKey, AllocationKey, PlainValue, GoneValue, DirectoryValue, FileValue, AttributeValue, ChildValue, WaitingValue, ExtentValue, TakenValue}
use Rattle.fx_item.specs.Look.{ItemMap, value_of_entry}
use Rattle.fx_item.specs.Name.{name_cmp}
use Rattle.fx_item.specs.Overlay.{Point, AtKey, AtFileBlock, AtDeviceBlock, ValueEntry}
use Rattle.fx_plain.specs.Node.{Attributes, no_contents}
use Rattle.fx_plain.specs.Tree.{Tree, root}
use Rattle.fx_namespace.specs.Nodes.{NodeId, Stands}
use Rattle.fx_namespace.specs.Trees.{IsTreeOf, bare}
use Rattle.fx_namespace.proofs.Empty
use Rattle.fx_contents.specs.Points.{Points, named, value_under, unless_waiting, text_in, device_block, only_values}
use Rattle.fx_contents.specs.Files.{file_of}
use Rattle.fx_contents.specs.Standing.{AreAttributesOf, contents_by, holdings_of, StandForTree, AreClear, AreNamesAlone}
use Rattle.fx_contents.proofs.OneTree.{same_attributes}

-- a file without bytes
pub no_bytes : (f : ℕ → List ℕ) (held : ℕ → Option ℕ) → file_of f 0 held ≡ no_contents
unfolding file_of
no_bytes f held = refl

-- nothing is told of an attribute
pub no_text : (grave value : Option PlainValue) → value ≡ None → text_in (unless_waiting grave value) ≡ None
no_text None value e = ap text_in e
no_text (Some v) value e = refl

abbrev no_attributes : NodeId → Attributes
no_attributes node = map.empty

module _ (items : ItemMap) (names : AreNamesAlone items) where
  told : (o : Option PlainValue) → value_of_entry (option_map ValueEntry o) ≡ o
  told None = refl
  told (Some value) = refl

  same_names : (key : PlainKey) → named (only_values items) key ≡ items key
  same_names (ExtentKey store id start stop) = sym (names.extent store id start stop)
  same_names (AllocationKey start stop) = sym (names.allocation start stop)
  same_names (ObjectKey store id) = (λ i. unless_waiting ((told (items (GraveKey store id)) ∙ names.grave store id) i) (told (items (ObjectKey store id)) i))
  same_names (AttributeKey store id name) = sym (names.attribute store id name)
  same_names (ChildKey store id name) = told (items (ChildKey store id name))
  same_names (GraveKey store id) = sym (names.grave store id)

  names_are : named (only_values items) ≡ items
  names_are = λ i key. same_names key i

  nothing_held : (f : ℕ → List ℕ) (node : NodeId) (o : Option PlainValue) → items (ObjectKey node.store node.id) ≡ o → contents_by f o (device_block (only_values items) node) ≡ no_contents
  nothing_held f node None e = refl
  nothing_held f node (Some (FileValue len)) e = ap (λ n. file_of f n (device_block (only_values items) node)) (names.empty node.store node.id len e) ∙ no_bytes f (device_block (only_values items) node)
  nothing_held f node (Some GoneValue) e = refl
  nothing_held f node (Some DirectoryValue) e = refl
  nothing_held f node (Some (AttributeValue text)) e = refl
  nothing_held f node (Some (ChildValue store id)) e = refl
  nothing_held f node (Some WaitingValue) e = refl
  nothing_held f node (Some (ExtentValue block sums)) e = refl
  nothing_held f node (Some TakenValue) e = refl

  holdings_are : (f : ℕ → List ℕ) → holdings_of (only_values items) f no_attributes ≡ bare
  holdings_are f = λ i. record {
    contents = λ node. (ap (λ o. contents_by f o (device_block (only_values items) node)) (same_names (ObjectKey node.store node.id)) ∙ nothing_held f node (items (ObjectKey node.store node.id)) refl) i;
    attributes = no_attributes;
  }

  no_attribute : (store id : ℕ) (name : List ℕ) → value_under (only_values items) (AttributeKey store id name) ≡ None
  no_attribute store id name = told (items (AttributeKey store id name)) ∙ names.attribute store id name

  no_grave : (store id : ℕ) → value_under (only_values items) (GraveKey store id) ≡ None
  no_grave store id = told (items (GraveKey store id)) ∙ names.grave store id

  attributes_none : AreAttributesOf (only_values items) no_attributes
  attributes_none = record {
    at = λ node name. map.get-empty name_cmp name
        ∙ sym (no_text (value_under (only_values items) (GraveKey node.store node.id)) (value_under (only_values items) (AttributeKey node.store node.id name)) (no_attribute node.store node.id name));
  }

  pub from_names : (f : ℕ → List ℕ) (t : Tree) → Stands items → IsTreeOf items bare t → StandForTree (only_values items) f t
  from_names f t s a = record {
    stands = subst Stands (sym names_are) s;
    within = record {
      root = no_grave 0 0;
      extent = λ store id n entry e. absurd (cc e);
      grave = λ store id value e. absurd (let q : None ≡ Some value = sym (no_grave store id) ∙ e in cc);
      attribute = λ store id name value e. absurd (let q : None ≡ Some value = sym (no_attribute store id name) ∙ e in cc);
    };
    attributes = no_attributes;
    attributes_are = attributes_none;
    tree_is = subst (λ h. IsTreeOf (named (only_values items)) h t) (sym (holdings_are f)) (subst (λ (m : ItemMap). IsTreeOf m bare t) (sym names_are) a);
  }

  pub to_names : (f : ℕ → List ℕ) (t : Tree) → StandForTree (only_values items) f t → (Stands items) × (IsTreeOf items bare t)
  to_names f t s =
      let none = same_attributes (only_values items) s.attributes no_attributes s.attributes_are attributes_none in
      let plain = subst (λ a. IsTreeOf (named (only_values items)) (holdings_of (only_values items) f a) t) none s.tree_is in (
        subst Stands names_are s.stands,
        subst (λ (m : ItemMap). IsTreeOf m bare t) names_are (subst (λ h. IsTreeOf (named (only_values items)) h t) (holdings_are f) plain),
      )

-- ---- no items

no_items_alone : AreNamesAlone (λ key. None)
no_items_alone = record {
  extent = λ store id start stop. refl;
  allocation = λ start stop. refl;
  attribute = λ store id name. refl;
  grave = λ store id. refl;
  empty = λ store id len e. absurd (cc e);
}

no_points : only_values (λ key. None) ≡ (λ p. None)
no_points = λ i p. by p i where
  by : (p : Point) → only_values (λ key. None) p ≡ None
  by (AtKey key) = refl
  by (AtFileBlock store id place) = refl
  by (AtDeviceBlock block) = refl

pub nothing_stands : (f : ℕ → List ℕ) → StandForTree (λ p. None) f root
nothing_stands f = subst (λ (m : Points). StandForTree m f root) no_points (from_names (λ key. None) no_items_alone f root Empty.stands (Empty.tree bare))

pub nothing_clear : (f : ℕ → List ℕ) → AreClear (λ p. None) f
nothing_clear f = record { zero = λ node len i e l. refl }
