-- One file told anew: the items stand for the tree with that file in its place.
use Rattle.std.proofs.Common.{◌≡◌, ◌≢◌, ◌⊎◌, inl, inr, ℕ, ◌*◌, ◌<◌, ◌≤◌, List, refl, sym, ap, ◌∙◌, subst, arith}
use Rattle.std.specs.Prelude.{Option, Some, None, option_and_then, option_map}
use Rattle.std.specs.FinMap.{get, insert}
use Rattle.fx_item.specs.Item.{PlainKey, ObjectKey, AttributeKey, ExtentKey, ChildKey, GraveKey, AllocationKey, PlainValue, FileValue}
use Rattle.fx_item.specs.Look.{value_of_entry}
use Rattle.fx_item.specs.Overlay.{Point, AtKey, AtFileBlock, Entry}
use Rattle.fx_plain.specs.Node.{Attributes, File}
use Rattle.fx_plain.specs.Tree.{Tree}
use Rattle.fx_base.specs.declared.block.TheConstants.{BLOCK_BYTES}
use Rattle.fx_plain.specs.declared.kind.Kind.TheVariants as kinds
use Rattle.fx_namespace.specs.Changes.{Resizes, SameBut}
use Rattle.fx_namespace.specs.Nodes.{NodeId, root_node, node_at, told_kind}
use Rattle.fx_namespace.specs.Trees.{IsTreeOf, node_of, shown}
use Rattle.fx_namespace.proofs.Resized as resized
use Rattle.fx_namespace.proofs.Trees.{shown_inner}
use Rattle.fx_namespace.proofs.Walks.{same_node, node_path, last_step, root_not_led}
use Rattle.fx_contents.specs.Points.{Points, value_under, named, unless_waiting, block_in, device_block, text_in}
use Rattle.fx_contents.specs.Files.{byte_at, file_of}
use Rattle.fx_contents.specs.Standing.{contents_by, holdings_of, AreAttributesOf, AreWithin, HasObject, StandForTree, AreClear}
use Rattle.fx_contents.specs.Rewrites.{IsBeside, IsRewriting}
use Rattle.fx_contents.proofs.LiveBlocks

-- an Object that does not wait, and no grave
pub no_grave : (grave object : Option PlainValue) (value : PlainValue) → unless_waiting grave object ≡ Some value → (grave ≡ None) × (object ≡ Some value)
no_grave None object value e = (refl, e)
no_grave (Some v) object value e = absurd (let f : None ≡ Some value = e in cc)

-- ---- what is told of everything else

module _ (m n : Points) (node : NodeId) (others : (p : Point) → IsBeside node p → n p ≡ m p) where
  same_point : (key : PlainKey) → key ≢ ObjectKey node.store node.id → n (AtKey key) ≡ m (AtKey key)
  same_point key ne = others (AtKey key) (record { object = λ q. ne (cc q); file = λ k q. cc; device = λ b q. cc })

  same_value : (key : PlainKey) → key ≢ ObjectKey node.store node.id → value_under n key ≡ value_under m key
  same_value (ExtentKey store id start stop) ne = refl
  same_value (AllocationKey start stop) ne = refl
  same_value (ObjectKey store id) ne = ap value_of_entry (same_point (ObjectKey store id) ne)
  same_value (AttributeKey store id name) ne = ap value_of_entry (same_point (AttributeKey store id name) ne)
  same_value (ChildKey store id name) ne = ap value_of_entry (same_point (ChildKey store id name) ne)
  same_value (GraveKey store id) ne = ap value_of_entry (same_point (GraveKey store id) ne)

  same_grave : (store id : ℕ) → value_under n (GraveKey store id) ≡ value_under m (GraveKey store id)
  same_grave store id = same_value (GraveKey store id) (λ q. cc)

  same_attribute : (store id : ℕ) (name : List ℕ) → value_under n (AttributeKey store id name) ≡ value_under m (AttributeKey store id name)
  same_attribute store id name = same_value (AttributeKey store id name) (λ q. cc)

  same_named : (key : PlainKey) → key ≢ ObjectKey node.store node.id → named n key ≡ named m key
  same_named (ExtentKey store id start stop) ne = refl
  same_named (AllocationKey start stop) ne = refl
  same_named (ObjectKey store id) ne = (λ i. unless_waiting (same_grave store id i) (same_value (ObjectKey store id) ne i))
  same_named (AttributeKey store id name) ne = refl
  same_named (ChildKey store id name) ne = same_value (ChildKey store id name) ne
  same_named (GraveKey store id) ne = refl

  resizes : (old new : ℕ) → named m (ObjectKey node.store node.id) ≡ Some (FileValue old) → value_under n (ObjectKey node.store node.id) ≡ Some (FileValue new) → Resizes (named m) (named n) node old new
  resizes old new before after = record {
    before = before;
    after = (λ i. unless_waiting ((same_grave node.store node.id ∙ (no_grave (value_under m (GraveKey node.store node.id)) (value_under m (ObjectKey node.store node.id)) (FileValue old) before).0) i) (after i));
    others = same_named;
  }

  same_entry : (store id k : ℕ) → (record { store = store; id = id } ≢ node) → n (AtFileBlock store id k) ≡ m (AtFileBlock store id k)
  same_entry store id k ne = others (AtFileBlock store id k) (record {
    object = λ q. cc;
    file = λ j q. ne (node_path (record { store = store; id = id }) node (cc q) (cc q));
    device = λ b q. cc;
  })

  same_block : (other : NodeId) → other ≢ node → device_block n other ≡ device_block m other
  same_block other ne = λ i k. block_in (same_entry other.store other.id k (λ q. ne q) i)

  same_but : (f g : ℕ → List ℕ) (a : NodeId → Attributes) → ((other : NodeId) (k block : ℕ) → other ≢ node → device_block m other k ≡ Some block → g block ≡ f block) → SameBut node (holdings_of m f a) (holdings_of n g a)
  same_but f g a same = record {
    contents = λ other ne. (λ i. contents_by g (same_named (ObjectKey other.store other.id) (λ q. ne (node_path other node (cc q) (cc q))) i) (same_block other ne i))
        ∙ LiveBlocks.same_held g f (device_block m other) (λ k block. same other k block ne) (named m (ObjectKey other.store other.id));
    attributes = λ other. refl;
  }

  attributes_stay : (a : NodeId → Attributes) → AreAttributesOf m a → AreAttributesOf n a
  attributes_stay a are = record {
    at = λ other name. are.at other name
        ∙ sym (λ i. text_in (unless_waiting (same_grave other.store other.id i) (same_attribute other.store other.id name i)));
  }

-- ---- one file told anew

module _ (m n : Points) (f g : ℕ → List ℕ) (node : NodeId) (old new : ℕ) (r : IsRewriting m n f g node old new) where
  object_still : (store id : ℕ) → HasObject m store id → (record { store = store; id = id } ≡ node) ⊎ (record { store = store; id = id } ≢ node) → HasObject n store id
  object_still store id x (inl is) = (kinds.File, ap told_kind (ap (λ (y : NodeId). value_under n (ObjectKey y.store y.id)) is ∙ r.after))
  object_still store id x (inr ne) = (x.0, ap told_kind (same_value m n node r.others (ObjectKey store id) (λ q. ne (node_path (record { store = store; id = id }) node (cc q) (cc q)))) ∙ x.1)

  within_after : AreWithin m → AreWithin n
  within_after w = record {
    root = same_grave m n node r.others 0 0 ∙ w.root;
    extent = λ store id k entry e. extent store id k entry e (same_node (record { store = store; id = id }) node);
    grave = λ store id value e. object_still store id (w.grave store id value (sym (same_grave m n node r.others store id) ∙ e)) (same_node (record { store = store; id = id }) node);
    attribute = λ store id name value e. object_still store id (w.attribute store id name value (sym (same_attribute m n node r.others store id name) ∙ e)) (same_node (record { store = store; id = id }) node);
  } where
    extent : (store id k : ℕ) (entry : Entry) → n (AtFileBlock store id k) ≡ Some entry → (record { store = store; id = id } ≡ node) ⊎ (record { store = store; id = id } ≢ node)
        → (len : ℕ) × (value_under n (ObjectKey store id) ≡ Some (FileValue len)) × (k * BLOCK_BYTES < len)
    extent store id k entry e (inl is) = (new, ap (λ (x : NodeId). value_under n (ObjectKey x.store x.id)) is ∙ r.after, r.inside k entry (ap (λ (x : NodeId). n (AtFileBlock x.store x.id k)) (sym is) ∙ e))
    extent store id k entry e (inr ne) =
        let x = w.extent store id k entry (sym (same_entry m n node r.others store id k ne) ∙ e) in
        (x.0, same_value m n node r.others (ObjectKey store id) (λ q. ne (node_path (record { store = store; id = id }) node (cc q) (cc q))) ∙ x.1, x.2)

  retold : Resizes (named m) (named n) node old new
  retold = resizes m n node r.others old new r.before r.after

  module _ (t : Tree) (s : StandForTree m f t) (path : List (List ℕ)) (way : node_at (named m) path ≡ Some node) where
    not_root : node ≢ root_node
    not_root is =
        let w = s.stands.reached node (FileValue old) r.before in
        let l = last_step (named m) w.0 w.1 node w.2 in
        root_not_led (named m) s.stands l.0 w.1 (l.2 ∙ ap Some is)

    -- what the tree has there
    pub file_there : get t path ≡ Some (File (file_of f old (device_block m node)) (s.attributes node))
    file_there = s.tree_is.at path ∙ ap (option_and_then (shown (named m) (holdings_of m f s.attributes))) way
        ∙ shown_inner (named m) (holdings_of m f s.attributes) node not_root
        ∙ ap (option_map (node_of (holdings_of m f s.attributes) node)) (ap told_kind r.before)
        ∙ ap (λ v. Some (File (contents_by f v (device_block m node)) (s.attributes node))) r.before

    file_after : node_of (holdings_of n g s.attributes) node kinds.File ≡ File (file_of g new (device_block n node)) (s.attributes node)
    file_after = ap (λ v. File (contents_by g v (device_block n node)) (s.attributes node)) retold.after

    -- and what it has there afterwards
    pub stands_after : StandForTree n g (insert t path (File (file_of g new (device_block n node)) (s.attributes node)))
    stands_after = record {
      stands = resized.stands retold s.stands;
      within = within_after s.within;
      attributes = s.attributes;
      attributes_are = attributes_stay m n node r.others s.attributes s.attributes_are;
      tree_is = subst (λ x. IsTreeOf (named n) (holdings_of n g s.attributes) (insert t path x)) file_after
          (resized.contents retold s.stands (same_but m n node r.others f g s.attributes r.same) path way t s.tree_is);
    }

  -- zeros past the ends
  pub clear_after : AreClear m f → ((i : ℕ) → new ≤ i → byte_at g (device_block n node) i ≡ 0) → AreClear n g
  clear_after c here = record { zero = λ other len i e h. by other len i e h (same_node other node) } where
    by : (other : NodeId) (len i : ℕ) → named n (ObjectKey other.store other.id) ≡ Some (FileValue len) → len ≤ i → (other ≡ node) ⊎ (other ≢ node) → byte_at g (device_block n other) i ≡ 0
    by other len i e h (inl is) =
        let l : FileValue len ≡ FileValue new = cc (sym e ∙ ap (λ (x : NodeId). named n (ObjectKey x.store x.id)) is ∙ retold.after) in
        let k : len ≡ new = cc l in
        ap (λ x. byte_at g (device_block n x) i) is ∙ here i (omega (arith, k))
    by other len i e h (inr ne) =
        ap (λ b. byte_at g b i) (same_block m n node r.others other ne)
        ∙ LiveBlocks.same_at g f (device_block m other) (λ k block. r.same other k block ne) i
        ∙ c.zero other len i (sym (same_named m n node r.others (ObjectKey other.store other.id) (λ q. ne (node_path other node (cc q) (cc q)))) ∙ e) h

-- ---- blocks of a file begin within it

pub inside_file : (m : Points) (node : NodeId) (len : ℕ) → AreWithin m → named m (ObjectKey node.store node.id) ≡ Some (FileValue len) → (k : ℕ) (entry : Entry) → m (AtFileBlock node.store node.id k) ≡ Some entry → k * BLOCK_BYTES < len
inside_file m node len w before k entry e =
    let x = w.extent node.store node.id k entry e in
    let o = (no_grave (value_under m (GraveKey node.store node.id)) (value_under m (ObjectKey node.store node.id)) (FileValue len) before).1 in
    let l : FileValue x.0 ≡ FileValue len = cc (sym x.1 ∙ o) in
    let same : x.0 ≡ len = cc l in
    subst (λ n. k * BLOCK_BYTES < n) same x.2

pub inside_block : (m : Points) (node : NodeId) (len : ℕ) → AreWithin m → named m (ObjectKey node.store node.id) ≡ Some (FileValue len) → (k block : ℕ) → device_block m node k ≡ Some block → k * BLOCK_BYTES < len
inside_block m node len w before k block is = by (m (AtFileBlock node.store node.id k)) refl is where
  by : (o : Option Entry) → m (AtFileBlock node.store node.id k) ≡ o → block_in o ≡ Some block → k * BLOCK_BYTES < len
  by None e is = absurd (let q : None ≡ Some block = is in cc)
  by (Some entry) e is = inside_file m node len w before k entry e
