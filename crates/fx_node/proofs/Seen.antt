-- What is told of a node on a path is what the tree has there.
use Rattle.std.proofs.Common.{◌≡◌, inl, inr, ℕ, List, length, refl, sym, ap, subst, ◌∙◌, Bool, true, false, cond}
use Rattle.std.proofs.lemmas.Bool.{and_parts, eqb-true}
use Rattle.std.specs.Prelude.{◌==◌, Option, Some, None, option_and_then, option_map}
use Rattle.std.specs.FinMap as finite
use Rattle.fx_item.specs.Item.{ObjectKey, AttributeKey, GraveKey, PlainValue, GoneValue, DirectoryValue, FileValue, AttributeValue, ChildValue, WaitingValue, ExtentValue, TakenValue}
use Rattle.fx_item.specs.Name.{name_cmp}
use Rattle.fx_plain.specs.Node.{Node, empty_dir}
use Rattle.fx_plain.specs.Tree.{Tree}
use Rattle.fx_plain.specs.declared.kind.Kind.{Kind}
use Rattle.fx_plain.specs.declared.kind.Kind.TheVariants as kinds
use Rattle.fx_steps.specs.Rows.{attributes_of_node}
use Rattle.fx_namespace.specs.Nodes.{NodeId, root_node, is_root, kind_of, node_at, told_kind}
use Rattle.fx_namespace.specs.Trees.{Holdings, node_of, shown}
use Rattle.fx_namespace.proofs.Walks.{EndsWith, ends_with, last_step, node_path, root_not_led}
use Rattle.fx_contents.specs.Files.{byte_at, file_of}
use Rattle.fx_contents.specs.Points.{Points, named, value_under, unless_waiting, text_in, device_block}
use Rattle.fx_contents.specs.Standing.{StandForTree, holdings_of, contents_by}
use Rattle.fx_contents.proofs.Amiss.{none_at}
use Rattle.fx_contents.proofs.OneTree.{not_waiting}
use Rattle.std.proofs.lemmas.List.FromFn.{length-map-range_with_len}
use Rattle.fx_dir.specs.Walk.{kind_in_tree}
use Rattle.fx_dir.proofs.Trees.{tree_kind}
use Rattle.fx_node.specs.Told.{told_length, length_of_node}

file_length : (f : ℕ → List ℕ) (len : ℕ) (held : ℕ → Option ℕ) → length (file_of f len held).bytes ≡ len
unfolding file_of
file_length f len held = length-map-range_with_len (byte_at f held) 0 len

root_parts : (y : NodeId) → is_root y ≡ true → y ≡ root_node
root_parts y t = let p = and_parts (y.store == 0) (y.id == 0) t in node_path y root_node (eqb-true y.store 0 p.0) (eqb-true y.id 0 p.1)

module _ {m : Points} {f : ℕ → List ℕ} {t : Tree} (s : StandForTree m f t) where
  -- the root has no Object
  root_bare : named m (ObjectKey 0 0) ≡ None
  root_bare = none_at (named m (ObjectKey 0 0)) (λ v e.
      let w = s.stands.reached root_node v e in
      let l = last_step (named m) w.0 w.1 root_node w.2 in
      root_not_led (named m) s.stands l.0 w.1 l.2)

  module _ (path : List (List ℕ)) (at : NodeId) (way : node_at (named m) path ≡ Some at) where
    no_grave_by : EndsWith path → value_under m (GraveKey at.store at.id) ≡ None
    no_grave_by (inl e) =
        let q : Some root_node ≡ Some at = sym (ap (node_at (named m)) e) ∙ way in
        let r : root_node ≡ at = cc q in
        subst (λ (y : NodeId). value_under m (GraveKey y.store y.id) ≡ None) r s.within.root
    no_grave_by (inr k) = not_waiting m f t k.0 k.1 at s (subst (λ p. node_at (named m) p ≡ Some at) k.2 way)

    no_grave : value_under m (GraveKey at.store at.id) ≡ None
    no_grave = no_grave_by (ends_with path)

    pub object_seen : value_under m (ObjectKey at.store at.id) ≡ named m (ObjectKey at.store at.id)
    object_seen = sym (ap (λ g. unless_waiting g (value_under m (ObjectKey at.store at.id))) no_grave)

    pub kind_seen : cond (is_root at) (Some kinds.Dir) (told_kind (value_under m (ObjectKey at.store at.id))) ≡ option_map kind_in_tree (finite.get t path)
    kind_seen = ap (λ v. cond (is_root at) (Some kinds.Dir) (told_kind v)) object_seen
        ∙ sym (tree_kind s.tree_is path ∙ ap (option_and_then (kind_of (named m))) way)

    abbrev object : Option PlainValue
    object = named m (ObjectKey at.store at.id)

    abbrev holds : Holdings
    holds = holdings_of m f s.attributes

    in_tree : finite.get t path ≡ shown (named m) (holdings_of m f s.attributes) at
    in_tree = s.tree_is.at path ∙ ap (option_and_then (shown (named m) (holdings_of m f s.attributes))) way

    root_object : is_root at ≡ true → object ≡ None
    root_object b = ap (λ (y : NodeId). named m (ObjectKey y.store y.id)) (root_parts at b) ∙ root_bare

    -- ---- a file's length

    length_by : (o : Option PlainValue) → object ≡ o → told_length o ≡ option_and_then length_of_node (option_map (node_of holds at) (told_kind o))
    length_by None e = refl
    length_by (Some GoneValue) e = refl
    length_by (Some DirectoryValue) e = refl
    length_by (Some (FileValue len)) e = ap Some (sym (ap (λ v. length (contents_by f v (device_block m at)).bytes) e ∙ file_length f len (device_block m at)))
    length_by (Some (AttributeValue text)) e = refl
    length_by (Some (ChildValue store id)) e = refl
    length_by (Some WaitingValue) e = refl
    length_by (Some (ExtentValue block sums)) e = refl
    length_by (Some TakenValue) e = refl

    length_root : (b : Bool) → is_root at ≡ b → told_length object ≡ option_and_then length_of_node (cond b (Some empty_dir) (option_map (node_of holds at) (told_kind object)))
    length_root true b = ap told_length (root_object b)
    length_root false b = length_by object refl

    pub length_seen : told_length (value_under m (ObjectKey at.store at.id)) ≡ option_and_then length_of_node (finite.get t path)
    length_seen = ap told_length object_seen ∙ length_root (is_root at) refl ∙ sym (ap (option_and_then length_of_node) in_tree)

    -- ---- an attribute

    module _ (name : List ℕ) where
      abbrev value : Option PlainValue
      value = value_under m (AttributeKey at.store at.id name)

      abbrev of_node : Node → Option (List ℕ)
      of_node node = finite.get (attributes_of_node node) name

      attribute_held : text_in value ≡ finite.get (s.attributes at) name
      attribute_held = ap (λ g. text_in (unless_waiting g value)) (sym no_grave) ∙ sym (s.attributes_are.at at name)

      -- what has no Object has no attribute
      bare : told_kind object ≡ None → value ≡ None
      bare e = none_at value (λ v is.
          let h = s.within.attribute at.store at.id name v is in
          let q : None ≡ Some h.0 = sym e ∙ sym (ap told_kind object_seen) ∙ h.1 in cc)

      attribute_by : (k : Option Kind) → told_kind object ≡ k → text_in value ≡ option_and_then of_node (option_map (node_of holds at) k)
      attribute_by None e = ap text_in (bare e)
      attribute_by (Some kinds.Dir) e = attribute_held
      attribute_by (Some kinds.File) e = attribute_held

      attribute_root : (b : Bool) → is_root at ≡ b → text_in value ≡ option_and_then of_node (cond b (Some empty_dir) (option_map (node_of holds at) (told_kind object)))
      attribute_root true b = ap text_in (bare (ap told_kind (root_object b))) ∙ sym (finite.get-empty name_cmp name)
      attribute_root false b = attribute_by (told_kind object) refl

      pub attribute_seen : text_in value ≡ option_and_then of_node (finite.get t path)
      attribute_seen = attribute_root (is_root at) refl ∙ sym (ap (option_and_then of_node) in_tree)
