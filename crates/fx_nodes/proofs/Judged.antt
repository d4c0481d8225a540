-- The answer of the check.
use Rattle.std.proofs.Common.{◌≡◌, inl, inr, List, ◌++◌, sym, subst}
use Rattle.std.specs.Prelude.{Option, Some, None, IfNone, IfSome}
use Rattle.std.specs.List.{flat_map}
use Rattle.fx_item.specs.Item.{PlainItem}
use Rattle.fx_item.specs.Look.{ItemMap, value_in}
use Rattle.fx_namespace.specs.Nodes.{NodeId, Stands}
use Rattle.fx_namespace.specs.Wrong.{IsLeastWrong, IsWrongAt, Misled, Missing, NoVolume, LedTwice, NoParent, Lost, TooDeep}
use Rattle.fx_nodes.specs.Lists.{IsIn}
use Rattle.fx_nodes.specs.Links.{links_of, objects_of, targets_in}
use Rattle.fx_nodes.specs.Faults.{AreDeep, AreLost, AreRepeated, IsLeastNode, wrong_by}
use Rattle.fx_nodes.specs.Table.{AreKept}
use Rattle.fx_nodes.proofs.Keys.{item_keys}
use Rattle.fx_nodes.proofs.NothingWrong as laws
use Rattle.fx_nodes.proofs.Links.{are_items, found, object_in, object_stands}
use Rattle.fx_nodes.proofs.Lists.{contains_from, in_cases, in_left, in_map, in_right}
use Rattle.fx_nodes.proofs.Wrong.{led_twice_in, led_twice_sound, misled_in, missing_in, no_parent_in, no_volume_in, wrong_by_sound}

module _ {items : List PlainItem} (k : AreKept items) {first twice lost deep : List NodeId}
    (f : first ≡ flat_map (wrong_by (value_in items)) (links_of items)) (t : AreRepeated (targets_in (links_of items)) twice) (l : AreLost (value_in items) (objects_of items) lost) (d : AreDeep (value_in items) deep) where
  m : ItemMap
  m = value_in items

  -- a node that was gathered is wrong
  sound : (node : NodeId) → IsIn (((first ++ twice) ++ lost) ++ deep) node → IsWrongAt (value_in items) node
  sound node i = elim (in_cases ((first ++ twice) ++ lost) deep node i) [
    | inr j ↦ let w = d.sound node j in TooDeep w.0 w.1 w.2
    | inl j ↦ elim (in_cases (first ++ twice) lost node j) [
      | inr h ↦ let o = object_stands items k node (l.object node h) in Lost o.0 o.1 (l.unled node h)
      | inl h ↦ elim (in_cases first twice node h) [
        | inl g ↦ wrong_by_sound items k node (subst (λ ns. IsIn ns node) f g)
        | inr g ↦ led_twice_sound items k node (t.sound node g)
      ]
    ]
  ]

  in_first : (node : NodeId) → IsIn (flat_map (wrong_by (value_in items)) (links_of items)) node → IsIn (((first ++ twice) ++ lost) ++ deep) node
  in_first node i = in_left ((first ++ twice) ++ lost) deep node (in_left (first ++ twice) lost node (in_left first twice node (subst (λ ns. IsIn ns node) (sym f) i)))

  -- a node that is wrong was gathered
  whole : (node : NodeId) → IsWrongAt (value_in items) node → IsIn (((first ++ twice) ++ lost) ++ deep) node
  whole node (Misled p x e ne) = in_first node (misled_in items k p node x e ne)
  whole node (Missing p x e none) = in_first node (missing_in items k p node x e none)
  whole node (NoVolume x e ne) = in_first node (no_volume_in items k node x e ne)
  whole node (LedTwice a b x y e g ne) =
      in_left ((first ++ twice) ++ lost) deep node (in_left (first ++ twice) lost node (in_right first twice node (t.whole node (led_twice_in items k a b node x y e g ne))))
  whole node (NoParent x v ne e nd) = in_first node (no_parent_in items k node x v ne e nd)
  whole node (Lost v e un) = in_left ((first ++ twice) ++ lost) deep node (in_right (first ++ twice) lost node (l.whole node (object_in items node v e) un))
  whole node (TooDeep path e long) = in_right ((first ++ twice) ++ lost) deep node (d.whole path node e long)

  pub least_wrong : (o : Option NodeId) → IsLeastNode (((first ++ twice) ++ lost) ++ deep) o → IfSome o (IsLeastWrong (value_in items))
  least_wrong None h = tt
  least_wrong (Some node) h = record { wrong = sound node h.0; least = λ other w. h.1 other (whole other w) }

  pub all_stand : (o : Option NodeId) → IsLeastNode (((first ++ twice) ++ lost) ++ deep) o → IfNone o (Stands (value_in items))
  all_stand (Some node) h = tt
  all_stand None h = laws.stands (value_in items) (are_items items k) (item_keys items)
      (λ key value e. contains_from (item_keys items) key (in_map (λ x. x.key) items (record { key = key; value = value }) (found items key value e)))
      (λ node w. subst (λ ns. IsIn ns node) h (whole node w))
