-- The children that items tell, and the nodes that have an Object.
use Rattle.std.specs.Prelude.{ℕ, Bool, ◌&&◌, ◌==◌, List, map, Option, Some, None}
use Rattle.std.specs.List.{filter, filter_map, flat_map}
use Rattle.fx_item.specs.Item.{PlainKey, PlainValue, PlainItem, ObjectKey, ChildKey, ChildValue}
use Rattle.fx_namespace.specs.Nodes.{NodeId}
use Rattle.fx_nodes.specs.declared.graph.Child.{Child}

-- a child: the node that has it, its name there, and the node that it leads to
pub record Link : Type 0 where
  pub parent : NodeId
  pub name : List ℕ
  pub node : NodeId

abbrev pub link_at : PlainKey → PlainValue → Option Link
link_at (ChildKey store id name) (ChildValue to to_id) =
    Some (record {
      parent = record { store = store; id = id };
      name = name;
      node = record { store = to; id = to_id };
    })
link_at _ _ = None

-- all children, in the order of their keys
abbrev pub links_of : List PlainItem → List Link
links_of items = filter_map (λ x. link_at x.key x.value) items

abbrev pub is_same_node : NodeId → NodeId → Bool
is_same_node a b = a.store == b.store && a.id == b.id

-- the children of a node
abbrev pub links_from : List Link → NodeId → List Link
links_from links node = filter (λ l. is_same_node l.parent node) links

-- the nodes that children lead to
abbrev pub targets_in : List Link → List NodeId
targets_in links = map (λ l. l.node) links

abbrev pub targets_of : List Link → NodeId → List NodeId
targets_of links node = targets_in (links_from links node)

abbrev pub nodes_below : List Link → List NodeId → List NodeId
nodes_below links nodes = flat_map (targets_of links) nodes

abbrev pub object_at : PlainKey → Option NodeId
object_at (ObjectKey store id) = Some (record { store = store; id = id })
object_at _ = None

-- the nodes that have an Object
abbrev pub objects_of : List PlainItem → List NodeId
objects_of items = filter_map (λ x. object_at x.key) items

-- a child in memory
abbrev pub link_of : Child → Link
link_of c = record { parent = c.parent; name = c.name.now; node = c.node }

abbrev pub links_in : List Child → List Link
links_in children = map link_of children
