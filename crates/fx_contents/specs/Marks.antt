-- An attribute of a node is set or taken away: the step on the tree, and the items that say it.
use Rattle.std.specs.Prelude.{◌≡◌, ◌≢◌, ℕ, List, [], Option, Some, None}
use Rattle.std.specs.FinMap as map
use Rattle.fx_item.specs.Item.{AttributeKey}
use Rattle.fx_item.specs.Overlay.{Point, AtKey, AtDeviceBlock}
use Rattle.fx_plain.specs.Node.{Attributes, Node, Dir, File}
use Rattle.fx_plain.specs.Tree.{Tree}
use Rattle.fx_namespace.specs.Nodes.{NodeId}
use Rattle.fx_contents.specs.Points.{Points, text_in, value_under}

-- the attributes with that one set to a text, or without it
abbrev pub with_attribute : List ℕ → Option (List ℕ) → Attributes → Attributes
with_attribute name (Some text) attributes = map.insert attributes name text
with_attribute name None attributes = map.remove attributes name

abbrev pub marked_node : List ℕ → Option (List ℕ) → Node → Node
marked_node name text (Dir attributes) = Dir (with_attribute name text attributes)
marked_node name text (File contents attributes) =
    File contents (with_attribute name text attributes)

-- the node at the path, not the root, has the attribute set or taken away, and nothing else changed
pub record IsMarked (tree : Tree) (path : List (List ℕ)) (name : List ℕ) (text : Option (List ℕ))
    (after : Tree) : Type 0 where
  pub node : Node
  pub there : map.get tree path ≡ Some node
  pub below_root : path ≢ []
  pub inserted : after ≡ map.insert tree path (marked_node name text node)

-- The items tell one attribute of a node anew, and nothing else but blocks of the device.
pub record SetsAttribute (m n : Points) (node : NodeId) (name : List ℕ)
    (text : Option (List ℕ)) : Type 0 where
  pub after : text_in (value_under n (AttributeKey node.store node.id name)) ≡ text
  pub others : (p : Point) → p ≢ AtKey (AttributeKey node.store node.id name)
      → ((b : ℕ) → p ≢ AtDeviceBlock b) → n p ≡ m p
