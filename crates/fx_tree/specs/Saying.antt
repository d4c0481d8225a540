-- What the items of one step say: of the points of the nodes that it changes, and of no other.
use Rattle.std.specs.Prelude.{◌≡◌, ◌≢◌, ℕ, List, Option, Some, None, option_map}
use Rattle.fx_item.specs.Item.{AttributeKey, AttributeValue, ChildKey, ChildValue, GraveKey, ObjectKey, PlainValue, WaitingValue}
use Rattle.fx_item.specs.Overlay.{AtKey, Entry, Point, Said, ValueEntry}
use Rattle.fx_namespace.specs.Nodes.{NodeId}

-- a new node: its Object, and its entry in a directory
pub record SaysNewNode (said : Said) (parent : NodeId) (name : List ℕ) (node : NodeId)
    (value : PlainValue) : Type 0 where
  pub object : said (AtKey (ObjectKey node.store node.id)) ≡ Some (Some (ValueEntry value))
  pub entry : said (AtKey (ChildKey parent.store parent.id name))
      ≡ Some (Some (ValueEntry (ChildValue node.store node.id)))
  pub others : (p : Point) → p ≢ AtKey (ObjectKey node.store node.id)
      → p ≢ AtKey (ChildKey parent.store parent.id name) → said p ≡ None

-- a removal: the node's entry in a directory goes, and the node waits in the graveyard
pub record SaysBurial (said : Said) (parent : NodeId) (name : List ℕ) (node : NodeId) : Type 0 where
  pub gone : said (AtKey (ChildKey parent.store parent.id name)) ≡ Some None
  pub waits : said (AtKey (GraveKey node.store node.id)) ≡ Some (Some (ValueEntry WaitingValue))
  pub others : (p : Point) → p ≢ AtKey (ChildKey parent.store parent.id name)
      → p ≢ AtKey (GraveKey node.store node.id) → said p ≡ None

-- the entry of an attribute with this text
abbrev pub text_entry : List ℕ → Entry
text_entry text = ValueEntry (AttributeValue text)

-- an attribute of a node is set to a text, or taken away
pub record SaysMark (said : Said) (node : NodeId) (name : List ℕ)
    (text : Option (List ℕ)) : Type 0 where
  pub attribute : said (AtKey (AttributeKey node.store node.id name))
      ≡ Some (option_map text_entry text)
  pub others : (p : Point) → p ≢ AtKey (AttributeKey node.store node.id name) → said p ≡ None

-- a node's entry in one directory goes, and it has one in this directory under this name
pub record SaysMove (said : Said) (parent : NodeId) (name : List ℕ) (other : NodeId)
    (other_name : List ℕ) (node : NodeId) : Type 0 where
  pub gone : said (AtKey (ChildKey parent.store parent.id name)) ≡ Some None
  pub entry : said (AtKey (ChildKey other.store other.id other_name))
      ≡ Some (Some (ValueEntry (ChildValue node.store node.id)))
  pub others : (p : Point) → p ≢ AtKey (ChildKey parent.store parent.id name)
      → p ≢ AtKey (ChildKey other.store other.id other_name) → said p ≡ None
