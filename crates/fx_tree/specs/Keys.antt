-- Which nodes' keys a step takes, and what they are enough for.
use Rattle.std.specs.Prelude.{◌≡◌, ◌⊎◌, ℕ, ◌<◌, List, [], ◌∷◌, ◌++◌, length, take, Some}
use Rattle.fx_item.specs.Item.{AttributeKey, ChildKey, GraveKey, ObjectKey}
use Rattle.fx_item.specs.Look.{ItemMap}
use Rattle.fx_item.specs.Overlay.{AtFileBlock, Said}
use Rattle.fx_item.specs.declared.lock.Mode.{Mode}
use Rattle.fx_item.specs.declared.lock.Mode.TheVariants.{Share, Change}
use Rattle.fx_plain.specs.declared.kind.Kind.TheVariants.{Dir}
use Rattle.fx_plain.specs.declared.step.Step.TheVariants.{Mkdir, Create, Write}
use Rattle.fx_namespace.specs.Nodes.{NodeId, child, kind_of, node_at, object_kind}
use Rattle.fx_contents.specs.Points.{Points, points_after, value_under}
use Rattle.fx_steps.specs.declared.step.TreeStep.{TreeStep}
use Rattle.fx_steps.specs.declared.step.TreeStep.TheVariants.{Basic, DelAttr, Remove, Rename, SetAttr, Truncate}

-- the walk along the path goes through this directory on the way to its last name
pub record IsWalkedDir (m : ItemMap) (path : List (List ℕ)) (node : NodeId) : Type 0 where
  pub count : ℕ
  pub before : count < length path
  pub way : node_at m (take count path) ≡ Some node
  pub directory : kind_of m node ≡ Some Dir

-- the path is one that the step walks
abbrev pub Walks : TreeStep → List (List ℕ) → Type 0
Walks (Basic (Mkdir path)) p = p ≡ path
Walks (Basic (Create path)) p = p ≡ path
Walks (Basic (Write path at text)) p = p ≡ path
Walks (Basic step) p = ⊥
Walks (Truncate path size) p = p ≡ path
Walks (Remove path) p = p ≡ path
Walks (Rename from to) p = (p ≡ from) ⊎ (p ≡ to)
Walks (SetAttr path name value) p = p ≡ path
Walks (DelAttr path name) p = p ≡ path
Walks step p = ⊥

-- the step changes the directory above what lies at the path
abbrev pub ChangesAbove : TreeStep → List (List ℕ) → Type 0
ChangesAbove (Basic (Mkdir path)) p = p ≡ path
ChangesAbove (Basic (Create path)) p = p ≡ path
ChangesAbove (Basic step) p = ⊥
ChangesAbove (Remove path) p = p ≡ path
ChangesAbove (Rename from to) p = (p ≡ from) ⊎ (p ≡ to)
ChangesAbove step p = ⊥

-- the step changes the node at the path
abbrev pub ChangesAt : TreeStep → List (List ℕ) → Type 0
ChangesAt (Basic (Write path at text)) p = p ≡ path
ChangesAt (Basic step) p = ⊥
ChangesAt (Truncate path size) p = p ≡ path
ChangesAt (Remove path) p = p ≡ path
ChangesAt (SetAttr path name value) p = p ≡ path
ChangesAt (DelAttr path name) p = p ≡ path
ChangesAt step p = ⊥

-- The step takes the key of this node in this mode: of each directory that it walks, and of each that
-- it moves with those below it, to share it; and of each node that it changes.
pub data IsStepKey (m : ItemMap) (step : TreeStep) (node : NodeId) (mode : Mode) : Type 0 where
  KeyOfWalk : (path : List (List ℕ)) → Walks step path → IsWalkedDir m path node → mode ≡ Share
      → IsStepKey m step node mode
  KeyAbove : (above : List (List ℕ)) (name : List ℕ) → ChangesAbove step (above ++ name ∷ [])
      → node_at m above ≡ Some node → mode ≡ Change → IsStepKey m step node mode
  KeyAt : (path : List (List ℕ)) → ChangesAt step path → node_at m path ≡ Some node
      → mode ≡ Change → IsStepKey m step node mode
  KeyBelow : (from to rest : List (List ℕ)) → step ≡ Rename from to
      → node_at m (from ++ rest) ≡ Some node → kind_of m node ≡ Some Dir → mode ≡ Share
      → IsStepKey m step node mode

-- both have the same under each key of the node, and at each block of it
pub record SameAtNode (node : NodeId) (m n : Points) : Type 0 where
  pub object : value_under n (ObjectKey node.store node.id)
      ≡ value_under m (ObjectKey node.store node.id)
  pub grave : value_under n (GraveKey node.store node.id)
      ≡ value_under m (GraveKey node.store node.id)
  pub attribute : (name : List ℕ) → value_under n (AttributeKey node.store node.id name)
      ≡ value_under m (AttributeKey node.store node.id name)
  pub entry : (name : List ℕ) → value_under n (ChildKey node.store node.id name)
      ≡ value_under m (ChildKey node.store node.id name)
  pub block : (k : ℕ) → n (AtFileBlock node.store node.id k)
      ≡ m (AtFileBlock node.store node.id k)

-- What else stands agrees at the nodes of the step's keys, and has Objects of the same kind where
-- their child entries lead.
pub record KeepsKeys (m n : Points) (step : TreeStep) : Type 0 where
  pub same : (node : NodeId) (mode : Mode) → IsStepKey (value_under m) step node mode
      → SameAtNode node m n
  pub kinds : (node : NodeId) (mode : Mode) (name : List ℕ) (next : NodeId)
      → IsStepKey (value_under m) step node mode → child (value_under m) node name ≡ Some next
      → object_kind (value_under n) next ≡ object_kind (value_under m) next

-- The keys of a line: those of each step over what the steps before it left.
abbrev pub IsLineKey : Points → List TreeStep → List Said → NodeId → Type 0
IsLineKey m [] saids node = ⊥
IsLineKey m (step ∷ steps) [] node = ⊥
IsLineKey m (step ∷ steps) (said ∷ more) node =
    ((mode : Mode) × IsStepKey (value_under m) step node mode)
    ⊎ IsLineKey (points_after m said) steps more node

-- the node is none that comes with these numbers or later ones
abbrev pub IsOldNode : (id store : ℕ) → NodeId → Type 0
IsOldNode id store node = (node.id < id) × (node.store < store)

-- The same for a line, but for its own new nodes.
pub record KeepsLineKeys (m n : Points) (id store : ℕ) (steps : List TreeStep)
    (saids : List Said) : Type 0 where
  pub same : (node : NodeId) → IsLineKey m steps saids node → IsOldNode id store node
      → SameAtNode node m n
  pub kinds : (node : NodeId) (name : List ℕ) (next : NodeId) → IsLineKey m steps saids node
      → IsOldNode id store node → child (value_under m) node name ≡ Some next
      → object_kind (value_under n) next ≡ object_kind (value_under m) next
