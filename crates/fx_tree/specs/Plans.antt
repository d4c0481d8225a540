-- What a step does to items: a plan, which holds all that it reads of what stands. What a look says
-- is seen at points, and what stands under point keys by `value_under`; the graveyard counts.
use Rattle.std.specs.Prelude.{◌≡◌, ◌≢◌, ◌+◌, ◌<◌, ◌≤◌, ℕ, List, [], ◌∷◌, ◌++◌, length, Option, Some, None, Ok}
use Rattle.fx_item.specs.Item.{AttributeKey, ChildKey, ChildValue}
use Rattle.fx_item.specs.Overlay.{Said, over}
use Rattle.fx_plain.specs.Tree.{Tree}
use Rattle.fx_plain.specs.declared.contents.TheConstants.{MAX_FILE}
use Rattle.fx_plain.specs.declared.kind.Kind.{Kind}
use Rattle.fx_plain.specs.declared.kind.Kind.TheVariants.{Dir, File}
use Rattle.fx_plain.specs.declared.path.TheConstants.{MAX_NAMES}
use Rattle.fx_plain.specs.declared.step.Answer.TheVariants.{Done}
use Rattle.fx_plain.specs.declared.step.Step.TheVariants.{Mkdir, Create}
use Rattle.fx_namespace.specs.Nodes.{NodeId, kind_of, node_at, node_from}
use Rattle.fx_namespace.specs.Commits.{IsNextNode, new_value}
use Rattle.fx_contents.specs.Points.{Points, points_after, text_in, value_under}
use Rattle.fx_contents.specs.Standing.{AreClear, StandForTree}
use Rattle.fx_contents.specs.Cuts.{IsCutting}
use Rattle.fx_contents.specs.Writes.{IsWriting}
use Rattle.fx_steps.specs.Changes.{AreInVolume}
use Rattle.fx_steps.specs.Groups.{do_tree_steps, tree_along}
use Rattle.fx_steps.specs.Rows.{do_tree_step}
use Rattle.fx_steps.specs.declared.step.TreeStep.{TreeStep}
use Rattle.fx_steps.specs.declared.step.TreeStep.TheVariants.{Basic, DelAttr, Remove, Rename, SetAttr}
use Rattle.fx_tree.specs.Saying.{SaysBurial, SaysMark, SaysMove, SaysNewNode}

-- A new node of that kind comes to the path: what is above it leads to a directory in which the name
-- is free, the path is not too deep, and the node is the next one.
pub record PlansNewNode (m : Points) (id store : ℕ) (path : List (List ℕ)) (kind : Kind)
    (said : Said) : Type 0 where
  pub above : List (List ℕ)
  pub name : List ℕ
  pub parent : NodeId
  pub node : NodeId
  pub path_is : path ≡ above ++ name ∷ []
  pub way : node_at (value_under m) above ≡ Some parent
  pub directory : kind_of (value_under m) parent ≡ Some Dir
  pub free : value_under m (ChildKey parent.store parent.id name) ≡ None
  pub depth : length above < MAX_NAMES
  pub next : IsNextNode parent node kind id store
  pub says : SaysNewNode said parent name node (new_value kind)

-- What lies at the path is removed: it has no children.
pub record PlansBurial (m : Points) (path : List (List ℕ)) (said : Said) : Type 0 where
  pub above : List (List ℕ)
  pub name : List ℕ
  pub parent : NodeId
  pub node : NodeId
  pub path_is : path ≡ above ++ name ∷ []
  pub way : node_at (value_under m) above ≡ Some parent
  pub entry : value_under m (ChildKey parent.store parent.id name)
      ≡ Some (ChildValue node.store node.id)
  pub childless : (other : List ℕ) → value_under m (ChildKey node.store node.id other) ≡ None
  pub says : SaysBurial said parent name node

-- The node at the path, not the root, has the attribute set to a text or taken away.
pub record PlansMark (m : Points) (path : List (List ℕ)) (name : List ℕ)
    (text : Option (List ℕ)) (said : Said) : Type 0 where
  pub node : NodeId
  pub below_root : path ≢ []
  pub way : node_at (value_under m) path ≡ Some node
  pub says : SaysMark said node name text

-- The same where the attribute is taken away: it is there.
pub record PlansUnmark (m : Points) (path : List (List ℕ)) (name : List ℕ)
    (said : Said) : Type 0 where
  pub mark : PlansMark m path name None said
  pub text : List ℕ
  pub there : text_in (value_under m (AttributeKey mark.node.store mark.node.id name)) ≡ Some text

-- What lies at a path, and all below it, moves to another path of the same volume: what is above
-- that leads to a directory in which the name is free, it does not lie below the first path, and
-- nothing comes to lie too deep.
pub record PlansMove (m : Points) (from to : List (List ℕ)) (said : Said) : Type 0 where
  pub above : List (List ℕ)
  pub name : List ℕ
  pub parent : NodeId
  pub above_to : List (List ℕ)
  pub name_to : List ℕ
  pub parent_to : NodeId
  pub node : NodeId
  pub from_is : from ≡ above ++ name ∷ []
  pub to_is : to ≡ above_to ++ name_to ∷ []
  pub in_volume : AreInVolume from to
  pub not_into : (rest : List (List ℕ)) → to ≢ from ++ rest
  pub way : node_at (value_under m) above ≡ Some parent
  pub entry : value_under m (ChildKey parent.store parent.id name)
      ≡ Some (ChildValue node.store node.id)
  pub way_to : node_at (value_under m) above_to ≡ Some parent_to
  pub directory : kind_of (value_under m) parent_to ≡ Some Dir
  pub free : value_under m (ChildKey parent_to.store parent_to.id name_to) ≡ None
  pub shallow : (rest : List (List ℕ)) (below : NodeId)
      → node_from (value_under m) node rest ≡ Some below → length (to ++ rest) ≤ MAX_NAMES
  pub says : SaysMove said parent name parent_to name_to node

-- The items of a step that changes names or attributes and no file's bytes, by what they say.
pub data IsNamesPlan (m : Points) (id store : ℕ) (step : TreeStep) (said : Said) : Type 0 where
  OfMkdir : (path : List (List ℕ)) → step ≡ Basic (Mkdir path)
      → PlansNewNode m id store path Dir said → IsNamesPlan m id store step said
  OfCreate : (path : List (List ℕ)) → step ≡ Basic (Create path)
      → PlansNewNode m id store path File said → IsNamesPlan m id store step said
  OfRemove : (path : List (List ℕ)) → step ≡ Remove path → PlansBurial m path said
      → IsNamesPlan m id store step said
  OfSetAttr : (path : List (List ℕ)) (name value : List ℕ) → step ≡ SetAttr path name value
      → PlansMark m path name (Some value) said → IsNamesPlan m id store step said
  OfDelAttr : (path : List (List ℕ)) (name : List ℕ) → step ≡ DelAttr path name
      → PlansUnmark m path name said → IsNamesPlan m id store step said
  OfRename : (from to : List (List ℕ)) → step ≡ Rename from to → PlansMove m from to said
      → IsNamesPlan m id store step said

-- The items with these laid on top stand for the tree after the step, which is done. No block of a
-- file changes, and what was zero past the ends of files is.
pub record IsDoneBy (m : Points) (said : Said) (f : ℕ → List ℕ) (tree : Tree)
    (step : TreeStep) : Type 0 where
  pub done : (do_tree_step tree step).0 ≡ Ok Done
  pub stands : StandForTree (points_after m said) f (do_tree_step tree step).1
  pub clear : AreClear m f → AreClear (points_after m said) f

-- how many nodes a step makes
abbrev pub nodes_made : TreeStep → ℕ
nodes_made (Basic (Mkdir path)) = 1
nodes_made (Basic (Create path)) = 1
nodes_made step = 0

-- Plans of the steps of a line: each over what stands with the items of the steps before it laid on
-- top. The next new node of each has the numbers behind those that were given.
abbrev pub AreNamesPlans : Points → (id store : ℕ) → List TreeStep → List Said → Type 0
AreNamesPlans m id store [] saids = saids ≡ []
AreNamesPlans m id store (step ∷ steps) saids = (said : Said) × (more : List Said)
    × (saids ≡ said ∷ more) × IsNamesPlan m id store step said
    × AreNamesPlans (points_after m said) (nodes_made step + id) (nodes_made step + store)
    steps more

-- what lists of items say together, the oldest first: the newer goes before the older
abbrev pub said_along : List Said → Said
said_along [] p = None
said_along (said ∷ more) p = over (said_along more) said p

-- The items of a line's plans, laid on top together, stand for the tree after its steps, none of
-- which is refused.
pub record AreDoneBy (m : Points) (saids : List Said) (f : ℕ → List ℕ) (tree : Tree)
    (steps : List TreeStep) : Type 0 where
  pub done : do_tree_steps tree steps ≡ Ok (tree_along tree steps)
  pub stands : StandForTree (points_after m (said_along saids)) f (tree_along tree steps)
  pub clear : AreClear m f → AreClear (points_after m (said_along saids)) f

-- A text of one byte or more is written into the file at the path: with what the blocks of the device
-- hold before and after, the items tell the file anew.
pub record PlansText (m : Points) (f g : ℕ → List ℕ) (path : List (List ℕ)) (at : ℕ)
    (text : List ℕ) (said : Said) : Type 0 where
  pub node : NodeId
  pub len : ℕ
  pub way : node_at (value_under m) path ≡ Some node
  pub few : at + length text ≤ MAX_FILE
  pub some : 0 < length text
  pub writes : IsWriting m (points_after m said) f g node at text len

-- The same where the file is cut, or grows.
pub record PlansSize (m : Points) (f g : ℕ → List ℕ) (path : List (List ℕ)) (size : ℕ)
    (said : Said) : Type 0 where
  pub node : NodeId
  pub len : ℕ
  pub way : node_at (value_under m) path ≡ Some node
  pub few : size ≤ MAX_FILE
  pub cuts : IsCutting m (points_after m said) f g node size len

-- The items with these on top, and what the blocks hold then, stand for the tree after the step,
-- which is done, with zeros past the ends of files.
pub record IsDoneWith (m : Points) (said : Said) (g : ℕ → List ℕ) (tree : Tree)
    (step : TreeStep) : Type 0 where
  pub done : (do_tree_step tree step).0 ≡ Ok Done
  pub stands : StandForTree (points_after m said) g (do_tree_step tree step).1
  pub clear : AreClear (points_after m said) g
