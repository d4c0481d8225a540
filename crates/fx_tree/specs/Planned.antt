-- What the code plans for a step, and what it meets on the way.
use Rattle.std.specs.Prelude.{◌≡◌, ℕ, List, [], ◌∷◌, ◌++◌, length, All, Bool, true, false, is_some, IsTrue, Some, None, Result, Err, if◌then◌else◌}
use Rattle.fx_item.specs.Item.{AttributeKey, ChildKey, IsItem, PlainItem, PlainValue, items_of}
use Rattle.fx_item.specs.Look.{ItemMap}
use Rattle.fx_item.specs.Order.{is_ascending}
use Rattle.fx_item.specs.Overlay.{Said, says}
use Rattle.fx_item.specs.declared.lock.LockKey.{LockKey}
use Rattle.fx_plain.specs.Tree.{Tree}
use Rattle.fx_plain.specs.declared.kind.Kind.{Kind}
use Rattle.fx_plain.specs.declared.kind.Kind.TheVariants.{Dir, File}
use Rattle.fx_namespace.specs.Commits.{new_value}
use Rattle.fx_namespace.specs.Nodes.{NodeId, is_root, kind_of, node_at}
use Rattle.fx_contents.specs.Points.{Points, text_in, value_under}
use Rattle.fx_contents.specs.Standing.{StandForTree}
use Rattle.fx_dir.specs.Walk.{EndsAfter, EndsInTree, GoesThrough}
use Rattle.fx_dir.specs.declared.walk.WalkEnd.{WalkEnd}
use Rattle.fx_plain.specs.declared.step.Answer.{Answer}
use Rattle.fx_steps.specs.declared.refusal.StepRefusal.{StepRefusal}
use Rattle.fx_steps.specs.Rows.{do_tree_step}
use Rattle.fx_steps.specs.declared.step.TreeStep.{TreeStep}
use Rattle.fx_tree.specs.declared.planning.StepPlanned.{StepPlanned}
use Rattle.fx_tree.specs.declared.planning.StepPlanned.TheVariants.{Refused, Fine}
use Rattle.fx_tree.specs.Plans.{IsNamesPlan}
use Rattle.fx_tree.specs.Saying.{SaysBurial, SaysNewNode}

-- Over items that stand for a tree, the step is refused just as on that tree, or the items are a
-- plan of it.
abbrev pub PlansStep : Points → ℕ → ℕ → TreeStep → StepPlanned → Type 0
PlansStep m id store step (Refused refusal) = (f : ℕ → List ℕ) (t : Tree) → StandForTree m f t
    → (do_tree_step t step).0 ≡ Err refusal
PlansStep m id store step (Fine items) = (f : ℕ → List ℕ) (t : Tree) → StandForTree m f t
    → IsNamesPlan m id store step (says (items_of items))

-- items that keep their rules, in order
abbrev pub AreInKeyOrder : List PlainItem → Type 0
AreInKeyOrder items = IsTrue (is_ascending items) × All IsItem items

abbrev pub IsOrderedPlan : StepPlanned → Type 0
IsOrderedPlan (Refused refusal) = Unit {0}
IsOrderedPlan (Fine items) = AreInKeyOrder (items_of items)

-- A walk along the path over what stands, and along it in the tree.
pub record MeetsWalk (m : Points) (path : List (List ℕ)) (dirs : List LockKey)
    (end : WalkEnd) : Type 0 where
  pub through : GoesThrough (value_under m) path dirs
  pub ends_after : EndsAfter (value_under m) path (length dirs) end
  pub tree : (f : ℕ → List ℕ) (t : Tree) → StandForTree m f t → EndsInTree t path end

-- what is above the path's last name leads to this directory
pub record IsLastStep (m : ItemMap) (path : List (List ℕ)) (parent : NodeId)
    (name : List ℕ) : Type 0 where
  pub above : List (List ℕ)
  pub path_is : path ≡ above ++ name ∷ []
  pub way : node_at m above ≡ Some parent
  pub directory : kind_of m parent ≡ Some Dir

-- the node that comes next in the directory
abbrev pub next_node : NodeId → (id store : ℕ) → NodeId
next_node parent id store =
    if is_root parent then record { store = store; id = 0 }
    else record { store = parent.store; id = id }

-- the items say the next node below that directory
pub record SaysNextNode (m : ItemMap) (path : List (List ℕ)) (kind : Kind) (id store : ℕ)
    (said : Said) : Type 0 where
  pub parent : NodeId
  pub name : List ℕ
  pub last : IsLastStep m path parent name
  pub says : SaysNewNode said parent name (next_node parent id store) (new_value kind)

-- the items say the removal of the node below that directory
pub record SaysLastBurial (m : ItemMap) (path : List (List ℕ)) (node : NodeId)
    (said : Said) : Type 0 where
  pub parent : NodeId
  pub name : List ℕ
  pub last : IsLastStep m path parent name
  pub says : SaysBurial said parent name node

-- whether the node has a child
abbrev pub HasChild : Points → NodeId → Bool → Type 0
HasChild m at true = (name : List ℕ) × (value : PlainValue)
    × (value_under m (ChildKey at.store at.id name) ≡ Some value)
HasChild m at false = (name : List ℕ) → value_under m (ChildKey at.store at.id name) ≡ None

-- whether the node has the attribute
abbrev pub SaysAttribute : Points → NodeId → List ℕ → Bool → Type 0
SaysAttribute m at name found =
    found ≡ is_some (text_in (value_under m (AttributeKey at.store at.id name)))

-- whether the node is a directory with a child, where it is of that kind
abbrev pub IsFullDir : Points → NodeId → Kind → Bool → Type 0
IsFullDir m at Dir found = HasChild m at found
IsFullDir m at File found = found ≡ false

-- over items that stand for a tree, what the step answers on that tree, or why it is refused
abbrev pub AnswersStep : Points → TreeStep → Result Answer StepRefusal → Type 0
AnswersStep m step answer = (f : ℕ → List ℕ) (t : Tree) → StandForTree m f t
    → (do_tree_step t step).0 ≡ answer
