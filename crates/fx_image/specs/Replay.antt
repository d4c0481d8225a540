-- The items of the commits of a session, and the trees that they make of an image's.
use Rattle.std.specs.Prelude.{◌≡◌, ℕ, ◌+◌, ◌<◌, ◌≤◌, List, [], ◌∷◌, ◌++◌, length, take, IsTrue, Some}
use Rattle.fx_item.specs.Item.{PlainItem}
use Rattle.fx_item.specs.Look.{ItemMap, after_all}
use Rattle.fx_item.specs.Name.{is_name}
use Rattle.fx_plain.specs.Bare.{bare}
use Rattle.fx_plain.specs.Tree.{Tree}
use Rattle.fx_plain.specs.declared.kind.Kind.TheVariants as kinds
use Rattle.fx_plain.specs.declared.path.TheConstants.{MAX_NAMES}
use Rattle.fx_plain.specs.declared.step.Step.{Step}
use Rattle.fx_plain.specs.declared.step.Step.TheVariants.{Mkdir, Create, Write}
use Rattle.fx_namespace.specs.Nodes.{NodeId, node_at}
use Rattle.fx_namespace.specs.Commits.{IsNextNode, new_items, written_items}
use Rattle.fx_history.specs.declared.entry.Entry.{Entry}
use Rattle.fx_history.specs.History.{tree_at}
use Rattle.fx_image.specs.Standing.{StandsFor, Transactions, lists_of}

-- One list of items for each entry of the history: after the transactions, which lead up to the
-- number `base`, and the lists of the first k entries, the items stand for the tree after these
-- entries, without what files hold.
pub record Replays (tree : Tree) (base : ℕ) (txns : Transactions) (history : List Entry)
    (records : List (List PlainItem)) : Type 0 where
  pub one_each : length records ≡ length history
  pub stands : (k : ℕ) → k ≤ length records →
      StandsFor (after_all (lists_of txns ++ take k records))
      (bare (tree_at tree history (base + k)))

-- The items of a step that is done, where these are the next id and the next store: those of a new
-- node below the node that the path above leads to, or that of the file that the path leads to.
pub data AreItemsOf (m : ItemMap) (id store : ℕ) (step : Step) (items : List PlainItem)
    : Type 0 where
  OfDirectory : (above : List (List ℕ)) (name : List ℕ) (parent node : NodeId) →
      step ≡ Mkdir (above ++ name ∷ []) → IsTrue (is_name name) → length above < MAX_NAMES →
      node_at m above ≡ Some parent → IsNextNode parent node kinds.Dir id store →
      items ≡ new_items parent name node kinds.Dir → AreItemsOf m id store step items
  OfFile : (above : List (List ℕ)) (name : List ℕ) (parent node : NodeId) →
      step ≡ Create (above ++ name ∷ []) → IsTrue (is_name name) → length above < MAX_NAMES →
      node_at m above ≡ Some parent → IsNextNode parent node kinds.File id store →
      items ≡ new_items parent name node kinds.File → AreItemsOf m id store step items
  OfWrite : (path : List (List ℕ)) (at : ℕ) (text : List ℕ) (node : NodeId) →
      step ≡ Write path at text → node_at m path ≡ Some node → items ≡ written_items node →
      AreItemsOf m id store step items
