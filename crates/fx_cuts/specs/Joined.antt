-- The state of a mounted disk that a stop is judged by: its blocks, beside the items of its transactions.
use Rattle.std.specs.Prelude.{◌≡◌, ℕ, if◌then◌else◌, nat_le, Some, IsSome, List, [], ◌∷◌, ◌++◌}
use Rattle.fx_item.specs.Item.{PlainItem}
use Rattle.fx_item.specs.Overlay.{says}
use Rattle.fx_plain.specs.Tree.{Tree}
use Rattle.fx_namespace.specs.Nodes.{NodeId}
use Rattle.fx_contents.specs.Points.{Points, device_block, points_after}
use Rattle.fx_contents.specs.Standing.{StandForTree, AreClear}
use Rattle.fx_uses.specs.Live.{txn_of, live_after}
use Rattle.fx_uses.specs.Uses.{BlockUses}
use Rattle.fx_uses.specs.Events.{with_committed}

-- A transaction is its number and its items.
abbrev pub NumberedItems : Type 0
NumberedItems = List (ℕ × List PlainItem)

pub record JoinedState : Type 0 where
  -- what each block is used for
  pub blocks : BlockUses
  -- what stands at each point at the base count, before the first transaction
  pub opening : Points
  -- the transactions of `blocks`, with their items
  pub txns : NumberedItems
  -- the base count of the last superblock that was settled: no image left now has a lower one
  pub based : ℕ

abbrev pub with_blocks : JoinedState → BlockUses → JoinedState
with_blocks s u = record s { blocks = u }

-- A superblock with this base count is settled.
abbrev pub with_based : JoinedState → ℕ → JoinedState
with_based s base = record s { based = base }

-- what stands at each point after those of the transactions that are numbered at most `k`
abbrev pub points_up_to : Points → NumberedItems → ℕ → Points
points_up_to m [] k = m
points_up_to m (t ∷ ts) k =
    points_up_to (if nat_le t.0 k then points_after m (says t.1) else m) ts k

abbrev pub points_at : JoinedState → ℕ → Points
points_at s k = points_up_to s.opening s.txns k

-- What stands at the points stands for the tree, where the blocks hold this; past their ends files have
-- zeros.
pub record StandsClear (m : Points) (f : ℕ → List ℕ) (tree : Tree) : Type 0 where
  pub stands : StandForTree m f tree
  pub clear : AreClear m f

-- The items after the number stand for its tree.
abbrev pub StandsAfter : JoinedState → (trees : ℕ → Tree) → ℕ → (ℕ → List ℕ) → Type 0
StandsAfter s trees k f = StandsClear (points_at s k) f (trees k)

-- Each block that a file has after the number is live after it.
abbrev pub HasLiveFiles : JoinedState → ℕ → Type 0
HasLiveFiles s k = (node : NodeId) (n b : ℕ) → device_block (points_at s k) node n ≡ Some b →
    IsSome (live_after s.blocks.first s.blocks.txns k b)

-- a commit of these items under this number
abbrev pub with_entry : JoinedState → (who n : ℕ) → List PlainItem → JoinedState
with_entry s who n items = record s {
  blocks = with_committed s.blocks who (txn_of (n, items));
  txns = s.txns ++ (n, items) ∷ [];
}
