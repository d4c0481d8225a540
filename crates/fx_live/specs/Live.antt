-- Which blocks are live: by the extents of files, and by what transactions take and free.
use Rattle.std.specs.Prelude.{◌≡◌, ◌⊎◌, ℕ, ◌+◌, ◌-◌, ◌<◌, ◌≤◌, ◌==◌, ◌&&◌, Bool, true, List, [], ◌∷◌, length, take, All, IsTrue, Some}
use Rattle.std.specs.List.{Contains, fold, list_any}
use Rattle.fx_item.specs.Item.{PlainItem, IsItem, TakenValue}
use Rattle.fx_item.specs.Order.{is_ascending}
use Rattle.fx_item.specs.Overlay.{AtFileBlock, AtDeviceBlock, ValueEntry, BlockEntry, Said, says}
use Rattle.fx_namespace.specs.Nodes.{NodeId}
use Rattle.fx_contents.specs.Allocated.{AreAllocated}
use Rattle.fx_contents.specs.Points.{Points, points_after}
use Rattle.fx_verify.specs.Kept.{is_written}

-- items of one list: in order, so that one at most speaks of each point
pub record AreOrdered (items : List PlainItem) : Type 0 where
  pub each : All IsItem items
  pub ascending : IsTrue (is_ascending items)

-- the list has the block with this sum
abbrev pub states : List (ℕ × ℕ) → (block sum : ℕ) → Bool
states pairs block sum = list_any (λ p. p.0 == block && p.1 == sum) pairs

-- an extent says that a block of a file lies in this block, with this sum
abbrev pub SaysBlock : Said → (block sum : ℕ) → Type 0
SaysBlock said block sum = (node : NodeId) × (n : ℕ)
    × (said (AtFileBlock node.store node.id n) ≡ Some (Some (BlockEntry block sum)))

-- the allocator has it, by what is said
abbrev pub SaysTaken : Said → (block : ℕ) → Type 0
SaysTaken said block = said (AtDeviceBlock block) ≡ Some (Some (ValueEntry TakenValue))

-- a block of a file lies in this block, with this sum
abbrev pub IsNamedWith : Points → (block sum : ℕ) → Type 0
IsNamedWith m block sum = (node : NodeId) × (n : ℕ)
    × (m (AtFileBlock node.store node.id n) ≡ Some (BlockEntry block sum))

-- ---- transactions that do not leave the allocator and the extents apart

-- A block for which the transaction states a sum is one that it takes, or had that sum before; and
-- afterwards the blocks that the allocator has taken are those in which blocks of files lie.
pub record KeepsTogether (m : Points) (items : List PlainItem) : Type 0 where
  pub ordered : AreOrdered items
  pub stated : (block sum : ℕ) → SaysBlock (says items) block sum
      → SaysTaken (says items) block ⊎ IsNamedWith m block sum
  pub allocated : AreAllocated (points_after m (says items))

-- each of these does, one after another
abbrev pub AreTogether : Points → List (ℕ × List PlainItem) → Type 0
AreTogether m [] = Unit {0}
AreTogether m (t ∷ ts) = KeepsTogether m t.1 × AreTogether (points_after m (says t.1)) ts

-- what stands at each point after them
abbrev pub points_through : Points → List (ℕ × List PlainItem) → Points
points_through m txns = fold (λ old t. points_after old (says t.1)) m txns

-- ---- what an image keeps, by the extents

-- Each block that these transactions wrote, and in which a block of a file lies after them, was found
-- with the sum that its extent states.
abbrev pub PassesByExtents : Points → List (ℕ × List PlainItem) → List (ℕ × ℕ) → Type 0
PassesByExtents m txns found = (block sum : ℕ) → is_written txns block ≡ true
    → IsNamedWith (points_through m txns) block sum → Contains found (block, sum)

-- the greatest number up to which they pass, over what stood at the base
pub record IsKeptByExtents (m : Points) (base : ℕ) (txns : List (ℕ × List PlainItem))
    (found : List (ℕ × ℕ)) (k : ℕ) : Type 0 where
  pub least : base ≤ k
  pub most : k ≤ base + length txns
  pub passes : PassesByExtents m (take (k - base) txns) found
  pub greatest : (j : ℕ) → k < j → j ≤ base + length txns
      → PassesByExtents m (take (j - base) txns) found → ⊥
