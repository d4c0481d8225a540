-- What an image stands for up to a number of its own transactions, by its own items and its own blocks.
use Rattle.std.specs.Prelude.{◌≡◌, ℕ, ◌+◌, ◌≤◌, Option, Some, List, ◌++◌, length, map, slice_get}
use Rattle.fx_disk.specs.Record.{DiskRecord, Cell, LeftNow, cell_now}
use Rattle.fx_item.specs.Overlay.{Point}
use Rattle.fx_plain.specs.Tree.{Tree}
use Rattle.fx_contents.specs.Points.{Points}
use Rattle.fx_uses.specs.Live.{txn_of}
use Rattle.fx_uses.specs.Uses.{image_block}
use Rattle.fx_kept.specs.Kept.{IsKeptIn, HasTrueBlocks, HasTrueLiveBlocks, none_live}
use Rattle.fx_kept.specs.Chance.{BlockForms, HasMeantForms}
use Rattle.fx_cuts.specs.Joined.{JoinedState, NumberedItems, StandsClear, points_up_to, points_at}

-- What is left to other layers, and what a mount found.
pub record ImageMeanings : Type 1 where
  -- the sum of a block's bytes, and the first block in which data can lie
  pub sum : List ℕ → ℕ
  pub first_data : ℕ
  -- what has the form of a superblock, and what stands in an image's stream
  pub forms : BlockForms
  -- the blocks when the mount began, and the generation that was chosen then
  pub before : ℕ → Cell
  pub generation : ℕ
  -- Which base count an image shows by its superblock, what stands at each point there by the layers that
  -- the superblock names, and which transactions its stream leaves after the base count.
  pub Shows : List (List ℕ) → (base : ℕ) → Points → NumberedItems → Type 0
  -- What else is asked of an image that keeps its transactions up to a number: that its allocations are
  -- sound, and that its space and its numbers leave room.
  pub IsSound : List (List ℕ) → (base : ℕ) → Points → NumberedItems → (k : ℕ) → Type 0

-- An image shows one base count, one set of points and one list of transactions at most. Whoever says what
-- images show owes it: the facts on single images here need it nowhere else.
abbrev pub ShowsOne : ImageMeanings → Type 0
ShowsOne w = (image : List (List ℕ)) (a b : ℕ) (p q : Points) (ts us : NumberedItems) →
    w.Shows image a p ts → w.Shows image b q us → (a ≡ b) × (p ≡ q) × (ts ≡ us)

-- No superblock, no block of the ring and no data block of the image makes sense by chance.
pub record NoBlockByChance (w : ImageMeanings) (cells : ℕ → Cell) (image : List (List ℕ)) : Type 0
  where
    pub formed : HasMeantForms w.forms w.before cells w.generation image
    pub blocks : (base : ℕ) (points : Points) (txns : NumberedItems) (k : ℕ) →
        w.Shows image base points txns → IsKeptIn w.sum w.first_data image base txns k →
        HasTrueBlocks cells none_live (map txn_of txns) k image

-- The same with a stronger premise on data blocks: whoever wrote it, each loose block that is live after
-- the number holds the bytes of its last write, given which blocks were live before the stream.
pub record NoLiveBlockByChance (w : ImageMeanings) (cells : ℕ → Cell) (image : List (List ℕ))
    : Type 0 where
  pub formed : HasMeantForms w.forms w.before cells w.generation image
  pub blocks : (base : ℕ) (points : Points) (txns : NumberedItems) (k : ℕ) →
      w.Shows image base points txns → IsKeptIn w.sum w.first_data image base txns k →
      (first : ℕ → Option ℕ) × HasTrueLiveBlocks cells first (map txn_of txns) k image

-- The image shows this, keeps the transactions up to the number, and stands for the tree there, by its
-- own items and its own blocks.
pub record IsImageUpTo (w : ImageMeanings) (image : List (List ℕ)) (base : ℕ) (points : Points)
    (txns : NumberedItems) (k : ℕ) (tree : Tree) : Type 0 where
  pub shows : w.Shows image base points txns
  pub kept : IsKeptIn w.sum w.first_data image base txns k
  pub stands : StandsClear (points_up_to points txns k) (image_block image) tree
  pub sound : w.IsSound image base points txns k

-- The transactions up to the number, or a superblock with this base count, were settled by the flush that
-- was the last of so many calls. The first mark is the mount's: the number that it kept, or its base
-- count, and the calls before it.
pub record Mark : Type 0 where
  pub number : ℕ
  pub calls : ℕ

-- The image keeps the history up to the number, at least each mark that was made by the moment. Its base
-- count is no lower than that of any superblock that was settled by then.
pub record IsPrefixUpTo (w : ImageMeanings) (trees : ℕ → Tree) (most : ℕ)
    (marks bases : List Mark) (m : ℕ) (image : List (List ℕ)) (k : ℕ) : Type 0 where
  pub base : ℕ
  pub points : Points
  pub txns : NumberedItems
  pub image_is : IsImageUpTo w image base points txns k (trees k)
  pub within : k ≤ most
  pub settled : (i : ℕ) (mark : Mark) → slice_get marks i ≡ Some mark → mark.calls ≤ m →
      mark.number ≤ k
  pub based : (i : ℕ) (mark : Mark) → slice_get bases i ≡ Some mark → mark.calls ≤ m →
      mark.number ≤ base

abbrev pub LeavesPrefix : (w : ImageMeanings) → (ℕ → Tree) → ℕ → (marks bases : List Mark) →
    (ℕ → Cell) → ℕ → List (List ℕ) → Type 0
LeavesPrefix w trees most marks bases cells m image = NoBlockByChance w cells image →
    (k : ℕ) × IsPrefixUpTo w trees most marks bases m image k

-- ---- which cuts an image may show

-- A base count, what stands at each point there, and transactions after it: a cut of those of the state.
-- It begins no earlier than the last superblock that was settled. What stands at the base count is
-- flushed, and the settled transactions are there.
pub record IsShownCut (s : JoinedState) (base : ℕ) (points : Points) (txns : NumberedItems)
    : Type 0 where
  pub earlier : NumberedItems
  pub later : NumberedItems
  pub joined : s.txns ≡ earlier ++ (txns ++ later)
  pub base_is : base ≡ s.blocks.base + length earlier
  pub points_are : (p : Point) → points p ≡ points_at s base p
  pub from : s.based ≤ base
  pub flushed : base ≤ s.blocks.firm
  pub reaches : s.blocks.settled ≤ base + length txns

-- The image is sound at whichever number it keeps, from this one on.
abbrev pub IsSoundFrom : ImageMeanings → ℕ → List (List ℕ) → ℕ → Points → NumberedItems → Type 0
IsSoundFrom w least image base points txns = (k : ℕ) → least ≤ k →
    IsKeptIn w.sum w.first_data image base txns k → w.IsSound image base points txns k

-- What superblocks, ring, layers and allocations owe: each image left now shows a cut and is sound, unless
-- a superblock or a block of the ring makes sense by chance.
abbrev pub ShowsCuts : ImageMeanings → JoinedState → DiskRecord → Type 0
ShowsCuts w s r = (image : List (List ℕ)) → LeftNow r image →
    HasMeantForms w.forms w.before (cell_now r) w.generation image →
    (base : ℕ) × (points : Points) × (txns : NumberedItems) × w.Shows image base points txns ×
    IsShownCut s base points txns × IsSoundFrom w s.blocks.settled image base points txns
