-- When an image is sound: five parts, in the order in which they are tested.
use Rattle.std.specs.Prelude.{◌≡◌, ◌⊎◌, ℕ, ◌+◌, ◌*◌, ◌<◌, ◌≤◌, ◌^◌, true, List, length, Some, Contains}
use Rattle.fx_item.specs.Overlay.{AtDeviceBlock, Entry}
use Rattle.fx_plain.specs.Tree.{Tree}
use Rattle.fx_contents.specs.Allocated.{AreAllocated}
use Rattle.fx_contents.specs.Standing.{AreClear, AreOnDisk, StandForTree}
use Rattle.fx_sound.specs.declared.image.ImageNumbers.{ImageNumbers}
use Rattle.fx_sound.specs.Image.{PlainImage, points_in, block_total, layers_wanted}

-- The first: the items stand for a tree, whatever blocks hold, and the blocks of files lie on the
-- disk past the ring. It fails at a node.
pub record HasTree (image : PlainImage) : Type 0 where
  pub tree : (blocks : ℕ → List ℕ)
      → (tree : Tree) × StandForTree (points_in image.items) blocks tree
  pub on_disk : AreOnDisk image.ring image.disk (points_in image.items)

-- a block that no file may have: of the superblocks or the ring, of a layer, or past the disk
abbrev pub IsReserved : PlainImage → ℕ → Type 0
IsReserved image block =
    (block < image.ring + 2) ⊎ Contains image.layers block ⊎ (image.disk ≤ block)

-- The second: the blocks that the allocator has taken are those of files, graveyard included, each
-- once, and none is reserved. It fails at a block.
pub record HasTrueAllocations (image : PlainImage) : Type 0 where
  pub allocated : AreAllocated (points_in image.items)
  pub apart : (block : ℕ) (entry : Entry)
      → points_in image.items (AtDeviceBlock block) ≡ Some entry → IsReserved image block → ⊥

-- The third: with what is live and the layers that are there, a whole new set of layers has place;
-- and with what is live alone, two.
pub record HasLayerRoom (image : PlainImage) : Type 0 where
  pub one_more : block_total image.items + length image.layers + layers_wanted image.items
      + image.ring + 2 ≤ image.disk
  pub two : block_total image.items + 2 * layers_wanted image.items + image.ring + 2 ≤ image.disk

-- The fourth: where transactions are dropped the ring has place for the block that says so.
abbrev pub HasDropRoom : PlainImage → Type 0
HasDropRoom image = image.drops ≡ true → image.stream < image.ring

-- The fifth: each number is so far below its bound that a session does not reach it.
pub record HasNumbersLeft (n : ImageNumbers) : Type 0 where
  pub generations : n.generation + 2 ^ 40 ≤ 2 ^ 63
  pub sequences : n.sequence + 2 ^ 40 ≤ 2 ^ 62
  pub bases : n.base + 2 ^ 40 ≤ 2 ^ 62
  pub commits : n.kept + 2 ^ 40 ≤ 2 ^ 62
  pub ids : n.next_id + 2 ^ 23 ≤ 2 ^ 62
  pub stores : n.next_store + 2 ^ 23 ≤ 2 ^ 31

pub record IsSoundImage (image : PlainImage) : Type 0 where
  pub tree : HasTree image
  pub blocks : HasTrueAllocations image
  pub layers : HasLayerRoom image
  pub drops : HasDropRoom image
  pub numbers : HasNumbersLeft image.numbers

-- With these contents each file is zero past its end. It is no part of being sound.
abbrev pub IsClearImage : PlainImage → (blocks : ℕ → List ℕ) → Type 0
IsClearImage image blocks = AreClear (points_in image.items) blocks
