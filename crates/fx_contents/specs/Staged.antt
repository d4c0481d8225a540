-- A write as a list of new blocks, and the items that say it.
use Rattle.std.specs.Prelude.{◌≡◌, ℕ, ◌+◌, false, List, [], ◌∷◌, length, map, Some, None}
use Rattle.std.specs.List.{slice_get}
use Rattle.fx_item.specs.Item.{ObjectKey, ExtentKey, FileValue, ExtentValue, PlainItem}
use Rattle.fx_item.specs.Overlay.{Point, AtKey, AtFileBlock, ValueEntry, BlockEntry, Said}
use Rattle.fx_plain.specs.Node.{covered}
use Rattle.fx_base.specs.declared.block.TheConstants.{BLOCK_BYTES}
use Rattle.fx_namespace.specs.Nodes.{NodeId}
use Rattle.fx_contents.specs.Points.{Points, device_block}
use Rattle.fx_contents.specs.Files.{bytes_of_block}
use Rattle.fx_contents.specs.Rewrites.{IsBeside}
use Rattle.fx_contents.specs.Writes.{IsUncovered, is_covered, patched}

-- a block of a file that is written: its place in the file, its block of the device, and its bytes
pub record StagedBlock : Type 0 where
  pub index : ℕ
  pub block : ℕ
  pub bytes : List ℕ

-- each block of the file that the device has is a whole one
abbrev pub HasWholeBlocks : Points → (ℕ → List ℕ) → NodeId → Type 0
HasWholeBlocks m f node = (k block : ℕ) → device_block m node k ≡ Some block
    → length (f block) ≡ BLOCK_BYTES

-- The blocks are those that the text covers, each with the old bytes and its part of the text.
pub record ArePatched (m : Points) (f : ℕ → List ℕ) (node : NodeId) (at : ℕ) (text : List ℕ)
    (staged : List StagedBlock) : Type 0 where
  pub places : map (λ s. s.index) staged ≡ covered at text
  pub bytes : (i : ℕ) (s : StagedBlock) → slice_get staged i ≡ Some s
      → s.bytes ≡ patched at text s.index (bytes_of_block f (device_block m node s.index))

-- What a commit's items say: the file's Object, the staged blocks, and else nothing but of blocks
-- of the device.
pub record SaysWrite (said : Said) (node : NodeId) (len at : ℕ) (text : List ℕ)
    (staged : List StagedBlock) : Type 0 where
  pub object : said (AtKey (ObjectKey node.store node.id))
      ≡ Some (Some (ValueEntry (FileValue len)))
  pub entry : (i : ℕ) (s : StagedBlock) → slice_get staged i ≡ Some s
      → (sum : ℕ)
      × (said (AtFileBlock node.store node.id s.index) ≡ Some (Some (BlockEntry s.block sum)))
  pub kept : (k : ℕ) → is_covered at text k ≡ false
      → said (AtFileBlock node.store node.id k) ≡ None
  pub others : (p : Point) → IsBeside node p → said p ≡ None

-- The device holds the staged blocks, and in each live block what it held, but for the covered
-- ones.
pub record AreStored (m : Points) (f g : ℕ → List ℕ) (node : NodeId) (at : ℕ) (text : List ℕ)
    (staged : List StagedBlock) : Type 0 where
  pub stored : (i : ℕ) (s : StagedBlock) → slice_get staged i ≡ Some s → g s.block ≡ s.bytes
  pub same : (other : NodeId) (k block : ℕ) → device_block m other k ≡ Some block
      → IsUncovered node at text other k → g block ≡ f block

-- the extent of one staged block, with its sum
abbrev pub staged_extent : (List ℕ → ℕ) → NodeId → StagedBlock → PlainItem
staged_extent sum node s = record {
  key = ExtentKey node.store node.id s.index (s.index + 1);
  value = ExtentValue s.block (sum s.bytes ∷ []);
}

-- the items of a write: the file's Object, and an extent for each staged block
abbrev pub staged_items : (List ℕ → ℕ) → NodeId → ℕ → List StagedBlock → List PlainItem
staged_items sum node len staged =
    record { key = ObjectKey node.store node.id; value = FileValue len }
    ∷ map (staged_extent sum node) staged
