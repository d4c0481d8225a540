-- Truncation: what the file is afterwards, and which blocks change.
use Rattle.std.specs.Prelude.{◌≡◌, ◌≢◌, ◌⊎◌, ℕ, ◌+◌, ◌-◌, ◌*◌, ◌<◌, ◌≤◌, nat_lt, List, ◌++◌, take, replicate, get_or, Some, None, if◌then◌else◌}
use Rattle.std.specs.FinMap as map
use Rattle.std.specs.FinSet as set
use Rattle.fx_item.specs.Item.{ObjectKey, FileValue}
use Rattle.fx_item.specs.Overlay.{Point, AtKey, AtFileBlock, ValueEntry, BlockEntry, Said}
use Rattle.fx_plain.specs.Node.{Attributes, Contents, File, grown}
use Rattle.fx_plain.specs.Tree.{Tree}
use Rattle.fx_base.specs.declared.block.TheConstants.{BLOCK_BYTES}
use Rattle.fx_namespace.specs.Nodes.{NodeId}
use Rattle.fx_contents.specs.Points.{Points, value_under, named, device_block}
use Rattle.fx_contents.specs.Files.{byte_at}
use Rattle.fx_contents.specs.Rewrites.{IsBeside}

-- The file with so many bytes: cut, or grown with zeros. Blocks that begin at or past the size are
-- no longer held.
abbrev pub truncated : ℕ → Contents → Contents
truncated size contents = record {
  bytes = take size (grown size contents.bytes);
  held = set.retain contents.held (λ n. nat_lt (n * BLOCK_BYTES) size);
}

-- the file at the path has that size, and nothing else changed
pub record IsTruncated (tree : Tree) (path : List (List ℕ)) (size : ℕ) (after : Tree) : Type 0 where
  pub contents : Contents
  pub attributes : Attributes
  pub file : map.get tree path ≡ Some (File contents attributes)
  pub inserted : after ≡ map.insert tree path (File (truncated size contents) attributes)

-- byte i of what is zero from the size on
abbrev pub cut_byte : ℕ → (ℕ → ℕ) → ℕ → ℕ
cut_byte size old i = if nat_lt i size then old i else 0

-- what block n, in which the size lies, holds after the cut, where it held `block`
unfoldable pub cut_block : ℕ → ℕ → List ℕ → List ℕ
cut_block size n block =
    take (size - n * BLOCK_BYTES) block ++ replicate (BLOCK_BYTES - (size - n * BLOCK_BYTES)) 0

-- the size lies inside block k of a file that is cut, and not at the block's end
abbrev pub IsEdge : (size len k : ℕ) → Type 0
IsEdge size len k =
    (k * BLOCK_BYTES < size) × (size < (k + 1) * BLOCK_BYTES) × (size < len)

-- the block ends before the size, or the file is not cut
abbrev pub IsFront : (size len k : ℕ) → Type 0
IsFront size len k = ((k + 1) * BLOCK_BYTES ≤ size) ⊎ (len ≤ size)

-- A file is truncated: its Object tells the size, blocks from it on are taken away, a held block in
-- which a lesser size lies has a block of the device with the old bytes up to it, and nothing else
-- changes.
pub record IsCutting (m n : Points) (f g : ℕ → List ℕ) (node : NodeId) (size len : ℕ) : Type 0 where
  pub before : named m (ObjectKey node.store node.id) ≡ Some (FileValue len)
  pub after : value_under n (ObjectKey node.store node.id) ≡ Some (FileValue size)
  pub gone : (k : ℕ) → size ≤ k * BLOCK_BYTES → n (AtFileBlock node.store node.id k) ≡ None
  pub edge : (k old : ℕ) → IsEdge size len k → device_block m node k ≡ Some old
      → (block : ℕ) × (device_block n node k ≡ Some block)
      × ((j : ℕ) → j < BLOCK_BYTES → get_or (g block) j 0
      ≡ cut_byte size (byte_at f (device_block m node)) (k * BLOCK_BYTES + j))
  pub kept : (k : ℕ) → k * BLOCK_BYTES < size
      → (IsFront size len k) ⊎ (device_block m node k ≡ None)
      → n (AtFileBlock node.store node.id k) ≡ m (AtFileBlock node.store node.id k)
  pub others : (p : Point) → IsBeside node p → n p ≡ m p
  pub same : (other : NodeId) (k block : ℕ) → device_block m other k ≡ Some block
      → (other ≢ node) ⊎ (IsFront size len k) → g block ≡ f block

-- What a commit's items say of a truncation: the file's Object, that no blocks stand from the size
-- on, the one cut block with its bytes on the device, and else nothing but of blocks of the device.
pub record SaysCut (m : Points) (said : Said) (f g : ℕ → List ℕ) (node : NodeId)
    (size len : ℕ) : Type 0 where
  pub object : said (AtKey (ObjectKey node.store node.id))
      ≡ Some (Some (ValueEntry (FileValue size)))
  pub gone : (k : ℕ) → size ≤ k * BLOCK_BYTES
      → (said (AtFileBlock node.store node.id k) ≡ Some None)
      ⊎ ((said (AtFileBlock node.store node.id k) ≡ None)
      × (m (AtFileBlock node.store node.id k) ≡ None))
  pub edge : (k old : ℕ) → IsEdge size len k → device_block m node k ≡ Some old
      → (block sum : ℕ)
      × (said (AtFileBlock node.store node.id k) ≡ Some (Some (BlockEntry block sum)))
      × (g block ≡ cut_block size k (f old))
  pub kept : (k : ℕ) → k * BLOCK_BYTES < size
      → (IsFront size len k) ⊎ (device_block m node k ≡ None)
      → said (AtFileBlock node.store node.id k) ≡ None
  pub others : (p : Point) → IsBeside node p → said p ≡ None
  pub same : (other : NodeId) (k block : ℕ) → device_block m other k ≡ Some block
      → (other ≢ node) ⊎ (IsFront size len k) → g block ≡ f block
