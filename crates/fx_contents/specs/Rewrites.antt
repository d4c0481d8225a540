-- One file that is told anew.
use Rattle.std.specs.Prelude.{◌≡◌, ◌≢◌, ℕ, ◌*◌, ◌<◌, List, Some}
use Rattle.fx_item.specs.Item.{ObjectKey, FileValue}
use Rattle.fx_item.specs.Overlay.{Point, AtKey, AtFileBlock, AtDeviceBlock, Entry}
use Rattle.fx_base.specs.declared.block.TheConstants.{BLOCK_BYTES}
use Rattle.fx_namespace.specs.Nodes.{NodeId}
use Rattle.fx_contents.specs.Points.{Points, value_under, named, device_block}

-- the point is neither a file's Object nor one of its blocks, nor a block of the device
pub record IsBeside (node : NodeId) (p : Point) : Type 0 where
  pub object : p ≢ AtKey (ObjectKey node.store node.id)
  pub file : (k : ℕ) → p ≢ AtFileBlock node.store node.id k
  pub device : (b : ℕ) → p ≢ AtDeviceBlock b

-- A file's Object tells a length in place of another, its blocks begin within it, nothing else is
-- told anew but for blocks of the device, and the blocks of all other files hold what they held.
pub record IsRewriting (m n : Points) (f g : ℕ → List ℕ) (node : NodeId)
    (old new : ℕ) : Type 0 where
  pub before : named m (ObjectKey node.store node.id) ≡ Some (FileValue old)
  pub after : value_under n (ObjectKey node.store node.id) ≡ Some (FileValue new)
  pub inside : (k : ℕ) (entry : Entry) → n (AtFileBlock node.store node.id k) ≡ Some entry
      → k * BLOCK_BYTES < new
  pub others : (p : Point) → IsBeside node p → n p ≡ m p
  pub same : (other : NodeId) (k block : ℕ) → other ≢ node → device_block m other k ≡ Some block
      → g block ≡ f block
