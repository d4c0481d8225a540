-- The allocator's entries and the blocks of files.
use Rattle.std.specs.Prelude.{◌≡◌, ℕ, Some}
use Rattle.fx_item.specs.Overlay.{AtDeviceBlock, Entry}
use Rattle.fx_namespace.specs.Nodes.{NodeId}
use Rattle.fx_contents.specs.Points.{Points, device_block}

-- The blocks that the allocator has taken are the live ones, and each is one block of one file. The
-- graveyard counts.
pub record AreAllocated (m : Points) : Type 0 where
  pub live : (block : ℕ) (entry : Entry) → m (AtDeviceBlock block) ≡ Some entry
      → (node : NodeId) × (n : ℕ) × (device_block m node n ≡ Some block)
  pub taken : (node : NodeId) (n block : ℕ) → device_block m node n ≡ Some block
      → (entry : Entry) × (m (AtDeviceBlock block) ≡ Some entry)
  pub once : (a b : NodeId) (i j block : ℕ) → device_block m a i ≡ Some block
      → device_block m b j ≡ Some block → (a ≡ b) × (i ≡ j)
