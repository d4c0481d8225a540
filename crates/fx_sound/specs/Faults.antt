-- What is wrong with an image, and which fault is the first.
use Rattle.std.specs.Prelude.{◌≡◌, ◌⊎◌, ℕ, ◌≤◌, None, Some}
use Rattle.fx_item.specs.Overlay.{AtDeviceBlock, Entry}
use Rattle.fx_namespace.specs.Nodes.{NodeId}
use Rattle.fx_contents.specs.Amiss.{IsAmissAt, IsLeastAmiss}
use Rattle.fx_contents.specs.Points.{device_block}
use Rattle.fx_sound.specs.declared.image.ImageFault.{ImageFault}
use Rattle.fx_sound.specs.declared.image.ImageFault.TheVariants.{BadTree, Unsound, Cramped}
use Rattle.fx_sound.specs.Image.{PlainImage, points_in, free_blocks}
use Rattle.fx_sound.specs.Parts.{IsReserved, HasLayerRoom, HasDropRoom, HasNumbersLeft}

-- something is amiss at a node
abbrev pub IsBadNode : PlainImage → NodeId → Type 0
IsBadNode image node = IsAmissAt image.ring image.disk (points_in image.items) node

-- What is wrong at a block.
pub data IsUnsoundAt (image : PlainImage) (block : ℕ) : Type 0 where
  -- it is taken, and no file has it
  Leaked : (entry : Entry) → points_in image.items (AtDeviceBlock block) ≡ Some entry
      → ((node : NodeId) (n : ℕ) → device_block (points_in image.items) node n ≡ Some block → ⊥)
      → IsUnsoundAt image block
  -- a file has it, and it is not taken
  Untaken : (node : NodeId) (n : ℕ) → device_block (points_in image.items) node n ≡ Some block
      → points_in image.items (AtDeviceBlock block) ≡ None → IsUnsoundAt image block
  -- two places of files have it
  Shared : (a b : NodeId) (i j : ℕ) → device_block (points_in image.items) a i ≡ Some block
      → device_block (points_in image.items) b j ≡ Some block → ((a ≡ b) × (i ≡ j) → ⊥)
      → IsUnsoundAt image block
  -- it is taken, and no file may have it
  Misplaced : (entry : Entry) → points_in image.items (AtDeviceBlock block) ≡ Some entry
      → IsReserved image block → IsUnsoundAt image block

pub record IsLeastUnsound (image : PlainImage) (block : ℕ) : Type 0 where
  pub unsound : IsUnsoundAt image block
  pub least : (other : ℕ) → IsUnsoundAt image other → block ≤ other

-- The image has too little room, and so many blocks are free; or a number is too near to its bound,
-- which is tested first and told as 0.
abbrev pub IsCrampedBy : PlainImage → ℕ → Type 0
IsCrampedBy image free =
    ((HasNumbersLeft image.numbers → ⊥) × (free ≡ 0))
    ⊎ (HasNumbersLeft image.numbers × (HasLayerRoom image × HasDropRoom image → ⊥)
    × (free ≡ free_blocks image))

abbrev pub HasNoBadNode : PlainImage → Type 0
HasNoBadNode image = (node : NodeId) → IsBadNode image node → ⊥

abbrev pub HasNoUnsoundBlock : PlainImage → Type 0
HasNoUnsoundBlock image = (block : ℕ) → IsUnsoundAt image block → ⊥

-- The fault that is told: the least node at which something is amiss, else the least unsound block,
-- else that the image is cramped.
abbrev pub IsFirstFault : PlainImage → ImageFault → Type 0
IsFirstFault image (BadTree store id) =
    IsLeastAmiss image.ring image.disk (points_in image.items) (record { store = store; id = id })
IsFirstFault image (Unsound block) = HasNoBadNode image × IsLeastUnsound image block
IsFirstFault image (Cramped free) =
    HasNoBadNode image × HasNoUnsoundBlock image × IsCrampedBy image free
