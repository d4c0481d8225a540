-- The layers that a superblock names, and those that a snapshot keeps, beside open transactions and an
-- open checkpoint.
use Rattle.std.specs.Prelude.{◌≡◌, ◌⊎◌, ℕ, ◌≤◌, Bool, true, List, Contains}
use Rattle.fx_disk.specs.Record.{DiskRecord}
use Rattle.fx_uses.specs.Uses.{Use, Layer, Laid, Coming, Pinned, BlockUses, bytes_now}

-- What layers mean. `Says f firsts blocks said`: where the blocks hold `f`, the layers that begin at
-- `firsts` lie in just these blocks, and say this.
pub record LayerSense : Type 1 where
  pub Said : Type 0
  pub Says : (ℕ → List ℕ) → (firsts blocks : List ℕ) → Said → Type 0

-- They are read from these blocks alone.
abbrev pub ReadsNamed : LayerSense → Type 0
ReadsNamed sense = (f g : ℕ → List ℕ) (firsts blocks : List ℕ) (said : sense.Said) →
    ((b : ℕ) → Contains blocks b → f b ≡ g b) → sense.Says f firsts blocks said →
    sense.Says g firsts blocks said

-- Who reads layers: the superblock that is current; the one that comes, which names new layers and old
-- ones that stay; or pins, which keep the layers that were current when they were made.
pub data Reader : Type 0 where
  Current : Reader
  Next : (stays : ℕ → Bool) → Reader
  Pins : (kept : ℕ → Bool) → Reader

-- the use of a block of these layers
abbrev pub IsReadBy : Reader → ℕ → Use → Type 0
IsReadBy Current b u = u ≡ Layer
IsReadBy (Next stays) b u = (u ≡ Coming) ⊎ ((u ≡ Layer) × (stays b ≡ true))
IsReadBy (Pins kept) b u = ((u ≡ Layer) ⊎ (u ≡ Pinned)) × (kept b ≡ true)

-- the same of the coming superblock's layers before their flush
abbrev pub IsWrittenFor : (stays : ℕ → Bool) → ℕ → Use → Type 0
IsWrittenFor stays b u = (u ≡ Laid) ⊎ ((u ≡ Layer) × (stays b ≡ true))

-- The layers that begin at `firsts` lie in these blocks, all of them with the reader's use, and what was
-- put in them says this. It is what stands after the base count, and all up to that is flushed.
pub record IsNamed (sense : LayerSense) (s : BlockUses) (r : DiskRecord) (reader : Reader)
    (base : ℕ) (firsts blocks : List ℕ) (said : sense.Said) : Type 0 where
  pub all : (b : ℕ) → Contains blocks b → IsReadBy reader b (s.uses b)
  pub says : sense.Says (bytes_now r) firsts blocks said
  pub flushed : base ≤ s.firm
