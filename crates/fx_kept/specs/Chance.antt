-- Images in which no torn block makes sense by chance: what is asked of superblocks, of blocks of the
-- ring, and of data blocks.
use Rattle.std.specs.Prelude.{◌≡◌, ℕ, ◌<◌, ◌≤◌, true, List, length, drop, Contains}
use Rattle.fx_disk.specs.Record.{Cell, candidates}
use Rattle.fx_uses.specs.Uses.{image_block}

-- How the blocks of an image are read, which other layers say: what has the form of a superblock, of this
-- version or another one; and which block of the ring stands in the image's stream, with which epoch.
pub record BlockForms : Type 1 where
  pub HasSuperForm : List ℕ → Type 0
  pub IsInStream : List (List ℕ) → (b epoch : ℕ) → Type 0

-- The block holds bytes that it once held while it was settled, or that it was written with since.
abbrev pub HasCandidate : (ℕ → Cell) → List (List ℕ) → ℕ → Type 0
HasCandidate cells image b = Contains (candidates (cells b)) (image_block image b)

-- A loose superblock is no chance.
abbrev pub HasMeantSupers : BlockForms → (ℕ → Cell) → List (List ℕ) → Type 0
HasMeantSupers forms cells image = (b : ℕ) → b < 2 → (cells b).loose ≡ true →
    forms.HasSuperForm (image_block image b) → HasCandidate cells image b

-- A loose block of the stream is no chance.
abbrev pub HasMeantStream : BlockForms → (ℕ → Cell) → List (List ℕ) → Type 0
HasMeantStream forms cells image = (b epoch : ℕ) → forms.IsInStream image b epoch →
    (cells b).loose ≡ true → HasCandidate cells image b

-- The block holds the bytes that it had before, and was not written with them since.
abbrev pub HasOldBytes : (before cells : ℕ → Cell) → List (List ℕ) → ℕ → Type 0
HasOldBytes before cells image b = (image_block image b ≡ (before b).bytes) ×
    (Contains (drop (length (before b).written) (cells b).written) (image_block image b) → ⊥)

-- What an earlier torn write left in the ring has no epoch above the generation that was chosen then.
abbrev pub HasMeantEpochs : BlockForms → (before cells : ℕ → Cell) → (generation : ℕ) →
    List (List ℕ) → Type 0
HasMeantEpochs forms before cells generation image = (b epoch : ℕ) →
    forms.IsInStream image b epoch → HasOldBytes before cells image b → epoch ≤ generation

-- No superblock and no block of the ring makes sense by chance.
pub record HasMeantForms (forms : BlockForms) (before cells : ℕ → Cell) (generation : ℕ)
    (image : List (List ℕ)) : Type 0 where
  pub supers : HasMeantSupers forms cells image
  pub stream : HasMeantStream forms cells image
  pub epochs : HasMeantEpochs forms before cells generation image
