-- Which of the two superblocks of an image is chosen.
use Rattle.std.specs.Prelude.{◌≡◌, ◌<◌, ◌≤◌, ℕ, nat_le, if◌then◌else◌, List, [], Option, Some, None, slice_index_or}
use Rattle.fx_super.specs.Super.{Fields, IsSuper}
use Rattle.fx_super.specs.declared.choice.Which.{Which}
use Rattle.fx_super.specs.declared.choice.Which.TheVariants.{A, B}

abbrev pub block_number : Which → ℕ
block_number A = 0
block_number B = 1

abbrev pub other : Which → Which
other A = B
other B = A

-- the block of an image that a superblock may stand in
abbrev pub block_of : List (List ℕ) → Which → List ℕ
block_of image which = slice_index_or image (block_number which) []

-- Block 0 goes before block 1 where its generation is as great, block 1 before block 0 where it is
-- greater.
abbrev pub GoesBefore : Which → ℕ → ℕ → Type 0
GoesBefore A generation others = others ≤ generation
GoesBefore B generation others = others < generation

-- This one of the two blocks is a superblock of these fields, and it goes before the other if that
-- is one too.
pub record IsChosen (image : List (List ℕ)) (which : Which) (f : Fields) : Type 0 where
  pub is_super : IsSuper (block_of image which) f
  pub goes_before : (g : Fields) → IsSuper (block_of image (other which)) g
      → GoesBefore which f.generation g.generation

-- Neither block is a superblock.
abbrev pub HasNoChosen : List (List ℕ) → Type 0
HasNoChosen image = (which : Which) (f : Fields) → IsSuper (block_of image which) f → ⊥

-- which of two generations goes before, if a block has one
abbrev pub choice : Option ℕ → Option ℕ → Option Which
choice None None = None
choice (Some a) None = Some A
choice None (Some b) = Some B
choice (Some a) (Some b) = if nat_le b a then Some A else Some B

-- The block is a superblock of this generation, or it is none.
abbrev pub HasGeneration : List ℕ → Option ℕ → Type 0
HasGeneration block None = (f : Fields) → IsSuper block f → ⊥
HasGeneration block (Some generation) = (f : Fields)
    × (IsSuper block f × (f.generation ≡ generation))
