-- What a new block of a file gets: patches, which are put into its old bytes, or into zeros.
use Rattle.std.specs.Prelude.{◌≡◌, ℕ, ◌+◌, ◌-◌, ◌*◌, ◌≤◌, List, length, map, replicate, All}
use Rattle.std.specs.List.{fold}
use Rattle.fx_plain.specs.Node.{overwritten}
use Rattle.fx_base.specs.declared.block.TheConstants.{BLOCK_BYTES}
use Rattle.fx_contents.specs.Writes.{from_in, piece_in}
use Rattle.fx_extent.specs.declared.patching.Patch.{Patch}
use Rattle.fx_extent.specs.declared.patching.Patch.TheVariants as patches

-- bytes that are put into a block, and where the first of them goes
pub record PlainPatch : Type 0 where
  pub offset : ℕ
  pub bytes : List ℕ

-- the program's patches as plain data: zeros go up to the end of the block
abbrev pub patch_of : Patch → PlainPatch
patch_of (patches.Text offset bytes) = record { offset = offset; bytes = bytes.now }
patch_of (patches.Zeros offset) =
    record { offset = offset; bytes = replicate (BLOCK_BYTES - offset) 0 }

abbrev pub patches_of : List Patch → List PlainPatch
patches_of list = map patch_of list

-- the patch lies in one block
abbrev pub IsInBlock : PlainPatch → Type 0
IsInBlock patch = patch.offset + length patch.bytes ≤ BLOCK_BYTES

abbrev pub put_patch : List ℕ → PlainPatch → List ℕ
put_patch block patch = overwritten patch.offset patch.bytes block

-- what a block holds after patches, the first one first
abbrev pub put_patches : List PlainPatch → List ℕ → List ℕ
put_patches list block = fold put_patch block list

-- the part of a text that block n gets, where the text is written from `at` on
abbrev pub text_patch : (at : ℕ) → List ℕ → (n : ℕ) → PlainPatch
text_patch at text n = record { offset = from_in at n; bytes = piece_in at text n }

-- the zeros from the size on that block n gets, in which the size lies
abbrev pub zero_patch : (size n : ℕ) → PlainPatch
zero_patch size n = record {
  offset = size - n * BLOCK_BYTES;
  bytes = replicate (BLOCK_BYTES - (size - n * BLOCK_BYTES)) 0;
}
