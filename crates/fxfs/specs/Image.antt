-- What the word for an image names.
use Rattle.std.specs.Prelude.{ℕ, ◌&&◌, List, Result, Ok, Err, if◌then◌else◌, nat_eq, nat_le, take, drop, codes}
use Rattle.std.specs.Cmp.Lexicographic.{pointwise}
use Rattle.fx_script.specs.declared.fault.LineFault.{LineFault}
use Rattle.fx_script.specs.Word.{number_in}
use Rattle.fxfs.specs.declared.image.ImageWord.{ImageWord}
use Rattle.fxfs.specs.declared.image.ImageWord.TheVariants.{Memory, File, Unfit}
use Rattle.fx_super.specs.declared.superblock.TheConstants.{MIN_BLOCKS, MAX_BLOCKS}

-- a disk of this many blocks in memory
abbrev pub memory_of : Result ℕ LineFault → ImageWord
memory_of (Ok blocks) =
    if nat_le MIN_BLOCKS blocks && nat_le blocks MAX_BLOCKS then Memory blocks else Unfit
memory_of (Err fault) = Unfit

-- `mem:` and a number of blocks is a disk in memory; what does not begin so is a path
abbrev pub image_of : List ℕ → ImageWord
image_of word =
    if pointwise nat_eq (take 4 word) (codes "mem:") then memory_of (number_in (drop 4 word))
    else File
