-- What lies at a path: a directory, or a file with its bytes and held blocks; each with attributes.
use Rattle.std.specs.Prelude.{ℕ, ◌+◌, ◌-◌, ◌/◌, List, [], ◌∷◌, ◌++◌, length, take, drop, replicate}
use Rattle.std.specs.List.{range_with_len}
use Rattle.std.specs.Ordering.{nat_cmp}
use Rattle.std.specs.FinMap as map
use Rattle.std.specs.FinSet as set
use Rattle.fx_item.specs.Name.{name_cmp}
use Rattle.fx_base.specs.declared.block.TheConstants.{BLOCK_BYTES}
use Rattle.fx_plain.specs.declared.contents.TheConstants.{MAX_FILE}

-- values by their names
abbrev pub Attributes : Type 0
Attributes = map.FinMap name_cmp (List ℕ)

-- numbers of a file's blocks, from 0
abbrev pub Blocks : Type 0
Blocks = set.FinSet nat_cmp

-- a file's bytes, and the blocks that are held for it; the others are holes, and read as zeros
pub record Contents : Type 0 where
  pub bytes : List ℕ
  pub held : Blocks

pub data Node : Type 0 where
  Dir : (attributes : Attributes) → Node
  File : (contents : Contents) (attributes : Attributes) → Node

-- no bytes, and no held block
abbrev pub no_contents : Contents
no_contents = record { bytes = []; held = set.empty }

abbrev pub empty_dir : Node
empty_dir = Dir map.empty

abbrev pub empty_file : Node
empty_file = File no_contents map.empty

-- the blocks of the longest file
abbrev pub file_blocks : ℕ
file_blocks = MAX_FILE / BLOCK_BYTES

-- the bytes with zeros behind them, at least n
abbrev pub grown : ℕ → List ℕ → List ℕ
grown n bytes = bytes ++ replicate (n - length bytes) 0

-- the bytes with the text in place of those from `at` on
abbrev pub overwritten : ℕ → List ℕ → List ℕ → List ℕ
overwritten at text bytes = take at bytes ++ text ++ drop (at + length text) bytes

-- the blocks that hold a byte of the text, where it stands from `at` on
abbrev pub covered : ℕ → List ℕ → List ℕ
covered at [] = []
covered at (b ∷ bs) =
    range_with_len (at / BLOCK_BYTES) ((at + length bs) / BLOCK_BYTES + 1 - at / BLOCK_BYTES)

-- the file with the text from `at` on: it grows with zeros as needed, and the covered blocks are
-- held
abbrev pub written : ℕ → List ℕ → Contents → Contents
written at [] contents = contents
written at (b ∷ bs) contents = record {
  bytes = overwritten at (b ∷ bs) (grown (at + length (b ∷ bs)) contents.bytes);
  held = set.union contents.held (set.from_list (covered at (b ∷ bs)));
}
