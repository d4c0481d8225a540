-- Which blocks of a file a write or a truncation touches.
use Rattle.std.specs.Prelude.{ℕ, ◌+◌, ◌*◌, Bool, ◌&&◌, ◌||◌, nat_le, nat_lt, List, length}
use Rattle.fx_base.specs.declared.block.TheConstants.{BLOCK_BYTES}
use Rattle.fx_contents.specs.Writes.{is_covered}

-- the number lies in the range
abbrev pub is_between : ℕ → ℕ → ℕ → Bool
is_between start stop n = nat_le start n && nat_lt n stop

-- Block n holds a byte of the text that stands from `at` on. Where there is no text no block does.
abbrev pub holds_some : ℕ → List ℕ → ℕ → Bool
holds_some at text n = nat_lt 0 (length text) && is_covered at text n

-- it holds some, and bytes that are not the text's
abbrev pub is_partly_covered : ℕ → List ℕ → ℕ → Bool
is_partly_covered at text n = holds_some at text n
    && (nat_lt (n * BLOCK_BYTES) at || nat_lt (at + length text) ((n + 1) * BLOCK_BYTES))

-- the truncation to a lesser size touches block n: it begins below the old length, and ends past the
-- size
abbrev pub is_cut : (size len n : ℕ) → Bool
is_cut size len n = nat_lt size len
    && (nat_lt (n * BLOCK_BYTES) len && nat_lt size ((n + 1) * BLOCK_BYTES))

-- the truncation to a lesser size leaves bytes of block n and takes others away
abbrev pub is_cut_inside : (size len n : ℕ) → Bool
is_cut_inside size len n = is_cut size len n && nat_lt (n * BLOCK_BYTES) size
