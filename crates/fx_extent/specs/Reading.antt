-- Reading a file block by block.
use Rattle.std.specs.Prelude.{ℕ, ◌-◌, ◌*◌, min, List, take, drop}
use Rattle.fx_base.specs.declared.block.TheConstants.{BLOCK_BYTES}

-- what block n has of the bytes from `at` on, up to those from `past` on
abbrev pub piece_read : (at past n : ℕ) → List ℕ → List ℕ
piece_read at past n block =
    take (min BLOCK_BYTES (past - n * BLOCK_BYTES) - (at - n * BLOCK_BYTES))
    (drop (at - n * BLOCK_BYTES) block)
