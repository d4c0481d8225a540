-- What a file holds, by its length, its blocks, and what the blocks of the device hold.
use Rattle.std.specs.Prelude.{ℕ, ◌+◌, ◌-◌, ◌/◌, ◌%◌, List, map, replicate, get_or, Option, None, Some, is_some, filter}
use Rattle.std.specs.List.{range_with_len}
use Rattle.std.specs.FinSet as set
use Rattle.fx_plain.specs.Node.{Contents}
use Rattle.fx_base.specs.declared.block.TheConstants.{BLOCK_BYTES}

-- byte j of a block of the device; of a hole, zero
abbrev pub byte_in : (ℕ → List ℕ) → Option ℕ → ℕ → ℕ
byte_in blocks None j = 0
byte_in blocks (Some block) j = get_or (blocks block) j 0

-- byte i of the file that has these blocks
abbrev pub byte_at : (ℕ → List ℕ) → (ℕ → Option ℕ) → ℕ → ℕ
byte_at blocks held i = byte_in blocks (held (i / BLOCK_BYTES)) (i % BLOCK_BYTES)

-- so many blocks hold so many bytes
abbrev pub blocks_for : ℕ → ℕ
blocks_for len = (len + (BLOCK_BYTES - 1)) / BLOCK_BYTES

-- The file of that length: the bytes of its blocks, zero in holes and cut to the length; and held
-- are those of its blocks that the device has.
unfoldable pub file_of : (ℕ → List ℕ) → ℕ → (ℕ → Option ℕ) → Contents
file_of blocks len held = record {
  bytes = map (byte_at blocks held) (range_with_len 0 len);
  held = set.from_list (filter (λ n. is_some (held n)) (range_with_len 0 (blocks_for len)));
}

-- the bytes of a block of the device; of a hole, zeros
abbrev pub bytes_of_block : (ℕ → List ℕ) → Option ℕ → List ℕ
bytes_of_block blocks None = replicate BLOCK_BYTES 0
bytes_of_block blocks (Some block) = blocks block
