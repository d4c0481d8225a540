-- The bytes of a block.
use Rattle.std.specs.Prelude.{ℕ, List, replicate}
use Rattle.fx_base.specs.declared.block.TheConstants.{BLOCK_BYTES}

-- a block of zeros
unfoldable pub zero_bytes : List ℕ
zero_bytes = replicate BLOCK_BYTES 0
