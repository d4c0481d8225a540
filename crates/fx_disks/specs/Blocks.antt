-- Lists of blocks.
use Rattle.std.specs.Prelude.{ℕ, ◌<◌, List, [], length, slice_index_or}
use Rattle.fx_disk.specs.Record.{IsBlock}

abbrev pub AreBlocks : List (List ℕ) → Type 0
AreBlocks image = (b : ℕ) → b < length image → IsBlock (slice_index_or image b [])
