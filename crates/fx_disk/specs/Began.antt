-- The image that a disk held after its first calls.
use Rattle.std.specs.Prelude.{◌≡◌, ℕ, ◌<◌, List, [], length, slice_index_or}
use Rattle.fx_disk.specs.Record.{DiskRecord, cell_after}
use Rattle.fx_disk.specs.Settled.{WasSettled}

-- After the first calls nothing is loose, and the disk reads as this image.
pub record BeganAs (r : DiskRecord) (from : ℕ) (image : List (List ℕ)) : Type 0 where
  pub size : length image ≡ length r.entry
  pub bytes : (b : ℕ) → b < length r.entry → slice_index_or image b [] ≡ (cell_after r from b).bytes
  pub settled : WasSettled from r
