-- A disk as the list of its calls, and what a stop at some moment may leave in its blocks.
use Rattle.std.specs.Prelude.{◌≡◌, ℕ, ◌<◌, Bool, true, false, not, ◌&&◌, ◌==◌, if◌then◌else◌, List, [], ◌∷◌, ◌++◌, length, take, slice_index_or}
use Rattle.fx_base.specs.declared.block.TheConstants.{BLOCK_BYTES}

-- A write or a flush that was made, and whether it answered Ok.
pub data Call : Type 0 where
  Write : (at : ℕ) (bytes : List ℕ) (ok : Bool) → Call
  Flush : (ok : Bool) → Call

-- The image at entry, the calls made since, and what the blocks read as now.
pub record DiskRecord : Type 0 where
  pub entry : List (List ℕ)
  pub calls : List Call
  pub contents : List (List ℕ)

pub record IsBlock (bytes : List ℕ) : Type 0 where
  pub long : length bytes ≡ BLOCK_BYTES
  pub each : (i : ℕ) → i < BLOCK_BYTES → slice_index_or bytes i 0 < 256

-- One block at a moment: its bytes at entry, the bytes of its last write, whether that write
-- failed, whether the block is loose, the last bytes that it held while it was not loose, the bytes
-- of every write to it since then, and those of every write to it since entry.
pub record Cell : Type 0 where
  pub entry : List ℕ
  pub bytes : List ℕ
  pub failed : Bool
  pub loose : Bool
  pub settled : List ℕ
  pub since : List (List ℕ)
  pub written : List (List ℕ)

-- What a loose block may hold if a stop tears no block.
abbrev pub candidates : Cell → List (List ℕ)
candidates cell = cell.settled ∷ cell.since

-- A block that was not written yet.
abbrev pub fresh_cell : List ℕ → Cell
fresh_cell bytes = record {
  entry = bytes;
  bytes = bytes;
  failed = false;
  loose = false;
  settled = bytes;
  since = [];
  written = [];
}

abbrev pub settled_cell : Cell → Cell
settled_cell cell = record cell { failed = false; loose = false; settled = cell.bytes; since = [] }

abbrev pub written_cell : List ℕ → Bool → Cell → Cell
written_cell bytes ok cell =
    record cell {
      bytes = bytes;
      failed = not ok;
      loose = true;
      since = cell.since ++ bytes ∷ [];
      written = cell.written ++ bytes ∷ [];
    }

-- A successful flush settles a block whose last write was good.
abbrev pub flushed_cell : Bool → Cell → Cell
flushed_cell ok cell = if ok && not cell.failed then settled_cell cell else cell

-- The block `b` after a call.
abbrev pub after_call : ℕ → Call → Cell → Cell
after_call b (Write at bytes ok) cell = if at == b then written_cell bytes ok cell else cell
after_call b (Flush ok) cell = flushed_cell ok cell

-- The block `b` within a call: a flush has settled nothing yet.
abbrev pub within_call : ℕ → Call → Cell → Cell
within_call b (Write at bytes ok) cell = after_call b (Write at bytes ok) cell
within_call b (Flush ok) cell = cell

abbrev pub after_calls : ℕ → List Call → Cell → Cell
after_calls b [] cell = cell
after_calls b (call ∷ calls) cell = after_calls b calls (after_call b call cell)

-- The call at a place, from 0. Past the last one stands a flush that failed, which changes nothing.
abbrev pub call_at : List Call → ℕ → Call
call_at calls k = slice_index_or calls k (Flush false)

-- The block `b` at entry, after the first `m` calls, and after all.
abbrev pub cell_first : DiskRecord → ℕ → Cell
cell_first r b = fresh_cell (slice_index_or r.entry b [])

abbrev pub cell_after : DiskRecord → ℕ → ℕ → Cell
cell_after r m b = after_calls b (take m r.calls) (cell_first r b)

abbrev pub cell_now : DiskRecord → ℕ → Cell
cell_now r b = after_calls b r.calls (cell_first r b)

-- The block `b` at moment `m`: after the first `m` calls, or within the next.
abbrev pub cell_at : DiskRecord → ℕ → ℕ → Cell
cell_at r m b = within_call b (call_at r.calls m) (cell_after r m b)

-- An image of `n` blocks, each of which holds its last bytes where it is not loose.
pub record Fits (cells : ℕ → Cell) (n : ℕ) (image : List (List ℕ)) : Type 0 where
  pub size : length image ≡ n
  pub blocks : (b : ℕ) → b < n → IsBlock (slice_index_or image b [])
  pub kept : (b : ℕ) → b < n → (cells b).loose ≡ false → slice_index_or image b [] ≡ (cells b).bytes

-- What a stop at moment `m` may leave.
abbrev pub Left : DiskRecord → ℕ → List (List ℕ) → Type 0
Left r m image = Fits (cell_at r m) (length r.entry) image

-- What a stop between the last call and the next may leave.
abbrev pub LeftNow : DiskRecord → List (List ℕ) → Type 0
LeftNow r image = Fits (cell_now r) (length r.entry) image
