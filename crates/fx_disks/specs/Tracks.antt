-- A block by the numbers of its writes.
use Rattle.std.specs.Prelude.{◌≡◌, ℕ, ◌≤◌, ◌<◌, Bool, true, false, not, ◌&&◌, nat_le, if◌then◌else◌, ◌+◌, List, [], length, slice_index_or, slice_set}
use Rattle.fx_disk.specs.Record.{Call, Write, Flush, DiskRecord, Cell, call_at, cell_after, cell_at}
use Rattle.fx_disk.specs.Steps.{IsCallOf}
use Rattle.fx_disks.specs.Calls.{bytes_by, record_from}
use Rattle.fx_disks.specs.declared.track.Track.{Track}

abbrev pub fresh : Track
fresh = record { written = 0; good = true; settled = 0 }

abbrev pub is_fixed : Track → ℕ → Bool
is_fixed t flushed = t.good && nat_le t.written flushed

abbrev pub settled_number : Track → ℕ → ℕ
settled_number t flushed = if is_fixed t flushed then t.written else t.settled

abbrev pub track_after : ℕ → Bool → ℕ → Track → Track
track_after number ok flushed t =
    record { written = number; good = ok; settled = settled_number t flushed }

abbrev pub tracks_after : Call → ℕ → ℕ → List Track → List Track
tracks_after (Write at bytes ok) number flushed ts =
    slice_set ts at (track_after number ok flushed (slice_index_or ts at fresh))
tracks_after (Flush ok) number flushed ts = ts

abbrev pub flushed_after : Call → ℕ → ℕ → ℕ
flushed_after (Write at bytes ok) number flushed = flushed
flushed_after (Flush true) number flushed = number
flushed_after (Flush false) number flushed = flushed

-- The track says what the cell is, `flushed` being the number of the last successful flush.
pub record Tracks (r : DiskRecord) (b n flushed : ℕ) (cell : Cell) (t : Track) : Type 0 where
  pub written : t.written ≤ n
  pub failed : cell.failed ≡ not t.good
  pub loose : cell.loose ≡ not (is_fixed t flushed)
  pub bytes : cell.bytes ≡ bytes_by r.entry r.calls b t.written
  pub settled : cell.settled ≡ bytes_by r.entry r.calls b (settled_number t flushed)

abbrev pub AllTracked : DiskRecord → ℕ → ℕ → (ℕ → Cell) → List Track → Type 0
AllTracked r n flushed cells ts = (b : ℕ) → b < length ts →
    Tracks r b n flushed (cells b) (slice_index_or ts b fresh)

abbrev pub AllCallsOf : ℕ → List Call → Type 0
AllCallsOf n calls = (k : ℕ) → k < length calls → IsCallOf n (call_at calls k)

-- After the first `m` of the calls, and at the moment `m`, whatever the image at entry.
abbrev pub TrackedAfter : List Call → ℕ → ℕ → List Track → Type 0
TrackedAfter calls m flushed ts = (entry : List (List ℕ)) →
    AllTracked (record_from entry calls) m flushed (cell_after (record_from entry calls) m) ts

abbrev pub TrackedAt : List Call → ℕ → ℕ → List Track → Type 0
TrackedAt calls m flushed ts = (entry : List (List ℕ)) →
    AllTracked (record_from entry calls) (m + 1) flushed (cell_at (record_from entry calls) m) ts
