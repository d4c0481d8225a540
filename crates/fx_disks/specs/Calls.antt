-- The calls of a disk in memory, and what they make of its blocks.
use Rattle.std.specs.Prelude.{ℕ, zero, suc, Bool, true, false, List, [], ◌∷◌, map, slice_set, slice_index_or}
use Rattle.fx_disk.specs.Record.{Call, DiskRecord, call_at}
use Rattle.fx_disk.specs.Record as model
use Rattle.fx_disks.specs.declared.call.Made.{Made}
use Rattle.fx_disks.specs.declared.call.Made.TheVariants.{Write, Flush}

abbrev pub call_of : Made → Call
call_of (Write at bytes ok) = model.Write at bytes.value ok
call_of (Flush ok) = model.Flush ok

-- What the blocks read as after a call: a failed write leaves its block as it was.
abbrev pub contents_after : List (List ℕ) → List Call → List (List ℕ)
contents_after now [] = now
contents_after now (model.Write at bytes true ∷ calls) =
    contents_after (slice_set now at bytes) calls
contents_after now (model.Write at bytes false ∷ calls) = contents_after now calls
contents_after now (model.Flush ok ∷ calls) = contents_after now calls

abbrev pub record_from : List (List ℕ) → List Call → DiskRecord
record_from entry calls =
    record { entry = entry; calls = calls; contents = contents_after entry calls }

-- The bytes of a write, or the other bytes where the call is a flush.
abbrev pub bytes_or : Call → List ℕ → List ℕ
bytes_or (model.Write at bytes ok) other = bytes
bytes_or (model.Flush ok) other = other

-- The bytes of the write with this number, from 1, or those at entry where no such write is.
abbrev pub bytes_by : List (List ℕ) → List Call → ℕ → ℕ → List ℕ
bytes_by entry calls b zero = slice_index_or entry b []
bytes_by entry calls b (suc k) = bytes_or (call_at calls k) (slice_index_or entry b [])

abbrev pub is_write : Made → Bool
is_write (Write at bytes ok) = true
is_write (Flush ok) = false
