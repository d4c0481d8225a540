-- What calls do to what a disk tells.
use Rattle.std.specs.Prelude.{◌≡◌, ℕ, ◌+◌, ◌<◌, ◌⊎◌, ◌^◌, Bool, true, false, Option, Some, None, List, [], ◌∷◌, ◌++◌, length, slice_set, slice_index_or}
use denote.Struct.Props.{props}
use Rattle.fx_disk.specs.Record.{Call, Write, Flush, DiskRecord, IsBlock, call_at, cell_now}

-- One more call, after which the blocks read as `contents`.
abbrev pub with_call : DiskRecord → Call → List (List ℕ) → DiskRecord
with_call r call contents =
    record { entry = r.entry; calls = r.calls ++ call ∷ []; contents = contents }

abbrev pub with_write : DiskRecord → ℕ → List ℕ → Bool → List ℕ → DiskRecord
with_write r at bytes ok held = with_call r (Write at bytes ok) (slice_set r.contents at held)

abbrev pub with_flush : DiskRecord → Bool → DiskRecord
with_flush r ok = with_call r (Flush ok) r.contents

-- What a block reads as after a write of it: the bytes written, or any where the write failed.
pub record MayHold (bytes : List ℕ) (ok : Bool) (held : List ℕ) : Type 0 where
  pub block : IsBlock held
  pub good : ok ≡ true → held ≡ bytes

-- What is told before and after a write that was made.
abbrev pub Writes : Option DiskRecord → Option DiskRecord → ℕ → List ℕ → Bool → Type 0
Writes None after at bytes ok = after ≡ None
Writes (Some r) after at bytes ok = (held : List ℕ) × MayHold bytes ok held ×
    (after ≡ Some (with_write r at bytes ok held))

-- What is told before and after a flush that was made.
abbrev pub Flushes : Option DiskRecord → Option DiskRecord → Bool → Type 0
Flushes None after ok = after ≡ None
Flushes (Some r) after ok = after ≡ Some (with_flush r ok)

-- The call was made: it is counted, and what it does is done.
pub record WasMade (before after : ℕ) (made : Bool) (does : Type 0) : Type 0 where
  pub within : before < 2 ^ 63
  pub counted : after ≡ before + 1
  pub last : made ≡ true
  pub done : does

-- The call was not made: it fails, and nothing that is told changes.
pub record WasNotMade (before after : ℕ) (made ok : Bool) (keeps : Type 0) : Type 0 where
  pub failed : ok ≡ false
  pub counted : after ≡ before
  pub last : made ≡ false
  pub same : keeps

-- A write or a flush, by the count of calls before and after it, whether it was made, and its
-- answer.
abbrev pub MadeOrNot : ℕ → ℕ → Bool → Bool → Type 0 → Type 0 → Type 0
MadeOrNot before after made ok does keeps = WasMade before after made does ⊎
    WasNotMade before after made ok keeps

-- A call of a disk of `n` blocks.
abbrev pub IsCallOf : ℕ → Call → Type 0
IsCallOf n (Write at bytes ok) = (at < n) × IsBlock bytes
IsCallOf n (Flush ok) = Unit {0}

-- The record of a disk of so many blocks and calls: what it holds are blocks, and a block whose
-- last write was good reads as that write.
pub record IsRecordOf (size calls : ℕ) (r : DiskRecord) : Type 0 where
  pub entry_size : length r.entry ≡ size
  pub counted : length r.calls ≡ calls
  pub entry : (b : ℕ) → b < size → IsBlock (slice_index_or r.entry b [])
  pub each : (k : ℕ) → k < calls → IsCallOf size (call_at r.calls k)
  pub contents_size : length r.contents ≡ size
  pub blocks : (b : ℕ) → b < size → IsBlock (slice_index_or r.contents b [])
  pub reads : (b : ℕ) → b < size → (cell_now r b).failed ≡ false →
      slice_index_or r.contents b [] ≡ (cell_now r b).bytes

pub IsCallOf-prop : (size : ℕ) (call : Call) → IsProp (IsCallOf size call)
IsCallOf-prop size (Write at bytes ok) = hlevel props
IsCallOf-prop size (Flush ok) = hlevel props

pub IsRecordOf-prop : (size calls : ℕ) (r : DiskRecord) → IsProp (IsRecordOf size calls r)
IsRecordOf-prop size calls r = hlevel (props, IsCallOf-prop)
