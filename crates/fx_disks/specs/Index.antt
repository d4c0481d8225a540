-- Where each block's bytes stand among the calls.
use Rattle.std.specs.Prelude.{◌≡◌, ℕ, ◌≤◌, ◌<◌, List, [], length, slice_index_or}
use denote.Struct.Props.{props}
use Rattle.fx_disk.specs.Record.{Call}
use Rattle.fx_disks.specs.Calls.{contents_after, bytes_by}

-- Each block reads as the write with the number in `latest`, or as at entry where that is 0.
pub record IsIndex (entry : List (List ℕ)) (calls : List Call) (latest : List ℕ) : Type 0 where
  pub within : (b : ℕ) → b < length entry → slice_index_or latest b 0 ≤ length calls
  pub reads : (b : ℕ) → b < length entry →
      slice_index_or (contents_after entry calls) b []
      ≡ bytes_by entry calls b (slice_index_or latest b 0)

pub IsIndex-prop : (entry : List (List ℕ)) (calls : List Call) (latest : List ℕ) →
    IsProp (IsIndex entry calls latest)
IsIndex-prop entry calls latest = hlevel props
