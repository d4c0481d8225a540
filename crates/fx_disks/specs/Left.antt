-- What is left in the blocks, by the numbers of their writes.
use Rattle.std.specs.Prelude.{◌≡◌, ℕ, ◌<◌, Bool, true, false, Option, Some, None, List, [], ◌++◌, length, take, drop, replicate, slice_index_or, slice_set}
use Rattle.fx_disk.specs.Record.{Call, DiskRecord}
use Rattle.fx_disks.specs.Calls.{bytes_by, record_from}
use Rattle.fx_disks.specs.Tracks.{settled_number, fresh}
use Rattle.fx_disks.specs.Picks.{IsPick, ArePicks, pick_of}
use Rattle.fx_disks.specs.declared.track.Track.{Track}
use Rattle.fx_base.specs.Blocks.{zero_bytes}
use Rattle.fx_disks.specs.declared.pick.TheConstants.{HALF_BYTES}
use Rattle.fx_disks.specs.declared.pick.Pick.{Pick}
use Rattle.fx_disks.specs.declared.pick.Loose.{Loose}
use Rattle.fx_disks.specs.declared.pick.Loose.TheVariants.{Settled, Written, Half, Zeros}

-- The bytes of a choice for the block whose settled bytes are those of the write `settled`.
abbrev pub bytes_of_choice : List (List ℕ) → List Call → ℕ → ℕ → Option Loose → List ℕ
bytes_of_choice entry calls b settled None = bytes_by entry calls b settled
bytes_of_choice entry calls b settled (Some Settled) = bytes_by entry calls b settled
bytes_of_choice entry calls b settled (Some (Written number)) = bytes_by entry calls b number
bytes_of_choice entry calls b settled (Some (Half number)) =
    take HALF_BYTES (bytes_by entry calls b number)
    ++ drop HALF_BYTES (bytes_by entry calls b settled)
bytes_of_choice entry calls b settled (Some Zeros) = zero_bytes

-- Whether the pick, after those that made the choices `old`, is one more: then it is the choice of
-- its block.
pub record Chooses (calls : List Call) (m : ℕ) (old new : List (Option Loose)) (pick : Pick)
    (answer : Bool) : Type 0 where
  pub free : answer ≡ true → slice_index_or old pick.block None ≡ None
  pub chosen : answer ≡ true → new ≡ slice_set old pick.block (Some pick.loose)
  pub is_pick : answer ≡ true → (entry : List (List ℕ)) → length entry ≡ length old →
      IsPick (record_from entry calls) m pick
  pub refused : answer ≡ false → (entry : List (List ℕ)) → length entry ≡ length old →
      IsPick (record_from entry calls) m pick → slice_index_or old pick.block None ≡ None → ⊥

-- The choices are those of the picks, whatever the image at entry.
pub record AreChosen (calls : List Call) (m : ℕ) (chosen : List (Option Loose))
    (picks : List Pick) : Type 0 where
  pub are_picks : (entry : List (List ℕ)) → length entry ≡ length chosen →
      ArePicks (record_from entry calls) m picks
  pub choices : (b : ℕ) → b < length chosen → slice_index_or chosen b None ≡ pick_of picks b

abbrev pub AreNoPicks : List Call → ℕ → ℕ → List Pick → Type 0
AreNoPicks calls m n picks = (entry : List (List ℕ)) → length entry ≡ n →
    ArePicks (record_from entry calls) m picks → ⊥

-- The first `n` blocks hold what the choices leave in them.
pub record HoldsChoices (entry : List (List ℕ)) (calls : List Call) (ts : List Track) (flushed : ℕ)
    (chosen : List (Option Loose)) (blocks : List (List ℕ)) (n : ℕ) : Type 0 where
  pub size : length blocks ≡ n
  pub each : (b : ℕ) → b < n →
      slice_index_or blocks b []
      ≡ bytes_of_choice entry calls b (settled_number (slice_index_or ts b fresh) flushed)
      (slice_index_or chosen b None)
