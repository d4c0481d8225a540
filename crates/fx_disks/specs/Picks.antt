-- The images of picks: what a stop at a moment leaves in each loose block, as it is chosen.
use Rattle.std.specs.Prelude.{◌≡◌, ◌≢◌, ℕ, ◌+◌, ◌-◌, ◌≤◌, ◌<◌, true, ◌==◌, if◌then◌else◌, Option, Some, None, List, [], ◌∷◌, ◌++◌, length, take, drop, replicate, slice_index_or}
use Rattle.std.specs.List.{All, AllPairs}
use Rattle.fx_disk.specs.Record.{DiskRecord, Call, call_at, cell_at}
use Rattle.fx_disk.specs.Loose.{IsWriteOf, payload}
use Rattle.fx_base.specs.Blocks.{zero_bytes}
use Rattle.fx_disks.specs.declared.pick.TheConstants.{HALF_BYTES}
use Rattle.fx_disks.specs.declared.pick.Pick.{Pick}
use Rattle.fx_disks.specs.declared.pick.Loose.{Loose}
use Rattle.fx_disks.specs.declared.pick.Loose.TheVariants.{Settled, Written, Half, Zeros}

-- The call with this number, from 1, wrote the block by call `m + 1`.
pub record Wrote (calls : List Call) (m b number : ℕ) : Type 0 where
  pub counted : 0 < number
  pub by_then : number ≤ m + 1
  pub write : IsWriteOf b (call_at calls (number - 1))

-- What is named as left in the block was there to be left.
abbrev pub CanBeLeft : List Call → ℕ → ℕ → Loose → Type 0
CanBeLeft calls m b Settled = Unit {0}
CanBeLeft calls m b (Written number) = Wrote calls m b number
CanBeLeft calls m b (Half number) = Wrote calls m b number
CanBeLeft calls m b Zeros = Unit {0}

-- The bytes that are left.
abbrev pub left_bytes : DiskRecord → ℕ → ℕ → Loose → List ℕ
left_bytes r m b Settled = (cell_at r m b).settled
left_bytes r m b (Written number) = payload (call_at r.calls (number - 1))
left_bytes r m b (Half number) =
    take HALF_BYTES (payload (call_at r.calls (number - 1)))
    ++ drop HALF_BYTES (cell_at r m b).settled
left_bytes r m b Zeros = zero_bytes

-- A pick of a loose block.
pub record IsPick (r : DiskRecord) (m : ℕ) (pick : Pick) : Type 0 where
  pub block : pick.block < length r.entry
  pub loose : (cell_at r m pick.block).loose ≡ true
  pub left : CanBeLeft r.calls m pick.block pick.loose

-- The moment is one of the disk's, each pick is one, and no block has two.
pub record ArePicks (r : DiskRecord) (m : ℕ) (picks : List Pick) : Type 0 where
  pub moment : m ≤ length r.calls
  pub each : All (IsPick r m) picks
  pub once : AllPairs (λ p q. p.block ≢ q.block) picks

-- What the picks name for a block.
abbrev pub pick_of : List Pick → ℕ → Option Loose
pick_of [] b = None
pick_of (pick ∷ picks) b = if pick.block == b then Some pick.loose else pick_of picks b

-- A block without a pick holds its settled bytes.
abbrev pub chosen_bytes : DiskRecord → ℕ → ℕ → Option Loose → List ℕ
chosen_bytes r m b None = (cell_at r m b).settled
chosen_bytes r m b (Some loose) = left_bytes r m b loose

-- The image of the picks.
pub record IsImageOf (r : DiskRecord) (m : ℕ) (picks : List Pick) (image : List (List ℕ)) : Type 0
  where
    pub size : length image ≡ length r.entry
    pub each : (b : ℕ) → b < length r.entry →
        slice_index_or image b [] ≡ chosen_bytes r m b (pick_of picks b)
