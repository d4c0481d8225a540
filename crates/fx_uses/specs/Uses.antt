-- What each block of a disk is used for, what was put there, and what the cells have of it.
use Rattle.std.specs.Prelude.{◌≡◌, ℕ, ◌+◌, ◌≤◌, ◌<◌, false, if◌then◌else◌, nat_le, Option, Some, None, List, [], length, slice_index_or}
use Rattle.fx_disk.specs.Record.{DiskRecord, Cell, cell_now}
use Rattle.fx_uses.specs.Live.{Txn, AreNumbered, IsPut, live_after}

-- ---- uses

-- What a block is used for.
pub data Use : Type 0 where
  -- nothing
  Free : Use
  -- drawn by a number, and, once it was written well, staged
  Drawn : (who : ℕ) → Use
  Staged : (who : ℕ) → Use
  -- live since a transaction, and freed by one that is not settled
  Live : (since : ℕ) → Use
  Freed : (since until : ℕ) → Use
  -- a superblock or a block of the ring
  System : Use
  -- a block of a layer that the superblock names
  Layer : Use
  -- set aside for an open checkpoint, written well by it, and flushed since
  Aside : Use
  Laid : Use
  Coming : Use
  -- a block of a layer that no superblock names any more, kept for snapshots that read it
  Pinned : Use

pub record BlockUses : Type 0 where
  -- the first block in which data can lie: superblocks and ring lie below it
  pub first_data : ℕ
  -- the sums of what is live before the first transaction, and its number
  pub first : ℕ → Option ℕ
  pub base : ℕ
  pub txns : List Txn
  -- what later transactions put has its sum: the base, or 0 where the mounted image had every sum
  pub right : ℕ
  -- the last settled number, and that up to which what was written is flushed
  pub settled : ℕ
  pub firm : ℕ
  -- what each block is used for, and the sum of what was put there last
  pub uses : ℕ → Use
  pub sums : ℕ → ℕ

abbrev pub last : BlockUses → ℕ
last s = s.base + length s.txns

-- ---- what is live after a number, by the uses

abbrev pub live_by_use : ℕ → Use → ℕ → Option ℕ
live_by_use k (Live since) sum = if nat_le since k then Some sum else None
live_by_use k (Freed since until) sum =
    if nat_le since k then (if nat_le until k then None else Some sum) else None
live_by_use k _ sum = None

-- the transaction that wrote what is there, and the one that freed it
abbrev pub since_of : Use → Option ℕ
since_of (Live since) = Some since
since_of (Freed since until) = Some since
since_of _ = None

abbrev pub until_of : Use → Option ℕ
until_of (Freed since until) = Some until
until_of _ = None

-- The block is the number's own: it has drawn it, and may have staged something there.
abbrev pub IsDrawnFor : ℕ → Use → Type 0
IsDrawnFor who (Drawn w) = w ≡ who
IsDrawnFor who (Staged w) = w ≡ who
IsDrawnFor who _ = ⊥

-- What is there was put there by a transaction after the number, or will be.
abbrev pub IsOurs : ℕ → Use → Type 0
IsOurs number (Staged who) = Unit {0}
IsOurs number (Live since) = number < since
IsOurs number (Freed since until) = number < since
IsOurs number _ = ⊥

-- The uses show what is live after each number that an image may keep.
pub record AreUses (s : BlockUses) : Type 0 where
  pub numbered : AreNumbered s.base s.txns
  pub right : s.right ≤ s.base
  pub marked : s.base ≤ s.settled
  pub firm : s.settled ≤ s.firm
  pub most : s.firm ≤ last s
  pub system : (b : ℕ) → b < s.first_data → s.uses b ≡ System
  pub live_is : (k b : ℕ) → s.settled ≤ k → k ≤ last s →
      live_after s.first s.txns k b ≡ live_by_use k (s.uses b) (s.sums b)
  pub since : (b j : ℕ) → since_of (s.uses b) ≡ Some j → j ≤ last s
  pub written : (b j : ℕ) → since_of (s.uses b) ≡ Some j → s.base < j → IsPut s.txns j b
  pub put : (b j n : ℕ) → since_of (s.uses b) ≡ Some j → IsPut s.txns n b → s.base < j
  pub until : (b n : ℕ) → until_of (s.uses b) ≡ Some n → n ≤ last s

-- ---- what the cells have of it

-- What a use wants of its block: nothing; that the last write was good; and that it is flushed too,
-- once the number is.
pub data Want : Type 0 where
  Nothing : Want
  Good : Want
  Firm : (since : ℕ) → Want

abbrev pub wanted : Use → Want
wanted (Staged who) = Good
wanted (Live since) = Firm since
wanted (Freed since until) = Firm since
wanted Layer = Firm 0
wanted Laid = Good
wanted Coming = Firm 0
wanted Pinned = Firm 0
wanted _ = Nothing

-- The block lies on the disk, and its last write was good.
pub record IsGood (size b : ℕ) (cell : Cell) : Type 0 where
  pub within : b < size
  pub good : cell.failed ≡ false

abbrev pub HasWanted : (size b firm : ℕ) → Want → Cell → Type 0
HasWanted size b firm Nothing cell = Unit {0}
HasWanted size b firm Good cell = IsGood size b cell
HasWanted size b firm (Firm since) cell =
    IsGood size b cell × (since ≤ firm → cell.loose ≡ false)

-- what the blocks of an image hold
abbrev pub image_block : List (List ℕ) → ℕ → List ℕ
image_block image b = slice_index_or image b []

-- what was put in a block last
abbrev pub bytes_now : DiskRecord → ℕ → List ℕ
bytes_now r b = (cell_now r b).bytes

-- The cells are as the uses want them, and what the transactions put there has the sum that they state.
pub record CellsHold (sum : List ℕ → ℕ) (s : BlockUses) (r : DiskRecord) : Type 0 where
  pub each : (b : ℕ) →
      HasWanted (length r.entry) b s.firm (wanted (s.uses b)) (cell_now r b)
  pub stated : (b : ℕ) → IsOurs s.right (s.uses b) → sum (bytes_now r b) ≡ s.sums b

-- ---- what it means

-- What stands for the trees reads no other blocks than those live after the number. `Stands` says it of a
-- number and of what the blocks hold.
abbrev pub ReadsLive : (ℕ → (ℕ → List ℕ) → Type 0) → BlockUses → Type 0
ReadsLive Stands s = (k : ℕ) → s.settled ≤ k → k ≤ last s → (f g : ℕ → List ℕ) →
    ((b x : ℕ) → live_after s.first s.txns k b ≡ Some x → f b ≡ g b) → Stands k f → Stands k g
