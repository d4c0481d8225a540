-- What a format leaves.
use Rattle.std.specs.Prelude.{◌≡◌, ℕ, ◌+◌, ◌*◌, ◌<◌, ◌≤◌, List, [], slice_index_or, false}
use Rattle.fx_disk.specs.Longer.{BothTell}
use Rattle.fx_disk.specs.Record.{DiskRecord, LeftNow}
use Rattle.fx_disk.specs.Seen.{DiskSeen, HasCalled, HasFailedLast}
use Rattle.fx_disk.specs.Settled.{IsSettled}
use Rattle.fx_super.specs.Super.{IsSuper, first_fields}
use Rattle.fx_plain.specs.Tree.{root}
use Rattle.fx_base.specs.Blocks.{zero_bytes}
use Rattle.fx_mount.specs.Found.{IsMountable}
use Rattle.fx_mount.specs.declared.fault.MkfsFault.{MkfsFault}
use Rattle.fx_mount.specs.declared.fault.MkfsFault.TheVariants.{Size, Device}

-- So many blocks have room for a ring of this length, and are not too many.
pub record HasRoomFor (ring blocks : ℕ) : Type 0 where
  pub least : 4 * ring + 64 ≤ blocks
  pub most : blocks ≤ 65536

-- This block stands in block 0, zeros in block 1 and in the ring, and the rest is as it was. If
-- nothing was loose before, nothing is.
pub record IsLaidOut (ring : ℕ) (first : List ℕ) (before after : DiskRecord) : Type 0 where
  pub first_is : slice_index_or after.contents 0 [] ≡ first
  pub zeros : (b : ℕ) → 1 ≤ b → b < ring + 2 → slice_index_or after.contents b [] ≡ zero_bytes
  pub rest : (b : ℕ) → ring + 2 ≤ b
      → slice_index_or after.contents b [] ≡ slice_index_or before.contents b []
  pub settled : IsSettled before → IsSettled after

-- The disk of so many blocks was formatted with a ring of this length, and has the first
-- superblock.
abbrev pub IsFormatted : ℕ → ℕ → DiskRecord → DiskRecord → Type 0
IsFormatted size ring before after =
    (first : List ℕ) × IsSuper first (first_fields size ring) × IsLaidOut ring first before after

-- If nothing was loose before, every image left has the first superblock and no transactions,
-- stands for the root alone, and can be mounted.
abbrev pub LeavesRoot : ℕ → ℕ → DiskRecord → DiskRecord → Type 0
LeavesRoot size ring before after = IsSettled before → (image : List (List ℕ)) → LeftNow after image
    → IsMountable size image (first_fields size ring) [] root

-- The disk has room, and each write and flush of the format was made, and was good.
pub record HasFormatted (ring : ℕ) (before after : DiskSeen) : Type 0 where
  pub room : HasRoomFor ring before.size
  pub calls : after.calls ≡ before.calls + ring + 4
  pub faults : after.faults ≡ before.faults

-- The disk has room for the ring and was formatted with it, with no fault. If nothing of it was
-- loose, every image left now is one to mount, and stands for the root alone.
pub record IsNowFormatted (ring : ℕ) (before after : DiskSeen) : Type 0 where
  pub made : HasFormatted ring before after
  pub formats : BothTell (IsFormatted before.size ring) before.told after.told
  pub root : BothTell (LeavesRoot before.size ring) before.told after.told

-- Why a disk was not formatted: its size, by which it was not touched, or the call that was last
-- asked for failed.
abbrev pub IsMkfsCause : ℕ → DiskSeen → DiskSeen → MkfsFault → Type 0
IsMkfsCause ring before after (Size blocks) =
    (blocks ≡ before.size) × (HasRoomFor ring before.size → ⊥) × (after ≡ before)
IsMkfsCause ring before after Device =
    HasRoomFor ring before.size × HasCalled before after false × HasFailedLast after
