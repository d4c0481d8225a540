-- What a mount finds on a disk: a superblock that it can go on from, or why not.
use Rattle.std.specs.Prelude.{◌≡◌, ◌≢◌, ◌⊎◌, ℕ, ◌+◌, ◌<◌, ◌≤◌, Result, Ok, Err, List, [], ◌∷◌, length, slice_index_or}
use Rattle.std.specs.Option.{IfSome}
use Rattle.fx_base.specs.Causes.{Rose}
use Rattle.fx_disk.specs.Record.{DiskRecord}
use Rattle.fx_disk.specs.Seen.{DiskSeen, HasFailedLast, HasOnlyRead}
use Rattle.fx_super.specs.declared.superblock.Super.{Super}
use Rattle.fx_super.specs.declared.decode.SuperFault.{SuperFault}
use Rattle.fx_super.specs.Super.{Fields, IsVersion, Decoded, KeepsRules}
use Rattle.fx_super.specs.Chosen.{HasNoChosen}
use Rattle.fx_plain.specs.Tree.{Tree}
use Rattle.fx_namespace.specs.Wrong.{IsLeastWrong}
use Rattle.fx_jblock.specs.declared.Start.{Start}
use Rattle.fx_journal.specs.declared.stream.StreamBlock.{StreamBlock}
use Rattle.fx_journal.specs.Stream.{IsStream}
use Rattle.fx_record.specs.Txns.{IsTxns, IsBadRecord}
use Rattle.fx_log.specs.Chosen.{ChoosesSuper, start_of, layers_of}
use Rattle.fx_image.specs.Standing.{Transactions, IsImage, HasSessionRoom, items_after, kept, stream_pieces}
use Rattle.fx_store.specs.Mounted.{State}
use Rattle.fx_store.specs.declared.opening.BeginFault.{BeginFault}
use Rattle.fx_store.specs.declared.opening.BeginFault.TheVariants as begin
use Rattle.fx_mount.specs.declared.mounting.Unmounted.{Unmounted}
use Rattle.fx_mount.specs.declared.fault.MountFault.{MountFault}
use Rattle.fx_mount.specs.declared.fault.MountFault.TheVariants.{NoSuper, Version, DiskSize, BadLayer, BadRecord, BadTree, Cramped, Device, OutOfMemory}

-- the two places of superblocks
abbrev pub first_slot : List (List ℕ) → List ℕ
first_slot image = slice_index_or image 0 []

abbrev pub second_slot : List (List ℕ) → List ℕ
second_slot image = slice_index_or image 1 []

abbrev pub HasNoVersion : List ℕ → Type 0
HasNoVersion block = (version : ℕ) → IsVersion block version → ⊥

-- the other version that is told: that of the first of the two blocks that has one
abbrev pub TellsVersion : List (List ℕ) → ℕ → Type 0
TellsVersion image version =
    IsVersion (first_slot image) version
    ⊎ (HasNoVersion (first_slot image) × IsVersion (second_slot image) version)

-- In an image of a disk of so many blocks this superblock is chosen, and it names no layer.
pub record HasSuper (size : ℕ) (image : List (List ℕ)) (f : Fields) : Type 0 where
  pub slots : 2 ≤ size
  pub chosen : ChoosesSuper f image
  pub blocks : f.blocks ≡ size
  pub layers : layers_of f ≡ []

-- A session can go on from the image: it has this superblock and these transactions, stands for
-- this tree, and its numbers leave room.
pub record IsMountable (size : ℕ) (image : List (List ℕ)) (f : Fields) (txns : Transactions)
    (tree : Tree) : Type 0 where
  pub slots : 2 ≤ size
  pub image_is : IsImage size image f txns tree
  pub room : HasSessionRoom f txns

-- The superblock's stream is there.
abbrev pub HasStream : List (List ℕ) → Fields → List StreamBlock → Type 0
HasStream image f blocks =
    (next : Start) × IsStream image f.ring f.generation (start_of f) blocks next

-- The chosen superblock's ring has so many blocks, and of it so many are live: those of the stream,
-- and the next.
abbrev pub HasRing : List (List ℕ) → ℕ → ℕ → Type 0
HasRing image ring live = (f : Fields) (blocks : List StreamBlock) → ChoosesSuper f image
    → HasStream image f blocks → (ring ≡ f.ring) × (live ≡ length blocks + 1)

-- why a disk was not mounted, where no store was begun on it
abbrev pub fault_of : BeginFault → MountFault
fault_of begin.Device = Device
fault_of begin.OutOfMemory = OutOfMemory

-- The disk was only read, and did not fail.
pub record HasReadWell (before after : DiskSeen) : Type 0 where
  pub only : HasOnlyRead before after
  pub faults : after.faults ≡ before.faults

-- A session can go on from the superblock on a disk of so many blocks.
pub record CanGoOn (size : ℕ) (f : Fields) : Type 0 where
  pub slots : 2 ≤ size
  pub rules : KeepsRules f
  pub blocks : f.blocks ≡ size
  pub layers : layers_of f ≡ []

-- What was read of a place of superblocks is what stands there, where the disk tells.
abbrev pub TellsSlot : DiskSeen → ℕ → Result Super SuperFault → Type 0
TellsSlot seen at slot = (block : List ℕ) × Decoded block slot
    × IfSome seen.told (λ r. block ≡ slice_index_or r.contents at [])

-- What was read of the two places of superblocks is what stands there.
pub record AreSlots (image : List (List ℕ)) (first second : Result Super SuperFault) : Type 0 where
  pub first_is : Decoded (first_slot image) first
  pub second_is : Decoded (second_slot image) second

-- The image of the record is such an image, which stands for this tree, with these transactions, of
-- which the last has this number.
abbrev pub IsMountedAt : (size base : ℕ) → Transactions → Tree → DiskRecord → Type 0
IsMountedAt size base txns opening r =
    (f : Fields) × IsMountable size r.contents f txns opening × (kept f txns ≡ base)

-- The fault is the first that holds of the image.
abbrev pub IsRefused : ℕ → List (List ℕ) → MountFault → Type 0
IsRefused size image NoSuper = (size < 2)
    ⊎ (HasNoChosen image × HasNoVersion (first_slot image) × HasNoVersion (second_slot image))
IsRefused size image (Version version) = (2 ≤ size) × HasNoChosen image × TellsVersion image version
IsRefused size image (DiskSize blocks) =
    (2 ≤ size) × (blocks ≡ size) × ((f : Fields) × ChoosesSuper f image × (f.blocks ≢ size))
IsRefused size image (BadLayer at) = (2 ≤ size)
    × ((f : Fields) × ChoosesSuper f image × (f.blocks ≡ size)
    × ((rest : List ℕ) × (layers_of f ≡ at ∷ rest)))
IsRefused size image (BadRecord place) = (f : Fields) × (blocks : List StreamBlock)
    × HasSuper size image f × HasStream image f blocks
    × IsBadRecord f.base (stream_pieces blocks) place
IsRefused size image (BadTree store id) =
    (f : Fields) × (blocks : List StreamBlock) × (txns : Transactions) × HasSuper size image f
    × HasStream image f blocks × IsTxns f.base (stream_pieces blocks) txns
    × IsLeastWrong (items_after txns) (record { store = store; id = id })
IsRefused size image (Cramped free) = (2 ≤ size) × (free ≡ 0)
    × ((f : Fields) × (txns : Transactions) × (tree : Tree) × IsImage size image f txns tree
    × (HasSessionRoom f txns → ⊥))
IsRefused size image Device = ⊥
IsRefused size image OutOfMemory = ⊥

-- Why an image was not read: the fault is the first that holds of it, where the disk tells.
abbrev pub IsTold : DiskSeen → MountFault → Type 0
IsTold seen fault = IfSome seen.told (λ r. IsRefused seen.size r.contents fault)

-- Why a disk was not mounted. It failed: a read did, or the call that was last asked for. There was
-- no memory, or its image is no image to mount: then it was only read, and did not fail.
abbrev pub IsMountCause : DiskSeen → DiskSeen → MountFault → Type 0
IsMountCause before after Device =
    Rose before.faults after.faults × (HasOnlyRead before after ⊎ HasFailedLast after)
IsMountCause before after OutOfMemory = HasReadWell before after
IsMountCause before after fault = HasReadWell before after × IsTold before fault

-- ---- what a mount answers

-- A store that begins: nothing was committed yet, no block waits, and its ring is the superblock's,
-- of which the stream's blocks are live, and the next one. Two calls of the disk were made, with no
-- fault.
pub record IsNewStore {Device : Type 0} (before after : DiskSeen) (store : State Device)
    : Type 0 where
  pub from : store.from ≡ before.calls
  pub history : store.history ≡ []
  pub waiting : store.waiting ≡ 0
  pub ring : IfSome before.told (λ r. HasRing r.contents store.ring store.live)
  pub calls : after.calls ≡ before.calls + 2
  pub faults : after.faults ≡ before.faults

-- An image with this superblock and these transactions is mounted, unless the disk fails or memory
-- runs out.
abbrev pub TakesImage : {Device : Type 0} → Fields → Transactions
    → Result (State Device) (Unmounted Device) → Type 0
TakesImage f txns (Ok store) = (store.base ≡ kept f txns) × (store.txns ≡ txns)
TakesImage f txns (Err un) = (un.fault ≡ Device) ⊎ (un.fault ≡ OutOfMemory)

-- the disk that a mount leaves
abbrev pub disk_after : {Device : Type 0} → Result (State Device) (Unmounted Device) → Device
disk_after (Ok store) = store.disk
disk_after (Err un) = un.disk
