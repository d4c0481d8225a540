-- Which fault of an image is told: the first that holds of it.
use Rattle.std.specs.Prelude.{◌≡◌, ◌≢◌, ◌⊎◌, ℕ, ◌<◌, ◌≤◌, List}
use Rattle.fx_item.specs.Item.{PlainItem}
use Rattle.fx_super.specs.Super.{Fields, IsVersion}
use Rattle.fx_super.specs.Chosen.{IsChosen, HasNoChosen, block_of}
use Rattle.fx_super.specs.declared.choice.Which.{Which}
use Rattle.fx_super.specs.declared.choice.Which.TheVariants.{A, B}
use Rattle.fx_jblock.specs.declared.Start.{Start}
use Rattle.fx_journal.specs.Stream.{IsStream}
use Rattle.fx_journal.specs.declared.stream.StreamBlock.{StreamBlock}
use Rattle.fx_log.specs.Chosen.{start_of}
use Rattle.fx_logcuts.specs.Cuts.{pieces_in}
use Rattle.fx_record.specs.Txns.{IsBadRecord}
use Rattle.fx_layfile.specs.Layer.{blocks_in}
use Rattle.fx_layfile.specs.Reading.{PlainLayer}
use Rattle.fx_sound.specs.Faults.{IsFirstFault}
use Rattle.fx_sound.specs.declared.image.ImageFault.{ImageFault}
use Rattle.fx_sound.specs.declared.image.ImageFault.TheVariants as judged
use Rattle.fx_found.specs.Layers.{HasLayers, HasBadLayer}
use Rattle.fx_found.specs.Image.{ImageParts, NamesDisk, HasImageParts, StandInLevels, levels_of_parts, judged_image}
use Rattle.fx_found.specs.declared.fault.FindFault.{FindFault}
use Rattle.fx_found.specs.declared.fault.FindFault.TheVariants.{NoSuper, Version, DiskSize, BadLayer, BadRecord, BadTree, Unsound, Cramped, Device, OutOfMemory}

abbrev pub HasNoOtherVersion : List ℕ → Type 0
HasNoOtherVersion block = (version : ℕ) → IsVersion block version → ⊥

-- neither of the two blocks is a superblock of any version
abbrev pub HasNoSuper : List (List ℕ) → Type 0
HasNoSuper image = HasNoChosen image × HasNoOtherVersion (block_of image A)
    × HasNoOtherVersion (block_of image B)

-- neither is a superblock, and this is the other version of the first that has one
abbrev pub HasOtherVersion : List (List ℕ) → ℕ → Type 0
HasOtherVersion image version = HasNoChosen image × (IsVersion (block_of image A) version
    ⊎ (HasNoOtherVersion (block_of image A) × IsVersion (block_of image B) version))

-- The chosen superblock names a bad layer.
pub record LosesLayer (size : ℕ) (image : List (List ℕ)) (bad : ℕ) : Type 0 where
  pub slot : Which
  pub f : Fields
  pub super : NamesDisk size image slot f
  pub layer : HasBadLayer (blocks_in image) size f bad

-- Its layers are whole, and the record of its stream at this place is bad.
pub record LosesRecord (size : ℕ) (image : List (List ℕ)) (place : ℕ) : Type 0 where
  pub slot : Which
  pub f : Fields
  pub super : NamesDisk size image slot f
  pub objects : List PlainLayer
  pub allocs : List PlainLayer
  pub layers : HasLayers (blocks_in image) size f objects allocs
  pub stream : List StreamBlock
  pub next : Start
  pub stream_is : IsStream image f.ring f.generation (start_of f) stream next
  pub wrong : IsBadRecord f.base (pieces_in stream) place

-- Some items stand in these parts, and this is what is wrong first with them.
pub record FailsFirst (size : ℕ) (p : ImageParts) (fault : ImageFault) : Type 0 where
  pub items : List PlainItem
  pub items_are : StandInLevels (levels_of_parts p) items
  pub first : IsFirstFault (judged_image size p items) fault

-- All parts of the image are there, and this is what is wrong first with the items that stand in it.
pub record IsAmissFirst (size : ℕ) (image : List (List ℕ)) (fault : ImageFault) : Type 0 where
  pub parts : ImageParts
  pub image_is : HasImageParts size image parts
  pub fails : FailsFirst size parts fault

-- The fault is the first that holds of the image of a disk of so many blocks. That the disk failed, or
-- memory was short, says nothing of it.
abbrev pub IsFindFault : (size : ℕ) → List (List ℕ) → FindFault → Type 0
IsFindFault size image NoSuper = (size < 2) ⊎ HasNoSuper image
IsFindFault size image (Version version) = (2 ≤ size) × HasOtherVersion image version
IsFindFault size image (DiskSize blocks) = (2 ≤ size) × (blocks ≡ size)
    × ((slot : Which) × (f : Fields) × IsChosen image slot f × (f.blocks ≢ size))
IsFindFault size image (BadLayer block) = LosesLayer size image block
IsFindFault size image (BadRecord place) = LosesRecord size image place
IsFindFault size image (BadTree store id) = IsAmissFirst size image (judged.BadTree store id)
IsFindFault size image (Unsound block) = IsAmissFirst size image (judged.Unsound block)
IsFindFault size image (Cramped free) = IsAmissFirst size image (judged.Cramped free)
IsFindFault size image Device = Unit {0}
IsFindFault size image OutOfMemory = Unit {0}
