-- What is found in an image, and what that says of the image.
use Rattle.std.specs.Prelude.{◌≡◌, ℕ, Result, Ok, Err, List, ◌++◌, length}
use Rattle.fx_item.specs.Item.{items_of}
use Rattle.fx_super.specs.Super.{fields_of}
use Rattle.fx_journal.specs.Stream.{MayBeStream}
use Rattle.fx_journal.specs.declared.stream.StreamBlock.{StreamBlock}
use Rattle.fx_log.specs.Chosen.{start_of}
use Rattle.fx_logcuts.specs.Cuts.{pieces_in}
use Rattle.fx_record.specs.Txns.{IsTxns, txns_of}
use Rattle.fx_layfile.specs.Reading.{PlainLayer}
use Rattle.fx_sound.specs.Image.{PlainImage}
use Rattle.fx_sound.specs.Parts.{IsSoundImage}
use Rattle.fx_sound.specs.Faults.{IsFirstFault}
use Rattle.fx_sound.specs.declared.image.ImageFault.TheVariants as judged
use Rattle.fx_found.specs.Image.{ImageParts, HasImageParts, StandInLevels, levels_of_parts, blocks_of_layers, numbers_of_parts, drops_in_parts, judged_image}
use Rattle.fx_found.specs.Faults.{IsFindFault, FailsFirst}
use Rattle.fx_found.specs.Reading.{IsOfDisk}
use Rattle.fx_found.specs.declared.fault.FindFault.{FindFault}
use Rattle.fx_found.specs.declared.fault.FindFault.TheVariants as faults
use Rattle.fx_found.specs.declared.finding.Found.{Found}
use Rattle.fx_found.specs.declared.journal.Journal.{Journal}
use Rattle.fx_found.specs.declared.slots.Slot.{Slot}

-- What is found is these parts of an image of a disk of so many blocks, and it is sound.
pub record HasParts (size : ℕ) (p : ImageParts) (found : Found) : Type 0 where
  pub slot : found.slot ≡ p.slot
  pub super : fields_of found.sup ≡ p.super
  pub levels : found.set.levels ≡ levels_of_parts p
  pub layers : found.layers ≡ blocks_of_layers (p.objects ++ p.allocs)
  pub closed : found.closed ≡ length p.stream
  pub next : found.next ≡ p.next
  pub drops : found.drops ≡ drops_in_parts p
  pub numbers : found.numbers ≡ numbers_of_parts p
  pub items : StandInLevels (levels_of_parts p) (items_of found.items)
  pub sound : IsSoundImage (judged_image size p (items_of found.items))

-- What is found is the image: its parts, and that it is sound.
pub record IsFound (size : ℕ) (image : List (List ℕ)) (found : Found) : Type 0 where
  pub parts : ImageParts
  pub image_is : HasImageParts size image parts
  pub has : HasParts size parts found

-- The answer is what the image holds, or the first fault that holds of it; unless the disk failed, or
-- memory was short.
abbrev pub FindsImage : (size : ℕ) → List (List ℕ) → Result Found FindFault → Type 0
FindsImage size image (Ok found) = IsFound size image found
FindsImage size image (Err fault) = IsFindFault size image fault

-- What is found on a disk of so many blocks, whether it tells its bytes or not: the parts of an image
-- with a superblock by the rules, blocks that may be its stream, and transactions that their records
-- leave; and it is sound.
pub record IsSoundFound (size : ℕ) (found : Found) : Type 0 where
  pub parts : ImageParts
  pub of_disk : IsOfDisk size parts.super
  pub stream : MayBeStream parts.super.ring parts.super.generation (start_of parts.super)
      parts.stream parts.next
  pub txns : IsTxns parts.super.base (pieces_in parts.stream) parts.txns
  pub has : HasParts size parts found

-- ---- how it is judged

-- what was read, as parts; of the stream the program has the count of its blocks alone
abbrev pub parts_read : Slot → (objects allocs : List PlainLayer) → List StreamBlock → Journal
    → (kept : ℕ) → ImageParts
parts_read slot objects allocs stream journal kept = record {
  slot = slot.which;
  super = fields_of slot.sup;
  objects = objects;
  allocs = allocs;
  stream = stream;
  next = journal.next;
  txns = txns_of journal.txns;
  kept = kept;
}

-- The image is sound, or this is its first fault; unless memory was short.
abbrev pub IsCheckOf : PlainImage → Result (Unit {0}) FindFault → Type 0
IsCheckOf image (Ok u) = IsSoundImage image
IsCheckOf image (Err (faults.BadTree store id)) = IsFirstFault image (judged.BadTree store id)
IsCheckOf image (Err (faults.Unsound block)) = IsFirstFault image (judged.Unsound block)
IsCheckOf image (Err (faults.Cramped free)) = IsFirstFault image (judged.Cramped free)
IsCheckOf image (Err faults.OutOfMemory) = Unit {0}
IsCheckOf image (Err fault) = ⊥

abbrev pub Judges : (size : ℕ) → ImageParts → Result Found FindFault → Type 0
Judges size p (Ok found) = HasParts size p found
Judges size p (Err (faults.BadTree store id)) = FailsFirst size p (judged.BadTree store id)
Judges size p (Err (faults.Unsound block)) = FailsFirst size p (judged.Unsound block)
Judges size p (Err (faults.Cramped free)) = FailsFirst size p (judged.Cramped free)
Judges size p (Err faults.OutOfMemory) = Unit {0}
Judges size p (Err fault) = ⊥
