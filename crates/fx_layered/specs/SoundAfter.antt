-- That what a mounted state has after each number is sound with each superblock of its log.
use Rattle.std.specs.Prelude.{◌≡◌, ℕ, ◌+◌, ◌-◌, ◌≤◌, ◌<◌, Bool, false, List, length, drop}
use Rattle.fx_disk.specs.Record.{DiskRecord, LeftNow}
use Rattle.fx_item.specs.Item.{PlainItem}
use Rattle.fx_item.specs.Overlay.{Point}
use Rattle.fx_super.specs.Super.{Fields}
use Rattle.fx_jblock.specs.declared.Start.{Start}
use Rattle.fx_journal.specs.declared.stream.StreamBlock.{StreamBlock}
use Rattle.fx_journal.specs.Stream.{IsStream}
use Rattle.fx_record.specs.Txns.{IsTxns}
use Rattle.fx_log.specs.Chosen.{ChoosesSuper, start_of}
use Rattle.fx_logcuts.specs.Cuts.{pieces_in}
use Rattle.fx_supers.specs.Supers.{SuperCut}
use Rattle.fx_supers.specs.SessionLog.{SessionLog}
use Rattle.fx_uses.specs.Uses.{last}
use Rattle.fx_kept.specs.Kept.{IsKeptIn}
use Rattle.fx_cuts.specs.Joined.{JoinedState, NumberedItems, points_at}
use Rattle.fx_shown.specs.LogTxns.{IsSuperIn}
use Rattle.fx_sound.specs.Image.{PlainImage, AreStanding, points_in}
use Rattle.fx_sound.specs.Parts.{IsSoundImage}
use Rattle.fx_layered.specs.Layers.{LayersRead, all_layers, places_in}
use Rattle.fx_layered.specs.Gathered.{numbers_up_to}
use Rattle.fx_layered.specs.NamedCuts.{HaveNamedLayers}

-- an image as plain data: with this superblock, its layers, what stands, and so many blocks in its stream
abbrev pub gathered_image : Fields → LayersRead → List PlainItem → NumberedItems → (k stream : ℕ) →
    (drops : Bool) → PlainImage
gathered_image f said items txns k stream drops = record {
  disk = f.blocks;
  ring = f.ring;
  layers = places_in (all_layers said);
  items = items;
  stream = stream;
  drops = drops;
  numbers = numbers_up_to f said txns k;
}

-- Items stand that say together what stands after the number; and an image of them with this superblock is
-- sound, if it drops no transactions.
pub record IsSoundAfter (s : JoinedState) (cut : SuperCut) (said : LayersRead) (k : ℕ) : Type 0
  where
    pub items : List PlainItem
    pub standing : AreStanding items
    pub items_are : (p : Point) → points_in items p ≡ points_at s k p
    pub sound : IsSoundImage (gathered_image cut.super said items
        (drop (cut.super.base - s.blocks.base) s.txns) k 0 false)

-- That is so after each number that an image with one of the superblocks may keep.
abbrev pub AreSoundAfter : (s : JoinedState) (log : SessionLog) (r : DiskRecord) →
    HaveNamedLayers s log r → Type 0
AreSoundAfter s log r have = (cut : SuperCut) (one : IsSuperIn log.supers cut) → (k : ℕ) →
    s.blocks.settled ≤ k → k ≤ last s.blocks → cut.super.base ≤ k →
    IsSoundAfter s cut (have cut one).said k

-- Each image left now whose stream has transactions beyond those that it keeps has a place in the ring for
-- the block that drops them.
abbrev pub LeaveDropRoom : (sum : List ℕ → ℕ) → (first_data : ℕ) → DiskRecord → Type 0
LeaveDropRoom sum first_data r = (image : List (List ℕ)) → LeftNow r image → (f : Fields) →
    ChoosesSuper f image → (stream : List StreamBlock) (next : Start) →
    IsStream image f.ring f.generation (start_of f) stream next → (txns : NumberedItems) →
    IsTxns f.base (pieces_in stream) txns → (k : ℕ) →
    IsKeptIn sum first_data image f.base txns k → k < f.base + length txns →
    length stream < f.ring
