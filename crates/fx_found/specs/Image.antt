-- What an image with contents holds, and the items that stand in it.
use Rattle.std.specs.Prelude.{◌≡◌, ℕ, ◌+◌, ◌-◌, ◌≤◌, ◌^◌, List, [], ◌++◌, length, map, take, reverse, min, nat_lt, Bool}
use Rattle.std.specs.List.{flat_map}
use Rattle.fx_item.specs.Item.{PlainItem}
use Rattle.fx_item.specs.Overlay.{Point, live_in}
use Rattle.fx_item.specs.Look.{next_id_after, next_store_after}
use Rattle.fx_sum.specs.Checksum.{fletch}
use Rattle.fx_super.specs.Super.{Fields}
use Rattle.fx_super.specs.Chosen.{IsChosen}
use Rattle.fx_super.specs.declared.choice.Which.{Which}
use Rattle.fx_super.specs.declared.superblock.TheConstants.{RING_AT}
use Rattle.fx_jblock.specs.declared.Start.{Start}
use Rattle.fx_journal.specs.Stream.{IsStream}
use Rattle.fx_journal.specs.declared.stream.StreamBlock.{StreamBlock}
use Rattle.fx_log.specs.Chosen.{start_of}
use Rattle.fx_logcuts.specs.Cuts.{pieces_in}
use Rattle.fx_record.specs.Txns.{IsTxns}
use Rattle.fx_kept.specs.Kept.{IsKeptIn}
use Rattle.fx_layfile.specs.Layer.{blocks_in}
use Rattle.fx_layfile.specs.Reading.{PlainLayer}
use Rattle.fx_layerset.specs.Levels.{PlainLevel, SetLevels, batch_level, said_in_set}
use Rattle.fx_sound.specs.Image.{PlainImage, AreStanding, points_in}
use Rattle.fx_sound.specs.declared.image.ImageNumbers.{ImageNumbers}
use Rattle.fx_found.specs.Layers.{HasLayers}

-- The parts of an image with contents.
pub record ImageParts : Type 0 where
  -- the chosen superblock, and which of the two blocks it is
  pub slot : Which
  pub super : Fields
  -- the layers that it names, of each tree the newest first
  pub objects : List PlainLayer
  pub allocs : List PlainLayer
  -- the stream from its start, and the place after that
  pub stream : List StreamBlock
  pub next : Start
  -- the transactions that the stream's records leave, and the number up to which they are kept
  pub txns : List (ℕ × List PlainItem)
  pub kept : ℕ

-- The superblock is the chosen one, and names the size of the disk.
pub record NamesDisk (size : ℕ) (image : List (List ℕ)) (slot : Which) (f : Fields) : Type 0 where
  pub slots : 2 ≤ size
  pub chosen : IsChosen image slot f
  pub blocks : f.blocks ≡ size

-- the first block that can hold data
abbrev pub data_begin : Fields → ℕ
data_begin f = f.ring + RING_AT

-- The image of a disk of so many blocks has these parts.
pub record HasImageParts (size : ℕ) (image : List (List ℕ)) (p : ImageParts) : Type 0 where
  pub super : NamesDisk size image p.slot p.super
  pub layers : HasLayers (blocks_in image) size p.super p.objects p.allocs
  pub stream : IsStream image p.super.ring p.super.generation (start_of p.super) p.stream p.next
  pub txns : IsTxns p.super.base (pieces_in p.stream) p.txns
  pub kept : IsKeptIn (fletch 0) (data_begin p.super) image p.super.base p.txns p.kept

-- ---- what the parts say together

-- of these transactions, which follow the one numbered `base`, those up to a number
abbrev pub up_to_number : (base kept : ℕ) → List (ℕ × List PlainItem) → List (ℕ × List PlainItem)
up_to_number base kept txns = take (kept - base) txns

abbrev pub kept_txns : ImageParts → List (ℕ × List PlainItem)
kept_txns p = up_to_number p.super.base p.kept p.txns

abbrev pub layer_level : PlainLayer → PlainLevel
layer_level l = record { items = l.items; lacks = [] }

-- layers of which the newest stands first, as levels of which the oldest does
abbrev pub layer_levels : List PlainLayer → List PlainLevel
layer_levels layers = map layer_level (reverse layers)

abbrev pub batch_levels : List (ℕ × List PlainItem) → List PlainLevel
batch_levels txns = map (λ t. batch_level t.1) txns

-- the levels of an image: a batch for each transaction that is kept, over the layers of both trees
abbrev pub levels_of_parts : ImageParts → SetLevels
levels_of_parts p = record {
  batches = batch_levels (kept_txns p);
  objects = layer_levels p.objects;
  allocs = layer_levels p.allocs;
}

-- The items stand, and they say what the levels say together, tombstones dropped.
pub record StandInLevels (levels : SetLevels) (items : List PlainItem) : Type 0 where
  pub standing : AreStanding items
  pub said : (p : Point) → points_in items p ≡ live_in (said_in_set levels) p

-- ---- what is judged

-- the blocks of layers, each once
abbrev pub blocks_of_layers : List PlainLayer → List ℕ
blocks_of_layers layers = flat_map (λ l. l.blocks) layers

-- all lists of items of layers and of transactions
abbrev pub lists_of_layers : List PlainLayer → List (List PlainItem)
lists_of_layers layers = map (λ l. l.items) layers

abbrev pub lists_of_txns : List (ℕ × List PlainItem) → List (List PlainItem)
lists_of_txns txns = map (λ t. t.1) txns

abbrev pub lists_in_parts : ImageParts → List (List PlainItem)
lists_in_parts p =
    lists_of_layers p.objects ++ lists_of_layers p.allocs ++ lists_of_txns (kept_txns p)

-- The numbers that have bounds, over lists of items. The next id and the next store are above all that
-- the items use, and stand still at their types' ends, which lie past their bounds.
abbrev pub numbers_over : Fields → (kept : ℕ) → List (List PlainItem) → ImageNumbers
numbers_over f kept lists = record {
  generation = f.generation;
  sequence = f.sequence;
  base = f.base;
  kept = kept;
  next_id = min (next_id_after f.next_id lists) (2 ^ 64 - 1);
  next_store = min (next_store_after f.next_store lists) (2 ^ 32 - 1);
}

abbrev pub numbers_of_parts : ImageParts → ImageNumbers
numbers_of_parts p = numbers_over p.super p.kept (lists_in_parts p)

-- whether transactions lie beyond the number that is kept
abbrev pub drops_in_parts : ImageParts → Bool
drops_in_parts p = nat_lt p.kept (p.super.base + length p.txns)

-- the image as it is judged
abbrev pub judged_image : (size : ℕ) → ImageParts → List PlainItem → PlainImage
judged_image size p items = record {
  disk = size;
  ring = p.super.ring;
  layers = blocks_of_layers (p.objects ++ p.allocs);
  items = items;
  stream = length p.stream;
  drops = drops_in_parts p;
  numbers = numbers_of_parts p;
}
