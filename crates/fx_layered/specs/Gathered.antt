-- What a mount gathers of an image that shows transactions and keeps those up to a number, and when the
-- image is sound there.
use Rattle.std.specs.Prelude.{◌≡◌, ℕ, ◌+◌, ◌-◌, nat_lt, List, ◌++◌, length, map, take}
use Rattle.fx_item.specs.Item.{PlainItem}
use Rattle.fx_item.specs.Look.{next_id_after, next_store_after}
use Rattle.fx_item.specs.Overlay.{Point}
use Rattle.fx_disk.specs.Record.{Cell}
use Rattle.fx_contents.specs.Points.{Points}
use Rattle.fx_super.specs.Super.{Fields}
use Rattle.fx_jblock.specs.declared.Start.{Start}
use Rattle.fx_journal.specs.declared.stream.StreamBlock.{StreamBlock}
use Rattle.fx_journal.specs.Stream.{IsStream}
use Rattle.fx_log.specs.Chosen.{ChoosesSuper, layers_of, start_of}
use Rattle.fx_uses.specs.Uses.{image_block}
use Rattle.fx_cuts.specs.Joined.{NumberedItems, points_up_to}
use Rattle.fx_cuts.specs.Images.{ImageMeanings}
use Rattle.fx_shown.specs.Meanings.{LayerReading, log_meanings}
use Rattle.fx_sound.specs.declared.image.ImageNumbers.{ImageNumbers}
use Rattle.fx_sound.specs.Image.{PlainImage, AreStanding, points_in}
use Rattle.fx_sound.specs.Parts.{IsSoundImage}
use Rattle.fx_layered.specs.Layers.{LayersRead, LayersTell, LieIn, AreNamedIn, layer_lists}

-- the items of the layers, and of the transactions that are kept
abbrev pub lists_up_to : LayersRead → (base : ℕ) → NumberedItems → (k : ℕ) → List (List PlainItem)
lists_up_to said base txns k = layer_lists said ++ map (λ t. t.1) (take (k - base) txns)

-- The numbers that have bounds. Next id and next store are the superblock's, or lie behind all that those
-- items use.
abbrev pub numbers_up_to : Fields → LayersRead → NumberedItems → (k : ℕ) → ImageNumbers
numbers_up_to f said txns k = record {
  generation = f.generation;
  sequence = f.sequence;
  base = f.base;
  kept = k;
  next_id = next_id_after f.next_id (lists_up_to said f.base txns k);
  next_store = next_store_after f.next_store (lists_up_to said f.base txns k);
}

-- The image as plain data: of its chosen superblock, the layers that this names, its stream, and items that
-- say together what stands after the number.
pub record IsGatheredImage (image : List (List ℕ)) (base : ℕ) (points : Points)
    (txns : NumberedItems) (k : ℕ) (plain : PlainImage) : Type 0 where
  pub super : Fields
  pub chosen : ChoosesSuper super image
  pub base_is : super.base ≡ base
  pub size : length image ≡ super.blocks
  pub disk : plain.disk ≡ super.blocks
  pub ring : plain.ring ≡ super.ring
  pub said : LayersRead
  pub named : AreNamedIn super said
  pub lie : LieIn super.ring super.blocks (image_block image) (layers_of super) plain.layers said
  pub standing : AreStanding plain.items
  pub items_are : (p : Point) → points_in plain.items p ≡ points_up_to points txns k p
  pub stream : List StreamBlock
  pub next : Start
  pub stream_is : IsStream image super.ring super.generation (start_of super) stream next
  pub stream_length : plain.stream ≡ length stream
  pub drops : plain.drops ≡ nat_lt k (base + length txns)
  pub numbers : plain.numbers ≡ numbers_up_to super said txns k

-- What is gathered of it is sound: its tree, its allocations, room for layers and for the block that drops
-- transactions, and room of numbers.
pub record IsSoundThere (image : List (List ℕ)) (base : ℕ) (points : Points) (txns : NumberedItems)
    (k : ℕ) : Type 0 where
  pub plain : PlainImage
  pub gathered : IsGatheredImage image base points txns k plain
  pub sound : IsSoundImage plain

-- layers as they lie in blocks, and sound images
abbrev pub layers_reading : (sum : List ℕ → ℕ) → (first_data : ℕ) → LayerReading
layers_reading sum first_data = record {
  sum = sum;
  first_data = first_data;
  LayersSay = LayersTell;
  IsSoundAt = IsSoundThere;
}

abbrev pub layers_meanings : (sum : List ℕ → ℕ) → (first_data : ℕ) → (before : ℕ → Cell) →
    (generation : ℕ) → ImageMeanings
layers_meanings sum first_data before generation =
    log_meanings (layers_reading sum first_data) before generation
