-- What an image shows by its chosen superblock and its stream; layers and allocations are left to others.
use Rattle.std.specs.Prelude.{◌≡◌, ℕ, None, List, []}
use Rattle.fx_disk.specs.Record.{Cell}
use Rattle.fx_item.specs.Overlay.{Point}
use Rattle.fx_contents.specs.Points.{Points}
use Rattle.fx_super.specs.Super.{Fields}
use Rattle.fx_jblock.specs.declared.Start.{Start}
use Rattle.fx_journal.specs.declared.stream.StreamBlock.{StreamBlock}
use Rattle.fx_journal.specs.Stream.{IsStream}
use Rattle.fx_record.specs.Txns.{IsTxns}
use Rattle.fx_log.specs.Chosen.{ChoosesSuper, layers_of, start_of}
use Rattle.fx_logcuts.specs.Cuts.{pieces_in}
use Rattle.fx_cuts.specs.Joined.{NumberedItems}
use Rattle.fx_cuts.specs.Images.{ImageMeanings}
use Rattle.fx_shown.specs.Forms.{log_forms}

-- What is left to others: the sum of a block, where data begins, what stands at each point by the layers
-- that a superblock names, and what else is asked of an image that keeps transactions up to a number.
pub record LayerReading : Type 1 where
  pub sum : List ℕ → ℕ
  pub first_data : ℕ
  pub LayersSay : List (List ℕ) → Fields → Points → Type 0
  pub IsSoundAt : List (List ℕ) → (base : ℕ) → Points → NumberedItems → (k : ℕ) → Type 0

-- The chosen superblock has this base count, its layers say what stands at each point, and the records
-- of its stream leave these transactions.
pub record ShowsTxns (l : LayerReading) (image : List (List ℕ)) (base : ℕ) (points : Points)
    (txns : NumberedItems) : Type 0 where
  pub super : Fields
  pub chosen : ChoosesSuper super image
  pub base_is : super.base ≡ base
  pub layers : l.LayersSay image super points
  pub stream : List StreamBlock
  pub next : Start
  pub stream_is : IsStream image super.ring super.generation (start_of super) stream next
  pub txns_are : IsTxns base (pieces_in stream) txns

-- What images mean, by the blocks when the mount began and the generation that was chosen then.
abbrev pub log_meanings : LayerReading → (before : ℕ → Cell) → (generation : ℕ) → ImageMeanings
log_meanings l before generation = record {
  sum = l.sum;
  first_data = l.first_data;
  forms = log_forms;
  before = before;
  generation = generation;
  Shows = ShowsTxns l;
  IsSound = l.IsSoundAt;
}

-- The superblock names no layer, and nothing stands at any point.
abbrev pub NamesNoLayer : List (List ℕ) → Fields → Points → Type 0
NamesNoLayer image super points = (layers_of super ≡ []) × ((p : Point) → points p ≡ None)

-- What the layers of a superblock say is one value at each point.
abbrev pub LayersSayOne : LayerReading → Type 0
LayersSayOne l = (image : List (List ℕ)) (f : Fields) (p q : Points) → l.LayersSay image f p →
    l.LayersSay image f q → p ≡ q
