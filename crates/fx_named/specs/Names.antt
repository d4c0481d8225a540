-- Images of names alone among those with blocks and layers.
use Rattle.std.specs.Prelude.{◌≡◌, ℕ, ◌≤◌, Some, List, map, slice_get}
use Rattle.fx_disk.specs.Record.{Cell, DiskRecord}
use Rattle.fx_disk.specs.Always.{Always}
use Rattle.fx_super.specs.Super.{Fields}
use Rattle.fx_plain.specs.Tree.{Tree}
use Rattle.fx_plain.specs.Bare.{bare}
use Rattle.fx_contents.specs.Points.{Points, only_values}
use Rattle.fx_contents.specs.Standing.{AreNamesAlone}
use Rattle.fx_history.specs.declared.entry.Entry.{Entry}
use Rattle.fx_history.specs.History.{tree_at}
use Rattle.fx_uses.specs.Live.{txn_of}
use Rattle.fx_kept.specs.Chance.{HasMeantForms}
use Rattle.fx_kept.specs.Opened.{WritesNoBlock}
use Rattle.fx_log.specs.Chosen.{ChoosesSuper}
use Rattle.fx_image.specs.Standing.{HasSessionRoom, items_after}
use Rattle.fx_cuts.specs.Joined.{NumberedItems, points_up_to}
use Rattle.fx_cuts.specs.Images.{ImageMeanings, Mark}
use Rattle.fx_shown.specs.Meanings.{LayerReading, NamesNoLayer, log_meanings}

-- What is asked of an image beside what it shows: no transaction writes a block, and their items are names
-- alone; the disk has its size; and where there was ample room a session has room.
pub record IsOfNames (size : ℕ) (ample : Type 0) (image : List (List ℕ)) (base : ℕ)
    (points : Points) (txns : NumberedItems) (k : ℕ) : Type 0 where
  pub unwritten : WritesNoBlock (map txn_of txns)
  pub values : points_up_to points txns k ≡ only_values (items_after txns)
  pub alone : AreNamesAlone (items_after txns)
  pub blocks : (f : Fields) → ChoosesSuper f image → f.blocks ≡ size
  pub room : (f : Fields) → ChoosesSuper f image → ample → HasSessionRoom f txns

-- No layers, and these images alone are sound.
abbrev pub names_reading : (sum : List ℕ → ℕ) → (first_data size : ℕ) → Type 0 → LayerReading
names_reading sum first_data size ample = record {
  sum = sum;
  first_data = first_data;
  LayersSay = NamesNoLayer;
  IsSoundAt = IsOfNames size ample;
}

abbrev pub names_meanings : (sum : List ℕ → ℕ) → (first_data size : ℕ) → Type 0 →
    (before : ℕ → Cell) → (generation : ℕ) → ImageMeanings
names_meanings sum first_data size ample before generation =
    log_meanings (names_reading sum first_data size ample) before generation

-- the trees of a history, without what files hold
abbrev pub bare_trees : Tree → List Entry → ℕ → Tree
bare_trees tree history k = bare (tree_at tree history k)

-- The first mark is of the base, made at `from`, and each settled entry is settled by a mark.
pub record HaveEntries (base from : ℕ) (history : List Entry) (marks : List Mark) : Type 0 where
  pub first : slice_get marks 0 ≡ Some (record { number = base; calls = from })
  pub each : (i : ℕ) (entry : Entry) → slice_get history i ≡ Some entry → 1 ≤ entry.settled →
      (j : ℕ) × (mark : Mark) × (slice_get marks j ≡ Some mark) × (mark.calls ≤ entry.settled) ×
      (entry.number ≤ mark.number)

-- At each moment no image left, in which no superblock and no block of the ring is there by chance, shows
-- a transaction that writes a block.
abbrev pub WritesNever : ImageMeanings → ℕ → DiskRecord → Type 0
WritesNever w from r = Always (λ cells m image.
    HasMeantForms w.forms w.before cells w.generation image →
    (base : ℕ) (points : Points) (txns : NumberedItems) → w.Shows image base points txns →
    WritesNoBlock (map txn_of txns)) from r
