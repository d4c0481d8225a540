-- Which superblock the images of a mounted disk have.
use Rattle.std.specs.Prelude.{ℕ, ◌≤◌, List, [], ◌∷◌, length}
use Rattle.fx_disk.specs.Record.{DiskRecord, Cell, LeftNow, cell_after}
use Rattle.fx_disk.specs.Always.{Always}
use Rattle.fx_disk.specs.Settled.{WasSettled}
use Rattle.fx_super.specs.Super.{Fields}
use Rattle.fx_log.specs.Chosen.{next_generation, ChoosesSuper, ChoosesEither}
use Rattle.fx_log.specs.Chance.{HasTrueSupers}

-- Unless a block is there by chance, the image has this superblock or that of the next generation.
abbrev pub LeavesEither : Fields → (ℕ → Cell) → ℕ → List (List ℕ) → Type 0
LeavesEither f cells m image = HasTrueSupers cells image → ChoosesEither f image

-- Nothing is loose after the first calls, and this superblock is chosen then.
pub record BeginsAt (r : DiskRecord) (from : ℕ) (f : Fields) : Type 0 where
  pub slots : 2 ≤ length r.entry
  pub settled : WasSettled from r
  pub chosen : ChoosesSuper f ((cell_after r from 0).bytes ∷ (cell_after r from 1).bytes ∷ [])

-- At every moment from there on, every image left that is not there by chance has that superblock
-- chosen, or that of the next generation.
pub record ChoosesSince (from : ℕ) (r : DiskRecord) : Type 0 where
  pub since : from ≤ length r.calls
  pub always : (f : Fields) → BeginsAt r from f → Always (LeavesEither f) from r

-- Every image left now has that of the next generation chosen.
abbrev pub ChoosesNext : ℕ → DiskRecord → Type 0
ChoosesNext from r = (f : Fields) → BeginsAt r from f → (image : List (List ℕ)) → LeftNow r image →
    ChoosesSuper (next_generation f) image
