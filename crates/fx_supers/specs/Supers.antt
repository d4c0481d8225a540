-- The superblocks of a mounted disk, and what its cells have of them now.
use Rattle.std.specs.Prelude.{◌≡◌, ◌⊎◌, ℕ, ◌≤◌, ◌<◌, Bool, true, false, Option, Some, None, List, Contains, length}
use Rattle.fx_disk.specs.Record.{DiskRecord, candidates, cell_now}
use Rattle.fx_disk.specs.Settled.{IsGoodWrite}
use Rattle.fx_super.specs.Super.{Fields, IsSuper, KeepsRules, super_block}
use Rattle.fx_super.specs.Chosen.{GoesBefore, block_number, other}
use Rattle.fx_super.specs.declared.choice.Which.{Which}
use Rattle.fx_log.specs.Chosen.{ChoosesSuper, next_generation}

-- Where the stream of a superblock begins: at the start that the mount found, where there is no
-- number, or before this one of the blocks that were closed since the mount, the first being 0.
abbrev pub Origin : Type 0
Origin = Option ℕ

-- A superblock and where its stream begins. Its own fields tell its base, its layers, its floor and
-- its generation, so it cuts the blocks and the commits at once.
pub record SuperCut : Type 0 where
  pub super : Fields
  pub origin : Origin

-- The superblock that is flushed, and in which of the two blocks it stands. The one that is coming,
-- where a write of it to the other block was asked for, and whether the last such write was good.
pub record Supers : Type 0 where
  pub current : SuperCut
  pub slot : Which
  pub coming : Option SuperCut
  pub made : Bool

-- This one is the current one, whose stream begins at the start that the mount found, and none is
-- coming.
abbrev pub only_supers : Fields → Which → Supers
only_supers f slot = record {
  current = record { super = f; origin = None };
  slot = slot;
  coming = None;
  made = false;
}

-- that of the next generation, as a mount writes it
abbrev pub raised_cut : Fields → SuperCut
raised_cut f = record { super = next_generation f; origin = None }

-- ---- what happens to them

-- A superblock is written to the other block, by a good write or a failed one.
abbrev pub put_supers : Supers → SuperCut → Bool → Supers
put_supers s cut good = record s { coming = Some cut; made = good }

-- It was flushed: it is the current one.
abbrev pub next_supers : Supers → SuperCut → Supers
next_supers s cut = record { current = cut; slot = other s.slot; coming = None; made = false }

-- ---- what the disk has of them

-- In the other block nothing but the one that is coming, if there is one, goes before the
-- superblock in this block, which is flushed.
pub record HoldsSuper (slot : Which) (f : Fields) (coming : Option Fields) (r : DiskRecord)
    : Type 0 where
  pub slots : 2 ≤ length r.entry
  pub fixed : (cell_now r (block_number slot)).loose ≡ false
  pub super : IsSuper (cell_now r (block_number slot)).bytes f
  pub others : (value : List ℕ) (g : Fields) →
      Contains (candidates (cell_now r (block_number (other slot)))) value → IsSuper value g →
      GoesBefore slot f.generation g.generation ⊎ (coming ≡ Some g)
  pub rules : (g : Fields) → coming ≡ Some g → KeepsRules g
  pub later : (g : Fields) → coming ≡ Some g → f.generation < g.generation

abbrev pub coming_fields : Option SuperCut → Option Fields
coming_fields None = None
coming_fields (Some cut) = Some cut.super

-- The disk has them. Where none is coming no write of the other block is loose.
pub record HasSupers (s : Supers) (r : DiskRecord) : Type 0 where
  pub holds : HoldsSuper s.slot s.current.super (coming_fields s.coming) r
  pub made : s.made ≡ true → (cut : SuperCut) → s.coming ≡ Some cut →
      IsGoodWrite (block_number (other s.slot)) (super_block cut.super) r
  pub still : s.coming ≡ None → (cell_now r (block_number (other s.slot))).loose ≡ false

-- The image has this superblock chosen, or the one that is coming.
abbrev pub ChoosesOne : Fields → Option Fields → List (List ℕ) → Type 0
ChoosesOne f coming image =
    ChoosesSuper f image ⊎ ((g : Fields) × (coming ≡ Some g) × ChoosesSuper g image)
