-- The layers that a superblock names, one after another, and the first bad block among them.
use Rattle.std.specs.Prelude.{◌⊎◌, ℕ, Bool, false, List, [], ◌∷◌, replicate}
use Rattle.std.specs.List.{fold}
use Rattle.fx_super.specs.Super.{Fields}
use Rattle.fx_layfile.specs.Layer.{BlockBytes, mark_blocks, Whole, BadAt, DisorderAt, IsVerdict}
use Rattle.fx_layfile.specs.Reading.{PlainLayer}

-- no block of the disk was read
abbrev pub no_marks : ℕ → List Bool
no_marks size = replicate size false

-- the marks after the blocks of these layers were read
abbrev pub marks_after : List Bool → List PlainLayer → List Bool
marks_after marks layers = fold (λ m l. mark_blocks m l.blocks) marks layers

abbrev pub IsGoodLayer : BlockBytes → (ring : ℕ) → List Bool → (tree first : ℕ) → PlainLayer
    → Type 0
IsGoodLayer blocks ring marks tree first layer =
    IsVerdict blocks ring marks tree first (Whole layer.blocks layer.items)

-- These first blocks begin these layers of a tree. No block stands in two of them.
abbrev pub AreLayers : BlockBytes → (ring : ℕ) → List Bool → (tree : ℕ) → List ℕ
    → List PlainLayer → Type 0
AreLayers blocks ring marks tree [] [] = Unit {0}
AreLayers blocks ring marks tree [] (layer ∷ layers) = ⊥
AreLayers blocks ring marks tree (first ∷ firsts) [] = ⊥
AreLayers blocks ring marks tree (first ∷ firsts) (layer ∷ layers) =
    IsGoodLayer blocks ring marks tree first layer
    × AreLayers blocks ring (mark_blocks marks layer.blocks) tree firsts layers

-- This block is the bad one of the layer, or the one with which its order ends.
abbrev pub IsBadIn : BlockBytes → (ring : ℕ) → List Bool → (tree first bad : ℕ) → Type 0
IsBadIn blocks ring marks tree first bad =
    IsVerdict blocks ring marks tree first (BadAt bad)
    ⊎ IsVerdict blocks ring marks tree first (DisorderAt bad)

-- Of the layers that these blocks begin, the first that is not whole is bad at this block.
abbrev pub IsBadAmong : BlockBytes → (ring : ℕ) → List Bool → (tree : ℕ) → List ℕ → (bad : ℕ)
    → Type 0
IsBadAmong blocks ring marks tree [] bad = ⊥
IsBadAmong blocks ring marks tree (first ∷ firsts) bad =
    IsBadIn blocks ring marks tree first bad
    ⊎ ((layer : PlainLayer) × IsGoodLayer blocks ring marks tree first layer
    × IsBadAmong blocks ring (mark_blocks marks layer.blocks) tree firsts bad)

-- The superblock of a disk of so many blocks names these layers, those of the objects first; of each
-- tree the newest first. No block stands in two of them.
pub record HasLayers (blocks : BlockBytes) (size : ℕ) (f : Fields)
    (objects allocs : List PlainLayer) : Type 0 where
  pub objects_are : AreLayers blocks f.ring (no_marks size) 1 f.objects objects
  pub allocs_are : AreLayers blocks f.ring (marks_after (no_marks size) objects) 2 f.allocs allocs

-- In this order the first bad block of the layers that it names.
abbrev pub HasBadLayer : BlockBytes → (size : ℕ) → Fields → (bad : ℕ) → Type 0
HasBadLayer blocks size f bad =
    IsBadAmong blocks f.ring (no_marks size) 1 f.objects bad
    ⊎ ((objects : List PlainLayer)
    × AreLayers blocks f.ring (no_marks size) 1 f.objects objects
    × IsBadAmong blocks f.ring (marks_after (no_marks size) objects) 2 f.allocs bad)
