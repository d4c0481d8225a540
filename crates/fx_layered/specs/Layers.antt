-- What the layers that a superblock names say, where they lie in blocks as a checkpoint wrote them.
use Rattle.std.specs.Prelude.{◌≡◌, ℕ, Bool, false, List, [], ◌∷◌, ◌++◌, map, replicate}
use Rattle.std.specs.List.{flat_map}
use Rattle.fx_item.specs.Item.{PlainItem}
use Rattle.fx_item.specs.Overlay.{Point, live_in, overlay, says}
use Rattle.fx_contents.specs.Points.{Points}
use Rattle.fx_super.specs.Super.{Fields}
use Rattle.fx_log.specs.Chosen.{layers_of}
use Rattle.fx_uses.specs.Layers.{LayerSense}
use Rattle.fx_uses.specs.Uses.{image_block}
use Rattle.fx_layfile.specs.Layer.{BlockBytes, IsWholeLayer, mark_blocks}

-- a layer: its first index block, all its blocks, and its items
pub record LayerRead : Type 0 where
  pub first : ℕ
  pub places : List ℕ
  pub items : List PlainItem

-- the layers of both trees, the newest first
pub record LayersRead : Type 0 where
  pub objects : List LayerRead
  pub allocs : List LayerRead

abbrev pub firsts_in : List LayerRead → List ℕ
firsts_in layers = map (λ layer. layer.first) layers

abbrev pub places_in : List LayerRead → List ℕ
places_in layers = flat_map (λ layer. layer.places) layers

abbrev pub all_layers : LayersRead → List LayerRead
all_layers said = said.objects ++ said.allocs

-- the items of each layer
abbrev pub layer_lists : LayersRead → List (List PlainItem)
layer_lists said = map (λ layer. layer.items) (all_layers said)

-- Each is a whole layer of the tree, and has no block that is marked or that one before it has.
abbrev pub AreWhole : BlockBytes → (ring : ℕ) → List Bool → (tree : ℕ) → List LayerRead → Type 0
AreWhole blocks ring marks tree [] = Unit {0}
AreWhole blocks ring marks tree (layer ∷ rest) =
    IsWholeLayer blocks ring marks tree layer.first layer.places layer.items
    × AreWhole blocks ring (mark_blocks marks layer.places) tree rest

-- no block of a disk of this size is marked
abbrev pub unmarked : (disk : ℕ) → List Bool
unmarked disk = replicate disk false

-- They begin at `firsts`, the objects' before the allocator's, lie in just these blocks of a disk with
-- this ring, and are whole.
pub record LieIn (ring disk : ℕ) (blocks : BlockBytes) (firsts places : List ℕ) (said : LayersRead)
    : Type 0 where
  pub firsts_are : firsts ≡ firsts_in (all_layers said)
  pub places_are : places ≡ places_in (all_layers said)
  pub objects : AreWhole blocks ring (unmarked disk) 1 said.objects
  pub allocs : AreWhole blocks ring (mark_blocks (unmarked disk) (places_in said.objects)) 2
      said.allocs

-- what layers mean on a disk with this ring and of this size
abbrev pub layer_sense : (ring disk : ℕ) → LayerSense
layer_sense ring disk = record { Said = LayersRead; Says = LieIn ring disk }

-- what they say together: at each point the newest layer that says something of it
abbrev pub points_of : LayersRead → Points
points_of said = live_in (overlay (map says (layer_lists said)))

-- These are the layers that the superblock names, object layers and allocator layers each in their
-- order.
pub record AreNamedIn (f : Fields) (said : LayersRead) : Type 0 where
  pub objects : f.objects ≡ firsts_in said.objects
  pub allocs : f.allocs ≡ firsts_in said.allocs

-- The layers that the superblock names lie in the image, and say what stands at each point.
pub record LayersTell (image : List (List ℕ)) (f : Fields) (points : Points) : Type 0 where
  pub said : LayersRead
  pub named : AreNamedIn f said
  pub lie : LieIn f.ring f.blocks (image_block image) (layers_of f)
      (places_in (all_layers said)) said
  pub points_are : (p : Point) → points p ≡ points_of said p
