-- The list of a tree's layers, as it stands in memory and in a superblock.
use Rattle.std.specs.Prelude.{◌≡◌, ◌≤◌, ◌<◌, ℕ, ◌-◌, ◌^◌, List, ◌++◌, length, take, drop, replicate, slice_index}
use Rattle.std.specs.List.{flat_map}
use Rattle.std.proofs.Common.{ap, sym, ◌∙◌, arith, length-take, take-append-drop}
use Rattle.byteorder.specs.Endian.{little_bytes}
use Rattle.fx_super.specs.declared.layers.TheConstants.{LAYERS}

-- the list in 32 places, with zeros in those that are not used
abbrev pub padded_layers : List ℕ → List ℕ
padded_layers list = list ++ replicate (LAYERS - length list) 0

-- the 32 places as bytes
abbrev pub layer_bytes : List ℕ → List ℕ
layer_bytes list = flat_map (little_bytes 4) (padded_layers list)

-- The first of these 32 places are used, and the rest are zero.
pub record IsPadded (firsts : List ℕ) (count : ℕ) : Type 0 where
  pub count_fits : count ≤ LAYERS
  pub places : length firsts ≡ LAYERS
  pub unused : drop count firsts ≡ replicate (LAYERS - count) 0

-- These bytes hold this list, of this many layers.
pub record HoldsLayers (bytes : List ℕ) (count : ℕ) (list : List ℕ) : Type 0 where
  pub count_is : length list ≡ count
  pub count_fits : count ≤ LAYERS
  pub each_fits : (i : ℕ) → slice_index list i < 2 ^ 32
  pub bytes_are : bytes ≡ layer_bytes list

-- The used places, padded_layers, are all places again.
pub length-used : (firsts : List ℕ) (count : ℕ) → IsPadded firsts count
    → length (take count firsts) ≡ count
length-used firsts count h =
    let places = h.places in
    let fits = h.count_fits in
    omega (arith, length-take count firsts)

pub padded-used : (firsts : List ℕ) (count : ℕ) → IsPadded firsts count
    → padded_layers (take count firsts) ≡ firsts
padded-used firsts count h =
    ap (λ (n : ℕ). take count firsts ++ replicate (LAYERS - n) 0) (length-used firsts count h)
    ∙ ap (λ (rest : List ℕ). take count firsts ++ rest) (sym h.unused)
    ∙ take-append-drop count firsts
