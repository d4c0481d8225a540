-- Layers that are read one after another.
use Rattle.std.proofs.Common.{◌≡◌, ℕ, ◌+◌, ◌<◌, Bool, true, false, List, [], ◌∷◌, ◌++◌, length, get_or, cond, sym, ap, subst, ◌∙◌, inl, inr, arith, length-append}
use Rattle.std.specs.Prelude.{Err, count_by, slice_set}
use Rattle.std.proofs.lemmas.List.Sums.{fold-append, sum_by-set}
use Rattle.std.proofs.lemmas.Grind.{flat_map-append}
use Rattle.fx_layfile.specs.Layer.{BlockBytes, AreUnmarked, mark_block, mark_blocks}
use Rattle.fx_layfile.specs.Reading.{PlainLayer, IsSaid}
use Rattle.fx_layfile.specs.declared.layer.LayerFault.{LayerFault}
use Rattle.fx_layfile.specs.declared.layer.LayerFault.TheVariants as layers
use Rattle.fx_super.specs.Super.{Fields}
use Rattle.fx_super.specs.declared.choice.Which.{Which}
use Rattle.fx_layfile.specs.Layer.{blocks_in}
use Rattle.fx_found.specs.Image.{NamesDisk, blocks_of_layers}
use Rattle.fx_found.specs.Layers.{AreLayers, IsGoodLayer, IsBadAmong, marks_after, no_marks}
use Rattle.fx_found.specs.Faults.{IsFindFault}
use Rattle.fx_found.specs.Reading.{IsLayerFault, find_fault}
use Rattle.fx_found.specs.declared.fault.FindFault.{FindFault}
use Rattle.fx_found.specs.declared.fault.FindFault.TheVariants as faults

module _ (blocks : BlockBytes) (ring : ℕ) where
  pub layers_more : (marks : List Bool) (tree : ℕ) (firsts : List ℕ) (first : ℕ) (layers : List PlainLayer) (layer : PlainLayer) → AreLayers blocks ring marks tree firsts layers
      → IsGoodLayer blocks ring (marks_after marks layers) tree first layer → AreLayers blocks ring marks tree (firsts ++ first ∷ []) (layers ++ layer ∷ [])
  layers_more marks tree [] first [] layer h k = (k, tt)
  layers_more marks tree [] first (l ∷ ls) layer h k = absurd h
  layers_more marks tree (f ∷ fs) first [] layer h k = absurd h
  layers_more marks tree (f ∷ fs) first (l ∷ ls) layer h k = (h.0, layers_more (mark_blocks marks l.blocks) tree fs first ls layer h.1 k)

  pub bad_after : (marks : List Bool) (tree : ℕ) (firsts rest : List ℕ) (layers : List PlainLayer) (bad : ℕ) → AreLayers blocks ring marks tree firsts layers
      → IsBadAmong blocks ring (marks_after marks layers) tree rest bad → IsBadAmong blocks ring marks tree (firsts ++ rest) bad
  bad_after marks tree [] rest [] bad h k = k
  bad_after marks tree [] rest (l ∷ ls) bad h k = absurd h
  bad_after marks tree (f ∷ fs) rest [] bad h k = absurd h
  bad_after marks tree (f ∷ fs) rest (l ∷ ls) bad h k = inr (l, h.0, bad_after (mark_blocks marks l.blocks) tree fs rest ls bad h.1 k)

  pub layer_stops : (e : LayerFault) (marks now : List Bool) (tree first : ℕ) (front rest : List ℕ) (layers : List PlainLayer) → AreLayers blocks ring marks tree front layers → now ≡ marks_after marks layers
      → IsSaid blocks ring now tree first (Err e) → IsLayerFault blocks ring marks tree (front ++ first ∷ rest) (find_fault e)
  layer_stops (layers.BadBlock bad) marks now tree first front rest ls h m k = bad_after marks tree front (first ∷ rest) ls bad h (inl (inl (subst (λ w. IsSaid blocks ring w tree first (Err (layers.BadBlock bad))) m k)))
  layer_stops (layers.Order bad) marks now tree first front rest ls h m k = bad_after marks tree front (first ∷ rest) ls bad h (inl (inr (subst (λ w. IsSaid blocks ring w tree first (Err (layers.Order bad))) m k)))
  layer_stops layers.Device marks now tree first front rest ls h m k = tt
  layer_stops layers.OutOfMemory marks now tree first front rest ls h m k = tt

pub marks_more_layer : (marks now new : List Bool) (layers : List PlainLayer) (layer : PlainLayer) → now ≡ marks_after marks layers → new ≡ mark_blocks now layer.blocks → new ≡ marks_after marks (layers ++ layer ∷ [])
marks_more_layer marks now new ls layer e f = f ∙ ap (λ (m : List Bool). mark_blocks m layer.blocks) e ∙ sym (fold-append (λ (m : List Bool) (l : PlainLayer). mark_blocks m l.blocks) marks ls (layer ∷ []))

-- ---- how many marks there are

abbrev marked : List Bool → ℕ
marked marks = count_by (λ mark. mark) marks

count_set : (marks : List Bool) (b : ℕ) → b < length marks → get_or marks b false ≡ false → marked (slice_set marks b true) ≡ marked marks + 1
count_set marks b lt e =
    let h = sum_by-set (λ (x : Bool). cond x 1 0) marks b true false lt in
    omega (arith, h, ap {B = ℕ} (λ (x : Bool). cond x 1 0) e)

pub count_marked : (ring : ℕ) (marks : List Bool) (blocks : List ℕ) → AreUnmarked ring marks blocks → marked (mark_blocks marks blocks) ≡ marked marks + length blocks
count_marked ring marks [] h = omega arith
count_marked ring marks (b ∷ bs) h =
    let one = count_set marks b h.0.on_disk h.0.free in
    let rest = count_marked ring (mark_block marks b) bs h.1 in
    omega (arith, one, rest)

pub count_more_layer : (ring : ℕ) (marks now new : List Bool) (layers : List PlainLayer) (layer : PlainLayer) → marked now ≡ marked marks + length (blocks_of_layers layers) → AreUnmarked ring now layer.blocks
    → new ≡ mark_blocks now layer.blocks → marked new ≡ marked marks + length (blocks_of_layers (layers ++ layer ∷ []))
count_more_layer ring marks now new ls layer e h f =
    let more = count_marked ring now layer.blocks h in
    let new_is : marked new ≡ marked (mark_blocks now layer.blocks) = ap marked f in
    let joined = ap length (flat_map-append (λ (l : PlainLayer). l.blocks) ls (layer ∷ [])) in
    let a = length-append (blocks_of_layers ls) (blocks_of_layers (layer ∷ [])) in
    let b = length-append layer.blocks [] in
    omega (arith, e, more, new_is, joined, a, b)

-- ---- the fault of an image

module _ (size : ℕ) (image : List (List ℕ)) (slot : Which) (f : Fields) (super : NamesDisk size image slot f) where
  pub lost_objects : (e : FindFault) → IsLayerFault (blocks_in image) f.ring (no_marks size) 1 f.objects e → IsFindFault size image e
  lost_objects (faults.BadLayer bad) k = record { slot = slot; f = f; super = super; layer = inl k }
  lost_objects faults.Device k = tt
  lost_objects faults.OutOfMemory k = tt
  lost_objects faults.NoSuper k = absurd k
  lost_objects (faults.Version v) k = absurd k
  lost_objects (faults.DiskSize n) k = absurd k
  lost_objects (faults.BadRecord i) k = absurd k
  lost_objects (faults.BadTree s i) k = absurd k
  lost_objects (faults.Unsound b) k = absurd k
  lost_objects (faults.Cramped n) k = absurd k

  module _ (objects : List PlainLayer) (are : AreLayers (blocks_in image) f.ring (no_marks size) 1 f.objects objects) where
    pub lost_allocs : (e : FindFault) → IsLayerFault (blocks_in image) f.ring (marks_after (no_marks size) objects) 2 f.allocs e → IsFindFault size image e
    lost_allocs (faults.BadLayer bad) k = record { slot = slot; f = f; super = super; layer = inr (objects, are, k) }
    lost_allocs faults.Device k = tt
    lost_allocs faults.OutOfMemory k = tt
    lost_allocs faults.NoSuper k = absurd k
    lost_allocs (faults.Version v) k = absurd k
    lost_allocs (faults.DiskSize n) k = absurd k
    lost_allocs (faults.BadRecord i) k = absurd k
    lost_allocs (faults.BadTree s i) k = absurd k
    lost_allocs (faults.Unsound b) k = absurd k
    lost_allocs (faults.Cramped n) k = absurd k
