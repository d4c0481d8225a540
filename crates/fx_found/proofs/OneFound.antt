-- An image has one list of parts, and where it is sound hardly a fault holds of it.
use Rattle.std.proofs.Common.{◌≡◌, ℕ, Bool, List, [], ◌∷◌, map, refl, sym, ap, subst, ◌∙◌, inl, inr, arith}
use Rattle.std.proofs.Math.Path.{fun_ext}
use Rattle.fx_item.specs.Item.{PlainItem}
use Rattle.fx_item.specs.Overlay.{AtDeviceBlock}
use Rattle.fx_sum.specs.Checksum.{fletch}
use Rattle.fx_plain.specs.Tree.{Tree}
use Rattle.fx_contents.specs.Points.{Points}
use Rattle.fx_contents.specs.Allocated.{AreAllocated}
use Rattle.fx_contents.specs.Standing.{AreOnDisk, StandForTree}
use Rattle.fx_super.specs.Super.{Fields}
use Rattle.fx_super.specs.declared.choice.Which.{Which}
use Rattle.fx_super.proofs.Chosen.{one_chosen}
use Rattle.fx_jblock.specs.declared.Start.{Start}
use Rattle.fx_journal.specs.Stream.{IsStream}
use Rattle.fx_journal.specs.declared.stream.StreamBlock.{StreamBlock}
use Rattle.fx_journal.proofs.Runs.{one_stream}
use Rattle.fx_log.specs.Chosen.{start_of}
use Rattle.fx_logcuts.specs.Cuts.{pieces_in}
use Rattle.fx_record.specs.Txns.{IsTxns, IsBadRecord}
use Rattle.fx_record.proofs.Fronts.{not_both, one_answer}
use Rattle.fx_uses.specs.Live.{txn_of}
use Rattle.fx_kept.specs.Kept.{IsKeptIn, none_live, sum_found}
use Rattle.fx_kept.proofs.KeptExists.{kept_one}
use Rattle.fx_layfile.specs.Layer.{BlockBytes, Verdict, Whole, BadAt, DisorderAt, blocks_in, mark_blocks}
use Rattle.fx_layfile.specs.Reading.{PlainLayer}
use Rattle.fx_layfile.proofs.Verdicts.{one_verdict}
use Rattle.fx_sound.specs.Image.{points_in}
use Rattle.fx_sound.specs.Parts.{HasTree, HasTrueAllocations, IsSoundImage}
use Rattle.fx_sound.specs.declared.image.ImageFault.TheVariants as judged
use Rattle.fx_sound.proofs.First.{node_of}
use Rattle.fx_sound.proofs.Judged.{none_bad}
use Rattle.fx_sound.proofs.Owned.{none_unsound}
use Rattle.fx_sound.specs.Faults.{IsFirstFault}
use Rattle.fx_found.specs.Layers.{AreLayers, HasBadLayer, HasLayers, IsBadAmong, marks_after, no_marks}
use Rattle.fx_found.specs.Image.{ImageParts, HasImageParts, NamesDisk, StandInLevels, data_begin, judged_image, levels_of_parts}
use Rattle.fx_found.specs.Faults.{IsFindFault, LosesLayer, LosesRecord}
use Rattle.fx_found.specs.Only.{MayStillHold}
use Rattle.fx_found.specs.declared.fault.FindFault.{FindFault}
use Rattle.fx_found.specs.declared.fault.FindFault.TheVariants as faults

-- ---- layers

abbrev places_in : Verdict → List ℕ
places_in (Whole places items) = places
places_in (BadAt b) = []
places_in (DisorderAt b) = []

abbrev items_in : Verdict → List PlainItem
items_in (Whole places items) = items
items_in (BadAt b) = []
items_in (DisorderAt b) = []

layer_same : (x y : PlainLayer) → Whole x.blocks x.items ≡ Whole y.blocks y.items → x ≡ y
layer_same x y e = λ i. record { blocks = ap places_in e i; items = ap items_in e i }

module _ (blocks : BlockBytes) (ring tree : ℕ) where
  pub one_layers : (marks : List Bool) (firsts : List ℕ) (xs ys : List PlainLayer) → AreLayers blocks ring marks tree firsts xs → AreLayers blocks ring marks tree firsts ys → xs ≡ ys
  one_layers marks [] [] [] h k = refl
  one_layers marks [] [] (y ∷ ys) h k = absurd k
  one_layers marks [] (x ∷ xs) ys h k = absurd h
  one_layers marks (f ∷ fs) [] ys h k = absurd h
  one_layers marks (f ∷ fs) (x ∷ xs) [] h k = absurd k
  one_layers marks (f ∷ fs) (x ∷ xs) (y ∷ ys) h k =
      let same : x ≡ y = layer_same x y (one_verdict blocks ring marks tree f (Whole x.blocks x.items) (Whole y.blocks y.items) h.0 k.0) in
      let rest : xs ≡ ys = one_layers (mark_blocks marks x.blocks) fs xs ys h.1 (subst (λ (z : PlainLayer). AreLayers blocks ring (mark_blocks marks z.blocks) tree fs ys) (sym same) k.1) in
      ap (λ (z : PlainLayer). z ∷ xs) same ∙ ap (λ (zs : List PlainLayer). y ∷ zs) rest

  pub none_bad_among : (marks : List Bool) (firsts : List ℕ) (xs : List PlainLayer) (bad : ℕ) → AreLayers blocks ring marks tree firsts xs → IsBadAmong blocks ring marks tree firsts bad → ⊥
  none_bad_among marks [] xs bad h k = k
  none_bad_among marks (f ∷ fs) [] bad h k = h
  none_bad_among marks (f ∷ fs) (x ∷ xs) bad h (inl (inl k)) = let z : Whole x.blocks x.items ≡ BadAt bad = one_verdict blocks ring marks tree f (Whole x.blocks x.items) (BadAt bad) h.0 k in cc
  none_bad_among marks (f ∷ fs) (x ∷ xs) bad h (inl (inr k)) = let z : Whole x.blocks x.items ≡ DisorderAt bad = one_verdict blocks ring marks tree f (Whole x.blocks x.items) (DisorderAt bad) h.0 k in cc
  none_bad_among marks (f ∷ fs) (x ∷ xs) bad h (inr k) =
      let same : k.0 ≡ x = layer_same k.0 x (one_verdict blocks ring marks tree f (Whole k.0.blocks k.0.items) (Whole x.blocks x.items) k.1 h.0) in
      none_bad_among (mark_blocks marks x.blocks) fs xs bad h.1 (subst (λ (z : PlainLayer). IsBadAmong blocks ring (mark_blocks marks z.blocks) tree fs bad) same k.2)

-- ---- parts

module _ (size : ℕ) (image : List (List ℕ)) (p : ImageParts) (h : HasImageParts size image p) where
  same_super : (slot : Which) (f : Fields) → NamesDisk size image slot f → f ≡ p.super
  same_super slot f k = (one_chosen image slot p.slot f p.super k.chosen h.super.chosen).1

  same_stream : (stream : List StreamBlock) (next : Start) → IsStream image p.super.ring p.super.generation (start_of p.super) stream next → (stream ≡ p.stream) × (next ≡ p.next)
  same_stream stream next s =
      let rules = h.super.chosen.is_super.rules in
      one_stream image p.super.ring p.super.generation (start_of p.super) next p.next stream p.stream (omega (arith, rules.generation_most)) (omega (arith, rules.sequence_below, rules.ring_most)) s h.stream

  same_objects : (objects : List PlainLayer) → AreLayers (blocks_in image) p.super.ring (no_marks size) 1 p.super.objects objects → objects ≡ p.objects
  same_objects objects k = one_layers (blocks_in image) p.super.ring 1 (no_marks size) p.super.objects objects p.objects k h.layers.objects_are

  no_bad_layer : (bad : ℕ) → LosesLayer size image bad → ⊥
  no_bad_layer bad l = elim (subst (λ (f : Fields). HasBadLayer (blocks_in image) size f bad) (same_super l.slot l.f l.super) l.layer) [
    | inl k ↦ none_bad_among (blocks_in image) p.super.ring 1 (no_marks size) p.super.objects p.objects bad h.layers.objects_are k
    | inr k ↦
        let same : k.0 ≡ p.objects = same_objects k.0 k.1 in
        none_bad_among (blocks_in image) p.super.ring 2 (marks_after (no_marks size) p.objects) p.super.allocs p.allocs bad h.layers.allocs_are
        (subst (λ (w : List PlainLayer). IsBadAmong (blocks_in image) p.super.ring (marks_after (no_marks size) w) 2 p.super.allocs bad) same k.2)
  ]

  no_bad_record : (place : ℕ) → LosesRecord size image place → ⊥
  no_bad_record place l =
      let same : l.f ≡ p.super = same_super l.slot l.f l.super in
      let stream = same_stream l.stream l.next (subst (λ (f : Fields). IsStream image f.ring f.generation (start_of f) l.stream l.next) same l.stream_is) in
      let wrong : IsBadRecord p.super.base (pieces_in p.stream) place =
      subst (λ (s : List StreamBlock). IsBadRecord p.super.base (pieces_in s) place) stream.0 (subst (λ (f : Fields). IsBadRecord f.base (pieces_in l.stream) place) same l.wrong) in
      not_both p.super.base (pieces_in p.stream) p.txns place h.txns wrong

  pub same_parts : (q : ImageParts) → HasImageParts size image q → q ≡ p
  same_parts q k =
      let chosen = one_chosen image q.slot p.slot q.super p.super k.super.chosen h.super.chosen in
      let super : q.super ≡ p.super = chosen.1 in
      let layers : HasLayers (blocks_in image) size p.super q.objects q.allocs = subst (λ (f : Fields). HasLayers (blocks_in image) size f q.objects q.allocs) super k.layers in
      let objects : q.objects ≡ p.objects = same_objects q.objects layers.objects_are in
      let allocs : q.allocs ≡ p.allocs = one_layers (blocks_in image) p.super.ring 2 (marks_after (no_marks size) p.objects) p.super.allocs q.allocs p.allocs
      (subst (λ (w : List PlainLayer). AreLayers (blocks_in image) p.super.ring (marks_after (no_marks size) w) 2 p.super.allocs q.allocs) objects layers.allocs_are) h.layers.allocs_are in
      let stream = same_stream q.stream q.next (subst (λ (f : Fields). IsStream image f.ring f.generation (start_of f) q.stream q.next) super k.stream) in
      let txns : q.txns ≡ p.txns = one_answer p.super.base (pieces_in p.stream) q.txns p.txns
      (subst (λ (s : List StreamBlock). IsTxns p.super.base (pieces_in s) q.txns) stream.0 (subst (λ (f : Fields). IsTxns f.base (pieces_in q.stream) q.txns) super k.txns)) h.txns in
      let kept : q.kept ≡ p.kept = kept_one (sum_found (fletch 0) (data_begin p.super) image) p.super.base none_live (map txn_of p.txns) q.kept p.kept
      (subst (λ (w : List (ℕ × List PlainItem)). IsKeptIn (fletch 0) (data_begin p.super) image p.super.base w q.kept) txns (subst (λ (f : Fields). IsKeptIn (fletch 0) (data_begin f) image f.base q.txns q.kept) super k.kept)) h.kept in
      λ i. record { slot = chosen.0 i; super = super i; objects = objects i; allocs = allocs i; stream = stream.0 i; next = stream.1 i; txns = txns i; kept = kept i }

  -- ---- what is not wrong

  module _ (items : List PlainItem) (are : StandInLevels (levels_of_parts p) items) (sound : IsSoundImage (judged_image size p items)) where
    same_points : (others : List PlainItem) → StandInLevels (levels_of_parts p) others → points_in items ≡ points_in others
    same_points others k = fun_ext (λ x. are.said x ∙ sym (k.said x))

    tree_too : (others : List PlainItem) → StandInLevels (levels_of_parts p) others → HasTree (judged_image size p others)
    tree_too others k =
        let e : points_in items ≡ points_in others = same_points others k in
        record {
          tree = subst (λ (m : Points). (blocks : ℕ → List ℕ) → (tree : Tree) × StandForTree m blocks tree) e sound.tree.tree;
          on_disk = subst (AreOnDisk p.super.ring size) e sound.tree.on_disk;
        }

    blocks_too : (others : List PlainItem) → StandInLevels (levels_of_parts p) others → HasTrueAllocations (judged_image size p others)
    blocks_too others k =
        let e : points_in items ≡ points_in others = same_points others k in
        record {
          allocated = subst AreAllocated e sound.blocks.allocated;
          apart = λ block entry at reserved. sound.blocks.apart block entry (ap (λ (m : Points). m (AtDeviceBlock block)) e ∙ at) reserved;
        }

    amiss_at : (q : ImageParts) → q ≡ p → (others : List PlainItem) → StandInLevels (levels_of_parts q) others → StandInLevels (levels_of_parts p) others
    amiss_at q e others k = subst (λ (r : ImageParts). StandInLevels (levels_of_parts r) others) e k

    pub still_holds : (e : FindFault) → IsFindFault size image e → MayStillHold e
    still_holds faults.NoSuper (inl few) = omega (arith, few, h.super.slots)
    still_holds faults.NoSuper (inr none) = none.0 p.slot p.super h.super.chosen.is_super
    still_holds (faults.Version v) k = k.1.0 p.slot p.super h.super.chosen.is_super
    still_holds (faults.DiskSize n) k =
        let same : k.2.1 ≡ p.super = (one_chosen image k.2.0 p.slot k.2.1 p.super k.2.2 h.super.chosen).1 in
        k.2.3 (ap (λ (f : Fields). f.blocks) same ∙ h.super.blocks)
    still_holds (faults.BadLayer b) k = no_bad_layer b k
    still_holds (faults.BadRecord i) k = no_bad_record i k
    still_holds (faults.BadTree s i) k =
        let same = same_parts k.parts k.image_is in
        let there = amiss_at k.parts same k.fails.items k.fails.items_are in
        none_bad (judged_image size p k.fails.items) (tree_too k.fails.items there) (node_of s i)
        (subst (λ (q : ImageParts). IsFirstFault (judged_image size q k.fails.items) (judged.BadTree s i)) same k.fails.first).amiss
    still_holds (faults.Unsound b) k =
        let same = same_parts k.parts k.image_is in
        let there = amiss_at k.parts same k.fails.items k.fails.items_are in
        none_unsound (judged_image size p k.fails.items) (blocks_too k.fails.items there) b
        (subst (λ (q : ImageParts). IsFirstFault (judged_image size q k.fails.items) (judged.Unsound b)) same k.fails.first).1.unsound
    still_holds (faults.Cramped n) k = tt
    still_holds faults.Device k = tt
    still_holds faults.OutOfMemory k = tt
