-- In each image left now the layers of a superblock lie where blocks are used for them.
use Rattle.std.proofs.Common.{ℕ, List, inl, inr, sym, subst}
use Rattle.fx_disk.specs.Record.{DiskRecord, LeftNow}
use Rattle.fx_log.specs.Chosen.{layers_of}
use Rattle.fx_supers.specs.Supers.{SuperCut}
use Rattle.fx_supers.specs.SessionLog.{IsCutOf, IsSessionLog, SessionLog}
use Rattle.fx_uses.specs.Uses.{CellsHold, image_block}
use Rattle.fx_kept.proofs.NamedImages.{named_image}
use Rattle.fx_cuts.specs.Joined.{JoinedState}
use Rattle.fx_shown.specs.LogTxns.{IsSuperIn, LayersSayNow}
use Rattle.fx_layered.specs.Layers.{LieIn, all_layers, layer_sense, places_in}
use Rattle.fx_layered.specs.Gathered.{layers_reading}
use Rattle.fx_layered.specs.NamedCuts.{HasNamedLayers, HaveNamedLayers}
use Rattle.fx_layered.proofs.InBlocks.{reads_named}

-- each superblock of the log has its ring and its size
pub cut_of : (log : SessionLog) → IsSessionLog log → (cut : SuperCut) → IsSuperIn log.supers cut → IsCutOf log.head log.tail.blocks log.tail.chain cut
cut_of log is cut (inl e) = subst (IsCutOf log.head log.tail.blocks log.tail.chain) (sym e) is.current
cut_of log is cut (inr e) = (is.coming cut e).0

pub lies_now : (sum : List ℕ → ℕ) (s : JoinedState) (log : SessionLog) (r : DiskRecord) → IsSessionLog log → CellsHold sum s.blocks r → (cut : SuperCut) → IsSuperIn log.supers cut → (h : HasNamedLayers s log r cut) → (image : List (List ℕ)) → LeftNow r image
    → LieIn cut.super.ring cut.super.blocks (image_block image) (layers_of cut.super) (places_in (all_layers h.said)) h.said
lies_now sum s log r is held cut one h image left =
    let of : IsCutOf log.head log.tail.blocks log.tail.chain cut = cut_of log is cut one in
    let lie : LieIn log.head.super.ring log.head.super.blocks (image_block image) (layers_of cut.super) (places_in (all_layers h.said)) h.said =
    named_image (layer_sense log.head.super.ring log.head.super.blocks) (reads_named log.head.super.ring log.head.super.blocks) sum s.blocks r image h.reader cut.super.base (layers_of cut.super) (places_in (all_layers h.said)) h.said held left h.named in
    subst (λ (n : ℕ). LieIn n cut.super.blocks (image_block image) (layers_of cut.super) (places_in (all_layers h.said)) h.said) (sym of.ring)
    (subst (λ (n : ℕ). LieIn log.head.super.ring n (image_block image) (layers_of cut.super) (places_in (all_layers h.said)) h.said) (sym of.blocks_are) lie)

pub named_now : (sum : List ℕ → ℕ) (first_data : ℕ) (s : JoinedState) (log : SessionLog) (r : DiskRecord) → IsSessionLog log → CellsHold sum s.blocks r → HaveNamedLayers s log r → LayersSayNow (layers_reading sum first_data) s log r
named_now sum first_data s log r is held have cut one image left chosen =
    let h : HasNamedLayers s log r cut = have cut one in
    record {
      said = h.said;
      named = h.are;
      lie = lies_now sum s log r is held cut one h image left;
      points_are = λ p. sym (h.points_are p);
    }
