-- The layers of the superblocks of a log, by the uses of blocks.
use Rattle.std.specs.Prelude.{◌≡◌}
use Rattle.fx_disk.specs.Record.{DiskRecord}
use Rattle.fx_item.specs.Overlay.{Point}
use Rattle.fx_log.specs.Chosen.{layers_of}
use Rattle.fx_supers.specs.Supers.{SuperCut}
use Rattle.fx_supers.specs.SessionLog.{SessionLog}
use Rattle.fx_uses.specs.Layers.{Reader, IsNamed}
use Rattle.fx_cuts.specs.Joined.{JoinedState, points_at}
use Rattle.fx_shown.specs.LogTxns.{IsSuperIn}
use Rattle.fx_layered.specs.Layers.{LayersRead, AreNamedIn, all_layers, layer_sense, places_in, points_of}

-- Someone reads the layers that the superblock names, from blocks of his use, and they say what stands at
-- its base.
pub record HasNamedLayers (s : JoinedState) (log : SessionLog) (r : DiskRecord) (cut : SuperCut)
    : Type 0 where
  pub reader : Reader
  pub said : LayersRead
  pub are : AreNamedIn cut.super said
  pub named : IsNamed (layer_sense log.head.super.ring log.head.super.blocks) s.blocks r reader
      cut.super.base (layers_of cut.super) (places_in (all_layers said)) said
  pub points_are : (p : Point) → points_of said p ≡ points_at s cut.super.base p

-- The current superblock has, and the one that is coming.
abbrev pub HaveNamedLayers : JoinedState → SessionLog → DiskRecord → Type 0
HaveNamedLayers s log r = (cut : SuperCut) → IsSuperIn log.supers cut → HasNamedLayers s log r cut
