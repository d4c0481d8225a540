-- What has the form of a superblock in an image, and which block of its ring stands in its stream.
use Rattle.std.specs.Prelude.{◌≡◌, ℕ, ◌<◌, List, length}
use Rattle.fx_super.specs.Super.{Fields}
use Rattle.fx_jblock.specs.declared.Start.{Start}
use Rattle.fx_journal.specs.declared.stream.StreamBlock.{StreamBlock}
use Rattle.fx_journal.specs.Stream.{IsRun, StandsAt, place_of}
use Rattle.fx_log.specs.Chance.{PassesForSuper}
use Rattle.fx_log.specs.Chosen.{ChoosesSuper, start_of}
use Rattle.fx_kept.specs.Chance.{BlockForms}

-- The block of the ring continues a run of fewer blocks than the ring has, from the start of the
-- superblock that is chosen, and has this epoch.
pub record StandsInStream (image : List (List ℕ)) (b epoch : ℕ) : Type 0 where
  pub super : Fields
  pub chosen : ChoosesSuper super image
  pub blocks : List StreamBlock
  pub place : Start
  pub run : IsRun image super.ring super.generation (start_of super) blocks place
  pub few : length blocks < super.ring
  pub block : StreamBlock
  pub stands : StandsAt image super.ring super.generation place block
  pub here : place_of super.ring place.sequence ≡ b
  pub epoch_is : block.epoch ≡ epoch

-- the forms of superblocks and of the journal's blocks
abbrev pub log_forms : BlockForms
log_forms = record { HasSuperForm = PassesForSuper; IsInStream = StandsInStream }
