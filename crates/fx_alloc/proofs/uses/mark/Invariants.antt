use Rattle.std.proofs.Common.{◌≡◌, drop}
use Rattle.fx_alloc.specs.Uses.{put_all}
use Rattle.fx_alloc.proofs.uses.mark.Given as goal

abbrev pub invariant-loop-block : goal.invariant-loop-block
invariant-loop-block l = put_all l.to (drop l.block-index l.blocks) l.uses ≡ put_all l.to l.blocks l.initial.uses
