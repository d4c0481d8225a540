use Rattle.std.proofs.Common.{map}
use Rattle.fx_disks.specs.Calls.{call_of}
use Rattle.fx_disks.specs.Left.{HoldsChoices}
use Rattle.fx_disks.proofs.left.left_blocks.Given as goal

abbrev pub invariant-loop-block : goal.invariant-loop-block
invariant-loop-block l = HoldsChoices l.entry (map call_of l.calls) l.tracks l.flushed l.chosen l.blocks.items l.block
