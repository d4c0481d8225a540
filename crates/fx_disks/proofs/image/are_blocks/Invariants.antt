use Rattle.std.proofs.Common.{ℕ, ◌<◌, get_or, []}
use Rattle.fx_disk.specs.Record.{IsBlock}
use Rattle.fx_disks.proofs.image.are_blocks.Given as goal

abbrev pub invariant-loop-block : goal.invariant-loop-block
invariant-loop-block l = (b : ℕ) → b < l.block-index → IsBlock (get_or l.blocks b [])
