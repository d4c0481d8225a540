use Rattle.std.proofs.Common.{arith}
use Rattle.std.proofs.lemmas.List.{length-take}
use Rattle.fx_disks.proofs.left.half_of.Goals as goal

pub slice_bounds-copy_from_slice-end : goal.slice_bounds-copy_from_slice-end
slice_bounds-copy_from_slice-end c = omega (arith, length-take 2048 c.args.settled.now, c.told-settled)

pub copy_from_slice-requires : goal.copy_from_slice-requires
copy_from_slice-requires c = omega (arith, length-take 2048 c.args.settled.now, c.told-settled, length-take 2048 c.args.written.now, c.told-written)
