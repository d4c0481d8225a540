use Rattle.std.proofs.Common.{◌-◌, refl}
use Rattle.std.specs.Int.Count.{count_leading_zeros}
use Rattle.fx_store.proofs.PoolOrder.{pool-for, ring-order}
use Rattle.fx_store.proofs.opening.pool_for.Goals as goal

pub new-requires : goal.new-requires
new-requires c = (ring-order c.args.ring (count_leading_zeros 32 c.args.ring) c.requires refl).1

pub returns : goal.returns
returns c =
    let zeros = count_leading_zeros 32 c.args.ring in
    pool-for c.args.ring (32 - zeros) (ring-order c.args.ring zeros c.requires refl).2 c.new.result c.new.ensures.whole c.new.ensures.sound
