use Rattle.std.proofs.Common.{◌<◌, length, arith}
use Rattle.fx_alloc.proofs.UseLists.{All-step}
use Rattle.fx_alloc.proofs.PinLists.{in_set-step, in_set-end}
use Rattle.fx_alloc.proofs.pins.keep_chain.Goals as goal

pub bounds-links-block : goal.bounds-links-block
bounds-links-block c = (All-step (λ b. b < length c.args.links.now) c.args.links.now c.loop-left.block c.loop-left.left (omega arith) c.loop-left.invariant.below).0

pub loop-left-preserved : goal.loop-left-preserved
loop-left-preserved c = record {
  same = rw c.push_reserved.ensures.items (in_set-step c.args.set c.args.links.now c.loop-left.block c.loop-left.left c.loop-left.kept.items _ (omega arith) c.loop-left.invariant.same);
  room = omega arith;
  below = (All-step (λ b. b < length c.args.links.now) c.args.links.now c.loop-left.block c.loop-left.left (omega arith) c.loop-left.invariant.below).1;
}

pub returns : goal.returns
returns c = in_set-end c.args.set c.args.links.now c.loop-left.block c.loop-left.left c.loop-left.kept.items _ (omega arith) c.loop-left.invariant.same
