use Rattle.std.proofs.Common.{arith, sym, ◌∙◌, ◌<◌, length}
use Rattle.fx_alloc.proofs.UseLists.{put_all-step, All-step, put_all-end}
use Rattle.fx_alloc.proofs.chain.turn.Goals as goal

pub bounds-uses-block : goal.bounds-uses-block
bounds-uses-block c =
    omega (arith, (All-step (λ b. b < length c.args.uses.now) c.args.links.now c.loop-left.block c.loop-left.left (omega arith) c.loop-left.invariant.below).0)

pub bounds-links-block : goal.bounds-links-block
bounds-links-block c =
    omega (arith, (All-step (λ b. b < length c.args.uses.now) c.args.links.now c.loop-left.block c.loop-left.left (omega arith) c.loop-left.invariant.below).0)

pub loop-left-preserved : goal.loop-left-preserved
loop-left-preserved c = record {
  same = put_all-step c.args.to c.args.links.now c.loop-left.block c.loop-left.left c.loop-left.uses (omega arith) ∙ c.loop-left.invariant.same;
  below = (All-step (λ b. b < length c.args.uses.now) c.args.links.now c.loop-left.block c.loop-left.left (omega arith) c.loop-left.invariant.below).1;
}

pub returns : goal.returns
returns c = sym (put_all-end c.args.to c.args.links.now c.loop-left.block c.loop-left.left c.loop-left.uses (omega arith)) ∙ c.loop-left.invariant.same
