use Rattle.std.proofs.Common.{◌<◌, length, arith, ◌∙◌, ap, List}
use Rattle.fx_alloc.specs.declared.uses.Use.{Use}
use Rattle.fx_alloc.specs.Layers.{pinned_use}
use Rattle.fx_alloc.proofs.Changes.{length-change_use}
use Rattle.fx_alloc.proofs.ChangeLoops.{change_kept-next, change_kept-done, kept_block-at}
use Rattle.fx_alloc.proofs.layers.pin_free.Goals as goal

pub pin_one-count-requires : goal.pin_one-count-requires
pin_one-count-requires c =
    omega (arith, kept_block-at (λ b. b < length c.args.uses.now) c.args.kept.now c.loop-each.each-index (record { block = 0; set = 0 }) c.requires.below (omega arith), c.loop-each.invariant.disk)

pub loop-each-preserved : goal.loop-each-preserved
loop-each-preserved c = record {
  same = rw c.pin_one-count.ensures.uses (change_kept-next pinned_use c.args.kept.now c.loop-each.each-index (record { block = 0; set = 0 }) c.loop-each.uses _ (omega arith) c.loop-each.invariant.same);
  counted = omega (arith, c.pin_one-count.ensures.count, c.loop-each.invariant.counted);
  disk = ap (λ (us : List Use). length us) c.pin_one-count.ensures.uses ∙ length-change_use pinned_use _ c.loop-each.uses ∙ c.loop-each.invariant.disk;
}

pub returns-clause-uses : goal.returns-clause-uses
returns-clause-uses c = change_kept-done pinned_use c.args.kept.now c.loop-each.each-index c.loop-each.uses _ (omega arith) c.loop-each.invariant.same
