use Rattle.std.proofs.Common.{◌≡◌, ◌<◌, length, get_or, refl, arith}
use Rattle.fx_alloc.specs.declared.uses.Use.TheVariants.{System, Free, Layer}
use Rattle.fx_alloc.proofs.UseLists.{put_all-next, put_all-done, AreUsed-at, AreUsed-next, AreUsed-head, AreUsed-zero, within}
use Rattle.fx_alloc.proofs.chain.chain_up.Goals as goal

pub loop-block-init : goal.loop-block-init
loop-block-init c = record { same = refl; free = c.requires.free; chained = AreUsed-zero Layer c.args.uses.now c.args.links.now 0; counted = refl }

pub bounds-uses-at : goal.bounds-uses-at
bounds-uses-at c =
    let free : get_or c.loop-block.uses (get_or c.args.blocks.now c.loop-block.block-index 0) System ≡ Free = AreUsed-at Free c.loop-block.uses c.args.blocks.now c.loop-block.block-index (omega arith) c.loop-block.invariant.free in
    omega (arith, within c.loop-block.uses (get_or c.args.blocks.now c.loop-block.block-index 0) Free free (λ x. cc))

pub bounds-links-at : goal.bounds-links-at
bounds-links-at c =
    let free : get_or c.loop-block.uses (get_or c.args.blocks.now c.loop-block.block-index 0) System ≡ Free = AreUsed-at Free c.loop-block.uses c.args.blocks.now c.loop-block.block-index (omega arith) c.loop-block.invariant.free in
    omega (arith, within c.loop-block.uses (get_or c.args.blocks.now c.loop-block.block-index 0) Free free (λ x. cc), c.requires.links)

pub loop-block-preserved : goal.loop-block-preserved
loop-block-preserved c =
    let free : get_or c.loop-block.uses (get_or c.args.blocks.now c.loop-block.block-index 0) System ≡ Free = AreUsed-at Free c.loop-block.uses c.args.blocks.now c.loop-block.block-index (omega arith) c.loop-block.invariant.free in
    let on_disk : get_or c.args.blocks.now c.loop-block.block-index 0 < length c.loop-block.uses = within c.loop-block.uses (get_or c.args.blocks.now c.loop-block.block-index 0) Free free (λ x. cc) in
    record {
      same = put_all-next Layer c.args.blocks.now c.loop-block.block-index c.loop-block.uses _ (omega arith) c.loop-block.invariant.same;
      free = AreUsed-next Free Layer c.loop-block.uses c.args.blocks.now c.loop-block.block-index (omega arith) c.loop-block.invariant.free;
      chained = AreUsed-head Layer c.loop-block.uses c.loop-block.links (get_or c.args.blocks.now c.loop-block.block-index 0) c.loop-block.chain.head c.loop-block.chain.len on_disk (omega (arith, on_disk)) (λ x. cc) c.loop-block.invariant.chained;
      counted = omega arith;
    }

pub returns-clause-uses : goal.returns-clause-uses
returns-clause-uses c = put_all-done Layer c.args.blocks.now c.loop-block.block-index c.loop-block.uses _ (omega arith) c.loop-block.invariant.same
