use Rattle.std.proofs.Common.{rules, sym}
use Rattle.fx_item.specs.Item.{items_of}
use Rattle.fx_verify.specs.Wrong.{holds_block}
use Rattle.fx_verify.proofs.Sets.{block_more, blocks_end, or_false}
use Rattle.fx_verify.proofs.blocks.add_written.Goals as goal

pub loop-block-init : goal.loop-block-init
loop-block-init c = λ b. sym (or_false (holds_block c.args.blocks.now b))

pub loop-block-preserved : goal.loop-block-preserved
loop-block-preserved c =
    block_more c.deref-block-items.result.now c.loop-block.block-index (holds_block c.args.blocks.now) (holds_block c.loop-block.blocks) (holds_block c.insert.new.self) (search rules) c.loop-block.invariant
    (λ b. c.in_ok-insert.ensures.updates.0 b)

pub returns : goal.returns
returns c =
    blocks_end (items_of c.args.items.now) c.in_ok-pairs.pairs.items c.deref-block-items.result.now c.loop-block.block-index (holds_block c.args.blocks.now) (holds_block c.loop-block.blocks) c.in_ok-pairs.ensures c.deref-block-items.ensures.value c.loop-block-test.false c.loop-block.invariant
