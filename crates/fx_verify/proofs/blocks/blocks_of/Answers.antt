use Rattle.std.proofs.Common.{rules, ◌≡◌}
use Rattle.fx_verify.proofs.Sets.{blocks_are}
use Rattle.fx_verify.proofs.blocks.blocks_of.Goals as goal

pub returns-clause-each : goal.returns-clause-each
returns-clause-each c =
    let same : c.new.result ≡ c.loop-items.blocks.keys = search rules in
    blocks_are c.args.txns.now c.loop-items.items-index c.loop-items.blocks c.new.result c.loop-items-test.false same c.loop-items.invariant
