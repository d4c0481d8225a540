use Rattle.std.proofs.Common.{rules}
use Rattle.fx_verify.specs.Wrong.{holds_pair}
use Rattle.fx_verify.proofs.Found.{found_more}
use Rattle.fx_verify.proofs.wrong.set_of.Goals as goal

pub loop-pair-preserved : goal.loop-pair-preserved
loop-pair-preserved c =
    found_more c.args.found.now c.loop-pair.pair-index _ (holds_pair c.loop-pair.set) (holds_pair c.insert.new.self) (search rules) (search rules) c.loop-pair.invariant (λ q. c.in_ok-insert.ensures.updates.0 q)
