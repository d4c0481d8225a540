use Rattle.std.proofs.Common.{rules}
use Rattle.fx_item.specs.Item.{items_of}
use Rattle.fx_verify.specs.Wrong.{holds_block, holds_pair}
use Rattle.fx_verify.proofs.Judging.{keeps_wrong}
use Rattle.fx_verify.proofs.keeping.follow.Goals as goal

pub returns : goal.returns
returns c =
    keeps_wrong (holds_pair c.args.found.now) (items_of c.args.items.now) c.in_ok-written.written.items (holds_block c.args.wrong.now) (holds_block c.remove_freed.new.wrong) (holds_block c.judge.new.wrong) c.remove_freed.ensures c.in_ok-written.ensures (search rules)
