use Rattle.std.proofs.Common.{subst}
use Rattle.fx_item.specs.Item.{item_of}
use Rattle.fx_merge.specs.Merge.{IsRemainder}
use Rattle.fx_merge.proofs.Onward.{part_trims}
use Rattle.fx_merge.proofs.merge.trimmed.Goals as goal

pub returns-in-Ok-Some : goal.returns-in-Ok-Some
returns-in-Ok-Some g c = part_trims (item_of c.args.last.now) (item_of c.args.item) c.requires.last c.requires.reaches c.in-Ok-Some.part
    (subst (IsRemainder (item_of c.args.last.now) (item_of c.args.item)) c.in-Ok-Some.field-0-is c.in-Ok-Some.ensures)
