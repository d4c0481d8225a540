use Rattle.std.proofs.Common.{subst}
use Rattle.fx_item.specs.Item.{item_of}
use Rattle.fx_item.specs.Meeting.{IsRightPart, Meets}
use Rattle.fx_merge.proofs.Onward.{behind_apart, not_past}
use Rattle.fx_merge.proofs.merge.behind.Goals as goal

pub returns-in-Ok-Apart : goal.returns-in-Ok-Apart
returns-in-Ok-Apart g c = behind_apart (item_of c.args.last.now) (item_of c.args.item.now) c.requires.last c.requires.reaches
    (subst (Meets (item_of c.args.last.now) (item_of c.args.item.now)) c.in-Ok-Apart.field-0-is c.in-Ok-Apart.ensures)

pub unreachable-requires : goal.unreachable-requires
unreachable-requires g c =
    let met = subst (Meets (item_of c.args.last.now) (item_of c.args.item.now)) c.in-Ok-Hidden.field-0-is c.in-Ok-Hidden.ensures in
    not_past (item_of c.args.last.now) (item_of c.args.item.now) c.requires.last c.requires.reaches met.1

pub unreachable-requires-in_default : goal.unreachable-requires-in_default
unreachable-requires-in_default g c =
    let met = subst (Meets (item_of c.args.last.now) (item_of c.args.item.now)) c.in-Ok-Cut.field-0-is c.in-Ok-Cut.ensures in
    not_past (item_of c.args.last.now) (item_of c.args.item.now) c.requires.last c.requires.reaches
    (subst (IsRightPart (item_of c.args.last.now) (item_of c.args.item.now)) c.in_default.is met.1)

pub returns : goal.returns
returns g c =
    let met = subst (Meets (item_of c.args.last.now) (item_of c.args.item.now)) c.in-Ok-Cut.field-0-is c.in-Ok-Cut.ensures in
    let right = subst (IsRightPart (item_of c.args.last.now) (item_of c.args.item.now)) c.in-Some.is met.1 in
    (met.3, right.1)
