use Rattle.std.proofs.Common.{Some, subst}
use Rattle.fx_item.specs.Item.{item_of}
use Rattle.fx_item.specs.Place.{bound_of}
use Rattle.fx_item.specs.Meeting.{IsLeftPart, Meets}
use Rattle.fx_item.specs.declared.meeting.Meet.TheVariants as meets
use Rattle.fx_merge.proofs.Found.{apart_comes, leader_comes, left_comes, not_hidden}
use Rattle.fx_merge.proofs.choice.earlier.Goals as goal

pub returns-then-leads : goal.returns-then-leads
returns-then-leads g c = leader_comes (bound_of c.args.place.now) (item_of c.args.newer.now) (item_of c.args.older.now) c.requires.newer c.requires.older c.leads.result c.if-leads.true c.leads.ensures

pub returns-in-Ok-Apart : goal.returns-in-Ok-Apart
returns-in-Ok-Apart g c =
    let met : Meets (item_of c.args.newer.now) (item_of c.args.older.now) meets.Apart = subst (Meets (item_of c.args.newer.now) (item_of c.args.older.now)) c.in-Ok-Apart.field-0-is c.in-Ok-Apart.ensures in
    apart_comes (bound_of c.args.place.now) (item_of c.args.newer.now) (item_of c.args.older.now) c.requires.newer c.requires.older c.leads.result c.if-leads.false c.leads.ensures met

pub unreachable-requires : goal.unreachable-requires
unreachable-requires g c =
    let met : Meets (item_of c.args.newer.now) (item_of c.args.older.now) meets.Hidden = subst (Meets (item_of c.args.newer.now) (item_of c.args.older.now)) c.in-Ok-Hidden.field-0-is c.in-Ok-Hidden.ensures in
    not_hidden (bound_of c.args.place.now) (item_of c.args.newer.now) (item_of c.args.older.now) c.requires.newer c.requires.older c.leads.result c.if-leads.false c.leads.ensures met.0

pub unreachable-requires-in_default : goal.unreachable-requires-in_default
unreachable-requires-in_default g c =
    let met : Meets (item_of c.args.newer.now) (item_of c.args.older.now) (meets.Cut c.in-Ok-Cut.left c.in-Ok-Cut.field-0-1) =
    subst (Meets (item_of c.args.newer.now) (item_of c.args.older.now)) c.in-Ok-Cut.field-0-is c.in-Ok-Cut.ensures in
    not_hidden (bound_of c.args.place.now) (item_of c.args.newer.now) (item_of c.args.older.now) c.requires.newer c.requires.older c.leads.result c.if-leads.false c.leads.ensures
    (subst (IsLeftPart (item_of c.args.newer.now) (item_of c.args.older.now)) c.in_default.is met.0)

pub returns : goal.returns
returns g c =
    let met : Meets (item_of c.args.newer.now) (item_of c.args.older.now) (meets.Cut c.in-Ok-Cut.left c.in-Ok-Cut.field-0-1) =
    subst (Meets (item_of c.args.newer.now) (item_of c.args.older.now)) c.in-Ok-Cut.field-0-is c.in-Ok-Cut.ensures in
    let left : IsLeftPart (item_of c.args.newer.now) (item_of c.args.older.now) (Some c.in-Some.piece) =
    subst (IsLeftPart (item_of c.args.newer.now) (item_of c.args.older.now)) c.in-Some.is met.0 in
    left_comes (bound_of c.args.place.now) (item_of c.args.newer.now) (item_of c.args.older.now) c.requires.newer c.requires.older c.leads.result c.if-leads.false c.leads.ensures
    (item_of c.in-Some.piece) left.1 met.2
