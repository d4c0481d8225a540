use Rattle.std.proofs.Common.{refl, ap}
use Rattle.fx_item.specs.Item.{item_of, items_of}
use Rattle.fx_item.specs.Overlay.{says}
use Rattle.fx_tree.specs.Plans.{OfDelAttr}
use Rattle.fx_tree.proofs.Exits.{some_path, unset_missing, unset_none, unset_planned, unset_stopped}
use Rattle.fx_tree.proofs.Made.{missing_met, stop_met}
use Rattle.fx_tree.proofs.planning.plan_del_attr.Goals as goal

pub returns-in-Stopped-clause-planned : goal.returns-in-Stopped-clause-planned
returns-in-Stopped-clause-planned g c = λ id store f t s. unset_stopped t c.args.path.now c.args.name.now c.in-Stopped.refusal
    (some_path c.args.path.now c.is_empty.result c.if-is_empty.false c.is_empty.ensures.1) (stop_met c.in-Stopped.refusal s c.in_ok-walk.ensures.met c.in-Stopped.is)

pub returns-in-Missing-clause-planned : goal.returns-in-Missing-clause-planned
returns-in-Missing-clause-planned g c = λ id store f t s. unset_missing t c.args.path.now c.args.name.now
    (some_path c.args.path.now c.is_empty.result c.if-is_empty.false c.is_empty.ensures.1) (missing_met s c.in_ok-walk.ensures.met c.in-Missing.is)

pub returns-then-not-branch-clause-planned : goal.returns-then-not-branch-clause-planned
returns-then-not-branch-clause-planned g c = λ id store f t s. unset_none s c.in_ok-walk.ensures.met c.in-Node.node c.in-Node.field-1 c.in-Node.is c.args.name.now
    c.in_ok-has_attribute-in-Node.field-0 (some_path c.args.path.now c.is_empty.result c.if-is_empty.false c.is_empty.ensures.1) c.if-not-branch.true c.in_ok-has_attribute-in-Node.ensures.found

pub returns-clause-planned : goal.returns-clause-planned
returns-clause-planned g c = λ id store f t s. OfDelAttr c.args.path.now c.args.name.now refl
    (unset_planned s c.in_ok-walk.ensures.met c.in-Node.node c.in-Node.field-1 c.in-Node.is c.args.name.now c.in_ok-has_attribute-in-Node.field-0
    (says (items_of c.in_ok-items-in-Node.items)) (item_of c.in_ok-item-in-Node.item)
    (some_path c.args.path.now c.is_empty.result c.if-is_empty.false c.is_empty.ensures.1) c.if-not-branch.false c.in_ok-has_attribute-in-Node.ensures.found c.in_ok-item-in-Node.ensures (ap says c.in_ok-items-in-Node.ensures))
