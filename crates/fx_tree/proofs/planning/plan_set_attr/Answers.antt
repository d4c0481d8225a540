use Rattle.std.proofs.Common.{refl, ap, ◌∙◌}
use Rattle.fx_item.specs.Item.{item_of, items_of}
use Rattle.fx_item.specs.Overlay.{says}
use Rattle.fx_tree.specs.Plans.{OfSetAttr}
use Rattle.fx_tree.proofs.Exits.{set_missing, set_planned, set_stopped, some_path, text_item}
use Rattle.fx_tree.proofs.Made.{missing_met, stop_met}
use Rattle.fx_tree.proofs.planning.plan_set_attr.Goals as goal

pub returns-in-Stopped-clause-planned : goal.returns-in-Stopped-clause-planned
returns-in-Stopped-clause-planned g c = λ id store f t s. set_stopped t c.args.path.now c.args.name.now c.args.value.now c.in-Stopped.refusal
    (some_path c.args.path.now c.is_empty.result c.if-is_empty.false c.is_empty.ensures.1) (stop_met c.in-Stopped.refusal s c.in_ok-walk.ensures.met c.in-Stopped.is)

pub returns-in-Missing-clause-planned : goal.returns-in-Missing-clause-planned
returns-in-Missing-clause-planned g c = λ id store f t s. set_missing t c.args.path.now c.args.name.now c.args.value.now
    (some_path c.args.path.now c.is_empty.result c.if-is_empty.false c.is_empty.ensures.1) (missing_met s c.in_ok-walk.ensures.met c.in-Missing.is)

pub returns-clause-planned : goal.returns-clause-planned
returns-clause-planned g c = λ id store f t s. OfSetAttr c.args.path.now c.args.name.now c.args.value.now refl
    (set_planned s c.in_ok-walk.ensures.met c.in-Node.node c.in-Node.field-1 c.in-Node.is c.args.name.now c.args.value.now
    (says (items_of c.in_ok-items-in-Node.items)) (item_of c.in_ok-item-in-Node.item)
    (some_path c.args.path.now c.is_empty.result c.if-is_empty.false c.is_empty.ensures.1) (c.in_ok-item-in-Node.ensures ∙ ap (text_item c.in-Node.node c.args.name.now) (c.in_ok-text-in-Node.ensures.cases)) (ap says c.in_ok-items-in-Node.ensures))
