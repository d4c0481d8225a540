use Rattle.std.proofs.Common.{refl}
use Rattle.fx_item.specs.Item.{items_of}
use Rattle.fx_item.specs.Overlay.{says}
use Rattle.fx_tree.specs.Plans.{OfRemove}
use Rattle.fx_tree.proofs.Exits.{burial_planned, remove_full, remove_missing, remove_stopped, some_path}
use Rattle.fx_tree.proofs.Made.{missing_met, stop_met}
use Rattle.fx_tree.proofs.planning.plan_remove.Goals as goal

pub returns-in-Stopped-clause-planned : goal.returns-in-Stopped-clause-planned
returns-in-Stopped-clause-planned g c = λ id store f t s. remove_stopped t c.args.path.now c.in-Stopped.refusal (some_path c.args.path.now c.is_empty.result c.if-is_empty.false c.is_empty.ensures.1)
    (stop_met c.in-Stopped.refusal s c.in_ok-walk.ensures.met c.in-Stopped.is)

pub returns-in-Missing-clause-planned : goal.returns-in-Missing-clause-planned
returns-in-Missing-clause-planned g c = λ id store f t s. remove_missing t c.args.path.now (some_path c.args.path.now c.is_empty.result c.if-is_empty.false c.is_empty.ensures.1)
    (missing_met s c.in_ok-walk.ensures.met c.in-Missing.is)

pub returns-then-branch-clause-planned : goal.returns-then-branch-clause-planned
returns-then-branch-clause-planned g c = λ id store f t s. remove_full s c.in_ok-walk.ensures.met c.in-Node.node c.in-Node.kind c.in-Node.is c.in_ok-is_full-in-Node.field-0 c.if-branch.true
    (some_path c.args.path.now c.is_empty.result c.if-is_empty.false c.is_empty.ensures.1) c.in_ok-is_full-in-Node.ensures.found

pub returns-clause-planned : goal.returns-clause-planned
returns-clause-planned g c = λ id store f t s. OfRemove c.args.path.now refl (burial_planned s c.in_ok-walk.ensures.met c.in-Node.node c.in-Node.kind c.in-Node.is c.in_ok-is_full-in-Node.field-0
    (says (items_of c.in_ok-items-in-Node.items)) c.if-branch.false
    (some_path c.args.path.now c.is_empty.result c.if-is_empty.false c.is_empty.ensures.1) c.in_ok-is_full-in-Node.ensures.found c.in_ok-items-in-Node.ensures.buried)
