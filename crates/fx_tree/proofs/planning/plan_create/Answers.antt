use Rattle.std.proofs.Common.{inr, refl, arith}
use Rattle.fx_item.specs.Item.{items_of}
use Rattle.fx_item.specs.Overlay.{live_in, says}
use Rattle.fx_plain.specs.declared.kind.Kind.TheVariants.{File}
use Rattle.fx_tree.specs.Plans.{OfCreate}
use Rattle.fx_tree.proofs.Made.{create_stopped, create_there, new_planned, node_met, stop_met}
use Rattle.fx_tree.proofs.planning.plan_create.Goals as goal

pub returns-in-Node-clause-planned : goal.returns-in-Node-clause-planned
returns-in-Node-clause-planned g c = λ f t s. create_there t c.args.path.now (omega (arith, c.if-len-lt2.false, c.len.ensures)) (node_met c.in-Node.field-0 c.in-Node.field-1 s c.in_ok-walk.ensures.met c.in-Node.is)

pub returns-in-Stopped-clause-planned : goal.returns-in-Stopped-clause-planned
returns-in-Stopped-clause-planned g c = λ f t s. create_stopped t c.args.path.now c.in-Stopped.refusal (omega (arith, c.if-len-lt2.false, c.len.ensures)) (stop_met c.in-Stopped.refusal s c.in_ok-walk.ensures.met c.in-Stopped.is)

pub returns-clause-planned : goal.returns-clause-planned
returns-clause-planned g c = λ f t s. OfCreate c.args.path.now refl (new_planned (live_in (g.L.Look.said c.args.look.now)) f t c.args.path.now c.in_ok-walk.walk.dirs c.in_ok-walk.walk.end File c.args.id c.args.store
    (says (items_of c.in_ok-items-in-Missing.items)) c.requires.few (inr (omega (arith, c.if-len-lt2.false, c.len.ensures))) c.in_ok-walk.ensures.met c.in-Missing.is c.in_ok-items-in-Missing.ensures.made s)
