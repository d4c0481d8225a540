use Rattle.std.proofs.Common.{inl, refl}
use Rattle.fx_item.specs.Item.{items_of}
use Rattle.fx_item.specs.Overlay.{live_in, says}
use Rattle.fx_plain.specs.declared.kind.Kind.TheVariants.{Dir}
use Rattle.fx_tree.specs.Plans.{OfMkdir}
use Rattle.fx_tree.proofs.Made.{mkdir_stopped, mkdir_there, new_planned, node_met, stop_met}
use Rattle.fx_tree.proofs.planning.plan_mkdir.Goals as goal

pub returns-in-Node-clause-planned : goal.returns-in-Node-clause-planned
returns-in-Node-clause-planned g c = λ f t s. mkdir_there t c.args.path.now (node_met c.in-Node.field-0 c.in-Node.field-1 s c.in_ok-walk.ensures.met c.in-Node.is)

pub returns-in-Stopped-clause-planned : goal.returns-in-Stopped-clause-planned
returns-in-Stopped-clause-planned g c = λ f t s. mkdir_stopped t c.args.path.now c.in-Stopped.refusal (stop_met c.in-Stopped.refusal s c.in_ok-walk.ensures.met c.in-Stopped.is)

pub returns-clause-planned : goal.returns-clause-planned
returns-clause-planned g c = λ f t s. OfMkdir c.args.path.now refl (new_planned (live_in (g.L.Look.said c.args.look.now)) f t c.args.path.now c.in_ok-walk.walk.dirs c.in_ok-walk.walk.end Dir c.args.id c.args.store
    (says (items_of c.in_ok-items-in-Missing.items)) c.requires.few (inl refl) c.in_ok-walk.ensures.met c.in-Missing.is c.in_ok-items-in-Missing.ensures.made s)
