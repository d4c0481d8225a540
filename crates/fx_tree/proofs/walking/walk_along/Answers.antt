use Rattle.fx_tree.proofs.LastSteps.{met}
use Rattle.fx_tree.proofs.walking.walk_along.Goals as goal

pub returns-clause-met : goal.returns-clause-met
returns-clause-met g c = met c.look_laws.ensures.map (g.L.Look.said c.args.look.now) c.args.path.now c.in_ok-walk.walk.dirs c.in_ok-walk.walk.end
    c.in_ok-walk.ensures.through c.in_ok-walk.ensures.end c.in_ok-walk.ensures.tree
