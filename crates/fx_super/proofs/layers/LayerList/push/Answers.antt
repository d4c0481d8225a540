use Rattle.std.proofs.Common.{◌≡◌, ◌<◌, length, take, ap, arith}
use Rattle.fx_super.specs.Layers.{length-used}
use Rattle.fx_super.proofs.Lists.{pushed_is_padded}
use Rattle.fx_super.proofs.layers.LayerList.push.Goals as goal

pub invariant_of-self : goal.invariant_of-self
invariant_of-self c =
    let list : length (take c.self.inside.count c.self.inside.firsts) ≡ length c.args.self.now = ap length c.self.view_is in
    let used = length-used c.self.inside.firsts c.self.inside.count c.self.invariant in
    let room : c.self.inside.count < 32 = omega (arith, list, used) in
    pushed_is_padded c.self.inside.firsts c.self.inside.count c.args.block room c.self.invariant
