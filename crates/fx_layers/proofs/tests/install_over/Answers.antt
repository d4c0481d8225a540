use Rattle.std.proofs.Common.{rules, ◌≡◌, ◌-◌, length, ap, arith}
use Rattle.std.proofs.lemmas.List.{length-take-le}
use Rattle.fx_layers.proofs.tests.install_over.Goals as goal

pub install-requires-clause-objects : goal.install-requires-clause-objects
install-requires-clause-objects c =
    let old = c.reserve_layers.new.self.levels.objects in
    let one : length c.layers_of.result.objects ≡ 1 = search rules in
    let stay = length-take-le (length old - 2) old (omega arith) in
    omega (arith, one, stay, c.in_ok-reserve_layers.ensures.objects)

pub install-requires-clause-allocs : goal.install-requires-clause-allocs
install-requires-clause-allocs c =
    let old = c.reserve_layers.new.self.levels.allocs in
    let none : length c.layers_of.result.allocs ≡ 0 = ap length c.layers_of.ensures.allocs in
    let stay = length-take-le (length old - 2) old (omega arith) in
    omega (arith, none, stay, c.in_ok-reserve_layers.ensures.allocs)
