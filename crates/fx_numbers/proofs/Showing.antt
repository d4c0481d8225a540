-- What a snapshot shows.
use Rattle.std.proofs.Common.{◌≡◌, ℕ, ap, ◌∙◌}
use Rattle.fx_numbers.specs.Shots.{Shot}
use Rattle.fx_numbers.specs.State.{NumbersState, shot_now}
use Rattle.fx_numbers.specs.Inner.{AreNumbers, numbers_from}
use Rattle.fx_numbers.specs.declared.numbers.Numbers.TheInside.{Inside}

pub shot_is : (i : Inside) → AreNumbers i → (v : NumbersState) → numbers_from i ≡ v → (let w : Shot = record { point = i.number; levels = i.set.levels } in w) ≡ shot_now v
shot_is i inv v view = ap (λ (n : ℕ). let w : Shot = record { point = n; levels = i.set.levels } in w) inv.number ∙ ap shot_now view
