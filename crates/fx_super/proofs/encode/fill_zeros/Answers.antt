use Rattle.std.proofs.Common.{rules, ◌≡◌, ℕ, length, replicate, refl, ap, ◌∙◌}
use Rattle.fx_super.specs.Super.{super_padding}
use Rattle.fx_super.proofs.encode.fill_zeros.Goals as goal

padding_is : replicate 3744 0 ≡ super_padding
unfolding super_padding
padding_is = refl

pub returns : goal.returns
returns c =
    let filled : c.fill.new.self ≡ replicate (length c.args.into.now) 0 = search rules in
    filled ∙ ap (λ (n : ℕ). replicate n 0) c.requires ∙ padding_is
