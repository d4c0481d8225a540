use Rattle.std.proofs.Common.{arith, refl, sym, subst, IsNone}
use Rattle.fx_alloc.specs.declared.uses.Use.TheVariants.{System}
use Rattle.fx_alloc.specs.Uses.{is_free}
use Rattle.fx_alloc.proofs.Positions.{none_pass}
use Rattle.fx_alloc.proofs.uses.next_free.Goals as goal

pub unreachable-requires : goal.unreachable-requires
unreachable-requires c = omega (arith, none_pass is_free c.args.uses.now System (c.first_free.ensures.none (subst (λ o. IsNone o) (sym c.in-None.is) refl)))
