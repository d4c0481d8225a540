use Rattle.std.proofs.Common.{◌≡◌, sym, subst, refl}
use Rattle.fx_alloc.specs.declared.uses.Use.TheVariants.{Live, Freed}
use Rattle.fx_alloc.specs.Uses.{use_at}
use Rattle.fx_alloc.specs.Space.{Space, IsLatest}
use Rattle.fx_alloc.proofs.SpaceMoves.{IsSpace-freed}
use Rattle.fx_alloc.proofs.FitPins.{FitPins-same, SameHeld-set}
use Rattle.fx_alloc.proofs.space.Space.freed.Goals as goal

pub invariant_of-self : goal.invariant_of-self
invariant_of-self c =
    let live : use_at c.self.inside.uses.items c.args.block ≡ Live = subst (λ (s : Space). use_at s.uses c.args.block ≡ Live) (sym c.self.view_is) c.requires.live in
    rw c.push_back_reserved.ensures.items (
      IsSpace-freed c.args.block (record { block = c.args.block; number = c.args.number }) c.self.invariant.0 refl live
          (subst (λ (s : Space). IsLatest c.args.number s.waiting) (sym c.self.view_is) c.requires.latest),
      FitPins-same (SameHeld-set c.self.inside.uses.items c.args.block Live Freed live (λ x. cc) refl refl) c.self.invariant.1,
    )
