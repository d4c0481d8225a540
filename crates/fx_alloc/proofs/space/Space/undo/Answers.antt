use Rattle.std.proofs.Common.{refl, ◌≡◌, List, map, arith, subst}
use Rattle.fx_alloc.specs.declared.uses.Use.{Use}
use Rattle.fx_alloc.specs.declared.uses.Use.TheVariants.{Free}
use Rattle.fx_alloc.specs.Space.{holder_at, turned}
use Rattle.fx_alloc.proofs.SpaceKept.{seat_facts, holder_read, refill}
use Rattle.fx_alloc.proofs.SpaceMoves.{IsSpace-undone}
use Rattle.fx_alloc.proofs.FitPins.{FitPins-same, SameHeld-turned}
use Rattle.fx_alloc.proofs.space.Space.undo.Goals as goal

pub invariant_of-self : goal.invariant_of-self
invariant_of-self c =
    let f = seat_facts _ _ _ _ _ c.as_slice.ensures.value c.find_seat.ensures c.in-Some.is c.self.invariant.0.seats.seats in
    let read : c.index-in-Some.result.now ≡ holder_at c.self.inside.holders.items c.in-Some.seat = holder_read _ _ _ c.index-in-Some.ensures f.1 c.self.invariant.0.seats.seats in
    let uses : c.release.new.uses ≡ map (turned c.in-Some.seat Free) c.self.inside.uses.items = subst (λ (us : List Use). c.release.new.uses ≡ map (turned c.in-Some.seat Free) us) c.as_mut_slice.ensures.value c.release.ensures in
    rw (refill c.self.inside.uses.len c.release.new.uses c.self.inside.uses.items (omega (arith, c.release.auto.uses, c.as_mut_slice.ensures.len)), uses, read)
    (IsSpace-undone c.in-Some.seat c.self.invariant.0 f.1, FitPins-same (SameHeld-turned c.in-Some.seat Free c.self.inside.uses.items refl refl) c.self.invariant.1)
