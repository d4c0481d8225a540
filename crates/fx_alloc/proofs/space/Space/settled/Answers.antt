use Rattle.std.proofs.Common.{◌≡◌, ◌<◌, List, All, length, arith, refl, subst, sym, ap}
use Rattle.fx_alloc.specs.declared.uses.Use.{Use}
use Rattle.fx_alloc.specs.declared.uses.Use.TheVariants.{Free, Freed}
use Rattle.fx_alloc.specs.Uses.{put_all}
use Rattle.fx_alloc.specs.Space.{settled_blocks}
use Rattle.fx_alloc.specs.Inside.{waiting_blocks}
use Rattle.fx_alloc.proofs.UseLists.{All-within}
use Rattle.fx_alloc.proofs.SpaceKept.{refill}
use Rattle.fx_alloc.proofs.SpaceMoves.{IsSpace-settled, length-left, settled_used}
use Rattle.fx_alloc.proofs.FitPins.{FitPins-same, SameHeld-put_all}
use Rattle.fx_alloc.proofs.space.Space.settled.Goals as goal

pub settle-count-requires-clause-below : goal.settle-count-requires-clause-below
settle-count-requires-clause-below c =
    subst (λ (us : List Use). All (λ b. b < length us) (waiting_blocks c.self.inside.waiting.items)) (sym c.as_mut_slice.ensures.value)
    (All-within Freed c.self.inside.uses.items (waiting_blocks c.self.inside.waiting.items) (λ x. cc) c.self.invariant.0.of_freed)

pub overflow_add-self : goal.overflow_add-self
overflow_add-self c = omega (arith, c.settle-count.ensures.count, length-left c.args.number c.self.inside.waiting.items, c.self.invariant.0.counts.of_all, c.self.invariant.0.small)

pub invariant_of-self : goal.invariant_of-self
invariant_of-self c =
    let uses : c.settle-count.new.uses ≡ put_all Free (settled_blocks c.args.number c.self.inside.waiting.items) c.self.inside.uses.items = subst (λ (us : List Use). c.settle-count.new.uses ≡ put_all Free (settled_blocks c.args.number c.self.inside.waiting.items) us) c.as_mut_slice.ensures.value c.settle-count.ensures.uses in
    rw (refill c.self.inside.uses.len c.settle-count.new.uses c.self.inside.uses.items (omega (arith, c.settle-count.auto.uses, c.as_mut_slice.ensures.len)), uses, c.settle-count.ensures.count, c.settle-count.ensures.waiting)
    (IsSpace-settled c.args.number c.self.invariant.0, FitPins-same (SameHeld-put_all Freed Free (settled_blocks c.args.number c.self.inside.waiting.items) c.self.inside.uses.items (settled_used c.args.number c.self.inside.waiting.items c.self.invariant.0.of_freed) (λ x. cc) refl refl) c.self.invariant.1)

pub returns : goal.returns
returns c =
    let uses : c.settle-count.new.uses ≡ put_all Free (settled_blocks c.args.number c.self.inside.waiting.items) c.self.inside.uses.items = subst (λ (us : List Use). c.settle-count.new.uses ≡ put_all Free (settled_blocks c.args.number c.self.inside.waiting.items) us) c.as_mut_slice.ensures.value c.settle-count.ensures.uses in
    record {
      settled = rw (← c.self.view_is, refill c.self.inside.uses.len c.settle-count.new.uses c.self.inside.uses.items (omega (arith, c.settle-count.auto.uses, c.as_mut_slice.ensures.len)), uses, c.settle-count.ensures.waiting) refl;
      room = rw (← c.self.view_is) (omega (arith, c.settle-count.ensures.capacity, length-left c.args.number c.self.inside.waiting.items, ap (λ ws. length ws) c.settle-count.ensures.waiting, c.self.inside.waiting.ok, c.settle-count.new.waiting.ok));
    }
