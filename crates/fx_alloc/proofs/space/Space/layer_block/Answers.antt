use Rattle.std.proofs.Common.{refl, ◌≡◌, ◌<◌, List, arith, sym, subst, count_by}
use Rattle.fx_alloc.specs.declared.uses.Use.{Use}
use Rattle.fx_alloc.specs.declared.uses.Use.TheVariants.{Free, Laid}
use Rattle.fx_alloc.specs.Uses.{is_free, use_at}
use Rattle.fx_alloc.specs.Space.{Space, left_aside, HasAside}
use Rattle.fx_alloc.proofs.SpaceLaid.{IsSpace-laid, aside_left}
use Rattle.fx_alloc.proofs.FitPins.{FitPins-same, SameHeld-set}
use Rattle.fx_alloc.proofs.space.Space.layer_block.Goals as goal

pub next_free-at-requires : goal.next_free-at-requires
next_free-at-requires c =
    let left : 0 < left_aside c.self.inside.aside c.self.inside.laid.len = aside_left c.self.invariant.0 (subst (λ (s : Space). HasAside s) (sym c.self.view_is) c.requires) in
    let some : 0 < count_by is_free c.self.inside.uses.items = omega (arith, left, c.self.invariant.0.fits, c.self.invariant.0.counts.of_free) in
    subst (λ (us : List Use). 0 < count_by is_free us) (sym c.as_slice.ensures.value) some

pub invariant_of-self : goal.invariant_of-self
invariant_of-self c =
    let left : 0 < left_aside c.self.inside.aside c.self.inside.laid.len = aside_left c.self.invariant.0 (subst (λ (s : Space). HasAside s) (sym c.self.view_is) c.requires) in
    let free : use_at c.self.inside.uses.items c.next_free-at.result ≡ Free = subst (λ (us : List Use). use_at us c.next_free-at.result ≡ Free) c.as_slice.ensures.value c.next_free-at.ensures.free in
    (IsSpace-laid c.next_free-at.result c.self.invariant.0 left free, FitPins-same (SameHeld-set c.self.inside.uses.items c.next_free-at.result Free Laid free (λ x. cc) refl refl) c.self.invariant.1)
