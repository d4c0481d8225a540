use Rattle.std.proofs.Common.{◌≡◌, ℕ, ◌+◌, ◌<◌, ◌≤◌, All, List, length, map, count_by, refl, sym, ◌∙◌, subst, arith}
use Rattle.fx_alloc.specs.declared.uses.Use.{Use}
use Rattle.fx_alloc.specs.declared.uses.Use.TheVariants.{Free, Laid}
use Rattle.fx_alloc.specs.Uses.{is_free, is_laid, put_all, blocks_from}
use Rattle.fx_alloc.specs.Space.{Space, undrawn, bound_with, no_need, CanSetAside, unlaid}
use Rattle.fx_alloc.proofs.UseLists.{All-within, length-blocks_from}
use Rattle.fx_alloc.proofs.SpaceKept.{refill}
use Rattle.fx_alloc.proofs.SpaceLaid.{put_all-unlaid, IsSpace-set_aside}
use Rattle.fx_alloc.proofs.FitPins.{FitPins-same, SameHeld-unlaid}
use Rattle.fx_alloc.proofs.space.Space.aside.Goals as goal

pub turn-requires-clause-uses : goal.turn-requires-clause-uses
turn-requires-clause-uses c =
    subst (λ (ls : List ℕ). All (λ b. b < length c.as_mut_slice.result.now) (blocks_from ls c.self.inside.laid.head c.self.inside.laid.len)) (sym c.as_slice.ensures.value)
    (subst (λ (us : List Use). All (λ b. b < length us) (blocks_from c.self.inside.links.items c.self.inside.laid.head c.self.inside.laid.len)) (sym c.as_mut_slice.ensures.value)
    (All-within Laid c.self.inside.uses.items (blocks_from c.self.inside.links.items c.self.inside.laid.head c.self.inside.laid.len) (λ x. cc) c.self.invariant.0.of_laid))

pub invariant_of-self : goal.invariant_of-self
invariant_of-self c =
    let put : c.turn.new.uses ≡ put_all Free (blocks_from c.self.inside.links.items c.self.inside.laid.head c.self.inside.laid.len) c.self.inside.uses.items =
    subst (λ (us : List Use). c.turn.new.uses ≡ put_all Free (blocks_from c.self.inside.links.items c.self.inside.laid.head c.self.inside.laid.len) us) c.as_mut_slice.ensures.value
    (subst (λ (ls : List ℕ). c.turn.new.uses ≡ put_all Free (blocks_from ls c.self.inside.laid.head c.self.inside.laid.len) c.as_mut_slice.result.now) c.as_slice.ensures.value c.turn.ensures) in
    let uses : c.turn.new.uses ≡ map unlaid c.self.inside.uses.items =
    put ∙ put_all-unlaid (blocks_from c.self.inside.links.items c.self.inside.laid.head c.self.inside.laid.len) c.self.inside.uses.items c.self.invariant.0.of_laid
    (c.self.invariant.0.counts.of_laid ∙ sym (length-blocks_from c.self.inside.links.items c.self.inside.laid.head c.self.inside.laid.len)) in
    let can : undrawn c.self.inside.holders.items + c.in-Some.bound ≤ count_by is_free c.self.inside.uses.items + count_by is_laid c.self.inside.uses.items =
    subst (λ (n : ℕ). undrawn c.self.inside.holders.items + n ≤ count_by is_free c.self.inside.uses.items + count_by is_laid c.self.inside.uses.items)
    (sym (subst (λ (s : Space). c.in-Some.bound ≡ bound_with s no_need) (sym c.self.view_is) c.in-Some.ensures.some.0))
    (subst (λ (s : Space). CanSetAside s) (sym c.self.view_is) c.in-Some.ensures.some.1) in
    rw (refill c.self.inside.uses.len c.turn.new.uses c.self.inside.uses.items (omega (arith, c.turn.auto.uses, c.as_mut_slice.ensures.len)), uses)
    (IsSpace-set_aside c.in-Some.bound c.self.invariant.0 (omega (arith, can, c.self.invariant.0.counts.of_free, c.self.invariant.0.counts.of_laid)), FitPins-same (SameHeld-unlaid c.self.inside.uses.items) c.self.invariant.1)

pub returns-clause-aside : goal.returns-clause-aside
returns-clause-aside c =
    let put : c.turn.new.uses ≡ put_all Free (blocks_from c.self.inside.links.items c.self.inside.laid.head c.self.inside.laid.len) c.self.inside.uses.items =
    subst (λ (us : List Use). c.turn.new.uses ≡ put_all Free (blocks_from c.self.inside.links.items c.self.inside.laid.head c.self.inside.laid.len) us) c.as_mut_slice.ensures.value
    (subst (λ (ls : List ℕ). c.turn.new.uses ≡ put_all Free (blocks_from ls c.self.inside.laid.head c.self.inside.laid.len) c.as_mut_slice.result.now) c.as_slice.ensures.value c.turn.ensures) in
    let uses : c.turn.new.uses ≡ map unlaid c.self.inside.uses.items =
    put ∙ put_all-unlaid (blocks_from c.self.inside.links.items c.self.inside.laid.head c.self.inside.laid.len) c.self.inside.uses.items c.self.invariant.0.of_laid
    (c.self.invariant.0.counts.of_laid ∙ sym (length-blocks_from c.self.inside.links.items c.self.inside.laid.head c.self.inside.laid.len)) in
    rw (
      ← c.self.view_is,
      refill c.self.inside.uses.len c.turn.new.uses c.self.inside.uses.items (omega (arith, c.turn.auto.uses, c.as_mut_slice.ensures.len)),
      uses,
      subst (λ (s : Space). c.in-Some.bound ≡ bound_with s no_need) (sym c.self.view_is) c.in-Some.ensures.some.0,
    ) refl
