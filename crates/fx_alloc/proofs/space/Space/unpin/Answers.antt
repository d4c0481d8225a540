use Rattle.std.proofs.Common.{◌≡◌, ℕ, ◌+◌, List, length, count_by, IsSome, refl, sym, ap, subst, arith}
use Rattle.fx_alloc.specs.declared.uses.Use.{Use}
use Rattle.fx_alloc.specs.Uses.{is_free, use_at}
use Rattle.fx_alloc.specs.Space.{Space, HasPin}
use Rattle.fx_alloc.specs.Pins.{is_kept, pin_at}
use Rattle.fx_alloc.specs.Layers.{unpinned_use}
use Rattle.fx_alloc.proofs.SpaceKept.{refill}
use Rattle.fx_alloc.proofs.FitPins.{FitPins-ended}
use Rattle.fx_alloc.proofs.SpaceSwitched.{IsSpace-unpinned, pinned-net}
use Rattle.fx_alloc.proofs.space.Space.unpin.Goals as goal

pub overflow_sub-self : goal.overflow_sub-self
overflow_sub-self c =
    let h : (b : ℕ) → use_at c.end_pin-freed.new.uses b ≡ unpinned_use (is_kept c.end_pin-freed.new.pins.kept b) (use_at c.self.inside.uses.items b) =
    subst (λ (us : List Use). (b : ℕ) → use_at c.end_pin-freed.new.uses b ≡ unpinned_use (is_kept c.end_pin-freed.new.pins.kept b) (use_at us b)) c.as_mut_slice-uses.ensures.value c.end_pin-freed.ensures.uses in
    let disk : length c.end_pin-freed.new.uses ≡ length c.self.inside.uses.items = omega (arith, c.end_pin-freed.auto.uses, ap (λ (us : List Use). length us) c.as_mut_slice-uses.ensures.value) in
    let freed : count_by is_free c.end_pin-freed.new.uses ≡ count_by is_free c.self.inside.uses.items + c.end_pin-freed.result =
    subst (λ (us : List Use). count_by is_free c.end_pin-freed.new.uses ≡ count_by is_free us + c.end_pin-freed.result) c.as_mut_slice-uses.ensures.value c.end_pin-freed.ensures.count in
    omega (arith, pinned-net c.end_pin-freed.new.pins.kept c.end_pin-freed.new.uses c.end_pin-freed.result c.self.invariant.0 h disk freed)

pub invariant_of-self : goal.invariant_of-self
invariant_of-self c =
    let h : (b : ℕ) → use_at c.end_pin-freed.new.uses b ≡ unpinned_use (is_kept c.end_pin-freed.new.pins.kept b) (use_at c.self.inside.uses.items b) =
    subst (λ (us : List Use). (b : ℕ) → use_at c.end_pin-freed.new.uses b ≡ unpinned_use (is_kept c.end_pin-freed.new.pins.kept b) (use_at us b)) c.as_mut_slice-uses.ensures.value c.end_pin-freed.ensures.uses in
    let disk : length c.end_pin-freed.new.uses ≡ length c.self.inside.uses.items = omega (arith, c.end_pin-freed.auto.uses, ap (λ (us : List Use). length us) c.as_mut_slice-uses.ensures.value) in
    let freed : count_by is_free c.end_pin-freed.new.uses ≡ count_by is_free c.self.inside.uses.items + c.end_pin-freed.result =
    subst (λ (us : List Use). count_by is_free c.end_pin-freed.new.uses ≡ count_by is_free us + c.end_pin-freed.result) c.as_mut_slice-uses.ensures.value c.end_pin-freed.ensures.count in
    let some : IsSome (pin_at c.self.inside.pins.pins c.args.pin) = subst (λ (s : Space). HasPin s c.args.pin) (sym c.self.view_is) c.requires in
    rw (refill c.self.inside.uses.len c.end_pin-freed.new.uses c.self.inside.uses.items (omega (arith, c.end_pin-freed.auto.uses, c.as_mut_slice-uses.ensures.len))) (
      IsSpace-unpinned c.end_pin-freed.new.pins.kept c.end_pin-freed.new.uses c.end_pin-freed.result c.self.invariant.0 h disk freed,
      FitPins-ended c.self.inside.uses.items c.end_pin-freed.new.uses c.self.inside.pins c.end_pin-freed.new.pins c.args.pin c.self.invariant.1 some c.end_pin-freed.ensures.pins h,
    )

pub returns : goal.returns
returns c =
    let h : (b : ℕ) → use_at c.end_pin-freed.new.uses b ≡ unpinned_use (is_kept c.end_pin-freed.new.pins.kept b) (use_at c.self.inside.uses.items b) =
    subst (λ (us : List Use). (b : ℕ) → use_at c.end_pin-freed.new.uses b ≡ unpinned_use (is_kept c.end_pin-freed.new.pins.kept b) (use_at us b)) c.as_mut_slice-uses.ensures.value c.end_pin-freed.ensures.uses in
    let disk : length c.end_pin-freed.new.uses ≡ length c.self.inside.uses.items = omega (arith, c.end_pin-freed.auto.uses, ap (λ (us : List Use). length us) c.as_mut_slice-uses.ensures.value) in
    let freed : count_by is_free c.end_pin-freed.new.uses ≡ count_by is_free c.self.inside.uses.items + c.end_pin-freed.result =
    subst (λ (us : List Use). count_by is_free c.end_pin-freed.new.uses ≡ count_by is_free us + c.end_pin-freed.result) c.as_mut_slice-uses.ensures.value c.end_pin-freed.ensures.count in
    rw (
      ← c.self.view_is,
      refill c.self.inside.uses.len c.end_pin-freed.new.uses c.self.inside.uses.items (omega (arith, c.end_pin-freed.auto.uses, c.as_mut_slice-uses.ensures.len)),
    )
    (record { pins = c.end_pin-freed.ensures.pins; uses = h; disk = disk; others = refl })
