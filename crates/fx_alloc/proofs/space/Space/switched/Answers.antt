use Rattle.std.proofs.Common.{◌≡◌, ℕ, ◌+◌, ◌<◌, List, length, get_or, All, count_by, sym, ◌∙◌, ap, subst, arith, refl}
use Rattle.fx_alloc.specs.declared.uses.Use.{Use}
use Rattle.fx_alloc.specs.declared.uses.Use.TheVariants.{Free, Layer, Laid}
use Rattle.fx_alloc.specs.declared.pins.Kept.{Kept}
use Rattle.fx_alloc.specs.Uses.{is_free, use_at, put_all, blocks_from}
use Rattle.fx_alloc.specs.Space.{Space}
use Rattle.fx_alloc.specs.Pins.{kept_blocks}
use Rattle.fx_alloc.specs.Layers.{ChainsUp, change_all, pinned_use}
use Rattle.fx_alloc.proofs.UseLists.{All-within, within}
use Rattle.fx_alloc.proofs.SpaceKept.{refill}
use Rattle.fx_alloc.proofs.FitPins.{FitPins-switched}
use Rattle.fx_alloc.proofs.SpaceSwitched.{IsSpace-switched, switched-uses, switched-disk, kept-within, free-with_laid}
use Rattle.fx_alloc.proofs.space.Space.switched.Goals as goal

pub turn-requires-clause-uses : goal.turn-requires-clause-uses
turn-requires-clause-uses c =
    subst (λ (ls : List ℕ). All (λ b. b < length c.as_mut_slice-uses.result.now) (blocks_from ls c.self.inside.layers.head c.self.inside.layers.len)) (sym c.as_mut_slice-links.ensures.value)
    (λ k d l. omega (arith, All-within Layer c.self.inside.uses.items (blocks_from c.self.inside.links.items c.self.inside.layers.head c.self.inside.layers.len) (λ x. cc) c.self.invariant.0.of_layers k d l, ap (λ (us : List Use). length us) c.as_mut_slice-uses.ensures.value))

pub turn-requires-2-clause-uses : goal.turn-requires-2-clause-uses
turn-requires-2-clause-uses c =
    subst (λ (ls : List ℕ). All (λ b. b < length c.turn.new.uses) (blocks_from ls c.self.inside.laid.head c.self.inside.laid.len)) (sym c.as_mut_slice-links.ensures.value)
    (λ k d l. omega (arith, All-within Laid c.self.inside.uses.items (blocks_from c.self.inside.links.items c.self.inside.laid.head c.self.inside.laid.len) (λ x. cc) c.self.invariant.0.of_laid k d l, ap (λ (us : List Use). length us) c.as_mut_slice-uses.ensures.value, c.turn.auto.uses))

pub take_all_back-layers-requires-clause-below : goal.take_all_back-layers-requires-clause-below
take_all_back-layers-requires-clause-below c =
    let stays : All (λ b. use_at c.self.inside.uses.items b ≡ Layer) c.args.stay.now = subst (λ (s : Space). All (λ b. use_at s.uses b ≡ Layer) c.args.stay.now) (sym c.self.view_is) c.requires in
    λ k d l. omega (arith, within c.self.inside.uses.items (get_or c.args.stay.now k d) Layer (stays k d l) (λ x. cc), ap (λ (us : List Use). length us) c.as_mut_slice-uses.ensures.value, c.turn.auto.uses, c.turn-2.auto.uses)

pub take_all_back-layers-requires-clause-few : goal.take_all_back-layers-requires-clause-few
take_all_back-layers-requires-clause-few c =
    let one : c.turn.new.uses ≡ put_all Free (blocks_from c.self.inside.links.items c.self.inside.layers.head c.self.inside.layers.len) c.self.inside.uses.items =
    subst (λ (us : List Use). c.turn.new.uses ≡ put_all Free (blocks_from c.self.inside.links.items c.self.inside.layers.head c.self.inside.layers.len) us) c.as_mut_slice-uses.ensures.value
    (subst (λ (ls : List ℕ). c.turn.new.uses ≡ put_all Free (blocks_from ls c.self.inside.layers.head c.self.inside.layers.len) c.as_mut_slice-uses.result.now) c.as_mut_slice-links.ensures.value c.turn.ensures) in
    let two : c.turn-2.new.uses ≡ put_all Layer (blocks_from c.self.inside.links.items c.self.inside.laid.head c.self.inside.laid.len) c.turn.new.uses =
    subst (λ (ls : List ℕ). c.turn-2.new.uses ≡ put_all Layer (blocks_from ls c.self.inside.laid.head c.self.inside.laid.len) c.turn.new.uses) c.as_mut_slice-links.ensures.value c.turn-2.ensures in
    omega (
      arith,
      ap (λ (us : List Use). count_by is_free us) (two ∙ ap (λ (us : List Use). put_all Layer (blocks_from c.self.inside.links.items c.self.inside.laid.head c.self.inside.laid.len) us) one),
      free-with_laid c.self.invariant.0,
      c.self.invariant.0.counts.of_all,
      c.self.invariant.0.small,
    )

pub pin_free-pinned-requires-clause-below : goal.pin_free-pinned-requires-clause-below
pin_free-pinned-requires-clause-below c =
    subst (λ (ks : List Kept). All (λ b. b < length c.take_all_back-layers.new.uses) (kept_blocks ks)) (sym c.kept.ensures)
    (λ k d l. omega (arith, kept-within c.self.inside.uses.items c.self.inside.pins c.self.invariant.1 k d l, ap (λ (us : List Use). length us) c.as_mut_slice-uses.ensures.value, c.turn.auto.uses, c.turn-2.auto.uses, c.take_all_back-layers.auto.uses))

pub overflow_sub-self : goal.overflow_sub-self
overflow_sub-self c =
    let one : c.turn.new.uses ≡ put_all Free (blocks_from c.self.inside.links.items c.self.inside.layers.head c.self.inside.layers.len) c.self.inside.uses.items =
    subst (λ (us : List Use). c.turn.new.uses ≡ put_all Free (blocks_from c.self.inside.links.items c.self.inside.layers.head c.self.inside.layers.len) us) c.as_mut_slice-uses.ensures.value
    (subst (λ (ls : List ℕ). c.turn.new.uses ≡ put_all Free (blocks_from ls c.self.inside.layers.head c.self.inside.layers.len) c.as_mut_slice-uses.result.now) c.as_mut_slice-links.ensures.value c.turn.ensures) in
    let two : c.turn-2.new.uses ≡ put_all Layer (blocks_from c.self.inside.links.items c.self.inside.laid.head c.self.inside.laid.len) c.turn.new.uses =
    subst (λ (ls : List ℕ). c.turn-2.new.uses ≡ put_all Layer (blocks_from ls c.self.inside.laid.head c.self.inside.laid.len) c.turn.new.uses) c.as_mut_slice-links.ensures.value c.turn-2.ensures in
    let free : count_by is_free c.turn-2.new.uses ≡ c.self.inside.free + c.self.inside.layers.len =
    ap (λ (us : List Use). count_by is_free us) (two ∙ ap (λ (us : List Use). put_all Layer (blocks_from c.self.inside.links.items c.self.inside.laid.head c.self.inside.laid.len) us) one) ∙ free-with_laid c.self.invariant.0 in
    omega (arith, free, c.take_all_back-layers.ensures.chain.free)

pub overflow_sub-self-2 : goal.overflow_sub-self-2
overflow_sub-self-2 c =
    let one : c.turn.new.uses ≡ put_all Free (blocks_from c.self.inside.links.items c.self.inside.layers.head c.self.inside.layers.len) c.self.inside.uses.items =
    subst (λ (us : List Use). c.turn.new.uses ≡ put_all Free (blocks_from c.self.inside.links.items c.self.inside.layers.head c.self.inside.layers.len) us) c.as_mut_slice-uses.ensures.value
    (subst (λ (ls : List ℕ). c.turn.new.uses ≡ put_all Free (blocks_from ls c.self.inside.layers.head c.self.inside.layers.len) c.as_mut_slice-uses.result.now) c.as_mut_slice-links.ensures.value c.turn.ensures) in
    let two : c.turn-2.new.uses ≡ put_all Layer (blocks_from c.self.inside.links.items c.self.inside.laid.head c.self.inside.laid.len) c.turn.new.uses =
    subst (λ (ls : List ℕ). c.turn-2.new.uses ≡ put_all Layer (blocks_from ls c.self.inside.laid.head c.self.inside.laid.len) c.turn.new.uses) c.as_mut_slice-links.ensures.value c.turn-2.ensures in
    let free : count_by is_free c.turn-2.new.uses ≡ c.self.inside.free + c.self.inside.layers.len =
    ap (λ (us : List Use). count_by is_free us) (two ∙ ap (λ (us : List Use). put_all Layer (blocks_from c.self.inside.links.items c.self.inside.laid.head c.self.inside.laid.len) us) one) ∙ free-with_laid c.self.invariant.0 in
    omega (arith, free, c.take_all_back-layers.ensures.chain.free, c.pin_free-pinned.ensures.count)

pub overflow_add-self-3 : goal.overflow_add-self-3
overflow_add-self-3 c =
    let one : c.turn.new.uses ≡ put_all Free (blocks_from c.self.inside.links.items c.self.inside.layers.head c.self.inside.layers.len) c.self.inside.uses.items =
    subst (λ (us : List Use). c.turn.new.uses ≡ put_all Free (blocks_from c.self.inside.links.items c.self.inside.layers.head c.self.inside.layers.len) us) c.as_mut_slice-uses.ensures.value
    (subst (λ (ls : List ℕ). c.turn.new.uses ≡ put_all Free (blocks_from ls c.self.inside.layers.head c.self.inside.layers.len) c.as_mut_slice-uses.result.now) c.as_mut_slice-links.ensures.value c.turn.ensures) in
    let two : c.turn-2.new.uses ≡ put_all Layer (blocks_from c.self.inside.links.items c.self.inside.laid.head c.self.inside.laid.len) c.turn.new.uses =
    subst (λ (ls : List ℕ). c.turn-2.new.uses ≡ put_all Layer (blocks_from ls c.self.inside.laid.head c.self.inside.laid.len) c.turn.new.uses) c.as_mut_slice-links.ensures.value c.turn-2.ensures in
    let free : count_by is_free c.turn-2.new.uses ≡ c.self.inside.free + c.self.inside.layers.len =
    ap (λ (us : List Use). count_by is_free us) (two ∙ ap (λ (us : List Use). put_all Layer (blocks_from c.self.inside.links.items c.self.inside.laid.head c.self.inside.laid.len) us) one) ∙ free-with_laid c.self.invariant.0 in
    omega (arith, free, c.take_all_back-layers.ensures.chain.free, c.pin_free-pinned.ensures.count, c.self.invariant.0.counts.of_all, c.self.invariant.0.small)

pub invariant_of-self : goal.invariant_of-self
invariant_of-self c =
    let one : c.turn.new.uses ≡ put_all Free (blocks_from c.self.inside.links.items c.self.inside.layers.head c.self.inside.layers.len) c.self.inside.uses.items =
    subst (λ (us : List Use). c.turn.new.uses ≡ put_all Free (blocks_from c.self.inside.links.items c.self.inside.layers.head c.self.inside.layers.len) us) c.as_mut_slice-uses.ensures.value
    (subst (λ (ls : List ℕ). c.turn.new.uses ≡ put_all Free (blocks_from ls c.self.inside.layers.head c.self.inside.layers.len) c.as_mut_slice-uses.result.now) c.as_mut_slice-links.ensures.value c.turn.ensures) in
    let two : c.turn-2.new.uses ≡ put_all Layer (blocks_from c.self.inside.links.items c.self.inside.laid.head c.self.inside.laid.len) c.turn.new.uses =
    subst (λ (ls : List ℕ). c.turn-2.new.uses ≡ put_all Layer (blocks_from ls c.self.inside.laid.head c.self.inside.laid.len) c.turn.new.uses) c.as_mut_slice-links.ensures.value c.turn-2.ensures in
    let stays : All (λ b. use_at c.self.inside.uses.items b ≡ Layer) c.args.stay.now = subst (λ (s : Space). All (λ b. use_at s.uses b ≡ Layer) c.args.stay.now) (sym c.self.view_is) c.requires in
    let up : ChainsUp c.turn-2.new.uses c.take_all_back-layers.new.uses c.self.inside.links.items c.take_all_back-layers.new.links c.self.inside.laid c.take_all_back-layers.result =
    subst (λ (ls : List ℕ). ChainsUp c.turn-2.new.uses c.take_all_back-layers.new.uses ls c.take_all_back-layers.new.links c.self.inside.laid c.take_all_back-layers.result) c.as_mut_slice-links.ensures.value c.take_all_back-layers.ensures.chain in
    let four : c.pin_free-pinned.new.uses ≡ change_all pinned_use (kept_blocks c.self.inside.pins.kept) c.take_all_back-layers.new.uses =
    subst (λ (ks : List Kept). c.pin_free-pinned.new.uses ≡ change_all pinned_use (kept_blocks ks) c.take_all_back-layers.new.uses) c.kept.ensures c.pin_free-pinned.ensures.uses in
    rw (
      refill c.self.inside.uses.len c.pin_free-pinned.new.uses c.self.inside.uses.items (omega (arith, c.turn.auto.uses, c.turn-2.auto.uses, c.take_all_back-layers.auto.uses, c.pin_free-pinned.auto.uses, c.as_mut_slice-uses.ensures.len)),
      refill c.self.inside.links.len c.take_all_back-layers.new.links c.self.inside.links.items (omega (arith, c.take_all_back-layers.auto.links, c.as_mut_slice-links.ensures.len)),
      c.replaced.ensures,
    ) (
      IsSpace-switched c.self.inside.pins c.args.stay.now c.turn.new.uses c.turn-2.new.uses c.take_all_back-layers.new.uses c.pin_free-pinned.new.uses c.take_all_back-layers.new.links c.take_all_back-layers.result c.pin_free-pinned.result c.self.invariant.0 c.self.invariant.1 stays one two c.take_all_back-layers.ensures.uses up four c.pin_free-pinned.ensures.count,
      FitPins-switched c.self.inside.uses.items c.pin_free-pinned.new.uses c.self.inside.pins c.args.stay.now c.self.invariant.1 (switched-uses c.self.inside.pins c.args.stay.now c.turn.new.uses c.turn-2.new.uses c.take_all_back-layers.new.uses c.pin_free-pinned.new.uses c.take_all_back-layers.new.links c.take_all_back-layers.result c.pin_free-pinned.result c.self.invariant.0 c.self.invariant.1 stays one two c.take_all_back-layers.ensures.uses up four c.pin_free-pinned.ensures.count),
    )

pub returns : goal.returns
returns c =
    let one : c.turn.new.uses ≡ put_all Free (blocks_from c.self.inside.links.items c.self.inside.layers.head c.self.inside.layers.len) c.self.inside.uses.items =
    subst (λ (us : List Use). c.turn.new.uses ≡ put_all Free (blocks_from c.self.inside.links.items c.self.inside.layers.head c.self.inside.layers.len) us) c.as_mut_slice-uses.ensures.value
    (subst (λ (ls : List ℕ). c.turn.new.uses ≡ put_all Free (blocks_from ls c.self.inside.layers.head c.self.inside.layers.len) c.as_mut_slice-uses.result.now) c.as_mut_slice-links.ensures.value c.turn.ensures) in
    let two : c.turn-2.new.uses ≡ put_all Layer (blocks_from c.self.inside.links.items c.self.inside.laid.head c.self.inside.laid.len) c.turn.new.uses =
    subst (λ (ls : List ℕ). c.turn-2.new.uses ≡ put_all Layer (blocks_from ls c.self.inside.laid.head c.self.inside.laid.len) c.turn.new.uses) c.as_mut_slice-links.ensures.value c.turn-2.ensures in
    let stays : All (λ b. use_at c.self.inside.uses.items b ≡ Layer) c.args.stay.now = subst (λ (s : Space). All (λ b. use_at s.uses b ≡ Layer) c.args.stay.now) (sym c.self.view_is) c.requires in
    let up : ChainsUp c.turn-2.new.uses c.take_all_back-layers.new.uses c.self.inside.links.items c.take_all_back-layers.new.links c.self.inside.laid c.take_all_back-layers.result =
    subst (λ (ls : List ℕ). ChainsUp c.turn-2.new.uses c.take_all_back-layers.new.uses ls c.take_all_back-layers.new.links c.self.inside.laid c.take_all_back-layers.result) c.as_mut_slice-links.ensures.value c.take_all_back-layers.ensures.chain in
    let four : c.pin_free-pinned.new.uses ≡ change_all pinned_use (kept_blocks c.self.inside.pins.kept) c.take_all_back-layers.new.uses =
    subst (λ (ks : List Kept). c.pin_free-pinned.new.uses ≡ change_all pinned_use (kept_blocks ks) c.take_all_back-layers.new.uses) c.kept.ensures c.pin_free-pinned.ensures.uses in
    rw (
      ← c.self.view_is,
      refill c.self.inside.uses.len c.pin_free-pinned.new.uses c.self.inside.uses.items (omega (arith, c.turn.auto.uses, c.turn-2.auto.uses, c.take_all_back-layers.auto.uses, c.pin_free-pinned.auto.uses, c.as_mut_slice-uses.ensures.len)),
      c.replaced.ensures,
    )
    (record { uses = switched-uses c.self.inside.pins c.args.stay.now c.turn.new.uses c.turn-2.new.uses c.take_all_back-layers.new.uses c.pin_free-pinned.new.uses c.take_all_back-layers.new.links c.take_all_back-layers.result c.pin_free-pinned.result c.self.invariant.0 c.self.invariant.1 stays one two c.take_all_back-layers.ensures.uses up four c.pin_free-pinned.ensures.count; disk = switched-disk c.self.inside.pins c.args.stay.now c.turn.new.uses c.turn-2.new.uses c.take_all_back-layers.new.uses c.pin_free-pinned.new.uses c.take_all_back-layers.new.links c.take_all_back-layers.result c.pin_free-pinned.result c.self.invariant.0 c.self.invariant.1 stays one two c.take_all_back-layers.ensures.uses up four c.pin_free-pinned.ensures.count; others = refl })
