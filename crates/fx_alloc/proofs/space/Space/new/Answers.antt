use Rattle.std.proofs.Common.{◌≡◌, ℕ, List, length, replicate, arith, rules, refl, sym, ◌∙◌, ap, subst}
use Rattle.fx_alloc.specs.declared.uses.Use.{Use}
use Rattle.fx_alloc.specs.declared.uses.Use.TheVariants.{Free, Live, Layer}
use Rattle.fx_alloc.specs.declared.holders.TheConstants.{VACANT}
use Rattle.fx_alloc.specs.Uses.{put_all, blank, blocks_from}
use Rattle.fx_alloc.specs.Uses.{AreUsed}
use Rattle.fx_alloc.proofs.UseLists.{length-put_all, length-blank}
use Rattle.fx_alloc.proofs.SpaceKept.{refill}
use Rattle.fx_alloc.proofs.SpaceOpened.{free_layers, few_blocks, IsSpace-opened}
use Rattle.fx_alloc.proofs.FitPins.{FitPins-none}
use Rattle.fx_alloc.proofs.space.Space.new.Goals as goal

pub chain_up-layers-requires-clause-free : goal.chain_up-layers-requires-clause-free
chain_up-layers-requires-clause-free c =
    subst (λ (us : List Use). AreUsed Free us c.args.layers.now) (sym c.in_ok-uses.ensures ∙ sym c.as_mut_slice.ensures.value)
    (free_layers c.args.blocks c.args.ring c.args.live.now c.args.layers.now c.requires.ring c.requires.places c.requires.apart)

pub chain_up-layers-requires-clause-links : goal.chain_up-layers-requires-clause-links
chain_up-layers-requires-clause-links c =
    let size : length c.in_ok-uses.uses.items ≡ c.args.blocks = ap (λ (us : List Use). length us) c.in_ok-uses.ensures ∙ length-put_all Live c.args.live.now (blank c.args.blocks c.args.ring) ∙ length-blank c.args.blocks c.args.ring c.requires.ring in
    omega (arith, size, ap (λ (us : List Use). length us) c.as_mut_slice.ensures.value, ap (λ (us : List ℕ). length us) c.as_mut_slice-2.ensures.value, c.in_ok-links.ensures.len, c.in_ok-links.links.ok)

pub chain_up-layers-requires-clause-small : goal.chain_up-layers-requires-clause-small
chain_up-layers-requires-clause-small c =
    let size : length c.in_ok-uses.uses.items ≡ c.args.blocks = ap (λ (us : List Use). length us) c.in_ok-uses.ensures ∙ length-put_all Live c.args.live.now (blank c.args.blocks c.args.ring) ∙ length-blank c.args.blocks c.args.ring c.requires.ring in
    omega (arith, size, ap (λ (us : List Use). length us) c.as_mut_slice.ensures.value)

pub chain_up-layers-requires-clause-few : goal.chain_up-layers-requires-clause-few
chain_up-layers-requires-clause-few c = omega (arith, few_blocks c.args.blocks c.args.ring c.args.live.now c.args.layers.now c.requires.ring c.requires.places c.requires.apart)

pub overflow_cast-result : goal.overflow_cast-result
overflow_cast-result c = omega (arith, few_blocks c.args.blocks c.args.ring c.args.live.now c.args.layers.now c.requires.ring c.requires.places c.requires.apart)

pub overflow_cast-result-2 : goal.overflow_cast-result-2
overflow_cast-result-2 c = omega (arith, few_blocks c.args.blocks c.args.ring c.args.live.now c.args.layers.now c.requires.ring c.requires.places c.requires.apart)

pub overflow_sub-result-2 : goal.overflow_sub-result-2
overflow_sub-result-2 c = omega (arith, few_blocks c.args.blocks c.args.ring c.args.live.now c.args.layers.now c.requires.ring c.requires.places c.requires.apart)

pub overflow_sub-result-3 : goal.overflow_sub-result-3
overflow_sub-result-3 c = omega (arith, c.chain_up-layers.ensures.len, few_blocks c.args.blocks c.args.ring c.args.live.now c.args.layers.now c.requires.ring c.requires.places c.requires.apart)

pub invariant_of-result : goal.invariant_of-result
invariant_of-result c =
    let size : length c.in_ok-uses.uses.items ≡ c.args.blocks = ap (λ (us : List Use). length us) c.in_ok-uses.ensures ∙ length-put_all Live c.args.live.now (blank c.args.blocks c.args.ring) ∙ length-blank c.args.blocks c.args.ring c.requires.ring in
    let uses : c.chain_up-layers.new.uses ≡ put_all Layer c.args.layers.now (put_all Live c.args.live.now (blank c.args.blocks c.args.ring)) = c.chain_up-layers.ensures.uses ∙ ap (λ (us : List Use). put_all Layer c.args.layers.now us) (c.as_mut_slice.ensures.value ∙ c.in_ok-uses.ensures) in
    let holders : c.in_ok-vec.field-0.items ≡ replicate 32 VACANT = c.in_ok-vec.ensures.items_if_clones_equal (λ y e. search rules) ∙ ap (λ (n : ℕ). replicate n VACANT) c.from.ensures in
    let heads : c.in_ok-vec-2.field-0.items ≡ replicate 32 0 = c.in_ok-vec-2.ensures.items_if_clones_equal (λ y e. search rules) ∙ ap (λ (n : ℕ). replicate n 0) c.from-2.ensures in
    let chained : AreUsed Layer (put_all Layer c.args.layers.now (put_all Live c.args.live.now (blank c.args.blocks c.args.ring))) (blocks_from c.chain_up-layers.new.links c.chain_up-layers.result.head c.chain_up-layers.result.len) = subst (λ (us : List Use). AreUsed Layer us (blocks_from c.chain_up-layers.new.links c.chain_up-layers.result.head c.chain_up-layers.result.len)) uses c.chain_up-layers.ensures.chain in
    rw (
      refill c.in_ok-uses.uses.len c.chain_up-layers.new.uses c.in_ok-uses.uses.items (omega (arith, c.chain_up-layers.auto.uses, c.as_mut_slice.ensures.len)),
      refill c.in_ok-links.links.len c.chain_up-layers.new.links c.in_ok-links.links.items (omega (arith, c.chain_up-layers.auto.links, c.as_mut_slice-2.ensures.len)),
      uses,
      holders,
      heads,
      c.new.ensures.items,
      c.new-pins.ensures,
    )
    (let s = IsSpace-opened c.args.blocks c.args.ring c.args.live.now c.args.layers.now c.requires.ring c.requires.places c.requires.apart c.chain_up-layers.new.links c.chain_up-layers.result
    (omega arith) (omega (arith, c.chain_up-layers.auto.links, ap (λ (us : List ℕ). length us) c.as_mut_slice-2.ensures.value, c.in_ok-links.ensures.len, c.in_ok-links.links.ok)) c.chain_up-layers.ensures.len chained in
    (s, FitPins-none (put_all Layer c.args.layers.now (put_all Live c.args.live.now (blank c.args.blocks c.args.ring))) s.counts.of_pinned))

pub returns : goal.returns
returns c =
    let uses : c.chain_up-layers.new.uses ≡ put_all Layer c.args.layers.now (put_all Live c.args.live.now (blank c.args.blocks c.args.ring)) = c.chain_up-layers.ensures.uses ∙ ap (λ (us : List Use). put_all Layer c.args.layers.now us) (c.as_mut_slice.ensures.value ∙ c.in_ok-uses.ensures) in
    let holders : c.in_ok-vec.field-0.items ≡ replicate 32 VACANT = c.in_ok-vec.ensures.items_if_clones_equal (λ y e. search rules) ∙ ap (λ (n : ℕ). replicate n VACANT) c.from.ensures in
    rw (
      refill c.in_ok-uses.uses.len c.chain_up-layers.new.uses c.in_ok-uses.uses.items (omega (arith, c.chain_up-layers.auto.uses, c.as_mut_slice.ensures.len)),
      uses,
      holders,
      c.new.ensures.items,
      c.new-pins.ensures,
    ) refl
