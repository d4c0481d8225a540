use Rattle.std.proofs.Common.{◌≡◌, ℕ, ◌<◌, List, length, All, count_by, sym, ◌∙◌, subst, arith}
use Rattle.fx_alloc.specs.declared.uses.Use.TheVariants.{Layer}
use Rattle.fx_alloc.specs.Uses.{is_layer, blocks_from}
use Rattle.fx_alloc.specs.Pins.{PinsBlocks}
use Rattle.fx_alloc.proofs.UseLists.{All-within, length-blocks_from}
use Rattle.fx_alloc.proofs.FitPins.{FitPins-pinned, set_has-now, set_has-others}
use Rattle.fx_alloc.proofs.space.Space.pin.Goals as goal

pub pin-requires : goal.pin-requires
pin-requires c =
    subst (λ (ls : List ℕ). All (λ b. b < length ls) (blocks_from ls c.self.inside.layers.head c.self.inside.layers.len)) (sym c.as_slice.ensures.value)
    (λ k d l. omega (arith, All-within Layer c.self.inside.uses.items (blocks_from c.self.inside.links.items c.self.inside.layers.head c.self.inside.layers.len) (λ x. cc) c.self.invariant.0.of_layers k d l, c.self.invariant.0.linked))

pub invariant_of-self-2 : goal.invariant_of-self-2
invariant_of-self-2 c =
    let h : PinsBlocks (blocks_from c.self.inside.links.items c.self.inside.layers.head c.self.inside.layers.len) c.self.inside.pins c.pin.new.self c.in_ok-pin.pin =
    subst (λ (ls : List ℕ). PinsBlocks (blocks_from ls c.self.inside.layers.head c.self.inside.layers.len) c.self.inside.pins c.pin.new.self c.in_ok-pin.pin) c.as_slice.ensures.value c.in_ok-pin.ensures.ok in
    let all : count_by is_layer c.self.inside.uses.items ≡ length (blocks_from c.self.inside.links.items c.self.inside.layers.head c.self.inside.layers.len) = c.self.invariant.0.counts.of_layers ∙ sym (length-blocks_from c.self.inside.links.items c.self.inside.layers.head c.self.inside.layers.len) in
    (c.self.invariant.0, FitPins-pinned (blocks_from c.self.inside.links.items c.self.inside.layers.head c.self.inside.layers.len) c.self.invariant.1 c.sound.ensures c.self.invariant.0.of_layers all h)

pub returns-clause-ok : goal.returns-clause-ok
returns-clause-ok c =
    let h : PinsBlocks (blocks_from c.self.inside.links.items c.self.inside.layers.head c.self.inside.layers.len) c.self.inside.pins c.pin.new.self c.in_ok-pin.pin =
    subst (λ (ls : List ℕ). PinsBlocks (blocks_from ls c.self.inside.layers.head c.self.inside.layers.len) c.self.inside.pins c.pin.new.self c.in_ok-pin.pin) c.as_slice.ensures.value c.in_ok-pin.ensures.ok in
    let all : count_by is_layer c.self.inside.uses.items ≡ length (blocks_from c.self.inside.links.items c.self.inside.layers.head c.self.inside.layers.len) = c.self.invariant.0.counts.of_layers ∙ sym (length-blocks_from c.self.inside.links.items c.self.inside.layers.head c.self.inside.layers.len) in
    rw (← c.self.view_is) (record {
      vacant = h.vacant;
      set = h.set;
      pins = h.pins;
      layers = set_has-now (blocks_from c.self.inside.links.items c.self.inside.layers.head c.self.inside.layers.len) c.self.invariant.1 c.sound.ensures c.self.invariant.0.of_layers all h h.kept;
      sets = set_has-others (blocks_from c.self.inside.links.items c.self.inside.layers.head c.self.inside.layers.len) c.self.invariant.1 c.sound.ensures c.self.invariant.0.of_layers all h h.kept;
    })
