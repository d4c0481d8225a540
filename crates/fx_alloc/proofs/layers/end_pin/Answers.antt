use Rattle.std.proofs.Common.{◌≡◌, ◌<◌, false, List, length, All, sym, ◌∙◌, ap, subst, arith, rules, tests}
use Rattle.fx_alloc.specs.declared.pins.Kept.{Kept}
use Rattle.fx_alloc.specs.Uses.{use_at}
use Rattle.fx_alloc.specs.Pins.{kept_blocks, is_kept}
use Rattle.fx_alloc.specs.Layers.{change_all, freed_use, pinned_use}
use Rattle.fx_alloc.proofs.FitPins.{unpinned-less, kept-still}
use Rattle.fx_alloc.proofs.SpaceSwitched.{still_kept, kept-within, left-within, unpinned-uses, kept-few, free-net}
use Rattle.fx_alloc.proofs.layers.end_pin.Goals as goal

pub returns-then-not-is_last-clause-uses : goal.returns-then-not-is_last-clause-uses
returns-then-not-is_last-clause-uses c = λ b.
    let others : c.is_last.result ≡ false = search (rules, tests) in
    let same : c.unpin.new.self.kept ≡ c.args.pins.now.kept = kept-still c.args.pins.now c.unpin.new.self c.args.pin c.is_last.result c.requires.pin c.unpin.ensures c.is_last.ensures others in
    still_kept (is_kept c.unpin.new.self.kept b) (use_at c.args.uses.now b) (λ e. ap (λ (ks : List Kept). is_kept ks b) same ∙ c.requires.fit.owned b e)

pub free_pinned-freed-requires-clause-below : goal.free_pinned-freed-requires-clause-below
free_pinned-freed-requires-clause-below c =
    subst (λ (ks : List Kept). All (λ b. b < length c.args.uses.now) (kept_blocks ks)) (sym c.kept.ensures) (kept-within c.args.uses.now c.args.pins.now c.requires.fit)

pub pin_free-kept-requires-clause-below : goal.pin_free-kept-requires-clause-below
pin_free-kept-requires-clause-below c =
    subst (λ (ks : List Kept). All (λ b. b < length c.free_pinned-freed.new.uses) (kept_blocks ks)) (sym c.kept-2.ensures)
    (λ k d l. omega (arith, left-within c.args.uses.now c.args.pins.now c.unpin-2.new.self.kept c.requires.fit (unpinned-less c.args.pins.now c.unpin-2.new.self c.args.pin c.requires.pin c.unpin-2.ensures) k d l, c.free_pinned-freed.auto.uses))

pub overflow_sub-result : goal.overflow_sub-result
overflow_sub-result c =
    let one : c.free_pinned-freed.new.uses ≡ change_all freed_use (kept_blocks c.args.pins.now.kept) c.args.uses.now = subst (λ (ks : List Kept). c.free_pinned-freed.new.uses ≡ change_all freed_use (kept_blocks ks) c.args.uses.now) c.kept.ensures c.free_pinned-freed.ensures.uses in
    let two : c.pin_free-kept.new.uses ≡ change_all pinned_use (kept_blocks c.unpin-2.new.self.kept) c.free_pinned-freed.new.uses = subst (λ (ks : List Kept). c.pin_free-kept.new.uses ≡ change_all pinned_use (kept_blocks ks) c.free_pinned-freed.new.uses) c.kept-2.ensures c.pin_free-kept.ensures.uses in
    kept-few c.args.uses.now c.args.pins.now c.unpin-2.new.self.kept c.free_pinned-freed.new.uses c.pin_free-kept.new.uses c.free_pinned-freed.result c.pin_free-kept.result c.requires.fit (unpinned-less c.args.pins.now c.unpin-2.new.self c.args.pin c.requires.pin c.unpin-2.ensures) one two c.free_pinned-freed.ensures.count c.pin_free-kept.ensures.count

pub returns-clause-uses : goal.returns-clause-uses
returns-clause-uses c =
    let one : c.free_pinned-freed.new.uses ≡ change_all freed_use (kept_blocks c.args.pins.now.kept) c.args.uses.now = subst (λ (ks : List Kept). c.free_pinned-freed.new.uses ≡ change_all freed_use (kept_blocks ks) c.args.uses.now) c.kept.ensures c.free_pinned-freed.ensures.uses in
    let two : c.pin_free-kept.new.uses ≡ change_all pinned_use (kept_blocks c.unpin-2.new.self.kept) c.free_pinned-freed.new.uses = subst (λ (ks : List Kept). c.pin_free-kept.new.uses ≡ change_all pinned_use (kept_blocks ks) c.free_pinned-freed.new.uses) c.kept-2.ensures c.pin_free-kept.ensures.uses in
    unpinned-uses c.args.uses.now c.args.pins.now c.unpin-2.new.self.kept c.free_pinned-freed.new.uses c.pin_free-kept.new.uses c.free_pinned-freed.result c.pin_free-kept.result c.requires.fit (unpinned-less c.args.pins.now c.unpin-2.new.self c.args.pin c.requires.pin c.unpin-2.ensures) one two c.free_pinned-freed.ensures.count c.pin_free-kept.ensures.count

pub returns-clause-count : goal.returns-clause-count
returns-clause-count c =
    let one : c.free_pinned-freed.new.uses ≡ change_all freed_use (kept_blocks c.args.pins.now.kept) c.args.uses.now = subst (λ (ks : List Kept). c.free_pinned-freed.new.uses ≡ change_all freed_use (kept_blocks ks) c.args.uses.now) c.kept.ensures c.free_pinned-freed.ensures.uses in
    let two : c.pin_free-kept.new.uses ≡ change_all pinned_use (kept_blocks c.unpin-2.new.self.kept) c.free_pinned-freed.new.uses = subst (λ (ks : List Kept). c.pin_free-kept.new.uses ≡ change_all pinned_use (kept_blocks ks) c.free_pinned-freed.new.uses) c.kept-2.ensures c.pin_free-kept.ensures.uses in
    free-net c.args.uses.now c.args.pins.now c.unpin-2.new.self.kept c.free_pinned-freed.new.uses c.pin_free-kept.new.uses c.free_pinned-freed.result c.pin_free-kept.result c.requires.fit (unpinned-less c.args.pins.now c.unpin-2.new.self c.args.pin c.requires.pin c.unpin-2.ensures) one two c.free_pinned-freed.ensures.count c.pin_free-kept.ensures.count
