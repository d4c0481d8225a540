use Rattle.std.proofs.Common.{subst, sym, ◌∙◌, take, map}
use Rattle.std.specs.Prelude.{None, Some, option_copied, option_map}
use Rattle.std.proofs.lemmas.List.{take_all}
use Rattle.fx_item.specs.Item.{item_of, key_of}
use Rattle.fx_item.specs.Look.{FindsFrom}
use Rattle.fx_item.specs.Overlay.{says}
use Rattle.fx_item.specs.Place.{begins}
use Rattle.fx_dir.proofs.Sampled.{has_key, next_items, nothing_stands}
use Rattle.fx_dir.proofs.sample.SampleLook.next_from.Goals as goal

pub loop-item-preserved : goal.loop-item-preserved
loop-item-preserved c =
    subst (λ xs. FindsFrom (says xs) (begins (key_of c.args.key.now)) (option_map item_of (option_copied c.earlier-best.result)))
    (sym (next_items c.deref-item-items.result.now c.loop-item.item-index c.item-item.result c.loop-item-test.true c.item-item.is))
    (c.earlier-best.ensures (map item_of (take c.loop-item.item-index c.deref-item-items.result.now)) c.loop-item.invariant)

pub returns-in-None-clause-found : goal.returns-in-None-clause-found
returns-in-None-clause-found c =
    nothing_stands (says (map item_of c.args.self.now.items.items)) (begins (key_of c.args.key.now))
    (subst (λ xs. FindsFrom (says (map item_of xs)) (begins (key_of c.args.key.now)) None) (take_all c.loop-item.item-index c.deref-item-items.result.now c.loop-item-test.false ∙ c.deref-item-items.ensures.value)
    (subst (λ b. FindsFrom (says (map item_of (take c.loop-item.item-index c.deref-item-items.result.now))) (begins (key_of c.args.key.now)) (option_map item_of (option_copied b))) c.in-None.is c.loop-item.invariant))

pub returns-in-None-clause-listed : goal.returns-in-None-clause-listed
returns-in-None-clause-listed c = has_key c.args.self.now.items.items

pub returns-in-Some-clause-listed : goal.returns-in-Some-clause-listed
returns-in-Some-clause-listed c = has_key c.args.self.now.items.items

pub returns-in-Some-clause-found : goal.returns-in-Some-clause-found
returns-in-Some-clause-found c =
    c.told.ensures.live (says (map item_of c.args.self.now.items.items)) (begins (key_of c.args.key.now))
    (subst (λ xs. FindsFrom (says (map item_of xs)) (begins (key_of c.args.key.now)) (Some (item_of c.in-Some.item.now))) (take_all c.loop-item.item-index c.deref-item-items.result.now c.loop-item-test.false ∙ c.deref-item-items.ensures.value)
    (subst (λ b. FindsFrom (says (map item_of (take c.loop-item.item-index c.deref-item-items.result.now))) (begins (key_of c.args.key.now)) (option_map item_of (option_copied b))) c.in-Some.is c.loop-item.invariant))

pub returns-then-not-is_plain-clause-listed : goal.returns-then-not-is_plain-clause-listed
returns-then-not-is_plain-clause-listed c = has_key c.args.self.now.items.items
