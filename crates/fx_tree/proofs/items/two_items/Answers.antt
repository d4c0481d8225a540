use Rattle.std.proofs.Common.{◌∙◌, sym, ap, subst}
use Rattle.fx_item.specs.Item.{item_of}
use Rattle.fx_item.specs.Overlay.{says}
use Rattle.fx_tree.specs.Planned.{AreInKeyOrder}
use Rattle.fx_tree.proofs.Pairs.{ordered_back, swapped, turn}
use Rattle.fx_tree.proofs.items.two_items.Goals as goal

pub returns-clause-said : goal.returns-clause-said
returns-clause-said c = turn c.list_of-2.result (λ items e. ap says e ∙ swapped (item_of c.args.one) (item_of c.args.other) c.requires.points.0 c.requires.points.1 c.requires.apart) c.list_of-2.ensures

pub returns-clause-ordered : goal.returns-clause-ordered
returns-clause-ordered c = turn c.list_of-2.result (λ items e. subst AreInKeyOrder (sym e)
    (ordered_back (item_of c.args.one) (item_of c.args.other) c.requires.points.0 c.requires.points.1 c.requires.apart c.requires.one c.requires.other (sym c.may_precede.ensures ∙ c.if-may_precede.false))) c.list_of-2.ensures
