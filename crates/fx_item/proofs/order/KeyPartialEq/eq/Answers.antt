use Rattle.std.proofs.Common.{sym, ap, ◌∙◌}
use Rattle.std.specs.Ordering.{is_eq}
use Rattle.std.specs.Cmp.Lexicographic.{texts_ties}
use Rattle.fx_item.specs.Item.{key_of}
use Rattle.fx_item.specs.Order.{rank}
use Rattle.fx_item.proofs.order.KeyPartialEq.eq.Goals as goal

pub returns : goal.returns
returns c = c.is_eq.ensures ∙ ap is_eq c.cmp.ensures ∙ sym (texts_ties (rank (key_of c.args.self.now)) (rank (key_of c.args.other.now)))
