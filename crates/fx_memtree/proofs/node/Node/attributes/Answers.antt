use Rattle.std.proofs.Common.{◌∙◌}
use Rattle.fx_memtree.proofs.Attributes.{counted}
use Rattle.fx_memtree.proofs.node.Node.attributes.Goals as goal

pub returns : goal.returns
returns c = c.len.ensures.len ∙ counted c.self.inside.kind c.self.inside.attributes.entries c.args.self.now c.len.ensures.ordered c.self.view_is
