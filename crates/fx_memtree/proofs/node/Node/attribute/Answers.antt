use Rattle.std.proofs.Common.{◌∙◌}
use Rattle.fx_memtree.proofs.Attributes.{told}
use Rattle.fx_memtree.proofs.node.Node.attribute.Goals as goal

pub returns : goal.returns
returns c = c.get.ensures.value ∙ told c.self.inside.kind c.self.inside.attributes.entries c.args.name.now c.args.self.now c.self.view_is
