use Rattle.std.proofs.Common.{None}
use Rattle.fx_memtree.proofs.Attributes.{marked_by}
use Rattle.fx_memtree.proofs.node.Node.drop_attribute.Goals as goal

pub returns : goal.returns
returns c = marked_by c.self.inside.kind c.self.inside.attributes.entries c.remove.new.self.entries c.args.name.now None c.args.self.now c.self.view_is c.remove.ensures.updates.0
