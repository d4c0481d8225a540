use Rattle.std.proofs.Common.{ap, ◌∙◌}
use Rattle.fx_plain.specs.Tree.{attribute_count}
use Rattle.fx_plain.proofs.Sizes.{attribute_count-seen_node}
use Rattle.fx_plain.proofs.node.Node.attributes.Goals as goal

pub returns-in-Dir : goal.returns-in-Dir
returns-in-Dir c = attribute_count-seen_node c.self.inside.kind ∙ ap attribute_count c.self.view_is

pub returns-in-File : goal.returns-in-File
returns-in-File c = attribute_count-seen_node c.self.inside.kind ∙ ap attribute_count c.self.view_is
