use Rattle.std.proofs.Common.{◌∙◌}
use Rattle.fx_node.proofs.Seen.{kind_seen}
use Rattle.fx_node.proofs.node.object.Goals as goal

pub returns-in-Ok-clause-tree : goal.returns-in-Ok-clause-tree
returns-in-Ok-clause-tree g c = λ f t path s way. c.in-Ok.ensures.found ∙ kind_seen s path c.args.at way
