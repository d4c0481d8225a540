use Rattle.std.proofs.Common.{◌∙◌, ap}
use Rattle.fx_node.specs.Told.{told_length}
use Rattle.fx_node.proofs.Seen.{length_seen}
use Rattle.fx_node.proofs.node.file_length.Goals as goal

pub returns-in-Ok-clause-tree : goal.returns-in-Ok-clause-tree
returns-in-Ok-clause-tree g c = λ f t path s way. c.length_in.ensures ∙ ap told_length c.in-Ok.ensures.found ∙ length_seen s path c.args.at way
