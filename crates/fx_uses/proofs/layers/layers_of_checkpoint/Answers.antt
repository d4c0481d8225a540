use Rattle.fx_uses.proofs.NamedLayers.{named_flushed, named_others_flushed, named_switch}
use Rattle.fx_uses.proofs.layers.layers_of_checkpoint.Goals as goal

pub returns-clause-flushed : goal.returns-clause-flushed
returns-clause-flushed g c reads s r = named_flushed g.L.LayerMeaning.means reads s r r.contents

pub returns-clause-others : goal.returns-clause-others
returns-clause-others g c reads s r = named_others_flushed g.L.LayerMeaning.means reads s r r.contents

pub returns-clause-switch : goal.returns-clause-switch
returns-clause-switch g c reads = named_switch g.L.LayerMeaning.means reads
