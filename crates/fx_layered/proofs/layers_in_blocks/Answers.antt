use Rattle.fx_layered.proofs.InBlocks.{reads_named}
use Rattle.fx_layered.proofs.OneReading.{layers_say_one, shows_one}
use Rattle.fx_layered.proofs.layers_in_blocks.Goals as goal

pub returns-clause-named : goal.returns-clause-named
returns-clause-named c = reads_named

pub returns-clause-one : goal.returns-clause-one
returns-clause-one c = layers_say_one

pub returns-clause-one_shown : goal.returns-clause-one_shown
returns-clause-one_shown c = shows_one
