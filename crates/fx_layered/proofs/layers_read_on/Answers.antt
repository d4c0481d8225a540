use Rattle.fx_layered.proofs.InBlocks.{marked_on, whole_on}
use Rattle.fx_layered.proofs.layers_read_on.Goals as goal

pub returns-clause-whole : goal.returns-clause-whole
returns-clause-whole c = whole_on

pub returns-clause-marks : goal.returns-clause-marks
returns-clause-marks c = marked_on
