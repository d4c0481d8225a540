use Rattle.fx_needs.proofs.CutNumbers.{edge_unwritten, inside_written, touched_blocks, uncut_file}
use Rattle.fx_needs.proofs.laws.cut_laws.Goals as goal

pub returns-clause-touched : goal.returns-clause-touched
returns-clause-touched c = touched_blocks

pub returns-clause-inside : goal.returns-clause-inside
returns-clause-inside c = inside_written

pub returns-clause-edge : goal.returns-clause-edge
returns-clause-edge c = edge_unwritten

pub returns-clause-uncut : goal.returns-clause-uncut
returns-clause-uncut c = uncut_file
