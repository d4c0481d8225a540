use Rattle.fx_extent.proofs.Pieces.{block_found, pieces_read}
use Rattle.fx_extent.proofs.laws.read_laws.Goals as goal

pub returns-clause-whole : goal.returns-clause-whole
returns-clause-whole c = λ f len held full at past count le within most. pieces_read f len held full at past within count le most

pub returns-clause-held : goal.returns-clause-held
returns-clause-held c = block_found
