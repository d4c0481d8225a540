use Rattle.fx_undo.proofs.Back.{line_back, refused_back, step_back}
use Rattle.fx_undo.proofs.laws.undo_laws.Goals as goal

pub returns : goal.returns
returns c = record { step = step_back; line = line_back; refused = refused_back }
