use Rattle.fx_history.proofs.Reading.{answer_whole, same_told, tell_same}
use Rattle.fx_history.proofs.text.line_laws.Goals as goal

pub returns-clause-read : goal.returns-clause-read
returns-clause-read c = tell_same

pub returns-clause-printed : goal.returns-clause-printed
returns-clause-printed c = same_told

pub returns-clause-answered : goal.returns-clause-answered
returns-clause-answered c = answer_whole
