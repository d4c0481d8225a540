use Rattle.fx_events.proofs.Answered.{are_ends, are_of_one}
use Rattle.fx_events.proofs.laws.end_laws.Goals as goal

pub returns-clause-transcript : goal.returns-clause-transcript
returns-clause-transcript c = λ mounted notes tasks outcomes f k. are_ends mounted notes tasks outcomes k f

pub returns-clause-session : goal.returns-clause-session
returns-clause-session c = are_of_one
