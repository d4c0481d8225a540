use Rattle.fx_steps.proofs.Lines.{line_basic, line_done, line_refused, need_parted, touched_parted}
use Rattle.fx_steps.proofs.laws.line_laws.Goals as goal

pub returns-clause-done : goal.returns-clause-done
returns-clause-done c = line_done

pub returns-clause-refused : goal.returns-clause-refused
returns-clause-refused c = line_refused

pub returns-clause-basic : goal.returns-clause-basic
returns-clause-basic c = line_basic

pub returns-clause-need : goal.returns-clause-need
returns-clause-need c = need_parted

pub returns-clause-touched : goal.returns-clause-touched
returns-clause-touched c = touched_parted
