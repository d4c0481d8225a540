use Rattle.fx_needs.proofs.Answered.{refused_line, small_line, whole_line}
use Rattle.fx_needs.proofs.laws.answer_laws.Goals as goal

pub returns-clause-whole : goal.returns-clause-whole
returns-clause-whole c = whole_line c.line_laws.ensures.refused c.line_laws.ensures.done

pub returns-clause-step : goal.returns-clause-step
returns-clause-step c = refused_line

pub returns-clause-small : goal.returns-clause-small
returns-clause-small c = small_line
