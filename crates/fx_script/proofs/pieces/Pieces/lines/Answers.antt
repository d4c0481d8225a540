use Rattle.std.proofs.Common.{◌∙◌}
use Rattle.fx_script.proofs.Cuts.{lines_of_ended, lines_of_open}
use Rattle.fx_script.proofs.pieces.Pieces.lines.Goals as goal

pub returns-then-last-separator : goal.returns-then-last-separator
returns-then-last-separator c =
    c.new.ensures ∙ lines_of_ended _ _ _ c.in-Some.ensures.cases.0 c.if-last-separator.true

pub returns : goal.returns
returns c = c.new-2.ensures ∙ lines_of_open _ _ _ c.in-Some.ensures.cases.0 c.if-last-separator.false
