use Rattle.std.proofs.Common.{sym, ap, ◌∙◌}
use Rattle.fx_script.specs.Cut.{cut_rest, is_blank}
use Rattle.fx_script.proofs.Cuts.{is_blank-cut}
use Rattle.fx_script.proofs.pieces.Pieces.is_blank.Goals as goal

pub returns-in-Some : goal.returns-in-Some
returns-in-Some c =
    let pieces = c.self.inside in
    c.is_empty.ensures
    ∙ is_blank-cut pieces.separator c.in-Some.rest.now
    ∙ ap is_blank (sym (ap (cut_rest pieces.separator) c.in-Some.is) ∙ c.self.view_is)
