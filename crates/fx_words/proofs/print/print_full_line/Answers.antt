use Rattle.std.proofs.Common.{◌≡◌, ap, ◌∙◌, rules}
use Rattle.fx_words.specs.Lines.{all_built, full_line_of}
use Rattle.fx_words.specs.FullText.{full_line_text}
use Rattle.fx_words.proofs.FullPrints.{full_line_printed}
use Rattle.fx_words.proofs.print.print_full_line.Goals as goal

pub returns-clause-reads : goal.returns-clause-reads
returns-clause-reads c =
    let printed : c.new.result ≡ full_line_text c.args.line.now = search rules in
    λ keeps. ap (full_line_of all_built) printed ∙ full_line_printed c.args.line.now keeps
