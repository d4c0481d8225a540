use Rattle.std.proofs.Common.{◌≡◌, ap, ◌∙◌, rules}
use Rattle.fx_script.specs.Line.{line_of}
use Rattle.fx_script.specs.Print.{line_text}
use Rattle.fx_script.proofs.Prints.{line_printed}
use Rattle.fx_script.proofs.print.print_line.Goals as goal

pub returns-clause-reads : goal.returns-clause-reads
returns-clause-reads c =
    let printed : c.new.result ≡ line_text c.args.line.now = search rules in
    λ keeps. ap line_of printed ∙ line_printed c.args.line.now keeps
