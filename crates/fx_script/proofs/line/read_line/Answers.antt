use Rattle.std.proofs.Common.{◌≡◌, List, ℕ, sym, subst}
use Rattle.std.specs.Prelude.{Ok}
use Rattle.fx_script.specs.Cut.{words_of}
use Rattle.fx_script.specs.Line.{line_of_words}
use Rattle.fx_script.specs.Print.{LineKeepsRules}
use Rattle.fx_script.specs.Checked.{line_in}
use Rattle.fx_script.proofs.Rules.{line_rules}
use Rattle.fx_script.proofs.line.read_line.Goals as goal

pub returns-clause-rules : goal.returns-clause-rules
returns-clause-rules c =
    let line = line_in c.in_ok-words.words in
    let said : line_of_words (words_of c.args.bytes.now) ≡ Ok line =
    subst (λ (words : List (List ℕ)). line_of_words words ≡ Ok line) c.new.ensures (sym c.in_ok-words.ensures) in
    subst LineKeepsRules (sym c.in_ok-line.ensures.line) (line_rules c.args.bytes.now line (sym c.if-not-is_ascii.ensures) said)
