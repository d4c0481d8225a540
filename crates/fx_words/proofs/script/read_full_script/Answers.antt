use Rattle.std.proofs.Common.{◌≡◌, List, ℕ, subst}
use Rattle.std.specs.Prelude.{Ok}
use Rattle.fx_words.specs.FullScript.{full_counted, full_script_of}
use Rattle.fx_words.proofs.ScriptRules.{read_rules}
use Rattle.fx_words.proofs.script.read_full_script.Goals as goal

pub returns-clause-rules : goal.returns-clause-rules
returns-clause-rules c =
    let told : Ok c.in_ok-count.count ≡ full_counted 0 (full_script_of c.args.built c.args.many c.args.text) =
    subst (λ (text : List ℕ). Ok c.in_ok-count.count ≡ full_counted 0 (full_script_of c.args.built c.args.many text)) c.as_slice.ensures c.in_ok-count.ensures in
    read_rules c.args.built c.args.many c.args.text c.in_ok-count.count told
