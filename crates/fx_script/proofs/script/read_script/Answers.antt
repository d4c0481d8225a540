use Rattle.std.proofs.Common.{◌≡◌, List, ℕ, sym, ◌∙◌, subst, rules}
use Rattle.std.specs.Prelude.{Ok}
use Rattle.fx_script.specs.Script.{script_of, tasks_read, counted}
use Rattle.fx_script.proofs.Rules.{script_rules}
use Rattle.fx_script.proofs.Faults.{script_own}
use Rattle.fx_script.proofs.Scripts.{right_counted, read_is}
use Rattle.fx_script.proofs.script.read_script.Goals as goal

pub returns-in_err-count-clause-memory : goal.returns-in_err-count-clause-memory
returns-in_err-count-clause-memory c number e =
    let read : c.from_residual.result ≡ script_of c.args.many c.args.text = search rules in
    script_own c.args.many c.args.text number (sym read ∙ e)

pub returns-clause-rules : goal.returns-clause-rules
returns-clause-rules c =
    let found = script_of c.args.many c.args.text in
    let told : Ok c.in_ok-count.count ≡ counted 0 found =
    subst (λ (text : List ℕ). Ok c.in_ok-count.count ≡ counted 0 (script_of c.args.many text)) c.as_slice.ensures c.in_ok-count.ensures in
    script_rules c.args.many c.args.text (tasks_read found) (read_is found (right_counted c.in_ok-count.count 0 found told))
