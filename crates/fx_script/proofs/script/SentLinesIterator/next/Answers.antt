use Rattle.std.proofs.Common.{List, ℕ, subst}
use Rattle.std.specs.Prelude.{IsOk}
use Rattle.fx_script.specs.Script.{tasks_from}
use Rattle.fx_script.proofs.Scripts.{first_right}
use Rattle.fx_script.proofs.script.SentLinesIterator.next.Goals as goal

pub checked_line-line-requires : goal.checked_line-line-requires
checked_line-line-requires c =
    let lines = c.self.inside in
    first_right lines.many lines.number c.in_ok-line.line.now c.next.new.self
    (subst (λ (rest : List (List ℕ)). IsOk (tasks_from lines.many lines.number rest)) c.in_ok-line.ensures.steps c.self.invariant)
