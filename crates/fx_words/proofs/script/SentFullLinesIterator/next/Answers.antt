use Rattle.std.proofs.Common.{List, ℕ, ◌∷◌, subst, sym, ap, ◌∙◌, arith, length}
use Rattle.std.specs.Prelude.{IsOk}
use Rattle.fx_words.specs.FullScript.{full_tasks_from, full_tasks_read}
use Rattle.fx_words.proofs.FullScripts.{first_is_right, read_first_task, rest_is_right}
use Rattle.fx_words.proofs.script.SentFullLinesIterator.next.Goals as goal

pub checked_task-line-requires : goal.checked_task-line-requires
checked_task-line-requires c =
    let lines = c.self.inside in
    first_is_right lines.built lines.many lines.number c.in_ok-line.line.now c.next.new.self
    (subst (λ (rest : List (List ℕ)). IsOk (full_tasks_from lines.built lines.many lines.number rest)) c.in_ok-line.ensures.steps c.self.invariant)

pub invariant_of-self-2 : goal.invariant_of-self-2
invariant_of-self-2 c =
    let lines = c.self.inside in
    rest_is_right lines.built lines.many lines.number c.in_ok-line.line.now c.next.new.self
    (subst (λ (rest : List (List ℕ)). IsOk (full_tasks_from lines.built lines.many lines.number rest)) c.in_ok-line.ensures.steps c.self.invariant)

pub returns-clause-steps : goal.returns-clause-steps
returns-clause-steps c =
    let lines = c.self.inside in
    let right : IsOk (full_tasks_from lines.built lines.many lines.number (c.in_ok-line.line.now ∷ c.next.new.self)) =
    subst (λ (rest : List (List ℕ)). IsOk (full_tasks_from lines.built lines.many lines.number rest)) c.in_ok-line.ensures.steps c.self.invariant in
    sym c.self.view_is
    ∙ ap (λ (rest : List (List ℕ)). full_tasks_read (full_tasks_from lines.built lines.many lines.number rest)) c.in_ok-line.ensures.steps
    ∙ read_first_task lines.built lines.many lines.number c.in_ok-line.line.now c.next.new.self c.checked_task-line.result right c.checked_task-line.ensures

pub returns-clause-goes : goal.returns-clause-goes
returns-clause-goes c =
    record { on = λ _. (tt, tt, omega (arith, ap length (returns-clause-steps c))); keeps = tt; rests = λ _. tt }
