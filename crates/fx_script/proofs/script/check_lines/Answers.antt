use Rattle.std.proofs.Common.{◌≡◌, ◌+◌, List, ℕ, sym, ap, ◌∙◌}
use Rattle.std.specs.Prelude.{Ok}
use Rattle.fx_script.specs.Script.{task_of, tasks_from, counted}
use Rattle.fx_script.proofs.Scripts.{is_numbered, count_more}
use Rattle.fx_script.proofs.script.check_lines.Goals as goal

pub loop-line-preserved : goal.loop-line-preserved
loop-line-preserved c =
    let many = c.args.many in
    let loop = c.loop-line in
    let right : Ok c.in_default.field-0 ≡ task_of many (loop.count + 1) c.in-Some.line.now = c.in_default.ensures in
    record {
      tasks =
          count_more many loop.count c.in-Some.line.now c.next.new.self c.in_default.field-0 right
          ∙ ap (λ (lines : List (List ℕ)). counted loop.count (tasks_from many (loop.count + 1) lines)) (sym c.in-Some.ensures.steps)
          ∙ loop.invariant.tasks;
      few = is_numbered many (loop.count + 1) c.in-Some.line.now c.in_default.field-0 right;
    }
