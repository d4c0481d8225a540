use Rattle.std.proofs.Common.{◌≡◌, ◌+◌, List, ℕ, sym, ap, ◌∙◌}
use Rattle.std.specs.Prelude.{Ok}
use Rattle.fx_words.specs.FullScript.{full_counted, full_task_of, full_tasks_from}
use Rattle.fx_words.proofs.FullScripts.{count_line, is_numbered}
use Rattle.fx_words.proofs.script.count_lines.Goals as goal

pub loop-line-preserved : goal.loop-line-preserved
loop-line-preserved c =
    let built = c.args.built in
    let many = c.args.many in
    let loop = c.loop-line in
    let right : Ok c.in_default.field-0 ≡ full_task_of built many (loop.count + 1) c.in-Some.line.now = c.in_default.ensures in
    record {
      tasks =
          count_line built many loop.count c.in-Some.line.now c.next.new.self c.in_default.field-0 right
          ∙ ap (λ (lines : List (List ℕ)). full_counted loop.count (full_tasks_from built many (loop.count + 1) lines)) (sym c.in-Some.ensures.steps)
          ∙ loop.invariant.tasks;
      few = is_numbered built many (loop.count + 1) c.in-Some.line.now c.in_default.field-0 right;
    }
