use Rattle.std.proofs.Common.{◌≡◌, List, [], ◌∷◌, ◌++◌, ℕ, rules, sym, ap, ◌∙◌}
use Rattle.fx_steps.specs.declared.step.TreeStep.{TreeStep}
use Rattle.fx_words.specs.Lines.{group_steps_of}
use Rattle.fx_words.specs.Said.{behind_steps, full_step_in}
use Rattle.fx_words.proofs.Groups.{read_part}
use Rattle.fx_words.proofs.check.copy_group.Goals as goal

pub loop-part-preserved : goal.loop-part-preserved
loop-part-preserved c =
    let built = c.args.built in
    let before = c.loop-part.steps.items in
    let step : TreeStep = full_step_in c.in-Ok.words in
    let pushed : c.push.new.self.items ≡ before ++ step ∷ [] = search rules in
    ap (λ (xs : List TreeStep). behind_steps xs (group_steps_of built c.next.new.self)) pushed
    ∙ read_part built before c.in-Some.part c.next.new.self step c.in-Ok.ensures
    ∙ ap (λ (parts : List (List (List ℕ))). behind_steps before (group_steps_of built parts)) (sym c.in-Some.ensures.steps)
    ∙ c.loop-part.invariant
