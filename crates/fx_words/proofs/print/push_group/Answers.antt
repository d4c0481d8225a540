use Rattle.std.proofs.Common.{◌≡◌, List, ℕ, ◌∷◌, ◌++◌, rules, sym, ap, ◌∙◌}
use Rattle.std.specs.Prelude.{string_bytes}
use Rattle.std.proofs.lemmas.List.{append_assoc}
use Rattle.fx_steps.specs.declared.step.TreeStep.{TreeStep}
use Rattle.fx_script.specs.Print.{spaced}
use Rattle.fx_words.specs.FullText.{full_step_words, group_words}
use Rattle.fx_words.proofs.FullPrints.{behind_text, group_text}
use Rattle.fx_words.proofs.print.push_group.Goals as goal

pub loop-step-init : goal.loop-step-init
loop-step-init c =
    let first : TreeStep = c.in-Some.first.now in
    let rest : List TreeStep = c.in-Some.rest.now in
    let before : List ℕ = string_bytes c.args.out.now in
    let steps : c.args.steps.now ≡ first ∷ rest = search rules in
    let pushed : string_bytes c.push_full_step.new.out ≡ before ++ spaced (full_step_words first) = search rules in
    ap (λ (text : List ℕ). text ++ behind_text rest) pushed
    ∙ append_assoc before (spaced (full_step_words first)) (behind_text rest)
    ∙ ap (λ (text : List ℕ). before ++ text) (sym (group_text first rest))
    ∙ ap (λ (all : List TreeStep). before ++ spaced (group_words all)) (sym steps)
