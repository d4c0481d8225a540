-- What the steps of a line do, one after another.
use Rattle.std.specs.Prelude.{ℕ, ◌+◌, ◌||◌, List, [], ◌∷◌, Option, None, Some, Result, Ok, Err, if◌then◌else◌, nat_lt}
use Rattle.fx_plain.specs.Tree.{Tree}
use Rattle.fx_plain.specs.declared.step.Answer.{Answer}
use Rattle.fx_steps.specs.declared.step.TreeStep.{TreeStep}
use Rattle.fx_steps.specs.declared.refusal.StepRefusal.{StepRefusal}
use Rattle.fx_steps.specs.Rows.{do_tree_step}

abbrev pub next_step : ℕ → Result Answer StepRefusal → Result Tree (ℕ × StepRefusal)
    → Result Tree (ℕ × StepRefusal)
next_step index (Ok answer) rest = rest
next_step index (Err refusal) rest = Err (index, refusal)

-- the steps from the one with this index on
abbrev pub do_steps_from : ℕ → Tree → List TreeStep → Result Tree (ℕ × StepRefusal)
do_steps_from index tree [] = Ok tree
do_steps_from index tree (step ∷ steps) =
    next_step index (do_tree_step tree step).0
    (do_steps_from (index + 1) (do_tree_step tree step).1 steps)

-- the tree after all of the steps, or the first refusal and the index of its step, from 1
abbrev pub do_tree_steps : Tree → List TreeStep → Result Tree (ℕ × StepRefusal)
do_tree_steps tree steps = do_steps_from 1 tree steps

-- the tree after a line: where it was refused, the tree before it
abbrev pub tree_after_line : Tree → Result Tree (ℕ × StepRefusal) → Tree
tree_after_line tree (Ok after) = after
tree_after_line tree (Err refused) = tree

-- the tree that steps lead to, of which each was done or refused
abbrev pub tree_along : Tree → List TreeStep → Tree
tree_along tree [] = tree
tree_along tree (step ∷ steps) = tree_along (do_tree_step tree step).1 steps
