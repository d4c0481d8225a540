-- The steps of a line.
use Rattle.std.proofs.Common.{◌≡◌, ℕ, ◌+◌, ◌<◌, ◌≤◌, ◌++◌, List, [], ◌∷◌, length, refl, sym, ap, subst, ◌∙◌, arith}
use Rattle.std.specs.Prelude.{Result, Ok, Err, map}
use Rattle.fx_item.specs.declared.space.Need.{Need}
use Rattle.fx_plain.specs.Tree.{Tree}
use Rattle.fx_plain.specs.Table.{do_all, do_from, do_step, go_on}
use Rattle.fx_plain.specs.declared.step.Step.{Step}
use Rattle.fx_plain.specs.declared.step.Answer.{Answer}
use Rattle.fx_plain.specs.declared.step.Refusal.{Refusal}
use Rattle.fx_steps.specs.declared.step.TreeStep.{TreeStep}
use Rattle.fx_steps.specs.declared.step.TreeStep.TheVariants.{Basic}
use Rattle.fx_steps.specs.declared.refusal.StepRefusal.{StepRefusal}
use Rattle.fx_steps.specs.Rows.{do_tree_step, with_basic, with_basic_index}
use Rattle.fx_steps.specs.Groups.{do_steps_from, do_tree_steps, next_step, tree_after_line, tree_along}
use Rattle.fx_steps.specs.Needs.{both_needs, line_need, line_touched, step_need, step_touched}

done_from : (index : ℕ) (tree : Tree) (steps : List TreeStep) (after : Tree) → do_steps_from index tree steps ≡ Ok after → after ≡ tree_along tree steps
done_from index tree [] after e = cc e
done_from index tree (step ∷ steps) after e = by (do_tree_step tree step).0 (done_from (index + 1) (do_tree_step tree step).1 steps after) e
  where
    rest : Result Tree (ℕ × StepRefusal)
    rest = do_steps_from (index + 1) (do_tree_step tree step).1 steps

    by : (found : Result Answer StepRefusal) → (rest ≡ Ok after → after ≡ tree_along (do_tree_step tree step).1 steps) → next_step index found rest ≡ Ok after → after ≡ tree_along (do_tree_step tree step).1 steps
    by (Ok answer) later e = later e
    by (Err refusal) later e = absurd (cc e)

pub line_done : (tree : Tree) (steps : List TreeStep) (after : Tree) → do_tree_steps tree steps ≡ Ok after → after ≡ tree_along tree steps
line_done tree steps after e = done_from 1 tree steps after e

abbrev index_in : ℕ → Result Tree (ℕ × StepRefusal) → ℕ
index_in other (Ok after) = other
index_in other (Err refused) = refused.0

record IsIndexOf (first index count : ℕ) : Type 0 where
  from : first ≤ index
  within : index < first + count

refused_from : (first : ℕ) (tree : Tree) (steps : List TreeStep) (index : ℕ) (refusal : StepRefusal) → do_steps_from first tree steps ≡ Err (index, refusal) → IsIndexOf first index (length steps)
refused_from first tree [] index refusal e = absurd (cc e)
refused_from first tree (step ∷ steps) index refusal e = by (do_tree_step tree step).0 (refused_from (first + 1) (do_tree_step tree step).1 steps index refusal) e
  where
    rest : Result Tree (ℕ × StepRefusal)
    rest = do_steps_from (first + 1) (do_tree_step tree step).1 steps

    by : (found : Result Answer StepRefusal) → (rest ≡ Err (index, refusal) → IsIndexOf (first + 1) index (length steps)) → next_step first found rest ≡ Err (index, refusal) → IsIndexOf first index (length (step ∷ steps))
    by (Ok answer) later e = let l = later e in record { from = omega (arith, l.from); within = omega (arith, l.within) }
    by (Err why) later e = let same : first ≡ index = sym (ap (index_in first) (sym e)) in record { from = omega (arith, same); within = omega (arith, same) }

pub line_refused : (tree : Tree) (steps : List TreeStep) (index : ℕ) (refusal : StepRefusal) → do_tree_steps tree steps ≡ Err (index, refusal)
    → (1 ≤ index) × (index ≤ length steps) × (tree_after_line tree (do_tree_steps tree steps) ≡ tree)
line_refused tree steps index refusal e =
    let i = refused_from 1 tree steps index refusal e in
    (i.from, omega (arith, i.within), ap (tree_after_line tree) e)

next_basic : (index : ℕ) (found : Result Answer Refusal) (rest : Result Tree (ℕ × Refusal)) → next_step index (with_basic found) (with_basic_index rest) ≡ with_basic_index (go_on index found rest)
next_basic index (Ok answer) rest = refl
next_basic index (Err refusal) rest = refl

basic_from : (index : ℕ) (tree : Tree) (steps : List Step) → do_steps_from index tree (map Basic steps) ≡ with_basic_index (do_from index tree steps)
basic_from index tree [] = refl
basic_from index tree (step ∷ steps) =
    ap (next_step index (with_basic (do_step tree step).0)) (basic_from (index + 1) (do_step tree step).1 steps)
    ∙ next_basic index (do_step tree step).0 (do_from (index + 1) (do_step tree step).1 steps)

pub line_basic : (tree : Tree) (steps : List Step) → do_tree_steps tree (map Basic steps) ≡ with_basic_index (do_all tree steps)
line_basic tree steps = basic_from 1 tree steps

plus_parted : (a b c : ℕ) → a + (b + c) ≡ a + b + c
plus_parted a b c = omega arith

plus_nothing : (a : ℕ) → a ≡ 0 + a
plus_nothing a = omega arith

needs_parted : (a b c : Need) → both_needs a (both_needs b c) ≡ both_needs (both_needs a b) c
needs_parted a b c = λ i. record {
  nodes = plus_parted a.nodes b.nodes c.nodes i;
  attributes = plus_parted a.attributes b.attributes c.attributes i;
  blocks = plus_parted a.blocks b.blocks c.blocks i;
}

pub need_parted : (tree : Tree) (first more : List TreeStep) → line_need tree (first ++ more) ≡ both_needs (line_need tree first) (line_need (tree_along tree first) more)
need_parted tree [] more = λ i. record {
  nodes = plus_nothing (line_need tree more).nodes i;
  attributes = plus_nothing (line_need tree more).attributes i;
  blocks = plus_nothing (line_need tree more).blocks i;
}
need_parted tree (step ∷ steps) more =
    ap (both_needs (step_need tree step)) (need_parted (do_tree_step tree step).1 steps more)
    ∙ needs_parted (step_need tree step) (line_need (do_tree_step tree step).1 steps) (line_need (tree_along (do_tree_step tree step).1 steps) more)

pub touched_parted : (tree : Tree) (first more : List TreeStep) → line_touched tree (first ++ more) ≡ line_touched tree first + line_touched (tree_along tree first) more
touched_parted tree [] more = plus_nothing (line_touched tree more)
touched_parted tree (step ∷ steps) more =
    ap (λ n. step_touched tree step + n) (touched_parted (do_tree_step tree step).1 steps more)
    ∙ plus_parted (step_touched tree step) (line_touched (do_tree_step tree step).1 steps) (line_touched (tree_along (do_tree_step tree step).1 steps) more)
