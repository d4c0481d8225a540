-- The plans of a line, one after another.
use Rattle.std.proofs.Common.{◌≡◌, ℕ, ◌+◌, List, [], ◌∷◌, refl, sym, ap, ◌∙◌, subst}
use Rattle.std.specs.Prelude.{Ok, Some, None, Option}
use Rattle.fx_item.specs.Overlay.{Entry, Said, or_older}
use Rattle.fx_plain.specs.Tree.{Tree}
use Rattle.fx_namespace.specs.Commits.{IsBelow}
use Rattle.fx_contents.specs.Points.{Points, entry_after, points_after, value_under}
use Rattle.fx_contents.specs.Standing.{AreClear, StandForTree}
use Rattle.fx_steps.specs.Groups.{do_steps_from, next_step, tree_along}
use Rattle.fx_steps.specs.Rows.{do_tree_step}
use Rattle.fx_steps.specs.declared.step.TreeStep.{TreeStep}
use Rattle.fx_tree.specs.Plans.{AreDoneBy, AreNamesPlans, nodes_made, said_along}
use Rattle.fx_tree.proofs.Numbers.{plan_below}
use Rattle.fx_tree.proofs.Steps.{plan_does}

nothing_said : (m : Points) → points_after m (said_along []) ≡ m
nothing_said m = λ i p. m p

over_two : (old : Option Entry) (newer older : Option (Option Entry)) → entry_after newer (entry_after older old) ≡ entry_after (or_older newer older) old
over_two old None older = refl
over_two old (Some e) older = refl

one_more : (m : Points) (said : Said) (more : List Said) → points_after (points_after m said) (said_along more) ≡ points_after m (said_along (said ∷ more))
one_more m said more = λ i p. over_two (m p) (said_along more p) (said p) i

-- each step is done on the tree that the steps before it leave
abbrev Does : Points → List Said → (ℕ → List ℕ) → Tree → List TreeStep → Type 0
Does m saids f t steps = ((index : ℕ) → do_steps_from index t steps ≡ Ok (tree_along t steps)) × StandForTree (points_after m (said_along saids)) f (tree_along t steps)
    × (AreClear m f → AreClear (points_after m (said_along saids)) f)

does : (steps : List TreeStep) (m : Points) (f : ℕ → List ℕ) (t : Tree) (id store : ℕ) (saids : List Said) → StandForTree m f t → IsBelow (value_under m) id store
    → AreNamesPlans m id store steps saids → Does m saids f t steps
does [] m f t id store saids s b none = subst (λ z. Does m z f t []) (sym none)
    ((λ index. refl), subst (λ z. StandForTree z f t) (sym (nothing_said m)) s, λ c. subst (λ z. AreClear z f) (sym (nothing_said m)) c)
does (step ∷ steps) m f t id store saids s b d =
    let said = d.0 in
    let more = d.1 in
    let done = plan_does m f t id store step said s b d.3 in
    let rest = does steps (points_after m said) f (do_tree_step t step).1 (nodes_made step + id) (nodes_made step + store) more done.stands (plan_below m id store step said b d.3) d.4 in
    subst (λ z. Does m z f t (step ∷ steps)) (sym d.2) (
      (λ index. ap (λ a. next_step index a (do_steps_from (index + 1) (do_tree_step t step).1 steps)) done.done ∙ rest.0 (index + 1)),
      subst (λ z. StandForTree z f (tree_along t (step ∷ steps))) (one_more m said more) rest.1,
      λ c. subst (λ z. AreClear z f) (one_more m said more) (rest.2 (done.clear c)),
    )

pub line_does : (m : Points) (f : ℕ → List ℕ) (t : Tree) (id store : ℕ) (steps : List TreeStep) (saids : List Said) → StandForTree m f t → IsBelow (value_under m) id store
    → AreNamesPlans m id store steps saids → AreDoneBy m saids f t steps
line_does m f t id store steps saids s b d = let r = does steps m f t id store saids s b d in record { done = r.0 1; stands = r.1; clear = r.2 }
