-- Which lines are refused as a whole.
use Rattle.std.proofs.Common.{◌≡◌, ◌↔◌, ℕ, ◌≤◌, ◌⊎◌, inl, inr, Bool, true, false, List, length, refl, sym, ap, ◌∙◌, arith}
use Rattle.std.specs.Prelude.{Result, Ok, Err, ◌||◌, nat_lt}
use Rattle.std.proofs.lemmas.Bool.{lt-ltb, le-ltb, ltb-true}
use Rattle.fx_plain.specs.Tree.{Tree}
use Rattle.fx_steps.specs.declared.step.TreeStep.{TreeStep}
use Rattle.fx_steps.specs.declared.refusal.StepRefusal.{StepRefusal}
use Rattle.fx_steps.specs.declared.refusal.StepRefusal.TheVariants.{TooBig}
use Rattle.fx_steps.specs.Groups.{do_tree_steps, tree_after_line, tree_along}
use Rattle.fx_steps.specs.Needs.{do_line, if_small, is_too_big, line_touched, line_written}

past : (w t : ℕ) → (257 ≤ w) ⊎ (4097 ≤ t) → (nat_lt 256 w || nat_lt 4096 t) ≡ true
past w t (inl h) = ap (λ b. b || nat_lt 4096 t) (lt-ltb 256 w h)
past w t (inr h) = by (nat_lt 256 w) (lt-ltb 4096 t h)
  where
    by : (b : Bool) → nat_lt 4096 t ≡ true → (b || nat_lt 4096 t) ≡ true
    by true e = refl
    by false e = e

past_one : (w t : ℕ) → (nat_lt 256 w || nat_lt 4096 t) ≡ true → (257 ≤ w) ⊎ (4097 ≤ t)
past_one w t e = by (nat_lt 256 w) refl e
  where
    by : (b : Bool) → nat_lt 256 w ≡ b → (b || nat_lt 4096 t) ≡ true → (257 ≤ w) ⊎ (4097 ≤ t)
    by true first e = inl (ltb-true 256 w first)
    by false first e = inr (ltb-true 4096 t e)

not_past : (w t : ℕ) → w ≤ 256 → t ≤ 4096 → (nat_lt 256 w || nat_lt 4096 t) ≡ false
not_past w t h k = ap (λ b. b || nat_lt 4096 t) (le-ltb 256 w h) ∙ le-ltb 4096 t k

small_is : (found : Result Tree (ℕ × StepRefusal)) → if_small false found ≡ found
small_is (Ok after) = refl
small_is (Err refused) = refl

pub small_line : (tree : Tree) (steps : List TreeStep) → line_written tree steps ≤ 256 → line_touched tree steps ≤ 4096 → do_line tree steps ≡ do_tree_steps tree steps
small_line tree steps h k = ap (λ b. if_small b (do_tree_steps tree steps)) (not_past _ _ h k) ∙ small_is (do_tree_steps tree steps)

pub refused_line : (tree : Tree) (steps : List TreeStep) (index : ℕ) (refusal : StepRefusal) → do_tree_steps tree steps ≡ Err (index, refusal) → do_line tree steps ≡ Err (index, refusal)
refused_line tree steps index refusal e = ap (if_small (is_too_big tree steps)) e

abbrev refusal_or : StepRefusal → Result Tree (ℕ × StepRefusal) → StepRefusal
refusal_or other (Ok after) = other
refusal_or other (Err why) = why.1

module _ (refused : (tree : Tree) (steps : List TreeStep) (index : ℕ) (refusal : StepRefusal) → do_tree_steps tree steps ≡ Err (index, refusal) → (1 ≤ index) × (index ≤ length steps) × (tree_after_line tree (do_tree_steps tree steps) ≡ tree))
    (done : (tree : Tree) (steps : List TreeStep) (after : Tree) → do_tree_steps tree steps ≡ Ok after → after ≡ tree_along tree steps) where
  pub whole_line : (tree : Tree) (steps : List TreeStep) (refusal : StepRefusal) → (do_line tree steps ≡ Err (0, refusal))
      ↔ ((do_tree_steps tree steps ≡ Ok (tree_along tree steps)) × ((257 ≤ line_written tree steps) ⊎ (4097 ≤ line_touched tree steps)) × (refusal ≡ TooBig))
  whole_line tree steps refusal = (to (do_tree_steps tree steps) refl (is_too_big tree steps) refl, from)
    where
      Facts : Type 0
      Facts = (do_tree_steps tree steps ≡ Ok (tree_along tree steps)) × ((257 ≤ line_written tree steps) ⊎ (4097 ≤ line_touched tree steps)) × (refusal ≡ TooBig)

      to : (found : Result Tree (ℕ × StepRefusal)) → do_tree_steps tree steps ≡ found → (big : Bool) → is_too_big tree steps ≡ big → if_small big found ≡ Err (0, refusal) → Facts
      to (Err why) e big is same = absurd (omega (arith, (refused tree steps 0 refusal (e ∙ same)).0))
      to (Ok after) e true is same = (e ∙ ap Ok (done tree steps after e), past_one _ _ is, ap (refusal_or refusal) (sym same))
      to (Ok after) e false is same = absurd (cc same)

      from : Facts → do_line tree steps ≡ Err (0, refusal)
      from (e, much, why) =
          ap (if_small (is_too_big tree steps)) e
          ∙ ap (λ b. if_small b (Ok (tree_along tree steps))) (past _ _ much)
          ∙ ap (λ r. Err (0, r)) (sym why)
