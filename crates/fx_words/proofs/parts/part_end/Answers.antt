use Rattle.std.proofs.Common.{◌≡◌, true, false, List, ℕ, rules, subst}
use Rattle.std.specs.Prelude.{codes}
use Rattle.std.specs.Str.{bytes_eq}
use Rattle.fx_words.proofs.PartEnds.{Walked, walk_end, walk_found, walk_on}
use Rattle.fx_words.proofs.parts.part_end.Goals as goal

pub returns-then-eq : goal.returns-then-eq
returns-then-eq c =
    let found : bytes_eq c.in-Some.word.now (codes ";") ≡ true = search rules in
    walk_found c.args.text.now c.loop-word.at c.in-Some.word.now c.next.new.self found
    (subst (λ (left : List (List ℕ)). Walked c.args.text.now c.loop-word.at left) c.in-Some.ensures.steps c.loop-word.invariant)

pub loop-word-preserved : goal.loop-word-preserved
loop-word-preserved c =
    let other : bytes_eq c.in-Some.word.now (codes ";") ≡ false = search rules in
    walk_on c.args.text.now c.loop-word.at c.in-Some.word.now c.next.new.self other
    (subst (λ (left : List (List ℕ)). Walked c.args.text.now c.loop-word.at left) c.in-Some.ensures.steps c.loop-word.invariant)

pub returns : goal.returns
returns c =
    walk_end c.args.text.now c.loop-word.at
    (subst (λ (left : List (List ℕ)). Walked c.args.text.now c.loop-word.at left) c.in-None.ensures.steps.0 c.loop-word.invariant)
