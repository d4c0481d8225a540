use Rattle.std.proofs.Common.{◌≡◌, ℕ, ◌+◌, ◌<◌, ◌++◌, List, [], ◌∷◌, length, length-append, get_or, cond, sym, subst, ap, ◌∙◌, arith}
use Rattle.std.specs.Prelude.{nat_lt, Option, None}
use Rattle.fx_item.specs.Look.{ItemMap, map_of}
use Rattle.fx_item.specs.declared.lock.LockKey.{LockKey}
use Rattle.fx_plain.specs.declared.kind.Kind.{Kind}
use Rattle.fx_plain.specs.declared.kind.Kind.TheVariants.{Dir}
use Rattle.fx_dir.specs.Walk.{child_with_kind, EndsAfter, GoesThrough}
use Rattle.fx_dir.proofs.Walking.{IsWalkTo, ends_at_file, ends_at_node, ends_missing, is_dir, is_file, one_more, through_one_more}
use Rattle.fx_dir.proofs.Trees.{in_tree}
use Rattle.fx_dir.specs.declared.walk.WalkEnd.{WalkEnd}
use Rattle.fx_dir.specs.declared.walk.WalkEnd.TheVariants.{Node, Missing, Stopped}
use Rattle.fx_plain.specs.declared.step.Refusal.TheVariants.{NotFound, NotDir}
use Rattle.fx_dir.proofs.walk.walk_path.Goals as goal

pub returns-then-eq-clause-tree : goal.returns-then-eq-clause-tree
returns-then-eq-clause-tree g c = λ h t tree.
    let w = subst (λ p. IsWalkTo (map_of (g.L.Look.said c.args.look.now)) p c.loop-name.name-index c.loop-name.dirs.items c.loop-name.at c.loop-name.kind) c.as_slice-names.ensures c.loop-name.invariant in
    in_tree tree c.args.path.now c.loop-name.dirs.items w.through (Stopped NotDir) (ends_at_file w (is_file _ c.if-eq.ensures) (omega (arith, ap length c.as_slice-names.ensures)))

-- the directories with one more
went : (m : ItemMap) (path names : List (List ℕ)) (i : ℕ) (dirs pushed more : List LockKey) (at : LockKey) (kind : Kind)
    → names ≡ path → IsWalkTo m names i dirs at kind → kind ≡ Dir → pushed ≡ dirs ++ at ∷ [] → more ≡ pushed → GoesThrough m path more
went m path names i dirs pushed more at kind same w dir pushed_is more_is =
    subst (λ p. GoesThrough m p more) same (subst (λ d. GoesThrough m names d) (sym pushed_is ∙ sym more_is) (through_one_more w dir))

pub returns-in_default-clause-through : goal.returns-in_default-clause-through
returns-in_default-clause-through g c =
    went _ c.args.path.now _ c.loop-name.name-index _ _ c.new-walked.result _ _ c.as_slice-names.ensures c.loop-name.invariant (is_dir _ c.if-eq.ensures) c.in_ok-push.ensures.items c.new-walked.ensures

-- where the walk ends
ended : (m : ItemMap) (path names : List (List ℕ)) (i : ℕ) (dirs more : List LockKey) (at : LockKey) (kind : Kind) (name : List ℕ) (n : ℕ) (end : WalkEnd) (found : Option (LockKey × Kind))
    → names ≡ path → IsWalkTo m names i dirs at kind → kind ≡ Dir → i < length names → name ≡ get_or names i name → found ≡ child_with_kind m at name → found ≡ None
    → more ≡ dirs ++ at ∷ [] → n ≡ length more → end ≡ cond (nat_lt n (length names)) (Stopped NotFound) Missing → EndsAfter m path (length more) end
ended m path names i dirs more at kind name n end found same w dir less is found_is none more_is n_is end_is =
    let e = ends_missing w dir name less is (sym found_is ∙ none) in
    let count : n ≡ i + 1 = omega (arith, ap length more_is, length-append dirs (at ∷ []), w.count) in
    subst (λ p. EndsAfter m p (length more) end) same
    (subst (λ d. EndsAfter m names (length d) end) (sym more_is)
    (subst (λ z. EndsAfter m names (length (dirs ++ at ∷ [])) z) (ap (λ k. cond (nat_lt k (length names)) (Stopped NotFound) Missing) (sym count) ∙ sym end_is) e))

pub returns-in_default-clause-end : goal.returns-in_default-clause-end
returns-in_default-clause-end g c =
    ended _ c.args.path.now _ _ _ c.new-walked.result _ _ c.name-item.result (length c.as_slice.result.now) c.nothing_after-end.result c.in_ok-next.field-0 c.as_slice-names.ensures c.loop-name.invariant (is_dir _ c.if-eq.ensures) c.loop-name-test.true c.name-item.is
    c.in_ok-next.ensures.found c.in_default.is (c.new-walked.ensures ∙ c.in_ok-push.ensures.items) (ap length c.as_slice.ensures) c.nothing_after-end.ensures

pub returns-in_default-clause-tree : goal.returns-in_default-clause-tree
returns-in_default-clause-tree g c = λ h t tree.
    in_tree tree c.args.path.now c.new-walked.result (returns-in_default-clause-through g c) c.nothing_after-end.result (returns-in_default-clause-end g c)

pub loop-name-preserved : goal.loop-name-preserved
loop-name-preserved g c =
    let w = one_more c.loop-name.invariant (is_dir _ c.if-eq.ensures) c.name-item.result c.in-Some.next c.in-Some.next_kind c.loop-name-test.true c.name-item.is (sym c.in_ok-next.ensures.found ∙ c.in-Some.is) in
    subst (λ d. IsWalkTo (map_of (g.L.Look.said c.args.look.now)) c.as_slice-names.result.now (c.loop-name.name-index + 1) d c.in-Some.next c.in-Some.next_kind) (sym c.in_ok-push.ensures.items) w

pub returns-clause-tree : goal.returns-clause-tree
returns-clause-tree g c = λ h t tree.
    let w = subst (λ p. IsWalkTo (map_of (g.L.Look.said c.args.look.now)) p c.loop-name.name-index c.loop-name.dirs.items c.loop-name.at c.loop-name.kind) c.as_slice-names.ensures c.loop-name.invariant in
    in_tree tree c.args.path.now c.loop-name.dirs.items w.through (Node c.loop-name.at c.loop-name.kind) (ends_at_node w (omega (arith, ap length c.as_slice-names.ensures)) (omega (arith, ap length c.as_slice-names.ensures)))
