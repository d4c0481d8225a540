-- A rename in memory is one on the tree.
use Rattle.std.proofs.Common.{◌≡◌, ◌≢◌, ℕ, ◌+◌, ◌-◌, ◌&&◌, ◌∙◌, ◌++◌, List, [], ◌∷◌, length, length-append, drop, take, refl, sym, ap, cond}
use Rattle.std.specs.Prelude.{Bool, true, false, ◌||◌, Option, Some, None, IsSome, Result, Ok, Err, OnOk, OnErr, is_err, is_some, map, filter, nat_eq, nat_lt, not, option_map, slice_get}
use Rattle.std.specs.Cmp.Lexicographic.{pointwise}
use Rattle.std.specs.List.{list_any}
use Rattle.std.specs.Ordering.{eq_by_cmp}
use Rattle.std.specs.FinMap as finite
use Rattle.std.specs.FinMap.{get}
use Rattle.std.proofs.lemmas.List.{length-drop}
use Rattle.fx_item.specs.Name.{name_cmp}
use Rattle.fx_plain.specs.Node.{Node}
use Rattle.fx_plain.specs.Tree.{Tree}
use Rattle.fx_plain.specs.Table.{walk}
use Rattle.fx_plain.specs.declared.path.TheConstants.{MAX_NAMES}
use Rattle.fx_plain.specs.declared.step.Answer.{Answer}
use Rattle.fx_plain.specs.declared.step.Answer.TheVariants.{Done}
use Rattle.fx_plain.specs.declared.step.Refusal.{Refusal}
use Rattle.fx_plain.specs.declared.step.Refusal.TheVariants.{Exists, TooLong}
use Rattle.fx_steps.specs.Moved.{has_below, lies_below, moved, rest_below}
use Rattle.fx_steps.specs.Rows.{Stepped, move_apart, move_from, move_to, move_within, refuses, refuses_basic, rename_step, too_deep}
use Rattle.fx_steps.specs.declared.refusal.StepRefusal.TheVariants as refusals
use Rattle.fx_steps.proofs.Below.{Path, not_lying}
use Rattle.fx_steps.proofs.Done.{nothing_below}
use Rattle.fx_memtree.specs.Carried.{carried_all, carries_of, carry_of, ends_deep, with_held_places, without_held_places}
use Rattle.fx_memtree.specs.declared.carry.Carry.{Carry}
use Rattle.fx_memtree.proofs.CarriedTree.{carried_is, free_ends, taken_back}
use Rattle.fx_memtree.proofs.Sought.{same_tests}

deep_in : (from to : Path) (ks : List Path) → list_any ends_deep (map (carry_of from to) (filter (lies_below from) ks))
    ≡ list_any (λ path. lies_below from path && nat_lt MAX_NAMES (length to + (length path - length from))) ks
deep_in from to [] = refl
deep_in from to (k ∷ ks) = by (lies_below from k) (deep_in from to ks)
  where
    long : length (to ++ drop (length from) k) ≡ length to + (length k - length from)
    long = length-append to (drop (length from) k) ∙ ap (λ n. length to + n) (length-drop (length from) k)

    by : (b : Bool) → list_any ends_deep (map (carry_of from to) (filter (lies_below from) ks)) ≡ list_any (λ path. lies_below from path && nat_lt MAX_NAMES (length to + (length path - length from))) ks
        → list_any ends_deep (map (carry_of from to) (cond b (k ∷ filter (lies_below from) ks) (filter (lies_below from) ks)))
        ≡ ((b && nat_lt MAX_NAMES (length to + (length k - length from))) || list_any (λ path. lies_below from path && nat_lt MAX_NAMES (length to + (length path - length from))) ks)
    by true more = λ i. nat_lt MAX_NAMES (long i) || more i
    by false more = more

pub deep_is : (tree : Tree) (from to : Path) → list_any ends_deep (carries_of tree from to) ≡ too_deep tree from to
deep_is tree from to = deep_in from to (finite.keys tree)

-- the row of a move, by its two tests
row : Tree → Path → Path → Bool → Bool → Stepped
row tree from to has deep = cond has (refuses_basic tree Exists) (cond deep (refuses_basic tree TooLong) (Ok Done, moved tree from to))

pub too_long : (tree : Tree) (from to : Path) → has_below tree to ≡ false → too_deep tree from to ≡ true → move_apart tree from to ≡ refuses_basic tree TooLong
unfolding row
too_long tree from to has deep = λ i. row tree from to (has i) (deep i)

pub all_carried : (tree now : Tree) (from to : Path) → IsSome (get tree from) → lies_below from to ≡ false → has_below tree to ≡ false → too_deep tree from to ≡ false
    → now ≡ carried_all (with_held_places tree (carries_of tree from to)) (carries_of tree from to) → move_apart tree from to ≡ (Ok Done, now)
unfolding row
all_carried tree now from to there apart has deep is =
    let free : (rest : Path) → get tree (to ++ rest) ≡ None = λ rest. nothing_below tree to rest has in
    let onto : (rest : Path) → from ≢ to ++ rest = λ rest e. none (get tree from) there (ap (get tree) e ∙ free rest) in
    (λ i. row tree from to (has i) (deep i)) ∙ ap (λ t. (Ok Done, t)) (sym (is ∙ carried_is from to (not_lying from to apart) onto tree free))
  where
    none : (o : Option Node) → IsSome o → o ≡ None → ⊥
    none None h e = absurd (cc h)
    none (Some node) h e = cc e

pub given_back : (tree now back : Tree) (from to : Path) (carries : List Carry) (n : ℕ) → lies_below from to ≡ false → IsSome (get tree from) → has_below tree to ≡ false → carries ≡ carries_of tree from to
    → now ≡ with_held_places tree (take n carries) → back ≡ without_held_places now carries → back ≡ tree
given_back tree now back from to carries n apart there has all made dropped =
    let free : (rest : Path) → get tree (to ++ rest) ≡ None = λ rest. nothing_below tree to rest has in
    let onto : (rest : Path) → from ≢ to ++ rest = λ rest e. none (get tree from) there (ap (get tree) e ∙ free rest) in
    dropped
    ∙ (λ i. without_held_places (made i) carries)
    ∙ (λ i. without_held_places (with_held_places tree (take n (all i))) (all i))
    ∙ taken_back tree (carries_of tree from to) n (free_ends from to (not_lying from to apart) onto tree free)
  where
    none : (o : Option Node) → IsSome o → o ≡ None → ⊥
    none None h e = absurd (cc h)
    none (Some node) h e = cc e

-- ---- a rename, step by step

pub err_fact : {A E P : Type 0} (r : Result A E) → true ≡ is_err r → OnErr r P → P
err_fact (Ok x) e h = absurd (cc e)
err_fact (Err x) e h = h

pub ok_fact : {A E P : Type 0} (r : Result A E) → false ≡ is_err r → OnOk r P → P
ok_fact (Ok x) e h = h
ok_fact (Err x) e h = absurd (cc e)

rename_row : (tree : Tree) (from to : Path) (volume other : List ℕ) → Some volume ≡ slice_get from 0 → Some other ≡ slice_get to 0
    → rename_step tree from to ≡ move_from tree from to (eq_by_cmp name_cmp volume other) (walk tree from) (get tree from)
rename_row tree [] to volume other e f = absurd (cc e)
rename_row tree (x ∷ from) [] volume other e f = absurd (cc f)
rename_row tree (x ∷ from) (y ∷ to) volume other e f =
    let first : volume ≡ x = cc e in
    let second : other ≡ y = cc f in
    λ i. move_from tree (x ∷ from) (y ∷ to) (eq_by_cmp name_cmp (sym first i) (sym second i)) (walk tree (x ∷ from)) (get tree (x ∷ from))

from_some : (tree : Tree) (from to : Path) (same : Bool) (there : Option Node) → is_some there ≡ true → move_from tree from to same None there ≡ move_within tree from to (lies_below from to) same
from_some tree from to same None e = absurd (cc e)
from_some tree from to same (Some node) e = refl

-- what is known of both paths when their volumes are compared
pub record IsBeforeVolumes (tree : Tree) (from to : Path) (volume other : List ℕ) : Type 0 where
  pub first : Some volume ≡ slice_get from 0
  pub second : Some other ≡ slice_get to 0
  pub way : None ≡ walk tree from
  pub there : is_some (get tree from) ≡ true
  pub apart : lies_below from to ≡ false

compared : (tree : Tree) (from to : Path) (volume other : List ℕ) (same : Bool) → IsBeforeVolumes tree from to volume other → eq_by_cmp name_cmp volume other ≡ same → rename_step tree from to ≡ move_within tree from to false same
compared tree from to volume other same k e =
    rename_row tree from to volume other k.first k.second
    ∙ (λ i. move_from tree from to (e i) (sym k.way i) (get tree from))
    ∙ from_some tree from to same (get tree from) k.there
    ∙ (λ i. move_within tree from to (k.apart i) same)

is_false : (b : Bool) → true ≡ not b → b ≡ false
is_false true e = absurd (cc e)
is_false false e = refl

is_true : (b : Bool) → false ≡ not b → b ≡ true
is_true true e = refl
is_true false e = absurd (cc e)

pub crossing : (tree : Tree) (from to : Path) (volume other : List ℕ) → IsBeforeVolumes tree from to volume other → true ≡ not (pointwise nat_eq volume other) → rename_step tree from to ≡ refuses tree refusals.CrossVolume
crossing tree from to volume other k e = compared tree from to volume other false k (sym (same_tests volume other) ∙ is_false (pointwise nat_eq volume other) e)

pub within : (tree : Tree) (from to : Path) (volume other : List ℕ) → IsBeforeVolumes tree from to volume other → false ≡ not (pointwise nat_eq volume other) → rename_step tree from to ≡ move_to tree from to (walk tree to)
within tree from to volume other k e = compared tree from to volume other true k (sym (same_tests volume other) ∙ is_true (pointwise nat_eq volume other) e)

pub found_some : {A B : Type 0} (f : A → B) (o : Option A) (p : Option B) → option_map f o ≡ p → is_some o ≡ true → is_some p ≡ true
found_some f None p e h = absurd (cc h)
found_some f (Some x) p e h = ap is_some (sym e)
