-- What a step that is done changes of a tree.
use Rattle.std.proofs.Common.{◌≡◌, ◌≢◌, ◌⊎◌, inl, inr, ℕ, ◌+◌, ◌-◌, ◌≤◌, ◌++◌, List, [], ◌∷◌, length, length-append, refl, sym, ap, ◌∙◌, cond, arith}
use Rattle.std.specs.Prelude.{Bool, true, false, ◌||◌, ◌&&◌, Option, Some, None, Result, Ok, Err, is_some, nat_lt}
use Rattle.std.specs.List.{list_any}
use Rattle.std.specs.Ordering.{eq_by_cmp, is_eq}
use Rattle.std.specs.declared.cmp.Ordering.{Ordering}
use Rattle.std.specs.declared.cmp.Ordering.TheVariants.{Less, Equal, Greater}
use Rattle.std.specs.FinMap as finite
use Rattle.std.specs.FinMap.{get}
use Rattle.std.proofs.lemmas.Bool.{ltb-false}
use Rattle.fx_item.specs.Name.{name_cmp}
use Rattle.fx_plain.specs.Node.{Attributes, Contents, Node, Dir, File}
use Rattle.fx_plain.specs.Tree.{IsDirAt, Tree, children, path_cmp}
use Rattle.fx_plain.specs.Table.{walk}
use Rattle.fx_plain.specs.declared.contents.TheConstants.{MAX_FILE}
use Rattle.fx_plain.specs.declared.path.TheConstants.{MAX_NAMES}
use Rattle.fx_plain.specs.declared.step.Answer.{Answer}
use Rattle.fx_plain.specs.declared.step.Answer.TheVariants.{Done}
use Rattle.fx_plain.specs.declared.step.Refusal.{Refusal}
use Rattle.fx_plain.specs.declared.step.Refusal.TheVariants.{Exists, TooLong}
use Rattle.fx_plain.proofs.Paths.{paths_exact}
use Rattle.fx_plain.proofs.Trees.{walked}
use Rattle.fx_contents.specs.Cuts.{IsTruncated, truncated}
use Rattle.fx_contents.specs.Marks.{IsMarked, marked_node}
use Rattle.fx_steps.specs.declared.step.TreeStep.{TreeStep}
use Rattle.fx_steps.specs.declared.refusal.StepRefusal.{StepRefusal}
use Rattle.fx_steps.specs.declared.refusal.StepRefusal.TheVariants as refusals
use Rattle.fx_steps.specs.Moved.{has_below, lies_below, moved}
use Rattle.fx_steps.specs.Rows.{Stepped, attributes_of_node, del_attr_at, del_attr_step, if_childless, move_apart, move_from, move_to, move_within, refuses, refuses_basic, remove_at, remove_step, rename_step, set_attr_at, set_attr_step, too_deep, truncate_at, without_attr}
use Rattle.fx_steps.specs.Changes.{AreInVolume, IsRemoved, IsRenamed}
use Rattle.fx_steps.proofs.Below.{Path, last_name, lying, not_lying, path_itself, path_true, rest_of_append, same_name}
use Rattle.fx_steps.proofs.MovedTree.{moves}

-- ---- keys with some property

one_more : (b c : Bool) (x y : Bool) → (b ≡ true → c ≡ true) → (x ≡ true → y ≡ true) → (b || x) ≡ true → (c || y) ≡ true
one_more true true x y h k e = refl
one_more true false x y h k e = absurd (cc (h refl))
one_more false true x y h k e = refl
one_more false false x y h k e = k e

any_weaker : (f g : Path → Bool) → ((k : Path) → f k ≡ true → g k ≡ true) → (ks : List Path) → list_any f ks ≡ true → list_any g ks ≡ true
any_weaker f g h [] e = absurd (cc e)
any_weaker f g h (k ∷ ks) e = one_more (f k) (g k) (list_any f ks) (list_any g ks) (h k) (any_weaker f g h ks) e

tied_paths : (a b : Path) → eq_by_cmp path_cmp a b ≡ true → a ≡ b
tied_paths a b e = by (path_cmp a b) refl e
  where
    by : (o : Ordering) → path_cmp a b ≡ o → is_eq o ≡ true → a ≡ b
    by Less is f = absurd (cc f)
    by Equal is f = paths_exact a b is
    by Greater is f = absurd (cc f)

-- a path at which something lies passes each test that no key fails
pub key_passes : (tree : Tree) (f : Path → Bool) (k : Path) → is_some (get tree k) ≡ true → f k ≡ true → list_any f (finite.keys tree) ≡ true
key_passes tree f k there passes =
    any_weaker (eq_by_cmp path_cmp k) f (λ q e. ap f (sym (tied_paths k q e)) ∙ passes) (finite.keys tree)
    (sym (finite.contains_key-keys tree k) ∙ there)

pub key_fails : (tree : Tree) (f : Path → Bool) (k : Path) (node : Node) → get tree k ≡ Some node → list_any f (finite.keys tree) ≡ false → f k ≡ false
key_fails tree f k node there none = by (f k) refl
  where
    by : (b : Bool) → f k ≡ b → b ≡ false
    by true e = absurd (cc (sym none ∙ key_passes tree f k (ap is_some there) e))
    by false e = refl

-- where nothing lies at a path or below it, nothing lies at a path that it begins
pub nothing_below : (tree : Tree) (above rest : Path) → has_below tree above ≡ false → get tree (above ++ rest) ≡ None
nothing_below tree above rest none = by (get tree (above ++ rest)) refl
  where
    by : (o : Option Node) → get tree (above ++ rest) ≡ o → o ≡ None
    by None e = refl
    by (Some node) e = absurd (cc (sym (key_fails tree (lies_below above) (above ++ rest) node e none) ∙ lying above (above ++ rest) rest refl))

-- ---- the steps

not_ok : (refusal : StepRefusal) (answer : Answer) → (let a : Result Answer StepRefusal = Err refusal in a ≡ Ok answer) → ⊥
not_ok refusal answer e = cc e

truncated_by : (tree : Tree) (path : Path) (size : ℕ) (way : Option Refusal) (there : Option Node) (answer : Answer) → get tree path ≡ there
    → (truncate_at tree path size way there).0 ≡ Ok answer → IsTruncated tree path size (truncate_at tree path size way there).1
truncated_by tree path size (Some refusal) there answer is e = absurd (cc e)
truncated_by tree path size None None answer is e = absurd (cc e)
truncated_by tree path size None (Some (Dir attributes)) answer is e = absurd (cc e)
truncated_by tree path size None (Some (File contents attributes)) answer is e = by (nat_lt MAX_FILE size) e
  where
    after : Tree
    after = finite.insert tree path (File (truncated size contents) attributes)

    by : (b : Bool) → (cond b (refuses_basic tree TooLong) (Ok Done, after)).0 ≡ Ok answer → IsTruncated tree path size (cond b (refuses_basic tree TooLong) (Ok Done, after)).1
    by true e = absurd (cc e)
    by false e = record { contents = contents; attributes = attributes; file = is; inserted = refl }

pub truncate_done : (tree : Tree) (path : Path) (size : ℕ) (answer : Answer) → (truncate_at tree path size (walk tree path) (get tree path)).0 ≡ Ok answer
    → IsTruncated tree path size (truncate_at tree path size (walk tree path) (get tree path)).1
truncate_done tree path size answer e = truncated_by tree path size (walk tree path) (get tree path) answer refl e

removed_by : (tree : Tree) (path : Path) → path ≢ [] → (way : Option Refusal) (there : Option Node) (answer : Answer) → get tree path ≡ there
    → (remove_at tree path way there).0 ≡ Ok answer → IsRemoved tree path (remove_at tree path way there).1
removed_by tree path some (Some refusal) there answer is e = absurd (cc e)
removed_by tree path some None None answer is e = absurd (cc e)
removed_by tree path some None (Some (Dir attributes)) answer is e = by (children tree path) refl e
  where
    by : (names : List (List ℕ)) → children tree path ≡ names → (if_childless tree path names).0 ≡ Ok answer → IsRemoved tree path (if_childless tree path names).1
    by [] none e = record { node = Dir attributes; there = is; below_root = some; childless = λ a f. none; removed = refl }
    by (name ∷ names) none e = absurd (cc e)
removed_by tree path some None (Some (File contents attributes)) answer is e =
    record { node = File contents attributes; there = is; below_root = some; childless = λ a f. absurd (cc f); removed = refl }

pub remove_done : (tree : Tree) (path : Path) (answer : Answer) → (remove_step tree path).0 ≡ Ok answer → IsRemoved tree path (remove_step tree path).1
remove_done tree [] answer e = absurd (cc e)
remove_done tree (name ∷ names) answer e = removed_by tree (name ∷ names) (λ f. cc f) (walk tree (name ∷ names)) (get tree (name ∷ names)) answer refl e

set_by : (tree : Tree) (path : Path) (name value : List ℕ) → path ≢ [] → (way : Option Refusal) (there : Option Node) (answer : Answer) → get tree path ≡ there
    → (set_attr_at tree path name value way there).0 ≡ Ok answer → IsMarked tree path name (Some value) (set_attr_at tree path name value way there).1
set_by tree path name value some (Some refusal) there answer is e = absurd (cc e)
set_by tree path name value some None None answer is e = absurd (cc e)
set_by tree path name value some None (Some node) answer is e = record { node = node; there = is; below_root = some; inserted = refl }

pub set_attr_done : (tree : Tree) (path : Path) (name value : List ℕ) (answer : Answer) → (set_attr_step tree path name value).0 ≡ Ok answer → IsMarked tree path name (Some value) (set_attr_step tree path name value).1
set_attr_done tree [] name value answer e = absurd (cc e)
set_attr_done tree (first ∷ names) name value answer e = set_by tree (first ∷ names) name value (λ f. cc f) (walk tree (first ∷ names)) (get tree (first ∷ names)) answer refl e

unset_by : (tree : Tree) (path : Path) (name : List ℕ) → path ≢ [] → (way : Option Refusal) (there : Option Node) (answer : Answer) → get tree path ≡ there
    → (del_attr_at tree path name way there).0 ≡ Ok answer → IsMarked tree path name None (del_attr_at tree path name way there).1
unset_by tree path name some (Some refusal) there answer is e = absurd (cc e)
unset_by tree path name some None None answer is e = absurd (cc e)
unset_by tree path name some None (Some node) answer is e = by (get (attributes_of_node node) name) e
  where
    by : (o : Option (List ℕ)) → (without_attr tree path name node o).0 ≡ Ok answer → IsMarked tree path name None (without_attr tree path name node o).1
    by None e = absurd (cc e)
    by (Some value) e = record { node = node; there = is; below_root = some; inserted = refl }

pub del_attr_done : (tree : Tree) (path : Path) (name : List ℕ) (answer : Answer) → (del_attr_step tree path name).0 ≡ Ok answer → IsMarked tree path name None (del_attr_step tree path name).1
del_attr_done tree [] name answer e = absurd (cc e)
del_attr_done tree (first ∷ names) name answer e = unset_by tree (first ∷ names) name (λ f. cc f) (walk tree (first ∷ names)) (get tree (first ∷ names)) answer refl e

-- ---- the move

not_deep : (tree : Tree) (from to rest : Path) (node : Node) → too_deep tree from to ≡ false → get tree (from ++ rest) ≡ Some node → length (to ++ rest) ≤ MAX_NAMES
not_deep tree from to rest node none there =
    let fails = key_fails tree (λ path. lies_below from path && nat_lt MAX_NAMES (length to + (length path - length from))) (from ++ rest) node there none in
    let deep : nat_lt MAX_NAMES (length to + (length (from ++ rest) - length from)) ≡ false = ap (λ b. b && nat_lt MAX_NAMES (length to + (length (from ++ rest) - length from))) (sym (lying from (from ++ rest) rest refl)) ∙ fails in
    omega (arith, ltb-false _ _ deep, length-append from rest, length-append to rest)

renamed_apart : (tree : Tree) (from to : Path) (node : Node) (answer : Answer) → AreInVolume from to → get tree from ≡ Some node → lies_below from to ≡ false → walk tree to ≡ None
    → (move_apart tree from to).0 ≡ Ok answer → IsRenamed tree from to (move_apart tree from to).1
renamed_apart tree from to node answer within there into way e = by (has_below tree to) refl (too_deep tree from to) refl e
  where
    by : (h : Bool) → has_below tree to ≡ h → (d : Bool) → too_deep tree from to ≡ d
        → (cond h (refuses_basic tree Exists) (cond d (refuses_basic tree TooLong) (Ok Done, moved tree from to))).0 ≡ Ok answer
        → IsRenamed tree from to (cond h (refuses_basic tree Exists) (cond d (refuses_basic tree TooLong) (Ok Done, moved tree from to))).1
    by true free d shallow e = absurd (cc e)
    by false free true shallow e = absurd (cc e)
    by false free false shallow e =
        let none : (rest : Path) → get tree (to ++ rest) ≡ None = λ rest. nothing_below tree to rest free in
        let not_into : (rest : Path) → to ≢ from ++ rest = not_lying from to into in
        let not_onto : (rest : Path) → from ≢ to ++ rest = λ rest f. cc (sym there ∙ ap (get tree) f ∙ none rest) in
        let last = last_name within.volume within.to_below in
        let to_is : to ≡ last.0 ++ last.1 ∷ [] = within.to_in ∙ last.2 in
        record {
          node = node;
          there = there;
          in_volume = within;
          above = last.0;
          name = last.1;
          to_is = to_is;
          directory = walked tree [] last.0 last.1 (ap (walk tree) (sym to_is) ∙ way);
          free = none;
          not_into = not_into;
          not_onto = not_onto;
          shallow = λ rest below is. not_deep tree from to rest below shallow is;
          is_moved = moves from to not_into not_onto tree none;
        }

renamed_to : (tree : Tree) (from to : Path) (node : Node) (answer : Answer) → AreInVolume from to → get tree from ≡ Some node → lies_below from to ≡ false
    → (way : Option Refusal) → walk tree to ≡ way → (move_to tree from to way).0 ≡ Ok answer → IsRenamed tree from to (move_to tree from to way).1
renamed_to tree from to node answer within there into (Some refusal) way e = absurd (cc e)
renamed_to tree from to node answer within there into None way e = renamed_apart tree from to node answer within there into way e

renamed_within : (tree : Tree) (volume other : List ℕ) (a b : Path) (node : Node) (answer : Answer) → get tree (volume ∷ a) ≡ Some node
    → (into same : Bool) → lies_below (volume ∷ a) (other ∷ b) ≡ into → eq_by_cmp name_cmp volume other ≡ same
    → (move_within tree (volume ∷ a) (other ∷ b) into same).0 ≡ Ok answer → IsRenamed tree (volume ∷ a) (other ∷ b) (move_within tree (volume ∷ a) (other ∷ b) into same).1
renamed_within tree volume other a b node answer there true same into is e = absurd (cc e)
renamed_within tree volume other a b node answer there false false into is e = absurd (cc e)
renamed_within tree volume other a b node answer there false true into is e =
    let within : AreInVolume (volume ∷ a) (other ∷ b) = record { volume = volume; from_below = a; to_below = b; from_in = refl; to_in = ap (λ x. x ∷ b) (sym (same_name volume other is)) } in
    renamed_to tree (volume ∷ a) (other ∷ b) node answer within there into (walk tree (other ∷ b)) refl e

renamed_from : (tree : Tree) (volume other : List ℕ) (a b : Path) (same : Bool) → eq_by_cmp name_cmp volume other ≡ same → (way : Option Refusal) (there : Option Node) (answer : Answer) → get tree (volume ∷ a) ≡ there
    → (move_from tree (volume ∷ a) (other ∷ b) same way there).0 ≡ Ok answer → IsRenamed tree (volume ∷ a) (other ∷ b) (move_from tree (volume ∷ a) (other ∷ b) same way there).1
renamed_from tree volume other a b same is (Some refusal) there answer e f = absurd (cc f)
renamed_from tree volume other a b same is None None answer e f = absurd (cc f)
renamed_from tree volume other a b same is None (Some node) answer e f = renamed_within tree volume other a b node answer e (lies_below (volume ∷ a) (other ∷ b)) same refl is f

pub rename_done : (tree : Tree) (from to : Path) (answer : Answer) → (rename_step tree from to).0 ≡ Ok answer → IsRenamed tree from to (rename_step tree from to).1
rename_done tree [] to answer e = absurd (cc e)
rename_done tree (volume ∷ from) [] answer e = absurd (cc e)
rename_done tree (volume ∷ from) (other ∷ to) answer e =
    renamed_from tree volume other from to (eq_by_cmp name_cmp volume other) refl (walk tree (volume ∷ from)) (get tree (volume ∷ from)) answer refl e
