-- The children of a directory, and how they are found one after another.
use Rattle.std.proofs.Common.{◌≡◌, ◌≢◌, ℕ, suc, ◌<◌, ◌≤◌, Bool, true, false, ◌&&◌, ◌||◌, cond, T, List, [], ◌∷◌, ◌++◌, length, length-append, append_assoc, set, get_or, take, drop, nat_eq, ◌+◌, Bor, refl, sym, ap, subst, ◌∙◌, arith}
use Rattle.std.specs.Prelude.{◌↔◌, ◌==◌, Option, None, Some, unwrap_or, is_some, IsSome, IsTrue, map, filter, filter_map, Contains, if◌then◌else◌}
use Rattle.std.specs.Cmp.{IsTotalOrder, tied_itself, eq_by_cmp_equiv, nat_cmp_total}
use Rattle.std.specs.Cmp.Lexicographic.{lists_total, pointwise}
use Rattle.std.proofs.lemmas.List.{append-nil}
use Rattle.std.proofs.lemmas.Slice.Eq.{bytes_eq-Decides, strip_prefix_is}
use Rattle.std.specs.FinMap as finite
use Rattle.std.specs.FinMap.{IsAntisymmetric, nat_cmp-IsAntisymmetric, slice_cmp-IsAntisymmetric}
use Rattle.std.specs.List.{AllByRecursion, cons_option, list_any}
use Rattle.std.specs.List.Sorted.{IsStrictlySortedBy}
use Rattle.std.specs.Ordering.{eq_by_cmp, is_eq, is_le, is_lt, ordering_then}
use Rattle.std.specs.FinMap.Entries.{below_all, is_sorted}
use Rattle.std.proofs.lemmas.List.Kept.{IsStrictlySortedBy-filter}
use Rattle.std.proofs.lemmas.Map.Views.{Contains-from_any, list_any-from_Contains}
use Rattle.fx_plain.specs.Node.{Node}
use Rattle.std.specs.declared.cmp.Ordering.{Ordering}
use Rattle.std.specs.declared.cmp.Ordering.TheVariants.{Less, Equal, Greater}
use Rattle.fx_item.specs.Name.{name_cmp}
use Rattle.fx_plain.specs.Tree.{Tree, child_name, children, path_cmp}
use Rattle.fx_plain.specs.Listing.{NextName, IsChildPath, IsFirst, children_from, past_child, paths_from}
use Rattle.fx_plain.proofs.Paths.{paths_total, paths_exact}
use Rattle.fx_plain.proofs.Order.{above_itself, between, up_to_less, less_up_to, next_up_to, not_below_itself, same_front, up_to}

abbrev Name : Type 0
Name = List ℕ

abbrev Path : Type 0
Path = List Name

pub names_total : IsTotalOrder name_cmp
names_total = lists_total nat_cmp_total

pub names_exact : IsAntisymmetric name_cmp
names_exact = slice_cmp-IsAntisymmetric nat_cmp-IsAntisymmetric

-- ---- the name of a child

-- only a path that has one name more is that of a child
pub child_is : (directory path : Path) (name : Name) → child_name directory path ≡ Some name → path ≡ directory ++ name ∷ []
child_is [] [] name e = absurd (cc e)
child_is [] (n ∷ []) name e = ap (λ o. unwrap_or o n ∷ []) e
child_is [] (n ∷ m ∷ path) name e = absurd (cc e)
child_is (d ∷ directory) [] name e = absurd (cc e)
child_is (d ∷ directory) (n ∷ path) name e = by_first (child_is directory path name) (name_cmp d n) refl e
  where
    by_first : (child_name directory path ≡ Some name → path ≡ directory ++ name ∷ []) → (r : Ordering) → name_cmp d n ≡ r → cond (is_eq r) (child_name directory path) None ≡ Some name → n ∷ path ≡ d ∷ (directory ++ name ∷ [])
    by_first below Less is f = absurd (cc f)
    by_first below Equal is f = ap (λ x. x ∷ path) (sym (names_exact d n is)) ∙ ap (λ x. d ∷ x) (below f)
    by_first below Greater is f = absurd (cc f)

pub child_of : (directory : Path) (name : Name) → child_name directory (directory ++ name ∷ []) ≡ Some name
child_of [] name = refl
child_of (d ∷ directory) name = ap (λ r. cond (is_eq r) (child_name directory (directory ++ name ∷ [])) None) (tied_itself names_total d) ∙ child_of directory name

-- no path that goes deeper is one
pub no_child : (directory : Path) (name more : Name) (deeper : Path) → child_name directory (directory ++ name ∷ more ∷ deeper) ≡ None
no_child [] name more deeper = refl
no_child (d ∷ directory) name more deeper = ap (λ r. cond (is_eq r) (child_name directory (directory ++ name ∷ more ∷ deeper)) None) (tied_itself names_total d) ∙ no_child directory name more deeper

then_equal : (r : Ordering) → is_eq (ordering_then r Equal) ≡ is_eq r
then_equal Less = refl
then_equal Equal = refl
then_equal Greater = refl

then_equal_less : (r : Ordering) → ordering_then r Equal ≡ Less → r ≡ Less
then_equal_less Less e = refl
then_equal_less Equal e = absurd (cc e)
then_equal_less Greater e = absurd (cc e)

then_equal_le : (r : Ordering) → IsTrue (is_le r) → IsTrue (is_le (ordering_then r Equal))
then_equal_le Less h = refl
then_equal_le Equal h = refl
then_equal_le Greater h = absurd (cc h)

-- two children of one directory are in the order of their names
siblings : (directory : Path) (a b : Name) → path_cmp (directory ++ a ∷ []) (directory ++ b ∷ []) ≡ ordering_then (name_cmp a b) Equal
siblings directory a b = same_front names_total names_exact directory (a ∷ []) (b ∷ [])

siblings_less : (directory : Path) (a b : Name) → path_cmp (directory ++ a ∷ []) (directory ++ b ∷ []) ≡ Less → name_cmp a b ≡ Less
siblings_less directory a b l = then_equal_less (name_cmp a b) (sym (siblings directory a b) ∙ l)

-- ---- the names of the children

module _ (directory : Path) where
  -- the name of the child among the paths
  named : (name : Name) (k : Path) (o : Option Name) → child_name directory k ≡ o → (rest : List Name) → (paths : List Path) → list_any (eq_by_cmp name_cmp name) rest ≡ list_any (eq_by_cmp path_cmp (directory ++ name ∷ [])) paths
      → list_any (eq_by_cmp name_cmp name) (cons_option o rest) ≡ (eq_by_cmp path_cmp (directory ++ name ∷ []) k || list_any (eq_by_cmp path_cmp (directory ++ name ∷ [])) paths)
  named name k None e rest paths later = by_test (path_cmp (directory ++ name ∷ []) k) refl
    where
      by_test : (r : Ordering) → path_cmp (directory ++ name ∷ []) k ≡ r → list_any (eq_by_cmp name_cmp name) rest ≡ (is_eq r || list_any (eq_by_cmp path_cmp (directory ++ name ∷ [])) paths)
      by_test Less is = later
      by_test Equal is = absurd (cc (sym e ∙ ap (child_name directory) (sym (paths_exact _ k is)) ∙ child_of directory name))
      by_test Greater is = later
  named name k (Some m) e rest paths later =
      let same : eq_by_cmp path_cmp (directory ++ name ∷ []) k ≡ eq_by_cmp name_cmp name m = ap (λ q. is_eq (path_cmp (directory ++ name ∷ []) q)) (child_is directory k m e) ∙ ap is_eq (siblings directory name m) ∙ then_equal (name_cmp name m) in
      (λ i. eq_by_cmp name_cmp name m || later i) ∙ ap (λ b. b || list_any (eq_by_cmp path_cmp (directory ++ name ∷ [])) paths) (sym same)

  all_named : (name : Name) (ks : List Path) → list_any (eq_by_cmp name_cmp name) (filter_map (child_name directory) ks) ≡ list_any (eq_by_cmp path_cmp (directory ++ name ∷ [])) ks
  all_named name [] = refl
  all_named name (k ∷ ks) = named name k (child_name directory k) refl (filter_map (child_name directory) ks) ks (all_named name ks)

  -- those after a child are after it by name
  later_names : (m : Name) (ks : List Path) → AllByRecursion (λ q. path_cmp (directory ++ m ∷ []) q ≡ Less) ks → AllByRecursion (λ y. name_cmp m y ≡ Less) (filter_map (child_name directory) ks)
  later_names m [] h = tt
  later_names m (k ∷ ks) h = by (later_names m ks h.1) (child_name directory k) refl
    where
      by : AllByRecursion (λ y. name_cmp m y ≡ Less) (filter_map (child_name directory) ks) → (o : Option Name) → child_name directory k ≡ o → AllByRecursion (λ y. name_cmp m y ≡ Less) (cons_option o (filter_map (child_name directory) ks))
      by rest None e = rest
      by rest (Some y) e = (siblings_less directory m y (ap (path_cmp (directory ++ m ∷ [])) (sym (child_is directory k y e)) ∙ h.0), rest)

  names_rise : (ks : List Path) → IsStrictlySortedBy path_cmp ks → IsStrictlySortedBy name_cmp (filter_map (child_name directory) ks)
  unfolding IsStrictlySortedBy
  names_rise [] h = tt
  names_rise (k ∷ ks) h = by (names_rise ks h.1) (child_name directory k) refl
    where
      by : IsStrictlySortedBy name_cmp (filter_map (child_name directory) ks) → (o : Option Name) → child_name directory k ≡ o → IsStrictlySortedBy name_cmp (cons_option o (filter_map (child_name directory) ks))
      by rest None e = rest
      by rest (Some m) e = (later_names m ks (subst (λ q. AllByRecursion (λ y. path_cmp q y ≡ Less) ks) (child_is directory k m e) h.0), rest)

both_parts : (a b : Bool) → T (a && b) → T a × T b
both_parts true b h = (tt, h)
both_parts false b h = absurd h

lt_less : (r : Ordering) → T (is_lt r) → r ≡ Less
lt_less Less h = refl
lt_less Equal h = absurd h
lt_less Greater h = absurd h

keys_above : (q : Path) (es : List (Path × Node)) → T (below_all path_cmp q es) → AllByRecursion (λ y. path_cmp q y ≡ Less) (map (λ e. e.0) es)
keys_above q [] h = tt
keys_above q (e ∷ es) h = let p = both_parts _ _ h in (lt_less _ p.0, keys_above q es p.1)

keys_sorted : (es : List (Path × Node)) → T (is_sorted path_cmp es) → IsStrictlySortedBy path_cmp (map (λ e. e.0) es)
unfolding IsStrictlySortedBy
keys_sorted [] h = tt
keys_sorted (e ∷ es) h = let p = both_parts _ _ h in (keys_above e.0 es p.0, keys_sorted es p.1)

-- the paths of a tree rise
pub paths_rise : (tree : Tree) → IsStrictlySortedBy path_cmp (finite.keys tree)
paths_rise tree = keys_sorted (finite.entries tree) (finite.entries_sorted tree)

-- the names of the children rise
pub children_rise : (tree : Tree) (directory : Path) → IsStrictlySortedBy name_cmp (children tree directory)
children_rise tree directory = names_rise directory (finite.keys tree) (paths_rise tree)

-- a name is among the children where something lies at its path
pub children_found : (tree : Tree) (directory : Path) (name : Name) → list_any (eq_by_cmp name_cmp name) (children tree directory) ≡ is_some (finite.get tree (directory ++ name ∷ []))
children_found tree directory name = all_named directory name (finite.keys tree) ∙ sym (finite.contains_key-keys tree (directory ++ name ∷ []))

name_equal : (x y : Name) → eq_by_cmp name_cmp x y ≡ true → x ≡ y
name_equal x y e = by (name_cmp x y) refl e
  where
    by : (r : Ordering) → name_cmp x y ≡ r → is_eq r ≡ true → x ≡ y
    by Less is f = absurd (cc f)
    by Equal is f = names_exact x y is
    by Greater is f = absurd (cc f)

pub child_there : (tree : Tree) (directory : Path) (name : Name) → Contains (children tree directory) name ↔ IsSome (finite.get tree (directory ++ name ∷ []))
child_there tree directory name = (
  λ h. there (finite.get tree (directory ++ name ∷ [])) (sym (children_found tree directory name) ∙ list_any-from_Contains (eq_by_cmp_equiv names_total) name (children tree directory) h),
  λ h. Contains-from_any name_equal name (children tree directory) (children_found tree directory name ∙ found (finite.get tree (directory ++ name ∷ [])) h),
)
  where
    there : (o : Option Node) → is_some o ≡ true → IsSome o
    there None e = absurd (cc e)
    there (Some node) e = refl

    found : (o : Option Node) → IsSome o → is_some o ≡ true
    found None h = absurd (cc h)
    found (Some node) h = refl

-- ---- one after another

-- a filter that drops nothing with a value
all_kept : {X Y : Type 0} (h : X → Option Y) (p : X → Bool) (xs : List X) → AllByRecursion (λ x. (y : Y) → h x ≡ Some y → p x ≡ true) xs → filter_map h (filter p xs) ≡ filter_map h xs
all_kept h p [] k = refl
all_kept {Y = Y} h p (x ∷ xs) k = by (all_kept h p xs k.1) (p x) refl (h x) refl
  where
    by : filter_map h (filter p xs) ≡ filter_map h xs → (b : Bool) → p x ≡ b → (o : Option Y) → h x ≡ o → filter_map h (cond b (x ∷ filter p xs) (filter p xs)) ≡ cons_option (h x) (filter_map h xs)
    by rest true e o f = ap (cons_option (h x)) rest
    by rest false e None f = rest ∙ ap (λ z. cons_option z (filter_map h xs)) (sym f)
    by rest false e (Some y) f = absurd (cc (sym e ∙ k.0 y f))

-- a filter after a wider one
narrower : {X : Type 0} (p q : X → Bool) (xs : List X) → ((x : X) → p x ≡ true → q x ≡ true) → filter p (filter q xs) ≡ filter p xs
narrower p q [] k = refl
narrower p q (x ∷ xs) k = by (narrower p q xs k) (q x) refl (p x) refl
  where
    by : filter p (filter q xs) ≡ filter p xs → (b : Bool) → q x ≡ b → (c : Bool) → p x ≡ c → filter p (cond b (x ∷ filter q xs) (filter q xs)) ≡ cond (p x) (x ∷ filter p xs) (filter p xs)
    by rest true e c f = ap (λ ys. cond (p x) (x ∷ ys) ys) rest
    by rest false e true f = absurd (cc (sym e ∙ k x f))
    by rest false e false f = rest ∙ ap (λ b. cond b (x ∷ filter p xs) (filter p xs)) (sym f)

shorter : {X : Type 0} (p : X → Bool) (xs : List X) → length (filter p xs) ≤ length xs
shorter p [] = omega arith
shorter p (x ∷ xs) = elim (p x) as (λ b. length (cond b (x ∷ filter p xs) (filter p xs)) ≤ suc (length xs)) [ true ↦ let k = shorter p xs in omega arith | false ↦ let k = shorter p xs in omega arith ]

first_passes : {X : Type 0} (p : X → Bool) (xs : List X) (y : X) (ys : List X) → filter p xs ≡ y ∷ ys → p y ≡ true
first_passes p [] y ys e = absurd (cc e)
first_passes p (x ∷ xs) y ys e = by (first_passes p xs y ys) (p x) refl e
  where
    by : (filter p xs ≡ y ∷ ys → p y ≡ true) → (b : Bool) → p x ≡ b → cond b (x ∷ filter p xs) (filter p xs) ≡ y ∷ ys → p y ≡ true
    by rest true is f = ap p (sym (ap (λ zs. get_or zs 0 y) f)) ∙ is
    by rest false is f = rest f

all_map : {X : Type 0} (P Q : X → Type 0) → ((x : X) → P x → Q x) → (xs : List X) → AllByRecursion P xs → AllByRecursion Q xs
all_map P Q k [] h = tt
all_map P Q k (x ∷ xs) h = (k x h.0, all_map P Q k xs h.1)

no_names : (h : Path → Option Name) (ks : List Path) → AllByRecursion (λ q. h q ≡ None) ks → filter_map h ks ≡ []
no_names h [] a = refl
no_names h (k ∷ ks) a = (λ i. cons_option (a.0 i) (no_names h ks a.1 i))

module _ (tree : Tree) (directory : Path) (first : Name) where
  abbrev from : Path
  from = directory ++ first ∷ []

  -- what the first of the paths that are not before `from` says of those after it
  after_first : (k : Path) (rest : List Path) → paths_from tree from ≡ k ∷ rest → AllByRecursion (λ q. path_cmp k q ≡ Less) rest
  unfolding IsStrictlySortedBy
  after_first k rest e =
      let sorted : IsStrictlySortedBy path_cmp (k ∷ rest) = subst (IsStrictlySortedBy path_cmp) e (IsStrictlySortedBy-filter path_cmp (λ path. is_le (path_cmp from path)) (finite.keys tree) (paths_rise tree)) in
      sorted.0

  -- all children have names that are not before the empty one
  pub all_from_empty : first ≡ [] → children_from tree directory from ≡ children tree directory
  all_from_empty e = all_kept (child_name directory) (λ path. is_le (path_cmp from path)) (finite.keys tree) (every (finite.keys tree))
    where
      nil_le : (m : Name) → IsTrue (is_le (name_cmp [] m))
      nil_le [] = refl
      nil_le (x ∷ m) = refl

      every : (ks : List Path) → AllByRecursion (λ x. (y : Name) → child_name directory x ≡ Some y → is_le (path_cmp from x) ≡ true) ks
      every [] = tt
      every (k ∷ ks) = (λ y f. ap (λ q. is_le (path_cmp from q)) (child_is directory k y f) ∙ ap is_le (siblings directory first y) ∙ then_equal_le (name_cmp first y) (subst (λ n. IsTrue (is_le (name_cmp n y))) (sym e) (nil_le y)), every ks)

  -- where the first path does not go on from the directory, no child is left
  pub none_left : (k : Path) → IsFirst k (paths_from tree from) → ((name : Name) (deeper : Path) → k ≢ directory ++ name ∷ deeper) → children_from tree directory from ≡ []
  none_left k starts out =
      ap (filter_map (child_name directory)) starts.1
      ∙ no_names (child_name directory) (k ∷ starts.0) (here (child_name directory k) refl, all_map _ _ later starts.0 (after_first k starts.0 starts.1))
    where
      here : (o : Option Name) → child_name directory k ≡ o → child_name directory k ≡ None
      here None e = e
      here (Some m) e = absurd (out m [] (child_is directory k m e))

      low : IsTrue (is_le (path_cmp from k))
      low = first_passes (λ path. is_le (path_cmp from path)) (finite.keys tree) k starts.0 starts.1

      at_front : (c : Path) → k ≡ directory ++ c → ⊥
      at_front [] e = absurd (cc (sym (ap is_le (same_front names_total names_exact directory (first ∷ []) [])) ∙ ap (λ q. is_le (path_cmp from q)) (sym e) ∙ low))
      at_front (name ∷ deeper) e = out name deeper e

      later : (q : Path) → path_cmp k q ≡ Less → child_name directory q ≡ None
      later q l = by (child_name directory q) refl
        where
          by : (o : Option Name) → child_name directory q ≡ o → child_name directory q ≡ None
          by None e = e
          by (Some m) e = let c = between names_total names_exact directory (first ∷ []) (m ∷ []) k low (ap is_le (ap (path_cmp k) (sym (child_is directory q m e)) ∙ l)) in absurd (at_front c.0 c.1)

  -- the first path goes on with a name
  module _ (name : Name) (deeper : Path) (starts : IsFirst (directory ++ name ∷ deeper) (paths_from tree from)) where
    abbrev here : Path
    here = directory ++ name ∷ deeper

    abbrev next : Path
    next = past_child directory name

    low : IsTrue (is_le (path_cmp from here))
    low = first_passes (λ path. is_le (path_cmp from path)) (finite.keys tree) here starts.0 starts.1

    here_below : path_cmp here next ≡ Less
    here_below = same_front names_total names_exact directory (name ∷ deeper) ((name ++ 0 ∷ []) ∷ []) ∙ ap (λ r. ordering_then r (path_cmp deeper [])) (above_itself name)

    wider : (q : Path) → is_le (path_cmp next q) ≡ true → is_le (path_cmp from q) ≡ true
    wider q h = up_to paths_total paths_exact from q (less_up_to paths_total paths_exact from next q (up_to_less paths_total paths_exact from here next low here_below) h)

    not_here : is_le (path_cmp next here) ≡ false
    not_here = by (is_le (path_cmp next here)) refl
      where
        by : (b : Bool) → is_le (path_cmp next here) ≡ b → is_le (path_cmp next here) ≡ false
        by true e = absurd (not_below_itself paths_total paths_exact here (less_up_to paths_total paths_exact here next here here_below e))
        by false e = e

    left : paths_from tree next ≡ filter (λ path. is_le (path_cmp next path)) starts.0
    left =
        sym (narrower (λ path. is_le (path_cmp next path)) (λ path. is_le (path_cmp from path)) (finite.keys tree) wider)
        ∙ ap (filter (λ path. is_le (path_cmp next path))) starts.1
        ∙ ap (λ b. cond b (here ∷ filter (λ path. is_le (path_cmp next path)) starts.0) (filter (λ path. is_le (path_cmp next path)) starts.0)) not_here

    names_after : (m : Name) → path_cmp here (directory ++ m ∷ []) ≡ Less → name_cmp name m ≡ Less
    names_after m l = by (name_cmp name m) (sym (same_front names_total names_exact directory (name ∷ deeper) (m ∷ [])) ∙ l)
      where
        no_less : (p : Path) → path_cmp p [] ≡ Less → ⊥
        no_less [] e = cc e
        no_less (x ∷ p) e = cc e

        by : (r : Ordering) → ordering_then r (path_cmp deeper []) ≡ Less → r ≡ Less
        by Less e = refl
        by Equal e = absurd (no_less deeper e)
        by Greater e = absurd (cc e)

    later : (q : Path) → path_cmp here q ≡ Less → (m : Name) → child_name directory q ≡ Some m → is_le (path_cmp next q) ≡ true
    later q l m e =
        let is = child_is directory q m e in
        ap (λ p. is_le (path_cmp next p)) is ∙ ap is_le (siblings directory (name ++ 0 ∷ []) m)
        ∙ then_equal_le (name_cmp (name ++ 0 ∷ []) m) (next_up_to name m (names_after m (ap (path_cmp here) (sym is) ∙ l)))

    not_empty : (n : ℕ) → (suc n == 0) ≡ false
    not_empty n = grind arith

    child_here : (p : Path) → p ≡ deeper → child_name directory here ≡ cond (length p == 0) (Some name) None
    child_here [] e = ap (λ d. child_name directory (directory ++ name ∷ d)) (sym e) ∙ child_of directory name
    child_here (more ∷ p) e = ap (λ d. child_name directory (directory ++ name ∷ d)) (sym e) ∙ no_child directory name more p ∙ ap (λ b. cond b (Some name) None) (sym (not_empty (length p)))

    joined : (b : Bool) (rest : List Name) → cons_option (cond b (Some name) None) rest ≡ (if b then name ∷ [] else []) ++ rest
    joined true rest = refl
    joined false rest = refl

    -- the paths go on with this name, and after it with those that are past it
    pub goes_on : NextName tree directory from name (length deeper == 0)
    goes_on = record {
      names =
          ap (filter_map (child_name directory)) starts.1
          ∙ (λ i. cons_option (child_here deeper refl i) (filter_map (child_name directory) starts.0))
          ∙ joined (length deeper == 0) (filter_map (child_name directory) starts.0)
          ∙ ap (λ rest. (if length deeper == 0 then name ∷ [] else []) ++ rest)
          (sym (ap (filter_map (child_name directory)) left ∙ all_kept (child_name directory) (λ path. is_le (path_cmp next path)) starts.0 (all_map _ _ later starts.0 (after_first here starts.0 starts.1))));
      fewer = let all = ap length starts.1 in let some = ap length left in let k = shorter (λ path. is_le (path_cmp next path)) starts.0 in omega arith;
    }

-- ---- the same, where the place is known to be below the directory

pub none_on : (tree : Tree) (directory from k : Path) → IsChildPath directory from → IsFirst k (paths_from tree from) → ((name : Name) (deeper : Path) → k ≢ directory ++ name ∷ deeper) → children_from tree directory from ≡ []
none_on tree directory place k below starts out = subst (λ f. IsFirst k (paths_from tree f) → children_from tree directory f ≡ []) (sym below.1) (λ first. none_left tree directory below.0 k first out) starts

pub next_on : (tree : Tree) (directory from : Path) (name : Name) (deeper k : Path) → IsChildPath directory from → k ≡ directory ++ name ∷ deeper → IsFirst k (paths_from tree from) → NextName tree directory from name (length deeper == 0)
next_on tree directory place name deeper k below is starts =
    subst (λ f. IsFirst (directory ++ name ∷ deeper) (paths_from tree f) → NextName tree directory f name (length deeper == 0)) (sym below.1) (goes_on tree directory below.0 name deeper) (subst (λ q. IsFirst q (paths_from tree place)) is starts)

-- a path without the directory's names in front, or no longer than they are, does not go on from it
pub not_stripped : (k directory : Path) → pointwise (pointwise nat_eq) (take (length directory) k) directory ≡ false → (name : Name) (deeper : Path) → k ≢ directory ++ name ∷ deeper
not_stripped k directory test name deeper = strip_prefix_is bytes_eq-Decides k directory None test (name ∷ deeper)

pub stripped : (k directory : Path) (rest : Bor Path) → (pointwise (pointwise nat_eq) (take (length directory) k) directory ≡ true) × (rest.now ≡ drop (length directory) k) × (length rest.now + length directory ≡ length k) → k ≡ directory ++ rest.now
stripped k directory rest h = strip_prefix_is bytes_eq-Decides k directory (Some rest) h

pub not_longer : (k directory rest : Path) → k ≡ directory ++ rest → length rest ≡ 0 → (name : Name) (deeper : Path) → k ≢ directory ++ name ∷ deeper
not_longer k directory rest is none name deeper e = omega (arith, ap length (sym is ∙ e), length-append directory rest, length-append directory (name ∷ deeper))

-- ---- the loop

-- the names so far and those of the children from `place` on are all
pub record IsListing (tree : Tree) (directory : Path) (names : List Name) (place : Path) : Type 0 where
  pub below : IsChildPath directory place
  pub all : names ++ children_from tree directory place ≡ children tree directory

pub listing_begins : (tree : Tree) (directory : Path) (names : List Name) (place front : Path) (first : Name) → names ≡ [] → place ≡ front ++ first ∷ [] → front ≡ directory → first ≡ [] → IsListing tree directory names place
listing_begins tree directory names place front first none is at empty =
    let here : place ≡ directory ++ first ∷ [] = is ∙ ap (λ f. f ++ first ∷ []) at in
    record {
      below = (first, here);
      all = (λ i. none i ++ children_from tree directory (here i)) ∙ all_from_empty tree directory first empty;
    }

last_set : (directory : Path) (x y : Name) → set (directory ++ x ∷ []) (length directory) y ≡ directory ++ y ∷ []
last_set [] x y = refl
last_set (d ∷ directory) x y = ap (λ p. d ∷ p) (last_set directory x y)

pub gone_past : (directory place : Path) (name : Name) → IsChildPath directory place → set place (length directory) (name ++ 0 ∷ []) ≡ past_child directory name
gone_past directory place name below = ap (λ p. set p (length directory) (name ++ 0 ∷ [])) below.1 ∙ last_set directory below.0 (name ++ 0 ∷ [])

pub listing_goes_on : (tree : Tree) (directory : Path) (names more : List Name) (place next : Path) (name : Name) (is_child : Bool) → IsListing tree directory names place → NextName tree directory place name is_child
    → more ≡ names ++ (if is_child then name ∷ [] else []) → next ≡ set place (length directory) (name ++ 0 ∷ []) → IsListing tree directory more next
listing_goes_on tree directory names more place next name is_child listing step added moved =
    let past : next ≡ past_child directory name = moved ∙ gone_past directory place name listing.below in
    record {
      below = (name ++ 0 ∷ [], past);
      all =
          (λ i. added i ++ children_from tree directory (past i))
          ∙ append_assoc names (if is_child then name ∷ [] else []) (children_from tree directory (past_child directory name))
          ∙ ap (λ rest. names ++ rest) (sym step.names) ∙ listing.all;
    }

pub fewer_paths : (tree : Tree) (directory : Path) (place next : Path) (name : Name) (is_child : Bool) → IsChildPath directory place → NextName tree directory place name is_child → next ≡ set place (length directory) (name ++ 0 ∷ [])
    → length (paths_from tree next) < length (paths_from tree place)
fewer_paths tree directory place later name is_child below step moved = subst (λ p. length (paths_from tree p) < length (paths_from tree place)) (sym (moved ∙ gone_past directory place name below)) step.fewer

pub listing_ends : (tree : Tree) (directory : Path) (names : List Name) (place : Path) → IsListing tree directory names place → children_from tree directory place ≡ [] → names ≡ children tree directory
listing_ends tree directory names place listing none = sym (append-nil names) ∙ ap (λ rest. names ++ rest) (sym none) ∙ listing.all

pub has_last : (directory place : Path) → IsChildPath directory place → length directory < length place
has_last directory place below = omega (arith, ap length below.1, length-append directory (below.0 ∷ []))
