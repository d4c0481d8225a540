-- What a tree holds after a step that is done.
use Rattle.std.proofs.Common.{◌≡◌, ◌≢◌, ◌⊎◌, inl, inr, ℕ, suc, ◌+◌, ◌-◌, ◌<◌, ◌≤◌, ◌++◌, List, [], ◌∷◌, length, refl, sym, ap, subst, ◌∙◌, cond, arith, sum_by}
use Rattle.std.specs.Prelude.{Bool, true, false, Option, Some, None, map, is_some}
use Rattle.std.specs.Cmp.{tied_itself}
use Rattle.std.specs.List.{AllByRecursion}
use Rattle.std.specs.List.Sorted.{IsStrictlySortedBy}
use Rattle.std.specs.declared.cmp.Ordering.{Ordering}
use Rattle.std.specs.declared.cmp.Ordering.TheVariants.{Less, Equal, Greater}
use Rattle.std.specs.Ordering.{eq_by_cmp, is_eq}
use Rattle.std.specs.FinMap as finite
use Rattle.std.specs.FinMap.{get, insert, remove}
use Rattle.std.specs.FinMap.Entries.{find, put, by_order}
use Rattle.std.proofs.lemmas.List.Sums.{sum_by-cons}
use Rattle.std.proofs.lemmas.List.{length-map}
use Rattle.fx_item.specs.declared.Sizes.{Sizes}
use Rattle.fx_plain.specs.Node.{Attributes, Contents, Node, Dir, File, written}
use Rattle.fx_plain.specs.Tree.{IsTree, Tree, attribute_count, held_count, path_cmp, sizes_of}
use Rattle.fx_plain.specs.Bare.{IsPlaced, IsWritten}
use Rattle.fx_plain.proofs.Paths.{paths_total, paths_exact}
use Rattle.fx_plain.proofs.Children.{paths_rise}
use Rattle.fx_contents.specs.Cuts.{IsTruncated, truncated}
use Rattle.fx_contents.specs.Marks.{IsMarked, marked_node}
use Rattle.fx_steps.specs.Moved.{IsMoved, moved, moved_path, rest_below}
use Rattle.fx_steps.specs.Changes.{IsRemoved, IsRenamed, IsSizedAnew, IsSizedLess, IsSizedMore}
use Rattle.fx_steps.proofs.Below.{Path, below_or_not, not_lying, path_itself, path_true, rest_is, rest_of_append}
use Rattle.fx_steps.proofs.MovedTree.{Entries, all, find_inside, find_others, moves, split_none}

-- ---- sums over the nodes

-- a new entry adds its own term
fresh_sum : (f : Node → ℕ) (p : Path) (node : Node) (es : Entries) → find path_cmp p es ≡ None → sum_by f (map (λ e. e.1) (put path_cmp p node es)) ≡ sum_by f (map (λ e. e.1) es) + f node
fresh_sum f p node [] none = omega (arith, sum_by-cons f node [])
fresh_sum f p node (e ∷ es) none = by (path_cmp p e.0) none (fresh_sum f p node es)
  where
    by : (o : Ordering) → cond (is_eq o) (Some e.1) (find path_cmp p es) ≡ None
        → (find path_cmp p es ≡ None → sum_by f (map (λ e. e.1) (put path_cmp p node es)) ≡ sum_by f (map (λ e. e.1) es) + f node)
        → sum_by f (map (λ e. e.1) (by_order o ((p, node) ∷ e ∷ es) ((e.0, node) ∷ es) (e ∷ put path_cmp p node es))) ≡ sum_by f (e.1 ∷ map (λ e. e.1) es) + f node
    by Less none later = omega (arith, sum_by-cons f node (e.1 ∷ map (λ (e : Path × Node). e.1) es))
    by Equal none later = absurd (cc)
    by Greater none later = omega (arith, later none, sum_by-cons f e.1 (map (λ (e : Path × Node). e.1) (put path_cmp p node es)), sum_by-cons f e.1 (map (λ (e : Path × Node). e.1) es))

inserted_sum : (f : Node → ℕ) (tree : Tree) (p : Path) (node : Node) → get tree p ≡ None → sum_by f (finite.values (insert tree p node)) ≡ sum_by f (finite.values tree) + f node
inserted_sum f tree p node none =
    ap (λ (es : Entries). sum_by f (map (λ e. e.1) es)) (finite.entries-insert paths_total tree p node)
    ∙ fresh_sum f p node (finite.entries tree) (sym (finite.get-entries tree p) ∙ none)

inserted_len : (tree : Tree) (p : Path) (node : Node) (there : Option Node) → get tree p ≡ there → finite.len (insert tree p node) ≡ cond (is_some there) (finite.len tree) (finite.len tree + 1)
inserted_len tree p node there is = finite.len-insert paths_total tree p node ∙ ap (λ (o : Option Node). cond (is_some o) (finite.len tree) (finite.len tree + 1)) is

module _ (tree : Tree) (p : Path) where
  abbrev rest : Tree
  rest = remove tree p

  left_out : get rest p ≡ None
  left_out = finite.get-remove paths_total tree p p ∙ ap (λ (b : Bool). cond b None (get tree p)) (path_itself p)

  covers : (b : Bool) (x y : Option Node) → cond b x (cond b None y) ≡ cond b x y
  covers true x y = refl
  covers false x y = refl

  -- the entry goes in again, with any node
  again : (node : Node) → insert rest p node ≡ insert tree p node
  again node = finite.same_map paths_total paths_exact _ _ (λ q.
      finite.get-insert paths_total rest p node q
      ∙ ap (λ (x : Option Node). cond (eq_by_cmp path_cmp q p) (Some node) x) (finite.get-remove paths_total tree p q)
      ∙ covers (eq_by_cmp path_cmp q p) (Some node) (get tree q)
      ∙ sym (finite.get-insert paths_total tree p node q))

  -- the node that lies there, put there, changes nothing
  same : (old : Node) → get tree p ≡ Some old → insert tree p old ≡ tree
  same old is = finite.same_map paths_total paths_exact _ _ (λ q. finite.get-insert paths_total tree p old q ∙ by q (path_cmp q p) refl)
    where
      by : (q : Path) (o : Ordering) → path_cmp q p ≡ o → cond (is_eq o) (Some old) (get tree q) ≡ get tree q
      by q Less e = refl
      by q Equal e = sym (ap (get tree) (paths_exact q p e) ∙ is)
      by q Greater e = refl

  -- without the node its term is gone
  removed_sum : (f : Node → ℕ) (old : Node) → get tree p ≡ Some old → sum_by f (finite.values rest) + f old ≡ sum_by f (finite.values tree)
  removed_sum f old is = sym (inserted_sum f rest p old left_out) ∙ ap (λ (t : Tree). sum_by f (finite.values t)) (again old ∙ same old is)

  -- a node in the place of another: its term in the place of the other's
  replaced_sum : (f : Node → ℕ) (old node : Node) → get tree p ≡ Some old → sum_by f (finite.values (insert tree p node)) + f old ≡ sum_by f (finite.values tree) + f node
  replaced_sum f old node is =
      let one = inserted_sum f rest p node left_out in
      let two = removed_sum f old is in
      let three : sum_by f (finite.values (insert rest p node)) ≡ sum_by f (finite.values (insert tree p node)) = ap (λ (t : Tree). sum_by f (finite.values t)) (again node) in
      omega arith

-- ---- one node

replaced_sizes : (tree : Tree) (p : Path) (old node : Node) → get tree p ≡ Some old → IsSizedAnew (sizes_of tree) (sizes_of (insert tree p node)) old node
replaced_sizes tree p old node is = record {
  nodes = ap (λ n. n - 1) (inserted_len tree p node (Some old) is);
  attributes = replaced_sum tree p attribute_count old node is;
  blocks = replaced_sum tree p held_count old node is;
}

module _ (tree : Tree) (k : IsTree tree) where
  some_nodes : 0 < finite.len tree
  some_nodes = by (finite.entries tree) refl
    where
      by : (es : Entries) → finite.entries tree ≡ es → 0 < finite.len tree
      by [] e = absurd (cc (sym k.top ∙ ap (λ t. get t []) (finite.empty_of_len tree (finite.len-entries tree ∙ ap length e)) ∙ finite.get-empty path_cmp []))
      by (x ∷ es) e = omega (arith, finite.len-entries tree, ap length e)

  pub placed_sizes : (path : Path) (node : Node) (after : Tree) → IsPlaced tree path node after → IsSizedMore (sizes_of tree) (sizes_of after) node
  placed_sizes path node after r =
      let len = inserted_len tree path node None r.free in
      subst (λ t. IsSizedMore (sizes_of tree) (sizes_of t) node) (sym r.inserted) (record {
        nodes = omega (arith, len, some_nodes);
        attributes = inserted_sum attribute_count tree path node r.free;
        blocks = inserted_sum held_count tree path node r.free;
      })

  removed_len : (p : Path) (old : Node) → get tree p ≡ Some old → finite.len (remove tree p) ≡ finite.len tree - 1
  removed_len p old is = finite.len-remove paths_total tree p ∙ ap (λ (o : Option Node). cond (is_some o) (finite.len tree - 1) (finite.len tree)) is

  -- the root and another node are two
  two_nodes : (p : Path) (old : Node) → p ≢ [] → get tree p ≡ Some old → 1 < finite.len tree
  two_nodes p old some is = by (finite.entries (remove tree p)) refl
    where
      root_left : get (remove tree p) [] ≡ get tree []
      root_left = finite.get-remove paths_total tree p [] ∙ ap (λ b. cond b None (get tree [])) (apart (path_cmp [] p) refl)
        where
          apart : (o : Ordering) → path_cmp [] p ≡ o → is_eq o ≡ false
          apart Less e = refl
          apart Equal e = absurd (some (sym (paths_exact [] p e)))
          apart Greater e = refl

      by : (es : Entries) → finite.entries (remove tree p) ≡ es → 1 < finite.len tree
      by [] e = absurd (cc (sym k.top ∙ sym root_left ∙ ap (λ t. get t []) (finite.empty_of_len (remove tree p) (finite.len-entries (remove tree p) ∙ ap length e)) ∙ finite.get-empty path_cmp []))
      by (x ∷ es) e = omega (arith, finite.len-entries (remove tree p), ap length e, removed_len p old is)

  pub removed_sizes : (path : Path) (after : Tree) → (r : IsRemoved tree path after) → IsSizedLess (sizes_of tree) (sizes_of after) r.node
  removed_sizes path after r =
      subst (λ t. IsSizedLess (sizes_of tree) (sizes_of t) r.node) (sym r.removed) (record {
        nodes = omega (arith, removed_len path r.node r.there, two_nodes path r.node r.below_root r.there);
        attributes = removed_sum tree path attribute_count r.node r.there;
        blocks = removed_sum tree path held_count r.node r.there;
      })

pub written_sizes : (tree : Tree) (path : Path) (at : ℕ) (text : List ℕ) (after : Tree) → (r : IsWritten tree path at text after)
    → IsSizedAnew (sizes_of tree) (sizes_of after) (File r.contents r.attributes) (File (written at text r.contents) r.attributes)
written_sizes tree path at text after r =
    subst (λ t. IsSizedAnew (sizes_of tree) (sizes_of t) (File r.contents r.attributes) (File (written at text r.contents) r.attributes)) (sym r.inserted)
    (replaced_sizes tree path (File r.contents r.attributes) (File (written at text r.contents) r.attributes) r.file)

pub truncated_sizes : (tree : Tree) (path : Path) (size : ℕ) (after : Tree) → (r : IsTruncated tree path size after)
    → IsSizedAnew (sizes_of tree) (sizes_of after) (File r.contents r.attributes) (File (truncated size r.contents) r.attributes)
truncated_sizes tree path size after r =
    subst (λ t. IsSizedAnew (sizes_of tree) (sizes_of t) (File r.contents r.attributes) (File (truncated size r.contents) r.attributes)) (sym r.inserted)
    (replaced_sizes tree path (File r.contents r.attributes) (File (truncated size r.contents) r.attributes) r.file)

pub marked_sizes : (tree : Tree) (path : Path) (name : List ℕ) (text : Option (List ℕ)) (after : Tree) → (r : IsMarked tree path name text after)
    → IsSizedAnew (sizes_of tree) (sizes_of after) r.node (marked_node name text r.node)
marked_sizes tree path name text after r =
    subst (λ t. IsSizedAnew (sizes_of tree) (sizes_of t) r.node (marked_node name text r.node)) (sym r.inserted)
    (replaced_sizes tree path r.node (marked_node name text r.node) r.there)

-- ---- a move

-- no key stands twice
abbrev AreApart : Entries → Type 0
AreApart [] = Unit {0}
AreApart (e ∷ es) = (find path_cmp e.0 es ≡ None) × AreApart es

built_sum : (f : Node → ℕ) (es : Entries) → AreApart es → sum_by f (finite.values (finite.from_entries {R = path_cmp} es)) ≡ sum_by f (map (λ e. e.1) es)
built_sum f [] h = ap (λ (es : Entries). sum_by f (map (λ e. e.1) es)) (no_entries (finite.entries (finite.empty {R = path_cmp})) (sym (finite.len-entries finite.empty) ∙ finite.len-empty path_cmp Node))
  where
    no_entries : (xs : Entries) → length xs ≡ 0 → xs ≡ []
    no_entries [] e = refl
    no_entries (x ∷ xs) e = absurd (cc)
built_sum f (e ∷ es) h =
    inserted_sum f (finite.from_entries es) e.0 e.1 (finite.get-from_entries paths_total es e.0 ∙ h.0)
    ∙ omega (arith, built_sum f es h.1, sum_by-cons f e.1 (map (λ (e : Path × Node). e.1) es))

built_len : (es : Entries) → AreApart es → finite.len (finite.from_entries {R = path_cmp} es) ≡ length es
built_len [] h = finite.len-empty path_cmp Node
built_len (e ∷ es) h = inserted_len (finite.from_entries es) e.0 e.1 None (finite.get-from_entries paths_total es e.0 ∙ h.0) ∙ omega (arith, built_len es h.1)

above_all : (x : Path) (es : Entries) → AllByRecursion (λ y. path_cmp x y ≡ Less) (map (λ e. e.0) es) → find path_cmp x es ≡ None
above_all x [] h = refl
above_all x (e ∷ es) h = ap (λ o. cond (is_eq o) (Some e.1) (find path_cmp x es)) h.0 ∙ above_all x es h.1

sorted_apart : (es : Entries) → IsStrictlySortedBy path_cmp (map (λ e. e.0) es) → AreApart es
unfolding IsStrictlySortedBy
sorted_apart [] h = tt
sorted_apart (e ∷ es) h = (above_all e.0 es h.0, sorted_apart es h.1)

module _ (from to : Path) (into : (r : Path) → to ≢ from ++ r) (onto : (r : Path) → from ≢ to ++ r) where
  values_stay : (es : Entries) → map (λ e. e.1) (all from to into onto es) ≡ map (λ e. e.1) es
  values_stay [] = refl
  values_stay (e ∷ es) = ap (λ vs. e.1 ∷ vs) (values_stay es)

  moved_apart : (es : Entries) → AreApart es → ((s : Path) → find path_cmp (to ++ s) es ≡ None) → AreApart (all from to into onto es)
  moved_apart [] h free = tt
  moved_apart (e ∷ es) h free = (fresh (rest_below from e.0) refl, moved_apart es h.1 later)
    where
      later : (s : Path) → find path_cmp (to ++ s) es ≡ None
      later s = (split_none (eq_by_cmp path_cmp (to ++ s) e.0) e.1 (find path_cmp (to ++ s) es) (free s)).1

      fresh : (o : Option Path) → rest_below from e.0 ≡ o → find path_cmp (moved_path from to e.0) (all from to into onto es) ≡ None
      fresh None is =
          ap (λ k. find path_cmp k (all from to into onto es)) (ap (λ o. elim o [ None ↦ e.0 | Some r ↦ to ++ r ]) is)
          ∙ find_others from to into onto es e.0
          (λ r f. cc (sym (split_none (eq_by_cmp path_cmp (to ++ r) e.0) e.1 (find path_cmp (to ++ r) es) (free r)).0 ∙ path_true (to ++ r) e.0 (sym f)))
          (λ r f. cc (sym is ∙ ap (rest_below from) f ∙ rest_of_append from r))
          ∙ h.0
      fresh (Some r) is =
          ap (λ k. find path_cmp k (all from to into onto es)) (ap (λ o. elim o [ None ↦ e.0 | Some r ↦ to ++ r ]) is)
          ∙ find_inside from to into onto es r later
          ∙ ap (λ k. find path_cmp k es) (sym (rest_is from e.0 r is))
          ∙ h.0

  length_stays : (es : Entries) → length (all from to into onto es) ≡ length es
  length_stays [] = refl
  length_stays (e ∷ es) = ap suc (length_stays es)

  moved_sizes : (tree : Tree) → ((s : Path) → get tree (to ++ s) ≡ None) → sizes_of (moved tree from to) ≡ sizes_of tree
  moved_sizes tree free =
      let es = finite.entries tree in
      let apart = moved_apart es (sorted_apart es (paths_rise tree)) (λ s. sym (finite.get-entries tree (to ++ s)) ∙ free s) in
      let len : finite.len (moved tree from to) ≡ finite.len tree = built_len (all from to into onto es) apart ∙ length_stays es ∙ sym (finite.len-entries tree) in
      let sum : (f : Node → ℕ) → sum_by f (finite.values (moved tree from to)) ≡ sum_by f (finite.values tree) = λ f. built_sum f (all from to into onto es) apart ∙ ap (sum_by f) (values_stay es) in
      λ i. record { nodes = len i - 1; attributes = sum attribute_count i; blocks = sum held_count i }

-- where two trees have moved the same, they are the same
pub same_moved : (tree a b : Tree) (from to : Path) → IsMoved (get tree) (get a) from to → IsMoved (get tree) (get b) from to → a ≡ b
same_moved tree a b from to m n = finite.same_map paths_total paths_exact a b (λ q. elim (below_or_not to q) [
  | inl x ↦ ap (get a) x.1 ∙ m.inside x.0 ∙ sym (n.inside x.0) ∙ ap (get b) (sym x.1)
  | inr not_to ↦ elim (below_or_not from q) [
    | inl y ↦ ap (get a) y.1 ∙ m.gone y.0 ∙ sym (n.gone y.0) ∙ ap (get b) (sym y.1)
    | inr not_from ↦ m.others q not_to not_from ∙ sym (n.others q not_to not_from)
  ]
])

pub renamed_is : (tree : Tree) (from to : Path) (after : Tree) → IsRenamed tree from to after → after ≡ moved tree from to
renamed_is tree from to after r = same_moved tree after (moved tree from to) from to r.is_moved (moves from to r.not_into r.not_onto tree r.free)

pub renamed_sizes : (tree : Tree) (from to : Path) (after : Tree) → IsRenamed tree from to after → sizes_of after ≡ sizes_of tree
renamed_sizes tree from to after r = ap sizes_of (renamed_is tree from to after r) ∙ moved_sizes from to r.not_into r.not_onto tree r.free
