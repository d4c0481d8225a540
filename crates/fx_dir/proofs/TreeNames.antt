-- The names of a node's children are those that the tree has.
use Rattle.std.proofs.Common.{◌≡◌, ◌⊎◌, inl, inr, ℕ, ◌<◌, ◌++◌, List, [], ◌∷◌, refl, sym, ap, subst, ◌∙◌, arith, zero, suc}
use Rattle.std.specs.Prelude.{Option, Some, None, IsSome, slice_get}
use Rattle.std.specs.Cmp.Lexicographic.{nat_list_cmp_total}
use Rattle.std.specs.FinMap.{get}
use Rattle.std.specs.List.{AllByRecursion}
use Rattle.std.specs.List.Sorted.{IsStrictlySortedBy}
use Rattle.std.specs.declared.cmp.Ordering.TheVariants.{Less}
use Rattle.std.proofs.lemmas.Option.{get_or_from_slice_get, slice_get-get_or, slice_get_within}
use Rattle.fx_item.specs.Item.{ChildValue}
use Rattle.fx_item.specs.Look.{ItemMap}
use Rattle.fx_item.specs.Name.{name_cmp}
use Rattle.fx_item.specs.declared.lock.LockKey.{LockKey}
use Rattle.fx_plain.specs.Node.{Node}
use Rattle.fx_plain.specs.Tree.{Tree, children}
use Rattle.fx_plain.proofs.Children.{child_there, children_rise}
use Rattle.fx_namespace.specs.Nodes.{Stands, child, node_at}
use Rattle.fx_namespace.specs.Trees.{Holdings, IsTreeOf}
use Rattle.fx_namespace.proofs.Commits.{free_entry, node_there}
use Rattle.fx_namespace.proofs.Walks.{child_value, last_step}
use Rattle.fx_dir.specs.Children.{AreChildren, IsChild}
use Rattle.fx_dir.proofs.Order.{not_below_itself}

-- ---- two rising lists with the same members are equal

abbrev Has : List (List ℕ) → List ℕ → Type 0
Has xs x = (i : ℕ) × (slice_get xs i ≡ Some x)

abbrev Rise : List (List ℕ) → Type 0
Rise xs = (i j : ℕ) (x y : List ℕ) → i < j → slice_get xs i ≡ Some x → slice_get xs j ≡ Some y → name_cmp x y ≡ Less

rest_rises : (x : List ℕ) (xs : List (List ℕ)) → Rise (x ∷ xs) → Rise xs
rest_rises x xs r = λ i j a b less e f. r (suc i) (suc j) a b (omega (arith, less)) e f

-- a member is the first, or stands behind it and is above it
at_front : (x : List ℕ) (xs : List (List ℕ)) (z : List ℕ) → Rise (x ∷ xs) → Has (x ∷ xs) z → (x ≡ z) ⊎ (Has xs z × (name_cmp x z ≡ Less))
at_front x xs z r (zero, e) = inl (cc)
at_front x xs z r (suc i, e) = inr ((i, e), r 0 (suc i) x z (omega arith) refl e)

-- a member of the rest of one list is one of the rest of the other, where both have one first
rest_has : (x : List ℕ) (xs ys : List (List ℕ)) → Rise (x ∷ xs) → Rise (x ∷ ys) → ((z : List ℕ) → Has (x ∷ xs) z → Has (x ∷ ys) z) → (z : List ℕ) → Has xs z → Has ys z
rest_has x xs ys r s to z (i, e) = elim (at_front x ys z s (to z (suc i, e))) [
  | inl a ↦ absurd (not_below_itself z (subst (λ w. name_cmp w z ≡ Less) a (r 0 (suc i) x z (omega arith) refl e)))
  | inr a ↦ a.0
]

same_first : (x y : List ℕ) (xs ys : List (List ℕ)) → Rise (x ∷ xs) → Rise (y ∷ ys) → Has (y ∷ ys) x → Has (x ∷ xs) y → x ≡ y
same_first x y xs ys r s h k = elim (at_front y ys x s h) [
  | inl a ↦ sym a
  | inr a ↦ elim (at_front x xs y r k) [
    | inl b ↦ b
    | inr b ↦ absurd (not_below_itself x (nat_list_cmp_total.trans x y x b.1 a.1))
  ]
]

same_names : (xs ys : List (List ℕ)) → Rise xs → Rise ys → ((z : List ℕ) → Has xs z → Has ys z) → ((z : List ℕ) → Has ys z → Has xs z) → xs ≡ ys
same_names [] [] r s to back = refl
same_names [] (y ∷ ys) r s to back = absurd (cc (back y (0, refl)).1)
same_names (x ∷ xs) [] r s to back = absurd (cc (to x (0, refl)).1)
same_names (x ∷ xs) (y ∷ ys) r s to back =
    let first = same_first x y xs ys r s (to x (0, refl)) (back y (0, refl)) in
    let t : Rise (x ∷ ys) = subst (λ w. Rise (w ∷ ys)) (sym first) s in
    let rest = same_names xs ys (rest_rises x xs r) (rest_rises y ys s)
    (rest_has x xs ys r t (subst (λ w. (z : List ℕ) → Has (x ∷ xs) z → Has (w ∷ ys) z) (sym first) to))
    (rest_has x ys xs t r (subst (λ w. (z : List ℕ) → Has (w ∷ ys) z → Has (x ∷ xs) z) (sym first) back)) in
    ap (λ w. w ∷ xs) first ∙ ap (λ zs. y ∷ zs) rest

all_at : (P : List ℕ → Type 0) (xs : List (List ℕ)) → AllByRecursion P xs → (i : ℕ) (x : List ℕ) → slice_get xs i ≡ Some x → P x
all_at P [] h i x e = absurd (cc e)
all_at P (y ∷ xs) h zero x e = subst P (cc e) h.0
all_at P (y ∷ xs) h (suc i) x e = all_at P xs h.1 i x e

sorted_rise : (xs : List (List ℕ)) → IsStrictlySortedBy name_cmp xs → Rise xs
unfolding IsStrictlySortedBy
sorted_rise [] h i j x y less e f = absurd (cc e)
sorted_rise (z ∷ xs) h i zero x y less e f = absurd (omega (arith, less))
sorted_rise (z ∷ xs) h zero (suc j) x y less e f = subst (λ w. name_cmp w y ≡ Less) (cc e) (all_at (λ w. name_cmp z w ≡ Less) xs h.0 j y f)
sorted_rise (z ∷ xs) h (suc i) (suc j) x y less e f = sorted_rise xs h.1 i j x y (omega (arith, less)) e f

-- ---- a name is one of a child where something lies at its path

module _ {m : ItemMap} {h : Holdings} {t : Tree} {at : LockKey} (s : Stands m) (is : IsTreeOf m h t) (path : List (List ℕ)) (way : node_at m path ≡ Some at) where
  lies : (name : List ℕ) → IsChild m at name → IsSome (get t (path ++ name ∷ []))
  lies name c = by_node (get t (path ++ name ∷ [])) refl
    where
      by_node : (o : Option Node) → get t (path ++ name ∷ []) ≡ o → IsSome o
      by_node None e = absurd (cc (sym c.1 ∙ free_entry m h t is s path name at way e))
      by_node (Some x) e = refl

  is_child : (name : List ℕ) → IsSome (get t (path ++ name ∷ [])) → IsChild m at name
  is_child name some = by_node (get t (path ++ name ∷ [])) refl some
    where
      by_node : (o : Option Node) → get t (path ++ name ∷ []) ≡ o → IsSome o → IsChild m at name
      by_node None e there = absurd (cc there)
      by_node (Some x) e there =
          let n = node_there m h t is (path ++ name ∷ []) x e in
          let l = last_step m path name n.0 n.1 in
          let same : l.0 ≡ at = cc (sym l.1 ∙ way) in
          (ChildValue n.0.store n.0.id, child_value m at name n.0 (subst (λ y. child m y name ≡ Some n.0) same l.2))

  pub same_children : (names : List (List ℕ)) → AreChildren m at names → names ≡ children t path
  same_children names c = same_names names (children t path) c.rising (sorted_rise (children t path) (children_rise t path)) to back
    where
      to : (z : List ℕ) → Has names z → Has (children t path) z
      to z g =
          let k = (child_there t path z).1 (lies z (c.there g.0 z g.1)) in
          (k.0, slice_get-get_or (children t path) k.0 z k.1 ∙ ap Some k.2)

      back : (z : List ℕ) → Has (children t path) z → Has names z
      back z g = c.all z (is_child z ((child_there t path z).0 (g.0, slice_get_within (children t path) g.0 z g.1, get_or_from_slice_get (children t path) g.0 z z g.1)))
