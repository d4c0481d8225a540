-- The paths below a path stand together among the paths from it on.
use Rattle.std.proofs.Common.{◌≡◌, ◌≢◌, ◌⊎◌, inl, inr, ℕ, ◌&&◌, ◌++◌, List, [], ◌∷◌, length, take, refl, sym, ap, subst, ◌∙◌, cond, nat_eq}
use Rattle.std.specs.Prelude.{Bool, true, false, ◌||◌, Option, Some, None, IsTrue, is_some, filter}
use Rattle.std.specs.List.{AllByRecursion, list_any}
use Rattle.std.specs.List.Sorted.{IsStrictlySortedBy}
use Rattle.std.proofs.lemmas.List.{append-nil}
use Rattle.std.proofs.lemmas.List.Kept.{IsStrictlySortedBy-filter}
use Rattle.std.proofs.lemmas.Bool.{eq-eqb}
use Rattle.std.specs.Cmp.Lexicographic.{pointwise, same_text}
use Rattle.std.specs.declared.cmp.Ordering.TheVariants.{Less}
use Rattle.std.specs.Ordering.{eq_by_cmp, is_le}
use Rattle.std.specs.FinMap as finite
use Rattle.fx_item.specs.Name.{name_cmp}
use Rattle.fx_plain.specs.Tree.{Tree, path_cmp}
use Rattle.fx_plain.specs.Listing.{IsFirst, paths_from}
use Rattle.fx_plain.proofs.Children.{names_total, names_exact, paths_rise}
use Rattle.fx_plain.proofs.Order.{between, same_front, up_to}
use Rattle.fx_steps.specs.Moved.{has_below, lies_below, rest_below}
use Rattle.fx_steps.proofs.Below.{Path, lying, name_itself, rest_is, same_name}

-- ---- a slice that begins with another

text_itself : (x : List ℕ) → pointwise nat_eq x x ≡ true
text_itself [] = refl
text_itself (b ∷ x) = ap (λ t. t && pointwise nat_eq x x) (eq-eqb b b refl) ∙ text_itself x

pub same_tests : (x y : List ℕ) → pointwise nat_eq x y ≡ eq_by_cmp name_cmp x y
same_tests x y = by (pointwise nat_eq x y) refl (eq_by_cmp name_cmp x y) refl
  where
    by : (a : Bool) → pointwise nat_eq x y ≡ a → (b : Bool) → eq_by_cmp name_cmp x y ≡ b → a ≡ b
    by true e true f = refl
    by true e false f = absurd (cc (sym f ∙ ap (λ z. eq_by_cmp name_cmp x z) (sym (same_text x y (sym e))) ∙ name_itself x))
    by false e true f = absurd (cc (sym e ∙ ap (λ z. pointwise nat_eq z y) (same_name x y f) ∙ text_itself y))
    by false e false f = refl

under_test : (b : Bool) (o : Option Path) → (b && is_some o) ≡ is_some (cond b o None)
under_test true o = refl
under_test false o = refl

pub starts_is : (above path : Path) → pointwise (pointwise nat_eq) above (take (length above) path) ≡ lies_below above path
starts_is [] path = refl
starts_is (x ∷ above) [] = refl
starts_is (x ∷ above) (y ∷ path) =
    (λ i. same_tests x y i && starts_is above path i) ∙ under_test (eq_by_cmp name_cmp x y) (rest_below above path)

-- ---- order

-- a path that lies below another is not before it
not_before : (a k : Path) → lies_below a k ≡ true → is_le (path_cmp a k) ≡ true
not_before a k e = by (rest_below a k) refl e
  where
    first : (r : Path) → is_le (path_cmp [] r) ≡ true
    first [] = refl
    first (x ∷ r) = refl

    by : (o : Option Path) → rest_below a k ≡ o → is_some o ≡ true → is_le (path_cmp a k) ≡ true
    by None is f = absurd (cc f)
    by (Some r) is f =
        ap (λ z. is_le (path_cmp a z)) (rest_is a k r is)
        ∙ ap (λ z. is_le (path_cmp z (a ++ r))) (sym (append-nil a))
        ∙ ap is_le (same_front names_total names_exact a [] r)
        ∙ first r

-- behind a path from `a` on that does not lie below `a`, none does
none_behind : (a p : Path) (ps : List Path) → AllByRecursion (λ q. path_cmp p q ≡ Less) ps → is_le (path_cmp a p) ≡ true → lies_below a p ≡ false → filter (lies_below a) ps ≡ []
none_behind a p [] above low not = refl
none_behind a p (q ∷ ps) above low not = ap (λ b. cond b (q ∷ filter (lies_below a) ps) (filter (lies_below a) ps)) (outside (rest_below a q) refl) ∙ none_behind a p ps above.1 low not
  where
    outside : (o : Option Path) → rest_below a q ≡ o → is_some o ≡ false
    outside None is = refl
    outside (Some r) is =
        let high : is_le (path_cmp p (a ++ r)) ≡ true = ap is_le (ap (path_cmp p) (sym (rest_is a q r is)) ∙ above.0) in
        let found = between names_total names_exact a [] r p (ap (λ z. is_le (path_cmp z p)) (append-nil a) ∙ low) high in
        absurd (cc (sym not ∙ lying a p found.0 found.1))

-- ---- the paths below

any_kept : (f g : Path → Bool) → ((k : Path) → f k ≡ true → g k ≡ true) → (ks : List Path) → filter f (filter g ks) ≡ filter f ks
any_kept f g h [] = refl
any_kept f g h (k ∷ ks) = by (g k) refl (f k) refl (any_kept f g h ks)
  where
    by : (b : Bool) → g k ≡ b → (c : Bool) → f k ≡ c → filter f (filter g ks) ≡ filter f ks
        → filter f (cond b (k ∷ filter g ks) (filter g ks)) ≡ cond c (k ∷ filter f ks) (filter f ks)
    by true e true is more = ap (λ b. cond b (k ∷ filter f (filter g ks)) (filter f (filter g ks))) is ∙ ap (λ z. k ∷ z) more
    by true e false is more = ap (λ b. cond b (k ∷ filter f (filter g ks)) (filter f (filter g ks))) is ∙ more
    by false e true is more = absurd (cc (sym e ∙ h k is))
    by false e false is more = more

abbrev is_some_list : List Path → Bool
is_some_list [] = false
is_some_list (k ∷ ks) = true

any_of_filter : (f : Path → Bool) (ks : List Path) → list_any f ks ≡ is_some_list (filter f ks)
any_of_filter f [] = refl
any_of_filter f (k ∷ ks) = by (f k) (any_of_filter f ks)
  where
    by : (b : Bool) → list_any f ks ≡ is_some_list (filter f ks) → (b || list_any f ks) ≡ is_some_list (cond b (k ∷ filter f ks) (filter f ks))
    by true more = refl
    by false more = more

pub below_from : (t : Tree) (a : Path) → filter (lies_below a) (paths_from t a) ≡ filter (lies_below a) (finite.keys t)
below_from t a = any_kept (lies_below a) (λ path. is_le (path_cmp a path)) (not_before a) (finite.keys t)

-- each of these is not before the path
abbrev pub AreFrom : Path → List Path → Type 0
AreFrom a ps = AllByRecursion (λ p. is_le (path_cmp a p) ≡ true) ps

-- paths in order, none before `a`
pub record IsRunFrom (a : Path) (ps : List Path) : Type 0 where
  pub rise : IsStrictlySortedBy path_cmp ps
  pub from : AreFrom a ps

passing : (g : Path → Bool) (ks : List Path) → AllByRecursion (λ k. g k ≡ true) (filter g ks)
passing g [] = tt
passing g (k ∷ ks) = by (g k) refl (passing g ks)
  where
    by : (b : Bool) → g k ≡ b → AllByRecursion (λ k. g k ≡ true) (filter g ks) → AllByRecursion (λ k. g k ≡ true) (cond b (k ∷ filter g ks) (filter g ks))
    by true e more = (e, more)
    by false e more = more

pub run_from : (t : Tree) (a : Path) → IsRunFrom a (paths_from t a)
run_from t a = record {
  rise = IsStrictlySortedBy-filter path_cmp (λ path. is_le (path_cmp a path)) (finite.keys t) (paths_rise t);
  from = passing (λ path. is_le (path_cmp a path)) (finite.keys t);
}

pub run_on : (a p : Path) (ps : List Path) → IsRunFrom a (p ∷ ps) → IsRunFrom a ps
unfolding IsStrictlySortedBy
run_on a p ps r = record { rise = r.rise.1; from = r.from.1 }

-- from a path on that does not lie below, none does
pub run_ends : (a p : Path) (ps : List Path) → IsRunFrom a (p ∷ ps) → lies_below a p ≡ false → filter (lies_below a) (p ∷ ps) ≡ []
unfolding IsStrictlySortedBy
run_ends a p ps r not = ap (λ b. cond b (p ∷ filter (lies_below a) ps) (filter (lies_below a) ps)) not ∙ none_behind a p ps r.rise.0 r.from.0 not

found_by : (a : Path) (ps : List Path) (p : Path) (rest : List Path) → IsRunFrom a ps → ps ≡ p ∷ rest → lies_below a p ≡ is_some_list (filter (lies_below a) ps)
found_by a ps p rest r is = by (lies_below a p) refl ∙ ap (λ z. is_some_list (filter (lies_below a) z)) (sym is)
  where
    by : (b : Bool) → lies_below a p ≡ b → lies_below a p ≡ is_some_list (filter (lies_below a) (p ∷ rest))
    by true e = e ∙ ap (λ b. is_some_list (cond b (p ∷ filter (lies_below a) rest) (filter (lies_below a) rest))) (sym e)
    by false e = e ∙ ap is_some_list (sym (run_ends a p rest (subst (IsRunFrom a) is r) e))

-- whether anything lies below, by the first path from there on
pub first_tells : (t : Tree) (a p : Path) → IsFirst p (paths_from t a) → lies_below a p ≡ has_below t a
first_tells t a p first = found_by a (paths_from t a) p first.0 (run_from t a) first.1 ∙ ap is_some_list (below_from t a) ∙ sym (any_of_filter (lies_below a) (finite.keys t))

pub none_tells : (t : Tree) (a : Path) → paths_from t a ≡ [] → false ≡ has_below t a
none_tells t a none = ap (λ z. is_some_list (filter (lies_below a) z)) (sym none) ∙ ap is_some_list (below_from t a) ∙ sym (any_of_filter (lies_below a) (finite.keys t))
