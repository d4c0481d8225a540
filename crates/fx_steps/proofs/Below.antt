-- Paths that lie at another path or below it.
use Rattle.std.proofs.Common.{◌≡◌, ◌≢◌, ◌⊎◌, inl, inr, ℕ, ◌+◌, ◌++◌, List, [], ◌∷◌, length, length-append, refl, sym, ap, ◌∙◌, cond, arith}
use Rattle.std.specs.Prelude.{Bool, true, false, Option, Some, None}
use Rattle.std.specs.Cmp.{tied_itself}
use Rattle.std.specs.declared.cmp.Ordering.{Ordering}
use Rattle.std.specs.declared.cmp.Ordering.TheVariants.{Less, Equal, Greater}
use Rattle.std.specs.Ordering.{eq_by_cmp, is_eq}
use Rattle.fx_plain.specs.Tree.{path_cmp}
use Rattle.fx_plain.proofs.Paths.{paths_total, paths_exact}
use Rattle.fx_item.specs.Name.{name_cmp}
use Rattle.fx_plain.proofs.Children.{names_total, names_exact}
use Rattle.fx_steps.specs.Moved.{lies_below, rest_below}

abbrev pub Path : Type 0
Path = List (List ℕ)

-- ---- tests of names and paths

pub name_itself : (x : List ℕ) → eq_by_cmp name_cmp x x ≡ true
name_itself x = ap is_eq (tied_itself names_total x)

pub same_name : (x y : List ℕ) → eq_by_cmp name_cmp x y ≡ true → x ≡ y
same_name x y e = by (name_cmp x y) refl e
  where
    by : (o : Ordering) → name_cmp x y ≡ o → is_eq o ≡ true → x ≡ y
    by Less is f = absurd (cc f)
    by Equal is f = names_exact x y is
    by Greater is f = absurd (cc f)

pub path_itself : (a : Path) → eq_by_cmp path_cmp a a ≡ true
path_itself a = ap is_eq (tied_itself paths_total a)

pub path_true : (a b : Path) → a ≡ b → eq_by_cmp path_cmp a b ≡ true
path_true a b e = ap (λ z. eq_by_cmp path_cmp a z) (sym e) ∙ path_itself a

pub path_false : (a b : Path) → a ≢ b → eq_by_cmp path_cmp a b ≡ false
path_false a b ne = by_order (path_cmp a b) refl
  where
    by_order : (o : Ordering) → path_cmp a b ≡ o → eq_by_cmp path_cmp a b ≡ false
    by_order Equal e = absurd (ne (paths_exact a b e))
    by_order Less e = ap is_eq e
    by_order Greater e = ap is_eq e

pub same_path : (a b : Path) → (a ≡ b) ⊎ (a ≢ b)
same_path a b = by_order (path_cmp a b) refl
  where
    apart : (o : Ordering) → o ≢ Equal → path_cmp a b ≡ o → a ≢ b
    apart o ne e f = ne (sym e ∙ ap (λ z. path_cmp a z) (sym f) ∙ tied_itself paths_total a)

    by_order : (o : Ordering) → path_cmp a b ≡ o → (a ≡ b) ⊎ (a ≢ b)
    by_order Equal e = inl (paths_exact a b e)
    by_order Less e = inr (apart Less (λ f. cc f) e)
    by_order Greater e = inr (apart Greater (λ f. cc f) e)

-- ---- what is left of a path

pub rest_of_append : (p r : Path) → rest_below p (p ++ r) ≡ Some r
rest_of_append [] r = refl
rest_of_append (x ∷ p) r = ap (λ b. cond b (rest_below p (p ++ r)) None) (name_itself x) ∙ rest_of_append p r

rest_by : (x y : List ℕ) (p q r : Path) → (rest_below p q ≡ Some r → q ≡ p ++ r) → (b : Bool) → eq_by_cmp name_cmp x y ≡ b → cond b (rest_below p q) None ≡ Some r → y ∷ q ≡ x ∷ p ++ r
rest_by x y p q r ih true s f = ap (λ z. z ∷ q) (sym (same_name x y s)) ∙ ap (λ z. x ∷ z) (ih f)
rest_by x y p q r ih false s f = absurd (cc f)

pub rest_is : (p q r : Path) → rest_below p q ≡ Some r → q ≡ p ++ r
rest_is [] q r e = cc e
rest_is (x ∷ p) [] r e = absurd (cc e)
rest_is (x ∷ p) (y ∷ q) r e = rest_by x y p q r (λ f. rest_is p q r f) (eq_by_cmp name_cmp x y) refl e

-- a path lies below another, or nothing that the other begins with is it
pub below_or_not : (p q : Path) → ((r : Path) × (q ≡ p ++ r)) ⊎ ((r : Path) → q ≢ p ++ r)
below_or_not p q = by (rest_below p q) refl
  where
    by : (o : Option Path) → rest_below p q ≡ o → ((r : Path) × (q ≡ p ++ r)) ⊎ ((r : Path) → q ≢ p ++ r)
    by None e = inr (λ r f. cc (sym e ∙ ap (rest_below p) f ∙ rest_of_append p r))
    by (Some r) e = inl (r, rest_is p q r e)

pub not_lying : (p q : Path) → lies_below p q ≡ false → (r : Path) → q ≢ p ++ r
not_lying p q e r f = by (rest_below p q) refl e
  where
    by : (o : Option Path) → rest_below p q ≡ o → (elim o [ Some x ↦ true | None ↦ false ]) ≡ false → ⊥
    by None is g = absurd (cc (sym is ∙ ap (rest_below p) f ∙ rest_of_append p r))
    by (Some s) is g = absurd (cc g)

pub lying : (p q r : Path) → q ≡ p ++ r → lies_below p q ≡ true
lying p q r e = ap (λ z. elim (rest_below p z) [ Some x ↦ true | None ↦ false ]) e ∙ ap (λ o. elim o [ Some x ↦ true | None ↦ false ]) (rest_of_append p r)

pub cancel : (p a b : Path) → p ++ a ≡ p ++ b → a ≡ b
cancel [] a b e = e
cancel (x ∷ p) a b e = cancel p a b (cc e)

-- of two paths that begin one path, one begins the other
pub nested : (p q a b : Path) → p ++ a ≡ q ++ b → ((s : Path) × (p ≡ q ++ s)) ⊎ ((s : Path) × (q ≡ p ++ s))
nested [] q a b e = inr (q, refl)
nested (x ∷ p) [] a b e = inl (x ∷ p, refl)
nested (x ∷ p) (y ∷ q) a b e = by_case (nested p q a b (cc e))
  where
    h : x ≡ y
    h = cc e

    by_case : ((s : Path) × (p ≡ q ++ s)) ⊎ ((s : Path) × (q ≡ p ++ s)) → ((s : Path) × (x ∷ p ≡ (y ∷ q) ++ s)) ⊎ ((s : Path) × (y ∷ q ≡ (x ∷ p) ++ s))
    by_case (inl c) = inl (c.0, ap (λ z. z ∷ p) h ∙ ap (λ z. y ∷ z) c.1)
    by_case (inr c) = inr (c.0, ap (λ z. z ∷ q) (sym h) ∙ ap (λ z. x ∷ z) c.1)

-- a path that is not the root's ends in a name
pub last_name : (first : List ℕ) (names : Path) → (above : Path) × (name : List ℕ) × (first ∷ names ≡ above ++ name ∷ [])
last_name first [] = ([], first, refl)
last_name first (second ∷ names) = let later = last_name second names in (first ∷ later.0, later.1, ap (λ p. first ∷ p) later.2)

-- a path is not longer than itself
pub not_longer_than_itself : (p : Path) (n : List ℕ) → p ≢ p ++ n ∷ []
not_longer_than_itself p n e = omega (arith, ap length e, length-append p (n ∷ []))
