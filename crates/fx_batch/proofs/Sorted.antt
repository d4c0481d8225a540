-- What a list of items in order says, and what is found first in it.
use Rattle.std.proofs.Common.{◌≡◌, ℕ, zero, suc, ◌<◌, ◌≤◌, Bool, true, false, List, [], ◌∷◌, length, map, get_or, Option, Some, None, refl, sym, ◌∙◌, ap, subst, cond, arith}
use Rattle.std.specs.Prelude.{option_map}
use Rattle.std.specs.List.{slice_get}
use Rattle.std.specs.List.Sorted.{IsPartitionedBy, IsPartitionPoint}
use Rattle.std.proofs.lemmas.Option.{slice_get-map, slice_get-get_or, get_or_from_slice_get, slice_get_within}
use Rattle.std.specs.Ordering.{is_le, nat_cmp}
use Rattle.std.proofs.lemmas.Cmp.{ranked}
use Rattle.std.specs.declared.cmp.Ordering.{Ordering}
use Rattle.std.specs.declared.cmp.Ordering.TheVariants.{Less, Equal, Greater}
use Rattle.fx_item.specs.Item.{PlainItem}
use Rattle.fx_item.specs.declared.item.Item.{Item}
use Rattle.fx_item.specs.Item.{item_of, key_of}
use Rattle.fx_item.specs.Place.{Place, place_cmp, Upto, Below, begins, ends}
use Rattle.fx_item.specs.Overlay.{Point, at, covers, says}
use Rattle.fx_item.specs.Look.{IsFirstFrom, FindsFrom, AllApart}
use Rattle.fx_item.proofs.PlaceOrder.{upto_upto, below_then, below_upto, upto_le, le_upto, not_le_below}
use Rattle.fx_item.proofs.Between.{not_empty}
use Rattle.fx_item.proofs.Covered.{entry_at, covers_upto, before_not, behind_not}

skip : (x : PlainItem) (xs : List PlainItem) (p : Point) → covers x.key p ≡ false → says (x ∷ xs) p ≡ says xs p
skip x xs p h = ap (λ b. cond b (Some (entry_at x p)) (says xs p)) h

pub says_none : (xs : List PlainItem) (p : Point) → ((i : ℕ) (x : PlainItem) → slice_get xs i ≡ Some x → covers x.key p ≡ false) → says xs p ≡ None
says_none [] p h = refl
says_none (x ∷ xs) p h = skip x xs p (h 0 x refl) ∙ says_none xs p (λ i y e. h (suc i) y e)

pub says_at : (xs : List PlainItem) (i : ℕ) (x : PlainItem) (p : Point) → slice_get xs i ≡ Some x → covers x.key p ≡ true
    → ((j : ℕ) (y : PlainItem) → j < i → slice_get xs j ≡ Some y → covers y.key p ≡ false) → says xs p ≡ Some (entry_at x p)
says_at [] i x p e c b = absurd (let f : None ≡ Some x = e in cc)
says_at (y ∷ ys) zero x p e c b =
    let f : y ≡ x = cc in
    ap (λ b. cond b (Some (entry_at y p)) (says ys p)) (ap (λ z. covers z.key p) f ∙ c) ∙ ap (λ z. Some (entry_at z p)) f
says_at (y ∷ ys) (suc i) x p e c b = skip y ys p (b 0 y (omega arith) refl) ∙ says_at ys i x p e c (λ j z l f. b (suc j) z (omega arith) f)

module _ (xs : List PlainItem) (a : AllApart xs) (from : Place) where
  pub finds_none : ((i : ℕ) (x : PlainItem) → slice_get xs i ≡ Some x → Upto (ends x.key) from) → FindsFrom (says xs) from None
  finds_none all p up = says_none xs p (λ i x e. behind_not x.key p (upto_upto (all i x e) up))

  module _ (i : ℕ) (x : PlainItem) (e : slice_get xs i ≡ Some x)
      (before : (j : ℕ) (y : PlainItem) → j < i → slice_get xs j ≡ Some y → Upto (ends y.key) from) (reaches : Below from (ends x.key)) where
    not_here : (p : Point) → Upto from (at p) → Below (at p) (begins x.key) → (j : ℕ) (y : PlainItem) → slice_get xs j ≡ Some y → (r : Ordering) → r ≡ nat_cmp j i → covers y.key p ≡ false
    not_here p up b j y f Less k = behind_not y.key p (upto_upto (before j y (ranked j i Less k) f) up)
    not_here p up b j y f Equal k =
        let m : Some x ≡ Some y = sym e ∙ ap (slice_get xs) (sym (ranked j i Equal k)) ∙ f in
        let g : x ≡ y = cc in
        subst (λ z. covers z.key p ≡ false) g (before_not x.key p b)
    not_here p up b j y f Greater k =
        before_not y.key p (below_then b (upto_upto (below_upto (not_empty x.key (a.good i x e).key)) (a.apart i j x y (ranked j i Greater k) e f)))

    pub finds_at : IsFirstFrom (says xs) from x
    finds_at = record {
      good = a.good i x e;
      reaches = reaches;
      stands = λ p up c. says_at xs i x p e c (λ j y l f. behind_not y.key p (upto_upto (a.apart j i y x l f e) (covers_upto x.key p c)));
      first = λ p up b. says_none xs p (λ j y f. not_here p up b j y f (nat_cmp j i) refl);
    }

-- ---- the program's list

-- the item ends at the place or before it
abbrev pub passes : Place → Item → Bool
passes place y = is_le (place_cmp (ends (key_of y.key)) place)

pub got_item : (xs : List Item) (i : ℕ) (d : Item) → i < length xs → slice_get (map item_of xs) i ≡ Some (item_of (get_or xs i d))
got_item xs i d h = slice_get-map item_of xs i ∙ ap (option_map item_of) (slice_get-get_or xs i d h)

-- an item of the plain list is one of the program's
pub record Got (xs : List Item) (i : ℕ) (x : PlainItem) : Type 0 where
  pub item : Item
  pub here : get_or xs i item ≡ item
  pub within : i < length xs
  pub is : item_of item ≡ x

pub got : (xs : List Item) (i : ℕ) (x : PlainItem) → slice_get (map item_of xs) i ≡ Some x → Got xs i x
got xs i x e = by_case (slice_get xs i) refl where
  by_case : (o : Option Item) → slice_get xs i ≡ o → Got xs i x
  by_case None f = absurd (let k : None ≡ Some x = sym (ap (option_map item_of) f) ∙ sym (slice_get-map item_of xs i) ∙ e in cc)
  by_case (Some y) f =
      let k : Some (item_of y) ≡ Some x = sym (ap (option_map item_of) f) ∙ sym (slice_get-map item_of xs i) ∙ e in
      record { item = y; here = get_or_from_slice_get xs i y y f; within = slice_get_within xs i y f; is = cc }

module _ (place : Place) (xs : List Item) (a : AllApart (map item_of xs)) where
  pub partitioned : IsPartitionedBy (passes place) xs
  partitioned i j d le l h = by_case (nat_cmp i j) refl where
    y : Item
    y = get_or xs j d

    by_case : (r : Ordering) → r ≡ nat_cmp i j → passes place (get_or xs i d) ≡ true
    by_case Less k =
        let n : i < j = ranked i j Less k in
        let w : i < length xs = omega arith in
        let x : Item = get_or xs i d in
        let z : Item = get_or xs j d in
        let s : Upto (ends (key_of x.key)) (begins (key_of z.key)) = a.apart i j (item_of x) (item_of z) n (got_item xs i d w) (got_item xs j d l) in
        upto_le (upto_upto s (upto_upto (below_upto (not_empty (key_of z.key) (a.good j (item_of z) (got_item xs j d l)).key)) (le_upto h)))
    by_case Equal k = subst (λ n. passes place (get_or xs n d) ≡ true) (sym (ranked i j Equal k)) h
    by_case Greater k = absurd (let n : j < i = ranked i j Greater k in omega arith)

  module _ (n : ℕ) (q : IsPartitionPoint (λ y. passes place y ≡ true) (λ y. passes place y ≡ false) xs n) where
    pub passed_before : (i : ℕ) (x : PlainItem) → i < n → slice_get (map item_of xs) i ≡ Some x → Upto (ends x.key) place
    passed_before i x l e =
        let g : Got xs i x = got xs i x e in
        let h : passes place (get_or xs i g.item) ≡ true = q.0 i g.item (omega arith) l in
        let k : passes place g.item ≡ true = subst (λ y. passes place y ≡ true) g.here h in
        subst (λ z. Upto (ends z.key) place) g.is (le_upto k)

    pub passed_behind : (i : ℕ) (x : PlainItem) → n ≤ i → slice_get (map item_of xs) i ≡ Some x → Below place (ends x.key)
    passed_behind i x l e =
        let g : Got xs i x = got xs i x e in
        let h : passes place (get_or xs i g.item) ≡ false = q.1 i g.item l g.within in
        let k : passes place g.item ≡ false = subst (λ y. passes place y ≡ false) g.here h in
        subst (λ z. Below place (ends z.key)) g.is (not_le_below k)

-- what a batch finds, from where its search ends
module _ (v : List PlainItem) (inside ys : List Item) (from q : Place) (n : ℕ) (view : map item_of inside ≡ v) (a : AllApart (map item_of inside))
    (y : ys ≡ inside) (place : q ≡ from)
    (before : (i : ℕ) (x : PlainItem) → i < n → slice_get (map item_of ys) i ≡ Some x → Upto (ends x.key) q) where
  here : (i : ℕ) (x : PlainItem) → i < n → slice_get (map item_of inside) i ≡ Some x → Upto (ends x.key) from
  here i x l e = subst (λ p. Upto (ends x.key) p) place (before i x l (subst (λ ws. slice_get (map item_of ws) i ≡ Some x) (sym y) e))

  pub batch_none : length ys ≤ n → FindsFrom (says v) from None
  batch_none h = subst (λ w. FindsFrom (says w) from None) view (finds_none (map item_of inside) a from
      (λ i x e. here i x (let g : Got inside i x = got inside i x e in let l : length ys ≡ length inside = ap length y in let w : i < length inside = g.within in omega arith) e))

  pub batch_some : (x : PlainItem) (d : Item) → n < length ys → d ≡ get_or ys n d → x ≡ item_of d
      → ((i : ℕ) (x : PlainItem) → n ≤ i → slice_get (map item_of ys) i ≡ Some x → Below q (ends x.key)) → IsFirstFrom (says v) from x
  batch_some x d h e f behind =
      let l : length ys ≡ length inside = ap length y in
      let w : n < length inside = omega arith in
      let g : slice_get (map item_of inside) n ≡ Some x = got_item inside n d w ∙ ap (λ t. Some (item_of t)) (ap (λ ws. get_or ws n d) (sym y) ∙ sym e) ∙ ap Some (sym f) in
      subst (λ w. IsFirstFrom (says w) from x) view (finds_at (map item_of inside) a from n x g here
      (subst (λ p. Below p (ends x.key)) place (behind n x (omega arith) (subst (λ ws. slice_get (map item_of ws) n ≡ Some x) (sym y) g))))
