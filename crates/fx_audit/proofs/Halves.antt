-- Looking for an item by halves: what is passed, and what stands where the search ends.
use Rattle.std.proofs.Common.{◌≡◌, ℕ, ◌<◌, ◌≤◌, Bool, true, false, List, length, map, get_or, Option, Some, None, refl, sym, ap, subst, ◌∙◌, arith}
use Rattle.std.specs.Prelude.{All, option_map}
use Rattle.std.specs.List.{slice_get}
use Rattle.std.specs.List.Sorted.{IsPartitionedBy, IsPartitionPoint}
use Rattle.std.specs.Ordering.{is_le, nat_cmp}
use Rattle.std.specs.declared.cmp.Ordering.{Ordering}
use Rattle.std.specs.declared.cmp.Ordering.TheVariants.{Less, Equal, Greater}
use Rattle.std.proofs.lemmas.Cmp.{ranked}
use Rattle.std.proofs.lemmas.Option.{slice_get-map, slice_get-get_or, get_or_from_slice_get, slice_get_within}
use Rattle.std.proofs.lemmas.List.Elements.{All-get_or}
use Rattle.fx_item.specs.Item.{PlainItem, PlainKey, PlainValue, item_of, items_of, key_of, value_of}
use Rattle.fx_item.specs.declared.item.Item.{Item}
use Rattle.fx_item.specs.Look.{AllApart, is_gone, is_point_key}
use Rattle.fx_item.specs.Overlay.{AtKey, at, covers}
use Rattle.fx_item.specs.Place.{Place, place_cmp, Upto, Below, begins, ends}
use Rattle.fx_item.proofs.Between.{not_empty}
use Rattle.fx_item.proofs.Covered.{lies_covers}
use Rattle.fx_item.proofs.Keys.{point_at}
use Rattle.fx_item.proofs.PlaceOrder.{below_then, below_upto, le_upto, not_both, not_le_below, upto_itself, upto_le, upto_upto}
use Rattle.fx_nodes.specs.Lists.{IsIn}
use Rattle.fx_nodes.proofs.Tree.{at_in, in_at}
use Rattle.fx_contents.specs.Points.{value_under}
use Rattle.fx_contents.proofs.Amiss.{none_at}
use Rattle.fx_sound.specs.Image.{AreStanding, points_in}
use Rattle.fx_sound.proofs.Listed.{covers_key, value_listed, value_stands}

-- ---- what is passed

abbrev pub passes : Place → Item → Bool
passes place y = is_le (place_cmp (ends (key_of y.key)) place)

pub got_item : (xs : List Item) (i : ℕ) (d : Item) → i < length xs → slice_get (items_of xs) i ≡ Some (item_of (get_or xs i d))
got_item xs i d h = slice_get-map item_of xs i ∙ ap (option_map item_of) (slice_get-get_or xs i d h)

-- an item of the plain list is one of the program's
pub record GotItem (xs : List Item) (i : ℕ) (x : PlainItem) : Type 0 where
  pub item : Item
  pub here : get_or xs i item ≡ item
  pub within : i < length xs
  pub is : item_of item ≡ x

pub got : (xs : List Item) (i : ℕ) (x : PlainItem) → slice_get (items_of xs) i ≡ Some x → GotItem xs i x
got xs i x e = by_case (slice_get xs i) refl where
  by_case : (o : Option Item) → slice_get xs i ≡ o → GotItem xs i x
  by_case None f = absurd (let k : None ≡ Some x = sym (ap (option_map item_of) f) ∙ sym (slice_get-map item_of xs i) ∙ e in cc)
  by_case (Some y) f =
      let k : Some (item_of y) ≡ Some x = sym (ap (option_map item_of) f) ∙ sym (slice_get-map item_of xs i) ∙ e in
      record { item = y; here = get_or_from_slice_get xs i y y f; within = slice_get_within xs i y f; is = cc }

module _ (place : Place) (xs : List Item) (a : AllApart (items_of xs)) where
  pub partitioned : IsPartitionedBy (passes place) xs
  partitioned i j d le l h = by_case (nat_cmp i j) refl where
    by_case : (r : Ordering) → r ≡ nat_cmp i j → passes place (get_or xs i d) ≡ true
    by_case Less k =
        let n : i < j = ranked i j Less k in
        let w : i < length xs = omega arith in
        let x : Item = get_or xs i d in
        let z : Item = get_or xs j d in
        let s : Upto (ends (key_of x.key)) (begins (key_of z.key)) = a.apart i j (item_of x) (item_of z) n (got_item xs i d w) (got_item xs j d l) in
        upto_le (upto_upto s (upto_upto (below_upto (not_empty (key_of z.key) (a.good j (item_of z) (got_item xs j d l)).key)) (le_upto h)))
    by_case Equal k = subst (λ n. passes place (get_or xs n d) ≡ true) (sym (ranked i j Equal k)) h
    by_case Greater k = absurd (let n : j < i = ranked i j Greater k in omega arith)

  module _ (n : ℕ) (q : IsPartitionPoint (λ y. passes place y ≡ true) (λ y. passes place y ≡ false) xs n) where
    pub passed_before : (i : ℕ) (x : PlainItem) → i < n → slice_get (items_of xs) i ≡ Some x → Upto (ends x.key) place
    passed_before i x l e =
        let g : GotItem xs i x = got xs i x e in
        let h : passes place (get_or xs i g.item) ≡ true = q.0 i g.item (omega arith) l in
        let k : passes place g.item ≡ true = subst (λ y. passes place y ≡ true) g.here h in
        subst (λ (z : PlainItem). Upto (ends z.key) place) g.is (le_upto k)

    pub passed_behind : (i : ℕ) (x : PlainItem) → n ≤ i → slice_get (items_of xs) i ≡ Some x → Below place (ends x.key)
    passed_behind i x l e =
        let g : GotItem xs i x = got xs i x e in
        let h : passes place (get_or xs i g.item) ≡ false = q.1 i g.item l g.within in
        let k : passes place g.item ≡ false = subst (λ y. passes place y ≡ false) g.here h in
        subst (λ (z : PlainItem). Below place (ends z.key)) g.is (not_le_below k)

-- ---- what is found

module _ (items : List PlainItem) (s : AreStanding items) (key : PlainKey) (point : is_point_key key ≡ true) where
  -- Nothing stands there, where the items before end by then and the next one begins behind.
  pub none_there : (n : ℕ) (place : Place) → place ≡ begins key → ((i : ℕ) (x : PlainItem) → i < n → slice_get items i ≡ Some x → Upto (ends x.key) place)
      → ((x : PlainItem) → slice_get items n ≡ Some x → Below place (begins x.key)) → None ≡ value_under (points_in items) key
  none_there n place is before next = sym (none_at (value_under (points_in items) key) nothing)
    where
      at_place : (x : PlainItem) → Below place (begins x.key) → Below (begins key) (begins x.key)
      at_place x h = subst (λ q. Below q (begins x.key)) is h

      nothing : (v : PlainValue) → value_under (points_in items) key ≡ Some v → ⊥
      nothing v e = by_case (nat_cmp k.0 n) refl
        where
          k : (i : ℕ) × (i < length items) × (slice_get items i ≡ Some (record { key = key; value = v }))
          k = at_in items (record { key = key; value = v }) (value_listed items s key v e)

          some : Below (begins key) (ends key)
          some = not_empty key (s.apart.good k.0 (record { key = key; value = v }) k.2).key

          by_case : (r : Ordering) → r ≡ nat_cmp k.0 n → ⊥
          by_case Less o = not_both some (subst (Upto (ends key)) is (before k.0 (record { key = key; value = v }) (ranked k.0 n Less o) k.2))
          by_case Equal o = not_both (at_place (record { key = key; value = v }) (next (record { key = key; value = v }) (ap (slice_get items) (sym (ranked k.0 n Equal o)) ∙ k.2))) (upto_itself (begins key))
          by_case Greater o =
              let less : n < k.0 = ranked k.0 n Greater o in
              let y : PlainItem = get_or items n (record { key = key; value = v }) in
              let got_y : slice_get items n ≡ Some y = slice_get-get_or items n (record { key = key; value = v }) (omega (arith, less, k.1)) in
              not_both (at_place y (next y got_y)) (upto_upto (below_upto (not_empty y.key (s.apart.good n y got_y).key)) (s.apart.apart n k.0 y (record { key = key; value = v }) less got_y k.2))

  -- The item that reaches past the place and begins no later stands under the key.
  pub found_there : (n : ℕ) (x : PlainItem) (place : Place) → place ≡ begins key → slice_get items n ≡ Some x → Below place (ends x.key) → Upto (begins x.key) place
      → Some x.value ≡ value_under (points_in items) key
  found_there n x place is e high low =
      let there : at (AtKey key) ≡ place = point_at key point ∙ sym is in
      let c : covers x.key (AtKey key) ≡ true = lies_covers x.key (AtKey key) (subst (Upto (begins x.key)) (sym there) low) (subst (λ q. Below q (ends x.key)) (sym there) high) in
      let same : x.key ≡ key = covers_key x.key key c in
      sym (subst (λ k. value_under (points_in items) k ≡ Some x.value) same (value_stands items s x (in_at items n x e) (ap is_point_key same ∙ point)))

-- ---- items that stand

pub standing_of : (xs : List Item) (ys : List PlainItem) → items_of xs ≡ ys → AllApart ys → All (λ (item : Item). is_gone (value_of item.value) ≡ false) xs → AreStanding (items_of xs)
standing_of xs ys e a live = record {
  apart = subst AllApart (sym e) a;
  alive = λ i x g.
      let k = got xs i x g in
      subst (λ (z : PlainItem). is_gone z.value ≡ false) k.is
      (subst (λ (y : Item). is_gone (value_of y.value) ≡ false) k.here (All-get_or (λ (item : Item). is_gone (value_of item.value) ≡ false) xs i k.item k.within live));
}
