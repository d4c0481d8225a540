-- Items each of which begins where the one before it ends, or behind that.
use Rattle.std.proofs.Common.{◌≡◌, ℕ, zero, suc, ◌+◌, ◌-◌, ◌<◌, ◌≤◌, Bool, true, false, List, length, map, get_or, Some, sym, ◌∙◌, ap, subst, arith, ◌⊎◌, inl, inr}
use Rattle.std.specs.List.{All, slice_get}
use Rattle.std.proofs.lemmas.List.Elements.{All-get_or}
use Rattle.std.specs.Ordering.{is_le}
use Rattle.std.proofs.lemmas.Option.{get_or_from_slice_get, slice_get-get_or, slice_get_within}
use Rattle.std.proofs.lemmas.List.{length-map}
use Rattle.fx_item.specs.Item.{PlainItem}
use Rattle.fx_item.specs.declared.item.Item.{Item}
use Rattle.fx_item.specs.Item.{IsItem, item_of, key_of}
use Rattle.fx_item.specs.Place.{place_cmp, Upto, begins, ends}
use Rattle.fx_item.specs.Look.{AllApart}
use Rattle.fx_batch.specs.Batch.{IsDisorder}
use Rattle.fx_item.proofs.PlaceOrder.{upto_upto, below_upto, le_upto, not_le_below}
use Rattle.fx_item.proofs.Between.{not_empty}
use Rattle.fx_batch.proofs.Sorted.{got_item}

abbrev pub IsRising : List PlainItem → ℕ → Type 0
IsRising xs n = (j : ℕ) (x y : PlainItem) → j + 1 < n → slice_get xs j ≡ Some x → slice_get xs (j + 1) ≡ Some y → Upto (ends x.key) (begins y.key)

pub rising_none : (xs : List PlainItem) → IsRising xs 1
rising_none xs j x y l e f = absurd (omega arith)

module _ (xs : List PlainItem) (good : (i : ℕ) (x : PlainItem) → slice_get xs i ≡ Some x → IsItem x) (chain : IsRising xs (length xs)) where
  far : (k i : ℕ) (x y : PlainItem) → slice_get xs i ≡ Some x → slice_get xs (i + k + 1) ≡ Some y → Upto (ends x.key) (begins y.key)
  far zero i x y e f = chain i x y (let l : i + 0 + 1 < length xs = slice_get_within xs (i + 0 + 1) y f in omega arith) e (ap (slice_get xs) (let n : i + 1 ≡ i + 0 + 1 = omega arith in n) ∙ f)
  far (suc k) i x y e f =
      let l : i + suc k + 1 < length xs = slice_get_within xs (i + suc k + 1) y f in
      let n : i + k + 1 < length xs = omega arith in
      let z : PlainItem = get_or xs (i + k + 1) x in
      let g : slice_get xs (i + k + 1) ≡ Some z = slice_get-get_or xs (i + k + 1) x n in
      let m : (i + k + 1) + 1 ≡ i + suc k + 1 = omega arith in
      upto_upto (far k i x z e g) (upto_upto (below_upto (not_empty z.key (good (i + k + 1) z g).key)) (chain (i + k + 1) z y (omega arith) g (ap (slice_get xs) m ∙ f)))

  pub rising_apart : AllApart xs
  rising_apart = record {
    good = good;
    apart = λ i j x y l e f. far (j - i - 1) i x y e (ap (slice_get xs) (let n : i + (j - i - 1) + 1 ≡ j = omega arith in n) ∙ f);
  }

module _ (xs : List Item) (i : ℕ) (a b : Item) (l : i < length xs) (one : 1 ≤ i) (here : a ≡ get_or xs (i - 1) a) (next : b ≡ get_or xs i b) (t : Bool)
    (test : t ≡ is_le (place_cmp (ends (key_of a.key)) (begins (key_of b.key)))) (chain : IsRising (map item_of xs) i) where
  at_here : slice_get (map item_of xs) (i - 1) ≡ Some (item_of a)
  at_here = got_item xs (i - 1) a (omega arith) ∙ ap (λ x. Some (item_of x)) (sym here)

  at_next : slice_get (map item_of xs) i ≡ Some (item_of b)
  at_next = got_item xs i b l ∙ ap (λ x. Some (item_of x)) (sym next)

  pub rising_more : t ≡ true → IsRising (map item_of xs) (i + 1)
  rising_more k j x y m e f = by_case (split j m) where
    split : (j : ℕ) → j + 1 < i + 1 → (j + 1 < i) ⊎ (j + 1 ≡ i)
    split j m = elim (nat_split (j + 1) i) [ inl h ↦ inl h | inr h ↦ inr (omega arith) ] where
      nat_split : (p q : ℕ) → (p < q) ⊎ (q ≤ p)
      nat_split zero zero = inr (omega arith)
      nat_split zero (suc q) = inl (omega arith)
      nat_split (suc p) zero = inr (omega arith)
      nat_split (suc p) (suc q) = elim (nat_split p q) [ inl h ↦ inl (omega arith) | inr h ↦ inr (omega arith) ]

    by_case : ((j + 1 < i) ⊎ (j + 1 ≡ i)) → Upto (ends x.key) (begins y.key)
    by_case (inl n) = chain j x y n e f
    by_case (inr n) =
        let j_is : j ≡ i - 1 = omega arith in
        let p : Some (item_of a) ≡ Some x = sym at_here ∙ ap (slice_get (map item_of xs)) (sym j_is) ∙ e in
        let q : Some (item_of b) ≡ Some y = sym at_next ∙ ap (slice_get (map item_of xs)) (sym n) ∙ f in
        let p2 : item_of a ≡ x = cc in
        let q2 : item_of b ≡ y = cc in
        subst (λ z. Upto (ends z.key) (begins y.key)) p2 (subst (λ z. Upto (ends (key_of a.key)) (begins z.key)) q2 (le_upto (sym test ∙ k)))

  pub disorder : t ≡ false → IsDisorder (map item_of xs) i
  disorder k = record {
    before = λ j x y m e f. chain j x y m e f;
    x = item_of a;
    y = item_of b;
    place = i - 1;
    after = omega arith;
    earlier = at_here;
    later = at_next;
    wrong = not_le_below (sym test ∙ k);
  }

pub all_good : (xs : List PlainItem) → All IsItem xs → (i : ℕ) (x : PlainItem) → slice_get xs i ≡ Some x → IsItem x
all_good xs all i x e = subst IsItem (get_or_from_slice_get xs i x x e) (All-get_or IsItem xs i x (slice_get_within xs i x e) all)

pub rising_list : (xs : List Item) (n : ℕ) → All IsItem (map item_of xs) → IsRising (map item_of xs) n → length xs ≤ n → AllApart (map item_of xs)
rising_list xs n good chain l = rising_apart (map item_of xs) (all_good (map item_of xs) good) (λ j x y m e f. chain j x y (omega (arith, length-map xs item_of)) e f)
