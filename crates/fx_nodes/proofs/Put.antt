-- Lists of items added one by one.
use Rattle.std.proofs.Common.{◌≡◌, ℕ, ◌<◌, ◌+◌, List, [], ◌∷◌, ◌++◌, take, drop, drop-cons, length, get_or, add-one, sym, ap, subst, ◌∙◌, zero, suc, arith}
use Rattle.std.specs.Prelude.{All, min}
use Rattle.std.specs.List.{fold}
use Rattle.std.specs.List.Sorted.{IsStrictlySortedBy}
use Rattle.std.proofs.Math.Seq.{take-suc}
use Rattle.std.proofs.lemmas.List.{map-append}
use Rattle.std.proofs.lemmas.List.Elements.{All-head, All-tail}
use Rattle.std.proofs.lemmas.List.Sums.{fold-append}
use Rattle.std.proofs.lemmas.Map.Keys.{sorted_tail}
use Rattle.fx_item.specs.Item.{PlainItem, PlainKey, IsNameItem, item_of, items_of}
use Rattle.fx_item.specs.Look.{ItemMap, after, after_all, no_items, value_in}
use Rattle.fx_item.specs.Order.{key_cmp}
use Rattle.fx_item.specs.declared.item.Item.{Item}
use Rattle.fx_nodes.specs.Table.{MovesOn}
use Rattle.fx_nodes.proofs.Keys.{item_keys}
use Rattle.fx_nodes.proofs.Kept.{after_more, after_same}

pub item_at : (xs : List Item) (i : ℕ) (x : Item) → i < length xs → x ≡ get_or xs i x → All IsNameItem (items_of xs) → IsNameItem (item_of x)
item_at [] i x less is all = absurd (omega arith)
item_at (y ∷ ys) zero x less is all = subst (λ z. IsNameItem (item_of z)) (sym is) (All-head IsNameItem (item_of y) (items_of ys) all)
item_at (y ∷ ys) (suc i) x less is all = item_at ys i x (omega arith) is (All-tail IsNameItem (item_of y) (items_of ys) all)

module _ (xs : List Item) (i : ℕ) (x : Item) (less : i < length xs) (is : x ≡ get_or xs i x) where
  rest : drop i xs ≡ x ∷ drop (i + 1) xs
  rest = drop-cons xs i x less ∙ ap (λ y. y ∷ drop (suc i) xs) (sym is) ∙ ap (λ j. x ∷ drop j xs) (sym (add-one i))

  front : items_of (take (i + 1) xs) ≡ items_of (take i xs) ++ item_of x ∷ []
  front =
      ap (λ j. items_of (take j xs)) (add-one i) ∙ ap items_of (take-suc xs i x less) ∙ ap (λ y. items_of (take i xs ++ y ∷ [])) (sym is) ∙ map-append item_of (take i xs) (x ∷ [])

  pub sorted_rest : IsStrictlySortedBy key_cmp (item_keys (items_of (drop i xs))) → IsStrictlySortedBy key_cmp (item_keys (items_of (drop (i + 1) xs)))
  sorted_rest s = sorted_tail key_cmp _ (item_keys (items_of (drop (i + 1) xs))) (subst (λ ys. IsStrictlySortedBy key_cmp (item_keys (items_of ys))) rest s)

  pub named_rest : All IsNameItem (items_of (drop i xs)) → All IsNameItem (items_of (drop (i + 1) xs))
  named_rest h = All-tail IsNameItem (item_of x) (items_of (drop (i + 1) xs)) (subst (λ ys. All IsNameItem (items_of ys)) rest h)

  pub items_rest : (m n : ItemMap) (q : PlainKey) → All IsNameItem (items_of (drop i xs)) → IsStrictlySortedBy key_cmp (item_keys (items_of (drop i xs))) → n q ≡ after m (item_of x ∷ []) q
      → after n (items_of (drop (i + 1) xs)) q ≡ after m (items_of (drop i xs)) q
  items_rest m n q named s e =
      after_same n (after m (item_of x ∷ [])) (items_of (drop (i + 1) xs)) q e
      ∙ after_more m (item_of x) (items_of (drop (i + 1) xs)) q (subst (λ ys. All IsNameItem (items_of ys)) rest named) (subst (λ ys. IsStrictlySortedBy key_cmp (item_keys (items_of ys))) rest s)
      ∙ ap (λ ys. after m (items_of ys) q) (sym rest)

  -- a number goes on over one more item
  pub moves_more : (f : ℕ → PlainItem → ℕ) (end old before now : ℕ) → MovesOn end old before (λ n. fold f n (items_of (take i xs))) → MovesOn end before now (λ n. fold f n (item_of x ∷ []))
      → MovesOn end old now (λ n. fold f n (items_of (take (i + 1) xs)))
  moves_more f end old before now h step = λ n e.
      step (fold f n (items_of (take i xs))) (h n e)
      ∙ sym (ap (λ k. min k end) (ap (fold f n) front ∙ fold-append f n (items_of (take i xs)) (item_of x ∷ [])))

-- ---- one more list

pub put_more : (old now items : List PlainItem) (lists : List (List PlainItem)) → ((key : PlainKey) → value_in old key ≡ after_all lists key) → ((key : PlainKey) → value_in now key ≡ after (value_in old) items key)
    → (key : PlainKey) → value_in now key ≡ after_all (lists ++ items ∷ []) key
put_more old now items lists h step key =
    step key ∙ after_same (value_in old) (after_all lists) items key (h key) ∙ ap (λ m. m key) (sym (fold-append after no_items lists (items ∷ [])))

pub moves_over : (f : ℕ → List PlainItem → ℕ) (end start old now : ℕ) (items : List PlainItem) (lists : List (List PlainItem)) → MovesOn end start old (λ n. fold f n lists)
    → MovesOn end old now (λ n. f n items) → MovesOn end start now (λ n. fold f n (lists ++ items ∷ []))
moves_over f end start old now items lists h step = λ n e. step (fold f n lists) (h n e) ∙ sym (ap (λ k. min k end) (fold-append f n lists (items ∷ [])))
