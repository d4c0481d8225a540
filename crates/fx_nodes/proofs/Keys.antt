-- The order of keys: keys that compare equal are equal, and the test of `covers` is that of the order.
use Rattle.std.proofs.Common.{◌≡◌, List, [], ◌∷◌, map, refl, sym, ap, ◌∙◌, Bool, true, false}
use Rattle.std.specs.Prelude.{IsTrue}
use Rattle.std.specs.Cmp.{eq_by_cmp_equiv}
use Rattle.std.specs.Ordering.{is_eq, is_lt}
use Rattle.std.specs.declared.cmp.Ordering.TheVariants.{Less}
use Rattle.std.specs.List.{AllByRecursion}
use Rattle.std.specs.List.Sorted.{IsStrictlySortedBy}
use Rattle.std.proofs.lemmas.Bool.{and_parts}
use Rattle.fx_base.proofs.Orderings as orderings
use Rattle.fx_base.proofs.TotalOrders.{apart_no_tie, tie_same}
use Rattle.fx_item.proofs.KeyOrder.{keys_exact, keys_total}
use Rattle.fx_item.specs.Item.{PlainKey, PlainItem, is_name_key}
use Rattle.fx_item.specs.Order.{key_cmp, is_ascending, may_follow}
use Rattle.fx_item.specs.Overlay.{covers, AtKey}
use Rattle.fx_namespace.proofs.Items.{covers_itself, not_covers}

-- the test that two keys compare equal
abbrev pub at : PlainKey → PlainKey → Bool
at j k = is_eq (key_cmp j k)

pub same_at : (j k : PlainKey) → at j k ≡ true → j ≡ k
same_at = tie_same keys_total keys_exact

pub at_itself : (k : PlainKey) → at k k ≡ true
at_itself k = (eq_by_cmp_equiv keys_total).refl k

pub at_back : (j k : PlainKey) → at j k ≡ at k j
at_back j k = (eq_by_cmp_equiv keys_total).symm j k

pub at_apart : (j k : PlainKey) → (j ≡ k → ⊥) → at j k ≡ false
at_apart = apart_no_tie keys_total keys_exact

-- the test of `covers` is that of the order
pub covers_at : (k q : PlainKey) → IsTrue (is_name_key k) → covers k (AtKey q) ≡ at k q
covers_at k q n = by_test (at k q) refl
  where
    by_test : (b : Bool) → at k q ≡ b → covers k (AtKey q) ≡ b
    by_test true e = ap (λ z. covers k (AtKey z)) (sym (same_at k q e)) ∙ covers_itself k n
    by_test false e = not_covers k q (λ same. let f : true ≡ false = sym (at_itself k) ∙ ap (at k) same ∙ e in cc)

-- ---- lists in order

abbrev pub item_keys : List PlainItem → List PlainKey
item_keys items = map (λ x. x.key) items

less_from : (j k : PlainKey) → IsTrue (may_follow j k) → key_cmp j k ≡ Less
less_from j k h = orderings.less_from (key_cmp j k) (and_parts (is_lt (key_cmp j k)) _ h).0

below_all : (j k : PlainKey) (ks : List PlainKey) → key_cmp j k ≡ Less → AllByRecursion (λ q. key_cmp k q ≡ Less) ks → AllByRecursion (λ q. key_cmp j q ≡ Less) ks
below_all j k [] l h = tt
below_all j k (q ∷ ks) l h = (keys_total.trans j k q l h.0, below_all j k ks l h.1)

-- each key of an ascending list is below all later ones
pub sorted_from_ascending : (items : List PlainItem) → IsTrue (is_ascending items) → IsStrictlySortedBy key_cmp (item_keys items)
unfolding IsStrictlySortedBy
sorted_from_ascending [] h = tt
sorted_from_ascending (x ∷ []) h = (tt, tt)
sorted_from_ascending (x ∷ y ∷ rest) h =
    let p = and_parts (may_follow x.key y.key) (is_ascending (y ∷ rest)) h in
    let later = sorted_from_ascending (y ∷ rest) p.1 in
    let l = less_from x.key y.key p.0 in
    ((l, below_all x.key y.key (item_keys rest) l later.0), later)
