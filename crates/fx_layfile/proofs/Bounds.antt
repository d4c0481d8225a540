-- The bound on the blocks of a tree's layers.
use Rattle.std.proofs.Common.{◌≡◌, ℕ, ◌+◌, ◌*◌, ◌/◌, ◌≤◌, Bool, true, false, List, [], ◌∷◌, length, refl, sym, ap, subst, cond, arith, length-append}
use Rattle.std.specs.Prelude.{All, nat_le, nat_lt, count_by}
use Rattle.std.specs.List.{fold, sum_by}
use Rattle.std.proofs.lemmas.Bool.{leb-false}
use Rattle.std.proofs.lemmas.List.Sums.{sum_by-cons}
use Rattle.std.proofs.lemmas.List.Elements.{All-head, All-tail}
use Rattle.fx_item.specs.Item.{PlainKey, ObjectKey, AttributeKey, ExtentKey, ChildKey, GraveKey, AllocationKey, PlainValue, GoneValue, DirectoryValue, FileValue, AttributeValue, ChildValue, WaitingValue, ExtentValue, TakenValue, PlainItem, IsKey, Suits, item_bytes, key_bytes, value_bytes, node_bytes, name_bytes}
use Rattle.fx_item.proofs.Sums.{sums_len}
use Rattle.fx_record.proofs.Lengths.{name_len}
use Rattle.fx_layfile.specs.Block.{IsOfTree, tree_of_key}
use Rattle.fx_layfile.specs.Writing.{Filling, fill_one, nothing_filled, one_if_some, data_count}
use Rattle.fx_layfile.specs.Bound.{is_naming_key, blocks_in_range, LayerBoundLaw}
use Rattle.fx_sound.specs.Image.{is_object, is_attribute, blocks_under}

abbrev made : PlainKey → PlainValue → PlainItem
made key value = record { key = key; value = value }

abbrev one : Bool → ℕ
one b = cond b 1 0

-- at most so many bytes: 18 for a node, 282 for what names it, 528 for an attribute, 34 for a block
abbrev weight : PlainKey → ℕ
weight k = 18 * one (is_object k) + 282 * one (is_naming_key k) + 528 * one (is_attribute k) + 34 * (blocks_under k + blocks_in_range k)

bytes_len : (k : PlainKey) (v : PlainValue) → length (item_bytes (made k v)) ≡ length (key_bytes k) + length (value_bytes v)
bytes_len k v = length-append (key_bytes k) (value_bytes v)

value_len : (k : PlainKey) (v : PlainValue) → IsKey k → Suits k v → length (key_bytes k) + length (value_bytes v) ≤ weight k
value_len (ObjectKey s i) GoneValue k h = omega arith
value_len (ObjectKey s i) DirectoryValue k h = omega arith
value_len (ObjectKey s i) (FileValue n) k h = omega arith
value_len (AttributeKey s i name) GoneValue k h = omega (arith, name_len name k.2, length-append (node_bytes 2 s i) (name_bytes name))
value_len (AttributeKey s i name) (AttributeValue text) k h = omega (arith, name_len name k.2, h.most, length-append (node_bytes 2 s i) (name_bytes name))
value_len (ChildKey s i name) GoneValue k h = omega (arith, name_len name k.2, length-append (node_bytes 4 s i) (name_bytes name))
value_len (ChildKey s i name) (ChildValue t j) k h = omega (arith, name_len name k.2, length-append (node_bytes 4 s i) (name_bytes name))
value_len (GraveKey s i) GoneValue k h = omega arith
value_len (GraveKey s i) WaitingValue k h = omega arith
value_len (ExtentKey s i start stop) GoneValue k h = let some = k.2 in omega arith
value_len (ExtentKey s i start stop) (ExtentValue block sums) k h = let some = k.2 in omega (arith, h.count, sums_len sums)
value_len (AllocationKey start stop) GoneValue k h = omega arith
value_len (AllocationKey start stop) TakenValue k h = omega arith
value_len (ObjectKey s i) (AttributeValue text) k h = absurd h
value_len (ObjectKey s i) (ChildValue t j) k h = absurd h
value_len (ObjectKey s i) WaitingValue k h = absurd h
value_len (ObjectKey s i) (ExtentValue b sums) k h = absurd h
value_len (ObjectKey s i) TakenValue k h = absurd h
value_len (AttributeKey s i name) DirectoryValue k h = absurd h
value_len (AttributeKey s i name) (FileValue n) k h = absurd h
value_len (AttributeKey s i name) (ChildValue t j) k h = absurd h
value_len (AttributeKey s i name) WaitingValue k h = absurd h
value_len (AttributeKey s i name) (ExtentValue b sums) k h = absurd h
value_len (AttributeKey s i name) TakenValue k h = absurd h
value_len (ChildKey s i name) DirectoryValue k h = absurd h
value_len (ChildKey s i name) (FileValue n) k h = absurd h
value_len (ChildKey s i name) (AttributeValue text) k h = absurd h
value_len (ChildKey s i name) WaitingValue k h = absurd h
value_len (ChildKey s i name) (ExtentValue b sums) k h = absurd h
value_len (ChildKey s i name) TakenValue k h = absurd h
value_len (GraveKey s i) DirectoryValue k h = absurd h
value_len (GraveKey s i) (FileValue n) k h = absurd h
value_len (GraveKey s i) (AttributeValue text) k h = absurd h
value_len (GraveKey s i) (ChildValue t j) k h = absurd h
value_len (GraveKey s i) (ExtentValue b sums) k h = absurd h
value_len (GraveKey s i) TakenValue k h = absurd h
value_len (ExtentKey s i start stop) DirectoryValue k h = absurd h
value_len (ExtentKey s i start stop) (FileValue n) k h = absurd h
value_len (ExtentKey s i start stop) (AttributeValue text) k h = absurd h
value_len (ExtentKey s i start stop) (ChildValue t j) k h = absurd h
value_len (ExtentKey s i start stop) WaitingValue k h = absurd h
value_len (ExtentKey s i start stop) TakenValue k h = absurd h
value_len (AllocationKey start stop) DirectoryValue k h = absurd h
value_len (AllocationKey start stop) (FileValue n) k h = absurd h
value_len (AllocationKey start stop) (AttributeValue text) k h = absurd h
value_len (AllocationKey start stop) (ChildValue t j) k h = absurd h
value_len (AllocationKey start stop) WaitingValue k h = absurd h
value_len (AllocationKey start stop) (ExtentValue b sums) k h = absurd h

-- no item has more than 528 bytes
most_len : (k : PlainKey) (v : PlainValue) → IsKey k → Suits k v → length (key_bytes k) + length (value_bytes v) ≤ 528
most_len (ObjectKey s i) v k h = let w = value_len (ObjectKey s i) v k h in omega arith
most_len (AttributeKey s i name) v k h = let w = value_len (AttributeKey s i name) v k h in omega arith
most_len (ChildKey s i name) v k h = let w = value_len (ChildKey s i name) v k h in omega arith
most_len (GraveKey s i) v k h = let w = value_len (GraveKey s i) v k h in omega arith
most_len (AllocationKey start stop) GoneValue k h = omega arith
most_len (AllocationKey start stop) TakenValue k h = omega arith
most_len (AllocationKey start stop) DirectoryValue k h = absurd h
most_len (AllocationKey start stop) (FileValue n) k h = absurd h
most_len (AllocationKey start stop) (AttributeValue text) k h = absurd h
most_len (AllocationKey start stop) (ChildValue t j) k h = absurd h
most_len (AllocationKey start stop) WaitingValue k h = absurd h
most_len (AllocationKey start stop) (ExtentValue b sums) k h = absurd h
most_len (ExtentKey s i start stop) GoneValue k h = omega arith
most_len (ExtentKey s i start stop) (ExtentValue block sums) k h = omega (arith, h.most, sums_len sums)
most_len (ExtentKey s i start stop) DirectoryValue k h = absurd h
most_len (ExtentKey s i start stop) (FileValue n) k h = absurd h
most_len (ExtentKey s i start stop) (AttributeValue text) k h = absurd h
most_len (ExtentKey s i start stop) (ChildValue t j) k h = absurd h
most_len (ExtentKey s i start stop) WaitingValue k h = absurd h
most_len (ExtentKey s i start stop) TakenValue k h = absurd h

-- ---- how full blocks are

abbrev total : List PlainItem → ℕ
total items = sum_by (λ x. weight x.key) items

abbrev item_len : PlainItem → ℕ
item_len x = length (item_bytes x)

item_most : (tree : ℕ) (x : PlainItem) → IsOfTree tree x → (item_len x ≤ weight x.key) × (item_len x ≤ 528)
item_most tree x good =
    let w = value_len x.key x.value good.item.key good.item.value in
    let m = most_len x.key x.value good.item.key good.item.value in
    let e = bytes_len x.key x.value in
    (omega arith, omega arith)

abbrev Bounded : Filling → Filling → ℕ → Type 0
Bounded e f n = 3545 * e.full + e.used ≤ 3545 * f.full + f.used + n

-- one more item
filled_step : (x : PlainItem) (items : List PlainItem) (f : Filling) → item_len x ≤ weight x.key → item_len x ≤ 528 → ((g : Filling) → Bounded (fold fill_one g items) g (total items)) → Bounded (fold fill_one f (x ∷ items)) f (total (x ∷ items))
filled_step x items f len small ih = by_room (nat_le (f.used + item_len x) 4072) refl where
  stays : Filling
  stays = record { full = f.full; used = f.used + item_len x }

  begins_next : Filling
  begins_next = record { full = f.full + 1; used = item_len x }

  sum_is : total (x ∷ items) ≡ weight x.key + total items
  sum_is = sum_by-cons (λ (y : PlainItem). weight y.key) x items

  by_room : (b : Bool) → nat_le (f.used + item_len x) 4072 ≡ b → Bounded (fold fill_one f (x ∷ items)) f (total (x ∷ items))
  by_room true e =
      let step : fill_one f x ≡ stays = ap (λ (b : Bool). cond b stays begins_next) e in
      let rest = ih stays in
      subst (λ (g : Filling). Bounded (fold fill_one g items) f (total (x ∷ items))) (sym step) (omega (arith, sum_is))
  by_room false e =
      let step : fill_one f x ≡ begins_next = ap (λ (b : Bool). cond b stays begins_next) e in
      let rest = ih begins_next in
      let over = leb-false (f.used + item_len x) 4072 e in
      subst (λ (g : Filling). Bounded (fold fill_one g items) f (total (x ∷ items))) (sym step) (omega (arith, sum_is, over))

filled_most : (tree : ℕ) (items : List PlainItem) → All (IsOfTree tree) items → (f : Filling) → Bounded (fold fill_one f items) f (total items)
filled_most tree [] h f = omega arith
filled_most tree (x ∷ items) h f =
    let good = item_most tree x (All-head (IsOfTree tree) x items h) in
    filled_step x items f good.0 good.1 (filled_most tree items (All-tail (IsOfTree tree) x items h))

at_most_one : (n : ℕ) → one_if_some n ≤ 1
at_most_one n = by_test (nat_lt 0 n) where
  by_test : (b : Bool) → cond b 1 0 ≤ 1
  by_test true = omega arith
  by_test false = omega arith

data_most : (tree : ℕ) (items : List PlainItem) → All (IsOfTree tree) items → 3545 * data_count items ≤ total items + 3545
data_most tree items h =
    let f = filled_most tree items h nothing_filled in
    let one = at_most_one (fold fill_one nothing_filled items).used in
    omega (arith, f, one)

-- ---- the sums

object_weight : (k : PlainKey) → tree_of_key k ≡ 1 → weight k ≡ 18 * one (is_object k) + 282 * one (is_naming_key k) + 528 * one (is_attribute k) + 34 * blocks_under k
object_weight (ObjectKey s i) e = omega arith
object_weight (AttributeKey s i name) e = omega arith
object_weight (ExtentKey s i start stop) e = omega arith
object_weight (ChildKey s i name) e = omega arith
object_weight (GraveKey s i) e = omega arith
object_weight (AllocationKey start stop) e = absurd (omega arith)

objects_total : (items : List PlainItem) → All (IsOfTree 1) items → total items ≡ 18 * count_by (λ x. is_object x.key) items + 282 * count_by (λ x. is_naming_key x.key) items + 528 * count_by (λ x. is_attribute x.key) items + 34 * sum_by (λ x. blocks_under x.key) items
objects_total [] h = refl
objects_total (x ∷ items) h =
    let ih = objects_total items (All-tail (IsOfTree 1) x items h) in
    let w = sum_by-cons (λ (y : PlainItem). weight y.key) x items in
    let a = sum_by-cons (λ (y : PlainItem). one (is_object y.key)) x items in
    let b = sum_by-cons (λ (y : PlainItem). one (is_naming_key y.key)) x items in
    let d = sum_by-cons (λ (y : PlainItem). one (is_attribute y.key)) x items in
    let e = sum_by-cons (λ (y : PlainItem). blocks_under y.key) x items in
    let k = object_weight x.key (All-head (IsOfTree 1) x items h).tree_is in
    omega (arith, ih, w, a, b, d, e, k)

range_weight : (k : PlainKey) → tree_of_key k ≡ 2 → weight k ≡ 34 * blocks_in_range k
range_weight (AllocationKey start stop) e = omega arith
range_weight (ObjectKey s i) e = absurd (omega arith)
range_weight (AttributeKey s i name) e = absurd (omega arith)
range_weight (ExtentKey s i start stop) e = absurd (omega arith)
range_weight (ChildKey s i name) e = absurd (omega arith)
range_weight (GraveKey s i) e = absurd (omega arith)

ranges_total : (items : List PlainItem) → All (IsOfTree 2) items → total items ≡ 34 * sum_by (λ x. blocks_in_range x.key) items
ranges_total [] h = refl
ranges_total (x ∷ items) h =
    let ih = ranges_total items (All-tail (IsOfTree 2) x items h) in
    let w = sum_by-cons (λ (y : PlainItem). weight y.key) x items in
    let e = sum_by-cons (λ (y : PlainItem). blocks_in_range y.key) x items in
    let k = range_weight x.key (All-head (IsOfTree 2) x items h).tree_is in
    omega (arith, ih, w, e, k)

arithmetic : (n a b c d e g r x y p q : ℕ) → 3545 * p ≤ x + 3545 → 3545 * q ≤ y + 3545 → x ≡ 18 * c + 282 * d + 528 * e + 34 * g → y ≡ 34 * r → c ≤ n → d ≤ n → e ≤ a → g ≤ b → r ≤ b
    → p + (p + 1017) / 1018 + (q + (q + 1017) / 1018) ≤ 8 + (640 * (2 * n + a) + 128 * b + 2047) / 2048
arithmetic n a b c d e g r x y p q h1 h2 h3 h4 h5 h6 h7 h8 h9 = omega arith

pub layer_bound_holds : LayerBoundLaw
layer_bound_holds n a b objects allocs h =
    arithmetic n a b (count_by (λ x. is_object x.key) objects) (count_by (λ x. is_naming_key x.key) objects) (count_by (λ x. is_attribute x.key) objects) (sum_by (λ x. blocks_under x.key) objects) (sum_by (λ x. blocks_in_range x.key) allocs)
    (total objects) (total allocs) (data_count objects) (data_count allocs) (data_most 1 objects h.objects_good) (data_most 2 allocs h.allocs_good) (objects_total objects h.objects_good) (ranges_total allocs h.allocs_good)
    h.of_nodes h.of_names h.of_attributes h.of_extents h.of_ranges
