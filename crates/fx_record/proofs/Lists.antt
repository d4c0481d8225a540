-- Lists of items: one more at the end, the first of them, and that their bytes tell which they are.
use Rattle.std.proofs.Common.{◌≡◌, ℕ, zero, suc, ◌<◌, ◌≤◌, Bool, true, false, ◌&&◌, List, [], ◌∷◌, ◌++◌, length, get_or, refl, sym, ap, subst, ◌∙◌, append_assoc, append-nil, arith, length-append}
use Rattle.std.specs.Prelude.{All, IsTrue}
use Rattle.std.proofs.lemmas.Bool.{and_parts, and_from}
use Rattle.std.proofs.lemmas.List.{take_at, map-append}
use Rattle.std.proofs.lemmas.List.Elements.{All-head, All-tail, All-take}
use Rattle.fx_item.specs.Item.{PlainKey, ObjectKey, AttributeKey, ExtentKey, ChildKey, GraveKey, AllocationKey, PlainItem, IsNameItem, item_bytes, item_of, items_of}
use Rattle.fx_item.specs.Order.{may_follow, is_ascending}
use Rattle.fx_item.specs.Reading.{item_at}
use Rattle.fx_item.specs.declared.item.Item.{Item}
use Rattle.fx_item.proofs.Fields.{some_is}
use Rattle.fx_item.proofs.Spelled.{item_again}
use Rattle.fx_record.specs.Record.{AreItems, items_bytes}

-- ---- one more item

and_turned : (b : Bool) → (b && true) ≡ (true && b)
and_turned true = refl
and_turned false = refl

and_grouped : (a b c : Bool) → (a && (b && c)) ≡ (a && b && c)
and_grouped true b c = refl
and_grouped false b c = refl

pub ascending_more : (xs : List PlainItem) (i : ℕ) (y d : PlainItem) → suc i ≡ length xs → is_ascending (xs ++ y ∷ []) ≡ (is_ascending xs && may_follow (get_or xs i d).key y.key)
ascending_more [] i y d e = absurd (omega arith)
ascending_more (x ∷ []) zero y d e = and_turned (may_follow x.key y.key)
ascending_more (x ∷ []) (suc i) y d e = absurd (omega arith)
ascending_more (x ∷ z ∷ rest) zero y d e = absurd (omega arith)
ascending_more (x ∷ z ∷ rest) (suc i) y d e =
    let more = ascending_more (z ∷ rest) i y d (omega arith) in
    ap (λ (b : Bool). may_follow x.key z.key && b) more
    ∙ and_grouped (may_follow x.key z.key) (is_ascending (z ∷ rest)) (may_follow (get_or (z ∷ rest) i d).key y.key)

pub items_of-push : (xs : List Item) (x : Item) → items_of (xs ++ x ∷ []) ≡ items_of xs ++ item_of x ∷ []
items_of-push xs x = map-append item_of xs (x ∷ [])

-- ---- the first of them

ascending_front : (a b : List PlainItem) → IsTrue (is_ascending (a ++ b)) → IsTrue (is_ascending a)
ascending_front [] b h = refl
ascending_front (x ∷ []) b h = refl
ascending_front (x ∷ y ∷ rest) b h =
    let p = and_parts (may_follow x.key y.key) (is_ascending ((y ∷ rest) ++ b)) h in
    and_from (may_follow x.key y.key) (is_ascending (y ∷ rest)) p.0 (ascending_front (y ∷ rest) b p.1)

pub front_items : (a b : List PlainItem) → AreItems (a ++ b) → AreItems a
front_items a b h = record {
  each = subst (λ (w : List PlainItem). All IsNameItem w) (take_at a b (length a) refl) (All-take IsNameItem (length a) (a ++ b) h.each);
  ascending = ascending_front a b h.ascending;
}

-- ---- their bytes

pub items_bytes-append : (xs ys : List PlainItem) → items_bytes (xs ++ ys) ≡ items_bytes xs ++ items_bytes ys
items_bytes-append [] ys = refl
items_bytes-append (x ∷ xs) ys =
    ap (λ (w : List ℕ). item_bytes x ++ w) (items_bytes-append xs ys) ∙ sym (append_assoc (item_bytes x) (items_bytes xs) (items_bytes ys))

pub items_bytes-push : (xs : List PlainItem) (x : PlainItem) → items_bytes (xs ++ x ∷ []) ≡ items_bytes xs ++ item_bytes x
items_bytes-push xs x = items_bytes-append xs (x ∷ []) ∙ ap (λ (w : List ℕ). items_bytes xs ++ w) (append-nil (item_bytes x))

item_bytes-some : (x : PlainItem) → 0 < length (item_bytes x)
item_bytes-some x =
    elim x.key as (λ (k : PlainKey). 0 < length (item_bytes (record x { key = k }))) [
      | ObjectKey store id ↦ omega arith
      | AttributeKey store id name ↦ omega arith
      | ExtentKey store id start stop ↦ omega arith
      | ChildKey store id name ↦ omega arith
      | GraveKey store id ↦ omega arith
      | AllocationKey start stop ↦ omega arith
    ]

pub count-le-bytes : (xs : List PlainItem) → length xs ≤ length (items_bytes xs)
count-le-bytes [] = omega arith
count-le-bytes (x ∷ xs) =
    let here = item_bytes-some x in
    let rest = count-le-bytes xs in
    omega (arith, length-append (item_bytes x) (items_bytes xs))

item_unique : (x y : PlainItem) (a b : List ℕ) → IsNameItem x → IsNameItem y → item_bytes x ++ a ≡ item_bytes y ++ b → (x ≡ y) × (a ≡ b)
item_unique x y a b hx hy e =
    let same = some_is (x, a) (y, b) (sym (item_again x a hx.item) ∙ ap item_at e ∙ item_again y b hy.item) in
    (ap (λ (p : PlainItem × List ℕ). p.0) same, ap (λ (p : PlainItem × List ℕ). p.1) same)

-- The shorter list that begins the bytes begins the longer one.
pub items_begin : (xs ys : List PlainItem) (l m : List ℕ) → All IsNameItem xs → All IsNameItem ys → length xs ≤ length ys → items_bytes xs ++ l ≡ items_bytes ys ++ m → (zs : List PlainItem) × (ys ≡ xs ++ zs) × (l ≡ items_bytes zs ++ m)
items_begin [] ys l m hx hy le e = (ys, refl, e)
items_begin (x ∷ xs) [] l m hx hy le e = absurd (omega arith)
items_begin (x ∷ xs) (y ∷ ys) l m hx hy le e =
    let grouped = sym (append_assoc (item_bytes x) (items_bytes xs) l) ∙ e ∙ append_assoc (item_bytes y) (items_bytes ys) m in
    let one = item_unique x y (items_bytes xs ++ l) (items_bytes ys ++ m) (All-head IsNameItem x xs hx) (All-head IsNameItem y ys hy) grouped in
    let rest = items_begin xs ys l m (All-tail IsNameItem x xs hx) (All-tail IsNameItem y ys hy) (omega arith) one.1 in
    (rest.0, ap (λ (w : PlainItem). w ∷ ys) (sym one.0) ∙ ap (λ (w : List PlainItem). x ∷ w) rest.1, rest.2)
