-- A key covers the points from where it begins to where it ends.
use Rattle.std.proofs.Common.{◌≡◌, ℕ, ◌<◌, ◌≤◌, Bool, true, false, List, [], ◌∷◌, Option, refl, sym, ◌∙◌, ap, subst, arith, ◌&&◌}
use Rattle.std.specs.Prelude.{nat_eq, nat_le, nat_lt, ◌==◌}
use Rattle.std.specs.Ordering.{is_gt, nat_cmp, ordering_reverse, ordering_then}
use Rattle.std.specs.Cmp.Lexicographic.{pointwise, same_text, slice_cmp}
use Rattle.std.specs.declared.cmp.Ordering.{Ordering}
use Rattle.std.specs.declared.cmp.Ordering.TheVariants.{Less, Equal, Greater}
use Rattle.std.proofs.lemmas.Bool.{eqb-true, eq-eqb, and_parts, le-leb, leb-true, lt-ltb, ltb-true}
use Rattle.std.proofs.lemmas.Cmp.{nat_list_cmp_total, ranked}
use Rattle.std.proofs.lemmas.Map.Lookups.{exact_bytes}
use Rattle.fx_item.specs.Item.{PlainKey, ObjectKey, AttributeKey, ExtentKey, ChildKey, GraveKey, AllocationKey, PlainItem}
use Rattle.fx_item.specs.Place.{Place, Upto, Below, begins, ends, key_place, file_place, device_place}
use Rattle.fx_item.specs.Overlay.{Point, AtKey, AtFileBlock, AtDeviceBlock, Entry, same_key, covers, entry_in, at}
use Rattle.fx_item.specs.Meeting.{CoverLaw}
use Rattle.fx_item.proofs.PlaceOrder.{below_upto, not_both, upto_itself}
use Rattle.fx_item.proofs.Between.{SameSpace, in_space, just_past, numbers_below, numbers_device, numbers_file, numbers_upto, space_between}

-- what an item says of a point that it covers
abbrev pub entry_at : PlainItem → Point → Option Entry
entry_at x p = entry_in x.key x.value p

-- ---- point keys that are the same one

node_same : (s i t j : ℕ) → ((s == t) && (i == j)) ≡ true → (s ≡ t) × (i ≡ j)
node_same s i t j e = let p = and_parts (s == t) (i == j) e in (eqb-true s t p.0, eqb-true i j p.1)

pub same_key_is : (a b : PlainKey) → same_key a b ≡ true → a ≡ b
same_key_is (ObjectKey s i) (ObjectKey t j) e = let n = node_same s i t j e in ap (λ z. ObjectKey z i) n.0 ∙ ap (ObjectKey t) n.1
same_key_is (AttributeKey s i x) (AttributeKey t j y) e =
    let p = and_parts ((s == t) && (i == j)) (pointwise nat_eq x y) e in
    let n = node_same s i t j p.0 in
    ap (λ z. AttributeKey z i x) n.0 ∙ ap (λ z. AttributeKey t z x) n.1 ∙ ap (AttributeKey t j) (same_text x y (sym p.1))
same_key_is (ChildKey s i x) (ChildKey t j y) e =
    let p = and_parts ((s == t) && (i == j)) (pointwise nat_eq x y) e in
    let n = node_same s i t j p.0 in
    ap (λ z. ChildKey z i x) n.0 ∙ ap (λ z. ChildKey t z x) n.1 ∙ ap (ChildKey t j) (same_text x y (sym p.1))
same_key_is (GraveKey s i) (GraveKey t j) e = let n = node_same s i t j e in ap (λ z. GraveKey z i) n.0 ∙ ap (GraveKey t) n.1
same_key_is _ _ e = absurd (cc)

node_itself : (s i t j : ℕ) → s ≡ t → i ≡ j → ((s == t) && (i == j)) ≡ true
node_itself s i t j e f = ap (λ b. b && (i == j)) (eq-eqb s t e) ∙ eq-eqb i j f

name_itself : (x : List ℕ) → pointwise nat_eq x x ≡ true
name_itself [] = refl
name_itself (b ∷ x) = ap (λ t. t && pointwise nat_eq x x) (eq-eqb b b refl) ∙ name_itself x

named_itself : (s i t j : ℕ) (x y : List ℕ) → s ≡ t → i ≡ j → x ≡ y → ((s == t) && (i == j) && pointwise nat_eq x y) ≡ true
named_itself s i t j x y e f g = ap (λ b. b && pointwise nat_eq x y) (node_itself s i t j e f) ∙ subst (λ z. pointwise nat_eq x z ≡ true) g (name_itself x)

-- ---- what a key covers lies between its ends

abbrev Lies : PlainKey → Place → Type 0
Lies k q = Upto (begins k) q × Below q (ends k)

point_lies : (a key : PlainKey) → at (AtKey a) ≡ begins a → Below (begins a) (ends a) → same_key a key ≡ true → Lies a (at (AtKey key))
point_lies a key h l e = subst (λ k. Lies a (at (AtKey k))) (same_key_is a key e) (subst (Lies a) (sym h) (upto_itself (begins a), l))

-- two places of one file, and of the device, by their numbers
pub file_upto : (s i a n : ℕ) → a ≤ n → Upto (file_place s i a) (file_place s i n)
file_upto s i a n h = by_case (nat_cmp a n) refl where
  by_case : (r : Ordering) → r ≡ nat_cmp a n → Upto (file_place s i a) (file_place s i n)
  by_case Less e = below_upto (numbers_below (file_place s i a) (file_place s i n) (record { tree = refl; store = refl; id = refl; kind = refl }) (ranked a n Less e))
  by_case Equal e = subst (λ k. Upto (file_place s i a) (file_place s i k)) (ranked a n Equal e) (upto_itself (file_place s i a))
  by_case Greater e = absurd (let l : n < a = ranked a n Greater e in omega arith)

pub device_upto : (a n : ℕ) → a ≤ n → Upto (device_place a) (device_place n)
device_upto a n h = by_case (nat_cmp a n) refl where
  by_case : (r : Ordering) → r ≡ nat_cmp a n → Upto (device_place a) (device_place n)
  by_case Less e = below_upto (numbers_below (device_place a) (device_place n) (record { tree = refl; store = refl; id = refl; kind = refl }) (ranked a n Less e))
  by_case Equal e = subst (λ k. Upto (device_place a) (device_place k)) (ranked a n Equal e) (upto_itself (device_place a))
  by_case Greater e = absurd (let l : n < a = ranked a n Greater e in omega arith)

file_lies : (s i a b t j n : ℕ) → ((s == t) && (i == j) && nat_le a n && nat_lt n b) ≡ true → Lies (ExtentKey s i a b) (file_place t j n)
file_lies s i a b t j n e =
    let p = and_parts ((s == t) && (i == j) && nat_le a n) (nat_lt n b) e in
    let q = and_parts ((s == t) && (i == j)) (nat_le a n) p.0 in
    let m = node_same s i t j q.0 in
    let low : a ≤ n = leb-true a n q.1 in
    let high : n < b = ltb-true n b p.1 in
    subst (λ x. Lies (ExtentKey s i a b) (file_place x j n)) m.0 (subst (λ x. Lies (ExtentKey s i a b) (file_place s x n)) m.1
    (file_upto s i a n low, numbers_below (file_place s i n) (file_place s i b) (record { tree = refl; store = refl; id = refl; kind = refl }) high))

device_lies : (a b n : ℕ) → (nat_le a n && nat_lt n b) ≡ true → Lies (AllocationKey a b) (device_place n)
device_lies a b n e =
    let p = and_parts (nat_le a n) (nat_lt n b) e in
    let low : a ≤ n = leb-true a n p.0 in
    let high : n < b = ltb-true n b p.1 in
    (device_upto a n low, numbers_below (device_place n) (device_place b) (record { tree = refl; store = refl; id = refl; kind = refl }) high)

pub covers_lies : (k : PlainKey) (p : Point) → covers k p ≡ true → Lies k (at p)
covers_lies (ObjectKey s i) (AtKey key) e = point_lies (ObjectKey s i) key refl (just_past s i 1 []) e
covers_lies (AttributeKey s i name) (AtKey key) e = point_lies (AttributeKey s i name) key refl (just_past s i 2 name) e
covers_lies (ChildKey s i name) (AtKey key) e = point_lies (ChildKey s i name) key refl (just_past s i 4 name) e
covers_lies (GraveKey s i) (AtKey key) e = point_lies (GraveKey s i) key refl (just_past s i 5 []) e
covers_lies (ExtentKey s i a b) (AtFileBlock t j n) e = file_lies s i a b t j n e
covers_lies (AllocationKey a b) (AtDeviceBlock n) e = device_lies a b n e
covers_lies _ _ e = absurd (cc)

-- ---- what lies between the ends of a key is covered

-- names between which nothing lies are the same
names_same : (x y : List ℕ) → is_gt (ordering_then (slice_cmp nat_cmp x y) Equal) ≡ false → ordering_then (slice_cmp nat_cmp y x) Less ≡ Less → x ≡ y
names_same x y h k = by_case (slice_cmp nat_cmp x y) refl where
  by_case : (r : Ordering) → slice_cmp nat_cmp x y ≡ r → x ≡ y
  by_case Less e = absurd (let f : Greater ≡ Less = sym (ap (λ r. ordering_then r Less) (nat_list_cmp_total.antisymm y x ∙ ap ordering_reverse e)) ∙ k in cc)
  by_case Equal e = exact_bytes x y e
  by_case Greater e = absurd (let f : true ≡ false = sym (ap (λ r. is_gt (ordering_then r Equal)) e) ∙ h in cc)

-- both places lie where the key does
module _ (k : PlainKey) (q : Place) (w : SameSpace (begins k) (ends k)) (low : Upto (begins k) q) (high : Below q (ends k)) where
  pub lies_space : SameSpace (begins k) q
  lies_space = space_between (begins k) q (ends k) w low (below_upto high)

named_covers : (k : ℕ) (s i : ℕ) (x : List ℕ) (t j : ℕ) (y : List ℕ) → SameSpace (key_place s i k x 0) (key_place t j k y 0) → Upto (key_place s i k x 0) (key_place t j k y 0) → Below (key_place t j k y 0) (key_place s i k x 1)
    → ((s == t) && (i == j) && pointwise nat_eq x y) ≡ true
named_covers k s i x t j y w low high =
    let v : SameSpace (key_place t j k y 0) (key_place s i k x 1) = record { tree = refl; store = sym w.store; id = sym w.id; kind = refl } in
    let a : is_gt (ordering_then (slice_cmp nat_cmp x y) Equal) ≡ false = sym (ap is_gt (in_space (key_place s i k x 0) (key_place t j k y 0) w)) ∙ low.holds in
    let b : ordering_then (slice_cmp nat_cmp y x) Less ≡ Less = sym (in_space (key_place t j k y 0) (key_place s i k x 1) v) ∙ high.holds in
    named_itself s i t j x y w.store w.id (names_same x y a b)

file_covers : (s i a b t j n : ℕ) → Upto (file_place s i a) (file_place t j n) → Below (file_place t j n) (file_place s i b) → SameSpace (file_place s i a) (file_place t j n)
    → ((s == t) && (i == j) && nat_le a n && nat_lt n b) ≡ true
file_covers s i a b t j n low high w =
    let v : SameSpace (file_place t j n) (file_place s i b) = record { tree = refl; store = sym w.store; id = sym w.id; kind = refl } in
    let l : a ≤ n = numbers_upto (file_place s i a) (file_place t j n) w low in
    let h : n < b = numbers_file (file_place t j n) s i b v high in
    let le : nat_le a n ≡ true = le-leb a n l in
    let lt : nat_lt n b ≡ true = lt-ltb n b h in
    ap (λ c. c && nat_le a n && nat_lt n b) (node_itself s i t j w.store w.id) ∙ ap (λ c. c && nat_lt n b) le ∙ lt

device_covers : (a b n : ℕ) → Upto (device_place a) (device_place n) → Below (device_place n) (device_place b) → (nat_le a n && nat_lt n b) ≡ true
device_covers a b n low high =
    let l : a ≤ n = numbers_upto (device_place a) (device_place n) (record { tree = refl; store = refl; id = refl; kind = refl }) low in
    let h : n < b = numbers_device (device_place n) b (record { tree = refl; store = refl; id = refl; kind = refl }) high in
    let le : nat_le a n ≡ true = le-leb a n l in
    let lt : nat_lt n b ≡ true = lt-ltb n b h in
    ap (λ c. c && nat_lt n b) le ∙ lt

one_space : (k : PlainKey) → SameSpace (begins k) (ends k)
one_space (ObjectKey s i) = record { tree = refl; store = refl; id = refl; kind = refl }
one_space (AttributeKey s i name) = record { tree = refl; store = refl; id = refl; kind = refl }
one_space (ExtentKey s i a b) = record { tree = refl; store = refl; id = refl; kind = refl }
one_space (ChildKey s i name) = record { tree = refl; store = refl; id = refl; kind = refl }
one_space (GraveKey s i) = record { tree = refl; store = refl; id = refl; kind = refl }
one_space (AllocationKey a b) = record { tree = refl; store = refl; id = refl; kind = refl }

kind_covers : (k : PlainKey) (p : Point) → SameSpace (begins k) (at p) → Upto (begins k) (at p) → Below (at p) (ends k) → covers k p ≡ true
kind_covers (ObjectKey s i) (AtKey (ObjectKey t j)) w low high = node_itself s i t j w.store w.id
kind_covers (ObjectKey s i) (AtKey (AttributeKey t j other)) w low high = absurd (let e = w.kind in cc)
kind_covers (ObjectKey s i) (AtKey (ExtentKey t j c d)) w low high = absurd (let e = w.tree in cc)
kind_covers (ObjectKey s i) (AtKey (ChildKey t j other)) w low high = absurd (let e = w.kind in cc)
kind_covers (ObjectKey s i) (AtKey (GraveKey t j)) w low high = absurd (let e = w.kind in cc)
kind_covers (ObjectKey s i) (AtKey (AllocationKey c d)) w low high = absurd (let e = w.tree in cc)
kind_covers (ObjectKey s i) (AtFileBlock t j n) w low high = absurd (let e = w.kind in cc)
kind_covers (ObjectKey s i) (AtDeviceBlock n) w low high = absurd (let e = w.kind in cc)
kind_covers (AttributeKey s i name) (AtKey (ObjectKey t j)) w low high = absurd (let e = w.kind in cc)
kind_covers (AttributeKey s i name) (AtKey (AttributeKey t j other)) w low high = named_covers 2 s i name t j other w low high
kind_covers (AttributeKey s i name) (AtKey (ExtentKey t j c d)) w low high = absurd (let e = w.tree in cc)
kind_covers (AttributeKey s i name) (AtKey (ChildKey t j other)) w low high = absurd (let e = w.kind in cc)
kind_covers (AttributeKey s i name) (AtKey (GraveKey t j)) w low high = absurd (let e = w.kind in cc)
kind_covers (AttributeKey s i name) (AtKey (AllocationKey c d)) w low high = absurd (let e = w.tree in cc)
kind_covers (AttributeKey s i name) (AtFileBlock t j n) w low high = absurd (let e = w.kind in cc)
kind_covers (AttributeKey s i name) (AtDeviceBlock n) w low high = absurd (let e = w.kind in cc)
kind_covers (ExtentKey s i a b) (AtKey (ObjectKey t j)) w low high = absurd (let e = w.kind in cc)
kind_covers (ExtentKey s i a b) (AtKey (AttributeKey t j other)) w low high = absurd (let e = w.kind in cc)
kind_covers (ExtentKey s i a b) (AtKey (ExtentKey t j c d)) w low high = absurd (let e = w.tree in cc)
kind_covers (ExtentKey s i a b) (AtKey (ChildKey t j other)) w low high = absurd (let e = w.kind in cc)
kind_covers (ExtentKey s i a b) (AtKey (GraveKey t j)) w low high = absurd (let e = w.kind in cc)
kind_covers (ExtentKey s i a b) (AtKey (AllocationKey c d)) w low high = absurd (let e = w.tree in cc)
kind_covers (ExtentKey s i a b) (AtFileBlock t j n) w low high = file_covers s i a b t j n low high w
kind_covers (ExtentKey s i a b) (AtDeviceBlock n) w low high = absurd (let e = w.kind in cc)
kind_covers (ChildKey s i name) (AtKey (ObjectKey t j)) w low high = absurd (let e = w.kind in cc)
kind_covers (ChildKey s i name) (AtKey (AttributeKey t j other)) w low high = absurd (let e = w.kind in cc)
kind_covers (ChildKey s i name) (AtKey (ExtentKey t j c d)) w low high = absurd (let e = w.tree in cc)
kind_covers (ChildKey s i name) (AtKey (ChildKey t j other)) w low high = named_covers 4 s i name t j other w low high
kind_covers (ChildKey s i name) (AtKey (GraveKey t j)) w low high = absurd (let e = w.kind in cc)
kind_covers (ChildKey s i name) (AtKey (AllocationKey c d)) w low high = absurd (let e = w.tree in cc)
kind_covers (ChildKey s i name) (AtFileBlock t j n) w low high = absurd (let e = w.kind in cc)
kind_covers (ChildKey s i name) (AtDeviceBlock n) w low high = absurd (let e = w.kind in cc)
kind_covers (GraveKey s i) (AtKey (ObjectKey t j)) w low high = absurd (let e = w.kind in cc)
kind_covers (GraveKey s i) (AtKey (AttributeKey t j other)) w low high = absurd (let e = w.kind in cc)
kind_covers (GraveKey s i) (AtKey (ExtentKey t j c d)) w low high = absurd (let e = w.tree in cc)
kind_covers (GraveKey s i) (AtKey (ChildKey t j other)) w low high = absurd (let e = w.kind in cc)
kind_covers (GraveKey s i) (AtKey (GraveKey t j)) w low high = node_itself s i t j w.store w.id
kind_covers (GraveKey s i) (AtKey (AllocationKey c d)) w low high = absurd (let e = w.tree in cc)
kind_covers (GraveKey s i) (AtFileBlock t j n) w low high = absurd (let e = w.kind in cc)
kind_covers (GraveKey s i) (AtDeviceBlock n) w low high = absurd (let e = w.kind in cc)
kind_covers (AllocationKey a b) (AtKey (ObjectKey t j)) w low high = absurd (let e = w.kind in cc)
kind_covers (AllocationKey a b) (AtKey (AttributeKey t j other)) w low high = absurd (let e = w.kind in cc)
kind_covers (AllocationKey a b) (AtKey (ExtentKey t j c d)) w low high = absurd (let e = w.tree in cc)
kind_covers (AllocationKey a b) (AtKey (ChildKey t j other)) w low high = absurd (let e = w.kind in cc)
kind_covers (AllocationKey a b) (AtKey (GraveKey t j)) w low high = absurd (let e = w.kind in cc)
kind_covers (AllocationKey a b) (AtKey (AllocationKey c d)) w low high = absurd (let e = w.tree in cc)
kind_covers (AllocationKey a b) (AtFileBlock t j n) w low high = absurd (let e = w.kind in cc)
kind_covers (AllocationKey a b) (AtDeviceBlock n) w low high = device_covers a b n low high

pub lies_covers : (k : PlainKey) (p : Point) → Upto (begins k) (at p) → Below (at p) (ends k) → covers k p ≡ true
lies_covers k p low high = kind_covers k p (lies_space k (at p) (one_space k) low high) low high

pub cover_holds : CoverLaw
cover_holds key p = (covers_lies key p, lies_covers key p)

-- ---- the same one by one

module _ (k : PlainKey) (p : Point) where
  pub covers_upto : covers k p ≡ true → Upto (begins k) (at p)
  covers_upto h = (covers_lies k p h).0

  pub covers_below : covers k p ≡ true → Below (at p) (ends k)
  covers_below h = (covers_lies k p h).1

  pub before_not : Below (at p) (begins k) → covers k p ≡ false
  before_not h = by_case (covers k p) refl where
    by_case : (b : Bool) → covers k p ≡ b → covers k p ≡ false
    by_case true e = absurd (not_both h (covers_upto e))
    by_case false e = e

  pub behind_not : Upto (ends k) (at p) → covers k p ≡ false
  behind_not h = by_case (covers k p) refl where
    by_case : (b : Bool) → covers k p ≡ b → covers k p ≡ false
    by_case true e = absurd (not_both (covers_below e) h)
    by_case false e = e
