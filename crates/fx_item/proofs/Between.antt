-- What lies between two places: in one file, on the device, or at the keys of one kind and node.
use Rattle.std.proofs.Common.{◌≡◌, ℕ, ◌<◌, ◌≤◌, Bool, true, false, List, [], ◌∷◌, refl, sym, ◌∙◌, ap, subst, arith}
use Rattle.std.specs.Ordering.{is_gt, nat_cmp, ordering_reverse, ordering_then}
use Rattle.std.specs.Cmp.Lexicographic.{slice_cmp}
use Rattle.std.proofs.lemmas.Cmp.{nat_cmp_total, nat_list_cmp_total, tied_itself, ranked}
use Rattle.std.specs.declared.cmp.Ordering.{Ordering}
use Rattle.std.specs.declared.cmp.Ordering.TheVariants.{Less, Equal, Greater}
use Rattle.fx_item.specs.Item.{PlainKey, ObjectKey, AttributeKey, ExtentKey, ChildKey, GraveKey, AllocationKey, IsKey}
use Rattle.fx_item.specs.Place.{Place, place_cmp, number_cmp, Upto, Below, begins, ends, key_place, file_place, device_place}
use Rattle.fx_item.proofs.PlaceOrder.{below_upto}

-- both places lie in one file, on the device, or at keys of one kind and node
pub record SameSpace (a b : Place) : Type 0 where
  pub tree : a.tree ≡ b.tree
  pub store : a.store ≡ b.store
  pub id : a.id ≡ b.id
  pub kind : a.kind ≡ b.kind

same_cmp : (a b : ℕ) → a ≡ b → nat_cmp a b ≡ Equal
same_cmp a b e = ap (nat_cmp a) (sym e) ∙ tied_itself nat_cmp_total a

skip : (a b : ℕ) (o : Ordering) → a ≡ b → ordering_then (nat_cmp a b) o ≡ o
skip a b o e = ap (λ r. ordering_then r o) (same_cmp a b e)

pub in_space : (a b : Place) → SameSpace a b → place_cmp a b ≡ number_cmp a b
in_space a b s = skip a.tree b.tree _ s.tree ∙ skip a.store b.store _ s.store ∙ skip a.id b.id _ s.id ∙ skip a.kind b.kind _ s.kind

-- what follows the number
abbrev rest_cmp : Place → Place → Ordering
rest_cmp a b = ordering_then (slice_cmp nat_cmp a.name b.name) (nat_cmp a.past b.past)

pub nat_less : (a b : ℕ) → a < b → nat_cmp a b ≡ Less
nat_less a b h = by_case (nat_cmp a b) refl where
  by_case : (r : Ordering) → r ≡ nat_cmp a b → nat_cmp a b ≡ Less
  by_case Less e = sym e
  by_case Equal e = absurd (let k : a ≡ b = ranked a b Equal e in omega arith)
  by_case Greater e = absurd (let k : b < a = ranked a b Greater e in omega arith)

pub numbers_below : (a b : Place) → SameSpace a b → a.number < b.number → Below a b
numbers_below a b s h = record { holds = in_space a b s ∙ ap (λ r. ordering_then r (rest_cmp a b)) (nat_less a.number b.number h) }

-- one part of two comparisons, with something between two equal numbers
record Between (a b : ℕ) (o q : Ordering) : Type 0 where
  same : a ≡ b
  low : is_gt o ≡ false
  high : is_gt q ≡ false

between : (a b c : ℕ) (o q : Ordering) → a ≡ c → is_gt (ordering_then (nat_cmp a b) o) ≡ false → is_gt (ordering_then (nat_cmp b c) q) ≡ false → Between a b o q
between a b c o q e h k = by_case (nat_cmp a b) refl where
  back : (r : Ordering) → r ≡ nat_cmp b c → a < b → ⊥
  back Less f l = let m : b < c = ranked b c Less f in omega arith
  back Equal f l = let m : b ≡ c = ranked b c Equal f in omega arith
  back Greater f l = let m : true ≡ false = ap (λ r. is_gt (ordering_then r q)) f ∙ k in cc

  by_case : (r : Ordering) → r ≡ nat_cmp a b → Between a b o q
  by_case Less f = absurd (back (nat_cmp b c) refl (ranked a b Less f))
  by_case Greater f = absurd (let m : true ≡ false = ap (λ r. is_gt (ordering_then r o)) f ∙ h in cc)
  by_case Equal f = let m : a ≡ b = ranked a b Equal f in record {
    same = m;
    low = ap (λ r. is_gt (ordering_then r o)) f ∙ h;
    high = ap (λ r. is_gt (ordering_then r q)) (sym (same_cmp b c (sym m ∙ e))) ∙ k;
  }

-- what lies between two places of one space lies in it
pub space_between : (a b c : Place) → SameSpace a c → Upto a b → Upto b c → SameSpace a b
space_between a b c s h k =
    let b1 : Between a.tree b.tree _ _ = between a.tree b.tree c.tree _ _ s.tree h.holds k.holds in
    let b2 : Between a.store b.store _ _ = between a.store b.store c.store _ _ s.store b1.low b1.high in
    let b3 : Between a.id b.id _ _ = between a.id b.id c.id _ _ s.id b2.low b2.high in
    let b4 : Between a.kind b.kind _ _ = between a.kind b.kind c.kind _ _ s.kind b3.low b3.high in
    record { tree = b1.same; store = b2.same; id = b3.same; kind = b4.same }

-- in one space a place is up to one that is behind none of its number
first_le : (a b : ℕ) (o : Ordering) → is_gt (ordering_then (nat_cmp a b) o) ≡ false → a ≤ b
first_le a b o h = by_case (nat_cmp a b) refl where
  by_case : (r : Ordering) → r ≡ nat_cmp a b → a ≤ b
  by_case Less f = let m : a < b = ranked a b Less f in omega arith
  by_case Equal f = let m : a ≡ b = ranked a b Equal f in omega arith
  by_case Greater f = absurd (let m : true ≡ false = ap (λ r. is_gt (ordering_then r o)) f ∙ h in cc)

first_lt : (a b : ℕ) (o : Ordering) → (o ≡ Less → ⊥) → ordering_then (nat_cmp a b) o ≡ Less → a < b
first_lt a b o n h = by_case (nat_cmp a b) refl where
  by_case : (r : Ordering) → r ≡ nat_cmp a b → a < b
  by_case Less f = ranked a b Less f
  by_case Equal f = absurd (n (ap (λ r. ordering_then r o) f ∙ h))
  by_case Greater f = absurd (let m : Greater ≡ Less = ap (λ r. ordering_then r o) f ∙ h in cc)

pub numbers_upto : (a b : Place) → SameSpace a b → Upto a b → a.number ≤ b.number
numbers_upto a b s h = first_le a.number b.number _ (ap is_gt (sym (in_space a b s)) ∙ h.holds)

name_not_less : (name : List ℕ) (past : ℕ) → ordering_then (slice_cmp nat_cmp name []) (nat_cmp past 0) ≡ Less → ⊥
name_not_less [] past h = let m : past < 0 = ranked past 0 Less (sym h) in omega arith
name_not_less (x ∷ xs) past h = let m : Greater ≡ Less = h in cc

-- below the n-th number itself
pub numbers_file : (a : Place) (s i n : ℕ) → SameSpace a (file_place s i n) → Below a (file_place s i n) → a.number < n
numbers_file a s i n e h = first_lt a.number n _ (name_not_less a.name a.past) (sym (in_space a (file_place s i n) e) ∙ h.holds)

pub numbers_device : (a : Place) (n : ℕ) → SameSpace a (device_place n) → Below a (device_place n) → a.number < n
numbers_device a n e h = first_lt a.number n _ (name_not_less a.name a.past) (sym (in_space a (device_place n) e) ∙ h.holds)

-- where a key begins (false), or where it ends (true)
abbrev pub end_of : Bool → PlainKey → Place
end_of false key = begins key
end_of true key = ends key

-- the ends of keys have one form for each kind
file_edge : (e : Bool) (k : PlainKey) → (end_of e k).kind ≡ 3 → end_of e k ≡ file_place (end_of e k).store (end_of e k).id (end_of e k).number
file_edge false (ObjectKey s i) h = absurd (omega arith)
file_edge false (AttributeKey s i name) h = absurd (omega arith)
file_edge false (ExtentKey s i a b) h = refl
file_edge false (ChildKey s i name) h = absurd (omega arith)
file_edge false (GraveKey s i) h = absurd (omega arith)
file_edge false (AllocationKey a b) h = absurd (omega arith)
file_edge true (ObjectKey s i) h = absurd (omega arith)
file_edge true (AttributeKey s i name) h = absurd (omega arith)
file_edge true (ExtentKey s i a b) h = refl
file_edge true (ChildKey s i name) h = absurd (omega arith)
file_edge true (GraveKey s i) h = absurd (omega arith)
file_edge true (AllocationKey a b) h = absurd (omega arith)

device_edge : (e : Bool) (k : PlainKey) → (end_of e k).kind ≡ 6 → end_of e k ≡ device_place (end_of e k).number
device_edge false (ObjectKey s i) h = absurd (omega arith)
device_edge false (AttributeKey s i name) h = absurd (omega arith)
device_edge false (ExtentKey s i a b) h = absurd (omega arith)
device_edge false (ChildKey s i name) h = absurd (omega arith)
device_edge false (GraveKey s i) h = absurd (omega arith)
device_edge false (AllocationKey a b) h = refl
device_edge true (ObjectKey s i) h = absurd (omega arith)
device_edge true (AttributeKey s i name) h = absurd (omega arith)
device_edge true (ExtentKey s i a b) h = absurd (omega arith)
device_edge true (ChildKey s i name) h = absurd (omega arith)
device_edge true (GraveKey s i) h = absurd (omega arith)
device_edge true (AllocationKey a b) h = refl

-- An end of a key that lies inside a range is a place of that range.
abbrev pub Inside : PlainKey → Place → Type 0
Inside (ExtentKey s i start stop) q = (q ≡ file_place s i q.number) × (start < q.number) × (q.number < stop)
Inside (AllocationKey start stop) q = (q ≡ device_place q.number) × (start < q.number) × (q.number < stop)
Inside _ q = ⊥

module _ (q : Place) where
  less_between : (a c : ℕ) (o r : Ordering) → a ≡ c → ordering_then (nat_cmp a q.number) o ≡ Less → ordering_then (nat_cmp q.number c) r ≡ Less → (o ≡ Less) × (r ≡ Less)
  less_between a c o r e h k =
      let b : Between a q.number o r = between a q.number c o r e (ap is_gt h) (ap is_gt k) in
      (sym (skip a q.number o b.same) ∙ h, sym (skip q.number c r (sym b.same ∙ e)) ∙ k)

  name_between : (name : List ℕ) → ordering_then (slice_cmp nat_cmp name q.name) (nat_cmp 0 q.past) ≡ Less → ordering_then (slice_cmp nat_cmp q.name name) (nat_cmp q.past 1) ≡ Less → ⊥
  name_between name h k = by_case (slice_cmp nat_cmp name q.name) refl where
    back : slice_cmp nat_cmp q.name name ≡ ordering_reverse (slice_cmp nat_cmp name q.name)
    back = nat_list_cmp_total.antisymm q.name name

    by_case : (r : Ordering) → slice_cmp nat_cmp name q.name ≡ r → ⊥
    by_case Less f = let m : Greater ≡ Less = sym (ap (λ r. ordering_then r (nat_cmp q.past 1)) (back ∙ ap ordering_reverse f)) ∙ k in cc
    by_case Greater f = let m : Greater ≡ Less = sym (ap (λ r. ordering_then r (nat_cmp 0 q.past)) f) ∙ h in cc
    by_case Equal f =
        let low : 0 < q.past = ranked 0 q.past Less (sym (sym (ap (λ r. ordering_then r (nat_cmp 0 q.past)) f) ∙ h)) in
        let high : q.past < 1 = ranked q.past 1 Less (sym (sym (ap (λ r. ordering_then r (nat_cmp q.past 1)) (back ∙ ap ordering_reverse f)) ∙ k)) in
        omega arith

  no_room : (s i k : ℕ) (name : List ℕ) → Below (key_place s i k name 0) q → Below q (key_place s i k name 1) → ⊥
  no_room s i k name h l =
      let a : Place = key_place s i k name 0 in
      let c : Place = key_place s i k name 1 in
      let w : SameSpace a q = space_between a q c (record { tree = refl; store = refl; id = refl; kind = refl }) (below_upto h) (below_upto l) in
      let v : SameSpace q c = record { tree = sym w.tree; store = sym w.store; id = sym w.id; kind = sym w.kind } in
      let b : (rest_cmp a q ≡ Less) × (rest_cmp q c ≡ Less) = less_between 0 0 (rest_cmp a q) (rest_cmp q c) refl (sym (in_space a q w) ∙ h.holds) (sym (in_space q c v) ∙ l.holds) in
      name_between name b.0 b.1

file_inside : (s i start stop : ℕ) (e : Bool) (k : PlainKey) → Below (file_place s i start) (end_of e k) → Below (end_of e k) (file_place s i stop) → Inside (ExtentKey s i start stop) (end_of e k)
file_inside s i start stop e k h l =
    let q : Place = end_of e k in
    let w : SameSpace (file_place s i start) q = space_between (file_place s i start) q (file_place s i stop) (record { tree = refl; store = refl; id = refl; kind = refl }) (below_upto h) (below_upto l) in
    let f : q ≡ file_place s i q.number = file_edge e k (sym w.kind) ∙ ap (λ x. file_place x q.id q.number) (sym w.store) ∙ ap (λ x. file_place s x q.number) (sym w.id) in (
      f,
      numbers_file (file_place s i start) s i q.number (record { tree = refl; store = refl; id = refl; kind = refl }) (subst (Below (file_place s i start)) f h),
      numbers_file q s i stop (record { tree = sym w.tree; store = sym w.store; id = sym w.id; kind = sym w.kind }) l,
    )

device_inside : (start stop : ℕ) (e : Bool) (k : PlainKey) → Below (device_place start) (end_of e k) → Below (end_of e k) (device_place stop) → Inside (AllocationKey start stop) (end_of e k)
device_inside start stop e k h l =
    let q : Place = end_of e k in
    let w : SameSpace (device_place start) q = space_between (device_place start) q (device_place stop) (record { tree = refl; store = refl; id = refl; kind = refl }) (below_upto h) (below_upto l) in
    let f : q ≡ device_place q.number = device_edge e k (sym w.kind) in (
      f,
      numbers_device (device_place start) q.number (record { tree = refl; store = refl; id = refl; kind = refl }) (subst (Below (device_place start)) f h),
      numbers_device q stop (record { tree = sym w.tree; store = sym w.store; id = sym w.id; kind = sym w.kind }) l,
    )

pub inside : (older : PlainKey) (e : Bool) (k : PlainKey) → Below (begins older) (end_of e k) → Below (end_of e k) (ends older) → Inside older (end_of e k)
inside (ObjectKey s i) e k h l = no_room (end_of e k) s i 1 [] h l
inside (AttributeKey s i name) e k h l = no_room (end_of e k) s i 2 name h l
inside (ExtentKey s i start stop) e k h l = file_inside s i start stop e k h l
inside (ChildKey s i name) e k h l = no_room (end_of e k) s i 4 name h l
inside (GraveKey s i) e k h l = no_room (end_of e k) s i 5 [] h l
inside (AllocationKey start stop) e k h l = device_inside start stop e k h l

-- no key is empty
pub just_past : (s i k : ℕ) (name : List ℕ) → Below (key_place s i k name 0) (key_place s i k name 1)
just_past s i k name = record {
  holds = in_space (key_place s i k name 0) (key_place s i k name 1) (record { tree = refl; store = refl; id = refl; kind = refl })
      ∙ ap (λ r. ordering_then r Less) (tied_itself nat_list_cmp_total name);
}

pub not_empty : (k : PlainKey) → IsKey k → Below (begins k) (ends k)
not_empty (ObjectKey s i) r = just_past s i 1 []
not_empty (AttributeKey s i name) r = just_past s i 2 name
not_empty (ExtentKey s i start stop) r = numbers_below (file_place s i start) (file_place s i stop) (record { tree = refl; store = refl; id = refl; kind = refl }) r.2.0
not_empty (ChildKey s i name) r = just_past s i 4 name
not_empty (GraveKey s i) r = just_past s i 5 []
not_empty (AllocationKey start stop) r = numbers_below (device_place start) (device_place stop) (record { tree = refl; store = refl; id = refl; kind = refl }) r.0
