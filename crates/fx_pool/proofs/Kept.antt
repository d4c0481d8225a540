-- The tables and the lists of the free runs after one is added or taken out.
use Rattle.std.proofs.Common.{◌≡◌, ◌≢◌, ℕ, ◌+◌, ◌-◌, ◌*◌, ◌<◌, ◌≤◌, List, [], ◌∷◌, ◌++◌, Option, Some, None, Vec, Global, vec_len, length, length-set, map, replicate, set, get_or, refl, sym, ◌∙◌, subst, ap, inl, inr, arith, get_or-set_same, get_or-set_other}
use Rattle.std.specs.Vec.{vec_capacity}
use Rattle.std.proofs.lemmas.Bool.{cases_lt, eq-eqb}
use Rattle.std.proofs.lemmas.List.{get_or_past, get_or-replicate, length-replicate, get_or-map, length-map, get_or_read, map-set}
use Rattle.std.proofs.lemmas.List.Elements.{All-map, All-weaker, All-set, All-get_or}
use Rattle.std.proofs.lemmas.List.Sums.{count_by-le-length}
use Rattle.std.proofs.lemmas.List.Folds.{sum_by-replicate}
use Rattle.std.specs.List.{count_by, All}
use Rattle.fx_pool.specs.Region.{RunBegins, is_order}
use Rattle.fx_pool.specs.Indexed.{IsIndexed, IsKept, starts}
use Rattle.fx_pool.proofs.Tables.{none_some, HasRun-below}
use Rattle.fx_pool.proofs.Indexed.{weight, count-set, IsIndexed-added, IsIndexed-taken}

abbrev items_of : Vec ℕ Global → List ℕ
items_of v = v.items

pub starts-is : (lists : List (Vec ℕ Global)) (k : ℕ) (u : Vec ℕ Global) → k < length lists → u ≡ get_or lists k u → starts lists k ≡ u.items
starts-is lists k u lt e = get_or-map items_of lists k u [] lt ∙ ap items_of (sym e)

starts-set : (lists : List (Vec ℕ Global)) (k : ℕ) (v : Vec ℕ Global) → k < length lists → starts (set lists k v) k ≡ v.items
starts-set lists k v lt = starts-is (set lists k v) k v (omega (arith, length-set lists k v)) (sym (get_or-set_same lists k v v lt))

starts-other : (lists : List (Vec ℕ Global)) (k j : ℕ) (v : Vec ℕ Global) → j ≢ k → starts (set lists k v) j ≡ starts lists j
starts-other lists k j v ne = ap (λ (l : List (List ℕ)). get_or l j []) (map-set items_of lists k v) ∙ get_or-set_other (map items_of lists) k j v.items [] ne

-- an order that has no list has no run
pub order-below : (orders : List (Option ℕ)) (places : List ℕ) (lists : List (Vec ℕ Global)) (s k : ℕ) → IsKept orders places lists → RunBegins orders s k → k < 13
order-below orders places lists s k h r = elim (cases_lt k 13) [
  | inl lt ↦ lt
  | inr ge ↦ (let e : starts lists k ≡ [] = get_or_past (map items_of lists) k [] (omega (arith, length-map lists items_of, h.lists_len)) in
      absurd (omega (arith, h.indexed.within s k r, ap (λ (l : List ℕ). length l) e)))
]

-- there is room in a list for a run that is not there
pub room : (orders : List (Option ℕ)) (places : List ℕ) (lists : List (Vec ℕ Global)) (s k : ℕ) (u : Vec ℕ Global) → IsKept orders places lists → k < 13 → s < length orders → get_or orders s None ≡ None → u ≡ get_or lists k u → vec_len u < length orders
room orders places lists s k u h lt b none e =
    omega (arith, u.ok.0, ap (λ (l : List ℕ). length l) (starts-is lists k u (omega (arith, h.lists_len)) e), h.indexed.counted k, count-set orders s k (Some k) b, ap (λ (x : Option ℕ). weight (is_order k x)) none, ap weight (eq-eqb k k refl), count_by-le-length (is_order k) (set orders s (Some k)), length-set orders s (Some k))

pub roomy-at : (orders : List (Option ℕ)) (places : List ℕ) (lists : List (Vec ℕ Global)) (k : ℕ) (u : Vec ℕ Global) → IsKept orders places lists → k < 13 → u ≡ get_or lists k u → length orders ≤ vec_capacity u
roomy-at orders places lists k u h lt e = subst (λ (v : Vec ℕ Global). length orders ≤ vec_capacity v) (sym e) (All-get_or (λ v. length orders ≤ vec_capacity v) lists k u (omega (arith, h.lists_len)) h.roomy)

pub IsKept-added : (orders : List (Option ℕ)) (places : List ℕ) (lists : List (Vec ℕ Global)) (s k : ℕ) (u v : Vec ℕ Global) → IsKept orders places lists → k < 13 → s < length orders → get_or orders s None ≡ None → u ≡ get_or lists k u → v.items ≡ u.items ++ s ∷ [] → vec_capacity v ≡ vec_capacity u → IsKept (set orders s (Some k)) (set places s (vec_len u)) (set lists k v)
IsKept-added orders places lists s k u v h lt b none e more same =
    let l : k < length lists = omega (arith, h.lists_len) in
    let su : starts lists k ≡ u.items = starts-is lists k u l e in
    let len : length (starts lists k) ≡ vec_len u = ap (λ (l : List ℕ). length l) su ∙ sym u.ok.0 in
    record {
      orders_len = omega (arith, h.orders_len, length-set orders s (Some k));
      places_len = omega (arith, h.places_len, length-set orders s (Some k), length-set places s (vec_len u));
      lists_len = omega (arith, h.lists_len, length-set lists k v);
      roomy = subst (λ (n : ℕ). All (λ (w : Vec ℕ Global). n ≤ vec_capacity w) (set lists k v)) (sym (length-set orders s (Some k)))
          (All-set (λ (w : Vec ℕ Global). length orders ≤ vec_capacity w) lists k v (omega (arith, roomy-at orders places lists k u h lt e)) h.roomy);
      indexed = subst (λ (n : ℕ). IsIndexed (set orders s (Some k)) (set places s n) (starts (set lists k v))) len
          (IsIndexed-added orders places (starts lists) (starts (set lists k v)) s k h.indexed (λ j ne. starts-other lists k j v ne) b h.places_len none
          (starts-set lists k v l ∙ more ∙ ap (λ (x : List ℕ). x ++ s ∷ []) (sym su)));
    }

-- where the run stands in its list, which is not empty
pub place-below : (orders : List (Option ℕ)) (places : List ℕ) (lists : List (Vec ℕ Global)) (s k p : ℕ) (u : Vec ℕ Global) → IsKept orders places lists → RunBegins orders s k → p ≡ get_or places s p → u ≡ get_or lists k u → p < vec_len u
place-below orders places lists s k p u h r e f =
    let q : p ≡ get_or places s 0 = get_or_read places s p (omega (arith, HasRun-below orders s k r, h.places_len)) e 0 in
    omega (arith, u.ok.0, h.indexed.within s k r, ap (λ (l : List ℕ). length l) (starts-is lists k u (omega (arith, h.lists_len, order-below orders places lists s k h r)) f))

-- the last run of that list
pub last-below : (orders : List (Option ℕ)) (places : List ℕ) (lists : List (Vec ℕ Global)) (s k p last : ℕ) (u : Vec ℕ Global) → IsKept orders places lists → RunBegins orders s k → p ≡ get_or places s p → u ≡ get_or lists k u → last ≡ get_or u.items (vec_len u - 1) last → RunBegins orders last k
last-below orders places lists s k p last u h r e f g =
    let a : p < vec_len u = place-below orders places lists s k p u h r e f in
    let su : starts lists k ≡ u.items = starts-is lists k u (omega (arith, h.lists_len, order-below orders places lists s k h r)) f in
    let len : length (starts lists k) ≡ vec_len u = ap (λ (l : List ℕ). length l) su ∙ sym u.ok.0 in
    let w : last ≡ get_or (starts lists k) (vec_len u - 1) 0 = get_or_read u.items (vec_len u - 1) last (omega (arith, u.ok.0)) g 0 ∙ ap (λ (l : List ℕ). get_or l (vec_len u - 1) 0) (sym su) in
    subst (λ (x : ℕ). RunBegins orders x k) (sym w) (h.indexed.free k (vec_len u - 1) (omega arith))

pub IsKept-taken : (orders : List (Option ℕ)) (places : List ℕ) (lists : List (Vec ℕ Global)) (s k p last : ℕ) (u v : Vec ℕ Global) → IsKept orders places lists → RunBegins orders s k → p ≡ get_or places s p → u ≡ get_or lists k u → last ≡ get_or u.items (vec_len u - 1) last
    → ((d : ℕ) → p + 1 < vec_len u → get_or v.items p d ≡ get_or u.items (vec_len u - 1) d)
    → ((i d : ℕ) → i ≢ p → i + 1 < vec_len u → get_or v.items i d ≡ get_or u.items i d)
    → vec_len v + 1 ≡ vec_len u → vec_capacity v ≡ vec_capacity u → IsKept (set orders s None) (set places last p) (set lists k v)
IsKept-taken orders places lists s k p last u v h r e f g moved kept less same =
    let lt : k < 13 = order-below orders places lists s k h r in
    let l : k < length lists = omega (arith, h.lists_len) in
    let su : starts lists k ≡ u.items = starts-is lists k u l f in
    let sv : starts (set lists k v) k ≡ v.items = starts-set lists k v l in
    let len : length (starts lists k) ≡ vec_len u = ap (λ (l : List ℕ). length l) su ∙ sym u.ok.0 in
    let lenv : length (starts (set lists k v) k) ≡ vec_len v = ap (λ (l : List ℕ). length l) sv ∙ sym v.ok.0 in
    let a : p < vec_len u = place-below orders places lists s k p u h r e f in
    let q : get_or places s 0 ≡ p = sym (get_or_read places s p (omega (arith, HasRun-below orders s k r, h.places_len)) e 0) in
    let z : get_or (starts lists k) (length (starts lists k) - 1) 0 ≡ last =
    ap (λ (n : ℕ). get_or (starts lists k) (n - 1) 0) len ∙ ap (λ (l : List ℕ). get_or l (vec_len u - 1) 0) su ∙ sym (get_or_read u.items (vec_len u - 1) last (omega (arith, u.ok.0)) g 0) in
    let atv : (i : ℕ) → get_or (starts (set lists k v) k) i 0 ≡ get_or v.items i 0 = λ i. ap (λ (l : List ℕ). get_or l i 0) sv in
    let atu : (i : ℕ) → get_or u.items i 0 ≡ get_or (starts lists k) i 0 = λ i. ap (λ (l : List ℕ). get_or l i 0) (sym su) in
    record {
      orders_len = omega (arith, h.orders_len, length-set {A = Option ℕ} orders s None);
      places_len = omega (arith, h.places_len, length-set {A = Option ℕ} orders s None, length-set places last p);
      lists_len = omega (arith, h.lists_len, length-set lists k v);
      roomy = subst (λ (n : ℕ). All (λ (w : Vec ℕ Global). n ≤ vec_capacity w) (set lists k v)) (sym (length-set orders s None))
          (All-set (λ (w : Vec ℕ Global). length orders ≤ vec_capacity w) lists k v (omega (arith, roomy-at orders places lists k u h lt f)) h.roomy);
      indexed = subst (λ (n : ℕ). IsIndexed (set orders s None) (set places last n) (starts (set lists k v))) q
          (subst (λ (n : ℕ). IsIndexed (set orders s None) (set places n (get_or places s 0)) (starts (set lists k v))) z
          (IsIndexed-taken orders places (starts lists) (starts (set lists k v)) s k h.indexed (λ j ne. starts-other lists k j v ne) r h.places_len
          (omega (arith, len, lenv))
          (λ more. atv (get_or places s 0) ∙ ap (λ (n : ℕ). get_or v.items n 0) q ∙ moved 0 (omega (arith, q, len)) ∙ atu (vec_len u - 1) ∙ ap (λ (n : ℕ). get_or (starts lists k) (n - 1) 0) (sym len))
          (λ i ne more. atv i ∙ kept i 0 (λ x. ne (x ∙ sym q)) (omega (arith, len)) ∙ atu i)));
    }

-- the starts of an order whose list u is
pub listed-free : (orders : List (Option ℕ)) (places : List ℕ) (lists : List (Vec ℕ Global)) (k i s : ℕ) (u : Vec ℕ Global) → IsKept orders places lists → k < 13 → u ≡ get_or lists k u → i < vec_len u → s ≡ get_or u.items i s → RunBegins orders s k
listed-free orders places lists k i s u h lt e b f =
    let su : starts lists k ≡ u.items = starts-is lists k u (omega (arith, h.lists_len)) e in
    let w : s ≡ get_or (starts lists k) i 0 = get_or_read u.items i s (omega (arith, u.ok.0)) f 0 ∙ ap (λ (l : List ℕ). get_or l i 0) (sym su) in
    subst (λ (x : ℕ). RunBegins orders x k) (sym w) (h.indexed.free k i (omega (arith, u.ok.0, ap (λ (l : List ℕ). length l) su)))

-- where the lists from an order up are empty no run has that order or more
-- an order whose list is empty has no run
pub none-at : (orders : List (Option ℕ)) (places : List ℕ) (lists : List (Vec ℕ Global)) (s k : ℕ) → IsKept orders places lists → length (starts lists k) ≡ 0 → RunBegins orders s k → ⊥
none-at orders places lists s k h empty r = omega (arith, h.indexed.within s k r, empty)

pub none-from : (orders : List (Option ℕ)) (places : List ℕ) (lists : List (Vec ℕ Global)) (order top : ℕ) → IsKept orders places lists → 13 ≤ top → ((j : ℕ) → order ≤ j → j < top → length (starts lists j) ≡ 0) → (s k : ℕ) → order ≤ k → RunBegins orders s k → ⊥
none-from orders places lists order top h ge empty s k a r =
    none-at orders places lists s k h (empty k a (omega (arith, order-below orders places lists s k h r))) r

pub counted-is : (orders : List (Option ℕ)) (places : List ℕ) (lists : List (Vec ℕ Global)) (k : ℕ) (u : Vec ℕ Global) → IsKept orders places lists → k < 13 → u ≡ get_or lists k u → vec_len u ≡ count_by (is_order k) orders
counted-is orders places lists k u h lt e = omega (arith, u.ok.0, ap (λ (l : List ℕ). length l) (starts-is lists k u (omega (arith, h.lists_len)) e), h.indexed.counted k)

pub counted-none : (orders : List (Option ℕ)) (places : List ℕ) (lists : List (Vec ℕ Global)) (k : ℕ) → IsKept orders places lists → 13 ≤ k → count_by (is_order k) orders ≡ 0
counted-none orders places lists k h ge =
    let e : starts lists k ≡ [] = get_or_past (map items_of lists) k [] (omega (arith, length-map lists items_of, h.lists_len)) in
    omega (arith, h.indexed.counted k, ap (λ (l : List ℕ). length l) e)

starts-empty : (lists : List (Vec ℕ Global)) (k : ℕ) → All (λ (v : Vec ℕ Global). v.items ≡ []) lists → starts lists k ≡ []
starts-empty lists k h = elim (cases_lt k (length (map items_of lists))) [
  | inl lt ↦ All-get_or (λ (l : List ℕ). l ≡ []) (map items_of lists) k [] lt (All-map (λ (l : List ℕ). l ≡ []) items_of lists h)
  | inr ge ↦ get_or_past (map items_of lists) k [] ge
]

mul_zero : (n : ℕ) → n * 0 ≡ 0
mul_zero n = omega arith

-- no free run, and no start in a list
pub IsKept-new : (n : ℕ) (orders : List (Option ℕ)) (places : List ℕ) (lists : List (Vec ℕ Global)) → n ≤ 4096 → orders ≡ replicate n None → length places ≡ n → length lists ≡ 13 → All (λ (v : Vec ℕ Global). (v.items ≡ []) × (n ≤ vec_capacity v)) lists → IsKept orders places lists
IsKept-new n orders places lists small e p l h =
    let len : length orders ≡ n = ap (λ (x : List (Option ℕ)). length x) e ∙ length-replicate n None in
    let empty : (k : ℕ) → starts lists k ≡ [] = λ k. starts-empty lists k (All-weaker (λ (v : Vec ℕ Global). (v.items ≡ []) × (n ≤ vec_capacity v)) (λ (v : Vec ℕ Global). v.items ≡ []) (λ v x. x.0) lists h) in
    let none : (s k : ℕ) → RunBegins orders s k → ⊥ = λ s k r. none_some k (get_or (replicate n None) s None) (get_or-replicate n s None None (omega (arith, HasRun-below orders s k r))) (subst (λ (x : List (Option ℕ)). RunBegins x s k) e r) in
    let zero_len : (k : ℕ) → length (starts lists k) ≡ 0 = λ k. ap (λ (x : List ℕ). length x) (empty k) in
    record {
      orders_len = omega arith;
      places_len = omega arith;
      lists_len = l;
      roomy = All-weaker (λ (v : Vec ℕ Global). (v.items ≡ []) × (n ≤ vec_capacity v)) (λ (v : Vec ℕ Global). length orders ≤ vec_capacity v) (λ v x. omega (arith, x.1)) lists h;
      indexed = record {
        free = λ k i lt. absurd (omega (arith, zero_len k));
        place = λ k i lt. absurd (omega (arith, zero_len k));
        within = λ s k r. absurd (none s k r);
        found = λ s k r. absurd (none s k r);
        counted = λ k. zero_len k ∙ sym (ap (λ (x : List (Option ℕ)). count_by (is_order k) x) e ∙ sum_by-replicate (λ x. weight (is_order k x)) n None ∙ mul_zero n);
      };
    }
