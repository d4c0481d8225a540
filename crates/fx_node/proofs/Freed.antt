-- The blocks that a portion frees: those in which the places lie that it takes, each once.
use Rattle.std.proofs.Common.{◌≡◌, ◌⊎◌, inl, inr, ℕ, zero, suc, ◌+◌, ◌-◌, ◌<◌, ◌≤◌, ◌++◌, List, [], ◌∷◌, refl, sym, ap, subst, ◌∙◌, arith, Bool, true, false, cond}
use Rattle.std.specs.Prelude.{Some, None, slice_get, All, ◌==◌, ◌||◌, nat_eq}
use Rattle.std.specs.List.{AllByRecursion, IsDistinct, flat_map, range_with_len}
use Rattle.std.specs.List.Sorted.{IsStrictlySortedBy}
use Rattle.std.specs.Ordering.{nat_cmp}
use Rattle.std.specs.declared.cmp.Ordering.TheVariants.{Less}
use Rattle.std.proofs.lemmas.Bool.{cases_lt, eqb-true, eq-eqb}
use Rattle.std.proofs.lemmas.Cmp.{ranked}
use Rattle.std.proofs.lemmas.List.Concat.{flat_map-cons}
use Rattle.std.proofs.lemmas.List.Elements.{All-cons, All-head, All-nil, All-tail}
use Rattle.std.proofs.lemmas.List.Sorted.{All-permutation, IsNonDecreasingBy-from_sort, list_any-IsPermutation}
use Rattle.std.proofs.lemmas.Map.Keys.{IsDistinct-IsPermutation, IsDistinct-cons, IsStrictlyIncreasing-from_distinct, sorted_from_strictly_increasing}
use Rattle.fx_item.specs.Item.{PlainItem, items_of}
use Rattle.fx_item.specs.Overlay.{AtFileBlock, AtDeviceBlock, Entry, says}
use Rattle.fx_extent.specs.Allocations.{AreAscending, lists_block, said_by}
use Rattle.fx_namespace.specs.Nodes.{NodeId}
use Rattle.fx_namespace.proofs.Walks.{same_node}
use Rattle.fx_contents.specs.Allocated.{AreAllocated}
use Rattle.fx_contents.specs.Points.{Points, block_in, device_block, entry_after, points_after, value_under}
use Rattle.fx_node.specs.Counts.{AreOnce, IsAmong}
use Rattle.fx_node.specs.Held.{IsInRun, IsRunOf}
use Rattle.fx_node.specs.Portions.{AllNames, IsPortionOf, SomeNames, TakesPart, portion_items, blocks_of_run}
use Rattle.fx_node.specs.Reaped.{AreAfterBeside}
use Rattle.fx_node.specs.Waiting.{Waits}
use Rattle.fx_node.specs.declared.holding.BlockRun.{BlockRun}
use Rattle.fx_node.specs.declared.reaping.Portion.{Portion}
use Rattle.fx_node.proofs.Counted.{among_run, block_before, block_gone, block_point, place_stays, place_taken}
use Rattle.fx_node.proofs.Onces.{among_either, among_left, among_right, once_append}
use Rattle.fx_node.proofs.Taken.{takes_runs}

-- ---- the blocks of runs

in_range : (a n b : ℕ) → IsAmong (range_with_len a n) b → (a ≤ b) × (b < a + n)
in_range a zero b h = absurd h
in_range a (suc n) b (inl e) = (omega (arith, e), omega (arith, e))
in_range a (suc n) b (inr h) = let r = in_range (a + 1) n b h in (omega (arith, r.0), omega (arith, r.1))

range_in : (a n b : ℕ) → a ≤ b → b < a + n → IsAmong (range_with_len a n) b
range_in a zero b low high = absurd (omega (arith, low, high))
range_in a (suc n) b low high = elim (cases_lt a b) [
  | inl h ↦ inr (range_in (a + 1) n b (omega (arith, h)) (omega (arith, high)))
  | inr h ↦ inl (omega (arith, h, low))
]

range_once : (a n : ℕ) → AreOnce (range_with_len a n)
range_once a zero = tt
range_once a (suc n) = (λ h. (let r = in_range (a + 1) n a h in absurd (omega (arith, r.0))), range_once (a + 1) n)

abbrev blocks_in : List BlockRun → List ℕ
blocks_in [] = []
blocks_in (r ∷ rs) = blocks_of_run r ++ blocks_in rs

blocks_are : (runs : List BlockRun) → flat_map blocks_of_run runs ≡ blocks_in runs
blocks_are [] = refl
blocks_are (r ∷ rs) = flat_map-cons blocks_of_run r rs ∙ ap (λ xs. blocks_of_run r ++ xs) (blocks_are rs)

-- a block of a run lies at one of its places
abbrev LiesIn : List BlockRun → ℕ → Type 0
LiesIn runs b = (i : ℕ) × (run : BlockRun) × (slice_get runs i ≡ Some run) × (run.block ≤ b) × (b < run.block + (run.end - run.start))

among_lies : (runs : List BlockRun) (b : ℕ) → IsAmong (blocks_in runs) b → LiesIn runs b
among_lies [] b h = absurd h
among_lies (r ∷ rs) b h = elim (among_either (blocks_of_run r) (blocks_in rs) b h) [
  | inl i ↦ let q = in_range r.block (r.end - r.start) b i in (0, r, refl, q.0, q.1)
  | inr i ↦ let q = among_lies rs b i in (suc q.0, q.1, q.2, q.3, q.4)
]

lies_among : (runs : List BlockRun) (b i : ℕ) (run : BlockRun) → slice_get runs i ≡ Some run → run.block ≤ b → b < run.block + (run.end - run.start) → IsAmong (blocks_in runs) b
lies_among [] b i run g low high = absurd (cc g)
lies_among (r ∷ rs) b zero run g low high =
    let e : r ≡ run = cc g in
    among_left (blocks_of_run r) (blocks_in rs) b (subst (λ (z : BlockRun). IsAmong (blocks_of_run z) b) (sym e) (range_in run.block (run.end - run.start) b low high))
lies_among (r ∷ rs) b (suc i) run g low high = among_right (blocks_of_run r) (blocks_in rs) b (lies_among rs b i run g low high)

module _ (m : Points) (node : NodeId) where
  -- where in the file a block of a run lies
  lies_at : (runs : List BlockRun) → ((i : ℕ) (run : BlockRun) → slice_get runs i ≡ Some run → IsRunOf m node run) → (b : ℕ) → LiesIn runs b
      → (k : ℕ) × (device_block m node k ≡ Some b) × IsInRun runs k
  lies_at runs held b (i, run, g, low, high) =
      let h = held i run g in
      let k : ℕ = run.start + (b - run.block) in
      let up : run.start ≤ k = omega arith in
      let down : k < run.end = omega (arith, low, high, h.some) in
      (k, h.held k up down ∙ ap Some (omega (arith, low)), (i, run, g, up, down))

  blocks_once : AreAllocated m → (runs : List BlockRun) → ((i : ℕ) (run : BlockRun) → slice_get runs i ≡ Some run → IsRunOf m node run)
      → ((i j : ℕ) (x y : BlockRun) → i < j → slice_get runs i ≡ Some x → slice_get runs j ≡ Some y → x.end ≤ y.start) → AreOnce (blocks_in runs)
  blocks_once a [] held apart = tt
  blocks_once a (r ∷ rs) held apart = once_append (blocks_of_run r) (blocks_in rs) (range_once r.block (r.end - r.start))
      (blocks_once a rs (λ i run g. held (suc i) run g) (λ i j x y l g h. apart (suc i) (suc j) x y (omega (arith, l)) g h))
      (λ b i j.
      let p = in_range r.block (r.end - r.start) b i in
      let h = held 0 r refl in
      let k : ℕ = r.start + (b - r.block) in
      let up : r.start ≤ k = omega arith in
      let down : k < r.end = omega (arith, p.0, p.1, h.some) in
      let here : device_block m node k ≡ Some b = h.held k up down ∙ ap Some (omega (arith, p.0)) in
      let q = lies_at rs (λ i run g. held (suc i) run g) b (among_lies rs b j) in
      let same : k ≡ q.0 = (a.once node node k q.0 b here q.1).1 in
      let less : r.end ≤ q.2.1.start = apart 0 (suc q.2.0) r q.2.1 (omega arith) refl q.2.2 in
      absurd (omega (arith, same, less, q.2.3, down)))

-- ---- in order

distinct_none : IsDistinct nat_eq []
unfolding IsDistinct
distinct_none = tt

distinct : (xs : List ℕ) → AreOnce xs → IsDistinct nat_eq xs
distinct [] o = distinct_none
distinct (x ∷ xs) o = IsDistinct-cons nat_eq x xs (apart xs o.0) (distinct xs o.1)
  where
    unlike : (b : Bool) → (b ≡ true → ⊥) → b ≡ false
    unlike true h = absurd (h refl)
    unlike false h = refl

    apart : (ys : List ℕ) → (IsAmong ys x → ⊥) → AllByRecursion (λ y. nat_eq x y ≡ false) ys
    apart [] out = tt
    apart (y ∷ ys) out = (unlike (nat_eq x y) (λ e. out (inl (sym (eqb-true x y e)))), apart ys (λ h. out (inr h)))

flips : (x y : ℕ) → nat_eq x y ≡ nat_eq y x
flips x y = by (nat_eq x y) (nat_eq y x) refl refl
  where
    by : (a b : Bool) → nat_eq x y ≡ a → nat_eq y x ≡ b → nat_eq x y ≡ nat_eq y x
    by true true e f = e ∙ sym f
    by false false e f = e ∙ sym f
    by true false e f = absurd (let q : false ≡ true = sym f ∙ eq-eqb y x (sym (eqb-true x y e)) in cc)
    by false true e f = absurd (let q : false ≡ true = sym e ∙ eq-eqb x y (sym (eqb-true y x f)) in cc)

ascend : (least : ℕ) (xs : List ℕ) → IsStrictlySortedBy nat_cmp xs → AllByRecursion (λ y. least ≤ y) xs → All (λ y. y < 65536) xs → AreAscending least xs
unfolding IsStrictlySortedBy
ascend least [] s low high = tt
ascend least (x ∷ xs) s low high = (low.0, All-head (λ y. y < 65536) x xs high, ascend (x + 1) xs s.1 (above xs s.0) (All-tail (λ y. y < 65536) x xs high))
  where
    above : (ys : List ℕ) → AllByRecursion (λ y. nat_cmp x y ≡ Less) ys → AllByRecursion (λ y. x + 1 ≤ y) ys
    above [] h = tt
    above (y ∷ ys) h = (let l : x < y = ranked x y Less (sym h.0) in omega (arith, l), above ys h.1)

none_less : (xs : List ℕ) → AllByRecursion (λ y. 0 ≤ y) xs
none_less [] = tt
none_less (x ∷ xs) = (omega arith, none_less xs)

all_of : (P : ℕ → Type 0) (xs : List ℕ) → ((x : ℕ) → IsAmong xs x → P x) → All P xs
all_of P [] h = All-nil P
all_of P (x ∷ xs) h = All-cons P x xs (h x (inl refl)) (all_of P xs (λ y i. h y (inr i)))

-- ---- whether a block is on the list

among_listed : (xs : List ℕ) (b : ℕ) → IsAmong xs b → lists_block xs b ≡ true
among_listed [] b h = absurd h
among_listed (x ∷ xs) b (inl e) = ap (λ t. t || lists_block xs b) (eq-eqb x b e)
among_listed (x ∷ xs) b (inr h) = ap (λ t. (x == b) || t) (among_listed xs b h) ∙ or_true (x == b)
  where
    or_true : (t : Bool) → (t || true) ≡ true
    or_true true = refl
    or_true false = refl

listed_among : (xs : List ℕ) (b : ℕ) → lists_block xs b ≡ true → IsAmong xs b
listed_among [] b e = absurd (cc e)
listed_among (x ∷ xs) b e = by (x == b) refl e (listed_among xs b)
  where
    by : (t : Bool) → (x == b) ≡ t → (t || lists_block xs b) ≡ true → (lists_block xs b ≡ true → IsAmong xs b) → IsAmong (x ∷ xs) b
    by true f g rest = inl (eqb-true x b f)
    by false f g rest = inr (rest g)

-- ---- whether a place lies in a run

in_run_or_not : (runs : List BlockRun) (n : ℕ) → IsInRun runs n ⊎ (IsInRun runs n → ⊥)
in_run_or_not [] n = inr (λ r. absurd (cc r.2))
in_run_or_not (r ∷ rs) n = by (cases_lt n r.start) (cases_lt n r.end) (in_run_or_not rs n)
  where
    apart : (IsInRun rs n → ⊥) → (r.start ≤ n → n < r.end → ⊥) → IsInRun (r ∷ rs) n → ⊥
    apart out off (zero, run, g, low, high) = let e : r ≡ run = cc g in off (omega (arith, low, ap (λ (z : BlockRun). z.start) e)) (omega (arith, high, ap (λ (z : BlockRun). z.end) e))
    apart out off (suc i, run, g, low, high) = out (i, run, g, low, high)

    by : (n < r.start) ⊎ (r.start ≤ n) → (n < r.end) ⊎ (r.end ≤ n) → IsInRun rs n ⊎ (IsInRun rs n → ⊥) → IsInRun (r ∷ rs) n ⊎ (IsInRun (r ∷ rs) n → ⊥)
    by (inr low) (inl high) q = inl (0, r, refl, low, high)
    by (inl low) h (inl q) = inl (suc q.0, q.1, q.2, q.3, q.4)
    by (inl low) h (inr out) = inr (apart out (λ a b. absurd (omega (arith, low, a))))
    by (inr low) (inr high) (inl q) = inl (suc q.0, q.1, q.2, q.3, q.4)
    by (inr low) (inr high) (inr out) = inr (apart out (λ a b. absurd (omega (arith, high, b))))

module _ (m : Points) (node : NodeId) (portion : Portion) (p : IsPortionOf m node portion) where
  same_listed : (b : ℕ) → lists_block portion.frees b ≡ lists_block (blocks_in p.runs) b
  same_listed b = sym (list_any-IsPermutation (λ x. x == b) (flat_map blocks_of_run p.runs) portion.frees p.freed) ∙ ap (λ xs. lists_block xs b) (blocks_are p.runs)

  pub freed_at : (b : ℕ) → lists_block portion.frees b ≡ true → (k : ℕ) × (device_block m node k ≡ Some b) × IsInRun p.runs k
  freed_at b e = lies_at m node p.runs (takes_runs p.takes) b (among_lies p.runs b (listed_among (blocks_in p.runs) b (sym (same_listed b) ∙ e)))

  pub run_freed : (k : ℕ) → IsInRun p.runs k → (b : ℕ) → device_block m node k ≡ Some b → lists_block portion.frees b ≡ true
  run_freed k r b e =
      let h = takes_runs p.takes r.0 r.1 r.2 in
      let same : r.1.block + (k - r.1.start) ≡ b = some_same (sym (h.held k r.3 r.4) ∙ e) in
      same_listed b ∙ among_listed (blocks_in p.runs) b (lies_among p.runs b r.0 r.1 r.2 (omega (arith, same)) (omega (arith, same, r.3, r.4)))
    where
      some_same : {x y : ℕ} → Some x ≡ Some y → x ≡ y
      some_same q = cc q

  said_place : (k : ℕ) → says (items_of portion.items) (AtFileBlock node.store node.id k) ≡ says (portion_items node portion.last p.names p.runs) (AtFileBlock node.store node.id k)
  said_place k = ap (λ (xs : List PlainItem). says xs (AtFileBlock node.store node.id k)) p.items

  pub freed_said : (b : ℕ) → lists_block portion.frees b ≡ true → (k : ℕ) × (device_block m node k ≡ Some b) × (says (items_of portion.items) (AtFileBlock node.store node.id k) ≡ Some None)
  freed_said b e = let f = freed_at b e in (f.0, f.1, said_place f.0 ∙ place_taken m node p.names p.runs portion.last f.0 f.2)

  pub said_freed : (b k : ℕ) → device_block m node k ≡ Some b → says (items_of portion.items) (AtFileBlock node.store node.id k) ≡ Some None → lists_block portion.frees b ≡ true
  said_freed b k d s = elim (in_run_or_not p.runs k) [
    | inl r ↦ run_freed k r b d
    | inr out ↦ absurd (none_some (sym (sym (said_place k) ∙ s) ∙ place_stays m node p.names p.runs portion.last k out))
  ]
    where
      none_some : {A : Type 0} {x : A} → Some x ≡ None → ⊥
      none_some q = cc q

  runs_apart_in : (i j : ℕ) (x y : BlockRun) → i < j → slice_get p.runs i ≡ Some x → slice_get p.runs j ≡ Some y → x.end ≤ y.start
  runs_apart_in = by p.runs portion.last p.takes
    where
      by : (runs : List BlockRun) (last : Bool) → TakesPart m node p.names runs last → (i j : ℕ) (x y : BlockRun) → i < j → slice_get runs i ≡ Some x → slice_get runs j ≡ Some y → x.end ≤ y.start
      by runs last (SomeNames f none) i j x y l g h = absurd (cc (sym (ap (λ rs. slice_get rs i) none) ∙ g))
      by runs last (AllNames q f rest) i j x y l g h = rest.apart i j x y l g h

  pub frees_ascend : AreAllocated m → AreAscending 0 portion.frees
  frees_ascend a =
      let d = distinct (blocks_in p.runs) (blocks_once m node a p.runs (takes_runs p.takes) runs_apart_in) in
      let e = IsDistinct-IsPermutation nat_eq flips (flat_map blocks_of_run p.runs) portion.frees p.freed (subst (IsDistinct nat_eq) (sym (blocks_are p.runs)) d) in
      let s = IsStrictlyIncreasing-from_distinct portion.frees (IsNonDecreasingBy-from_sort (λ x. x) portion.frees p.sorted) e in
      ascend 0 portion.frees (sorted_from_strictly_increasing portion.frees s) (none_less portion.frees)
      (All-permutation (λ y. y < 65536) (flat_map blocks_of_run p.runs) portion.frees p.freed
      (subst (All (λ y. y < 65536)) (sym (blocks_are p.runs)) (all_of (λ y. y < 65536) (blocks_in p.runs) (λ b h.
      let q = among_lies p.runs b h in
      let r = takes_runs p.takes q.0 q.1 q.2 in
      omega (arith, q.4, r.inside)))))

  -- ---- the allocator afterwards

  module _ (n : Points) (after : AreAfterBeside m (says (items_of portion.items)) n) (device : (b : ℕ) → n (AtDeviceBlock b) ≡ points_after m (said_by [] portion.frees) (AtDeviceBlock b))
      (waits : Waits (value_under m) node) (a : AreAllocated m) where
    told : AreAfterBeside m (says (portion_items node portion.last p.names p.runs)) n
    told = subst (λ (xs : List PlainItem). AreAfterBeside m (says xs) n) p.items after

    before : (x : NodeId) (k b : ℕ) → device_block n x k ≡ Some b → device_block m x k ≡ Some b
    before x k b e = block_before m n node p.names p.runs portion.last p.takes told waits (x, k) b e

    device_kept : (b : ℕ) → lists_block portion.frees b ≡ false → n (AtDeviceBlock b) ≡ m (AtDeviceBlock b)
    device_kept b e = device b ∙ ap (λ t. entry_after (cond t (Some None) None) (m (AtDeviceBlock b))) e

    device_free : (b : ℕ) → lists_block portion.frees b ≡ true → n (AtDeviceBlock b) ≡ None
    device_free b e = device b ∙ ap (λ t. entry_after (cond t (Some None) None) (m (AtDeviceBlock b))) e

    live_by : (b : ℕ) (entry : Entry) → n (AtDeviceBlock b) ≡ Some entry → (t : Bool) → lists_block portion.frees b ≡ t → (x : NodeId) × (k : ℕ) × (device_block n x k ≡ Some b)
    live_by b entry e true l = absurd (let q : None ≡ Some entry = sym (device_free b l) ∙ e in cc)
    live_by b entry e false l =
        let r = a.live b entry (sym (device_kept b l) ∙ e) in (
          r.0,
          r.1,
          ap (λ o. block_in o) (block_point m n node p.names p.runs portion.last p.takes told waits (r.0, r.1)
              (λ i. (let q = among_run node p.runs (r.0, r.1) i in
              let f : lists_block portion.frees b ≡ true = run_freed r.1 q.1 b (subst (λ (z : NodeId). device_block m z r.1 ≡ Some b) q.0 r.2) in
              true_false (sym f ∙ l))) (same_node r.0 node)) ∙ r.2,
        )
      where
        true_false : true ≡ false → ⊥
        true_false q = cc

    taken_by : (x : NodeId) (k b : ℕ) → device_block n x k ≡ Some b → (t : Bool) → lists_block portion.frees b ≡ t → (entry : Entry) × (n (AtDeviceBlock b) ≡ Some entry)
    taken_by x k b e false l = let r = a.taken x k b (before x k b e) in (r.0, device_kept b l ∙ r.1)
    taken_by x k b e true l =
        let f = freed_at b l in
        let o = a.once x node k f.0 b (before x k b e) f.1 in
        absurd (block_gone m n node p.names p.runs portion.last p.takes told waits f.0 f.2 b (subst (λ (z : ℕ). device_block n node z ≡ Some b) o.1 (subst (λ (z : NodeId). device_block n z k ≡ Some b) o.0 e)))

    pub still_allocated : AreAllocated n
    still_allocated = record {
      live = λ b entry e. live_by b entry e (lists_block portion.frees b) refl;
      taken = λ x k b e. taken_by x k b e (lists_block portion.frees b) refl;
      once = λ x y i j b e f. a.once x y i j b (before x i b e) (before y j b f);
    }
