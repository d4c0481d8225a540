-- What lists of blocks with sums state, as they are gathered.
use Rattle.std.proofs.Common.{◌≡◌, ℕ, suc, ◌+◌, ◌<◌, ◌≤◌, ◌==◌, ◌||◌, Bool, true, false, cond, List, [], ◌∷◌, ◌++◌, take, get_or, length, Option, Some, None, refl, sym, ap, subst, ◌∙◌, arith, eqb-true}
use Rattle.std.specs.List.{filter, flat_map, list_any}
use Rattle.std.specs.Ordering.{is_eq, nat_cmp}
use Rattle.std.proofs.lemmas.List.{append-nil, length-take-le, map-append, take_all, take_more}
use Rattle.std.proofs.lemmas.List.Folds.{list_any-append}
use Rattle.std.proofs.lemmas.Grind.{flat_map-append}
use Rattle.fx_verify.proofs.Numbers.{is_eq_nat}
use Rattle.fx_item.specs.Item.{PlainItem, item_of, items_of}
use Rattle.fx_item.specs.declared.item.Item.{Item}
use Rattle.fx_verify.specs.Kept.{block_sums_of, is_taken_by, is_taken_under, last_stated, with_sums, written_by}
use Rattle.fx_verify.specs.Written.{StatesLike, MovesTaken, sum_over}

pub last_stated-append : (b : ℕ) (ps qs : List (ℕ × ℕ)) (old : Option ℕ) → last_stated b (ps ++ qs) old ≡ last_stated b qs (last_stated b ps old)
last_stated-append b [] qs old = refl
last_stated-append b (p ∷ ps) qs old = last_stated-append b ps qs (cond (p.0 == b) (Some p.1) old)

with_sums-more : (block : ℕ) (sums : List ℕ) (x : ℕ) → with_sums block (sums ++ x ∷ []) ≡ with_sums block sums ++ (block + length sums, x) ∷ []
with_sums-more block [] x = let e : block ≡ block + 0 = omega arith in ap (λ n. (n, x) ∷ []) e
with_sums-more block (y ∷ ys) x =
    let e : block + 1 + length ys ≡ block + suc (length ys) = omega arith in
    ap (λ r. (block, y) ∷ r) (with_sums-more (block + 1) ys x ∙ ap (λ n. with_sums (block + 1) ys ++ (n, x) ∷ []) e)

-- one more pair at the end
last_stated-more : (b : ℕ) (ps : List (ℕ × ℕ)) (p : ℕ × ℕ) (old : Option ℕ) → last_stated b (ps ++ p ∷ []) old ≡ cond (p.0 == b) (Some p.1) (last_stated b ps old)
last_stated-more b ps p old = last_stated-append b ps (p ∷ []) old

-- one more sum of neighbouring blocks
pub state_more : (block : ℕ) (sums : List ℕ) (i x : ℕ) (old now new : ℕ → Option ℕ) → i < length sums → x ≡ get_or sums i 0
    → ((b : ℕ) → now b ≡ last_stated b (with_sums block (take i sums)) (old b))
    → ((b : ℕ) → new b ≡ cond (is_eq (nat_cmp (block + i) b)) (Some x) (now b))
    → (b : ℕ) → new b ≡ last_stated b (with_sums block (take (i + 1) sums)) (old b)
state_more block sums i x old now new lt is before step b =
    let count : length (take i sums) ≡ i = length-take-le i sums (omega (arith, lt)) in
    let joined : with_sums block (take (i + 1) sums) ≡ with_sums block (take i sums) ++ (block + i, x) ∷ [] =
    ap (with_sums block) (take_more sums i 0 lt) ∙ with_sums-more block (take i sums) (get_or sums i 0)
    ∙ (λ j. with_sums block (take i sums) ++ (block + count j, sym is j) ∷ []) in
    step b ∙ (λ j. cond (is_eq_nat (block + i) b j) (Some x) (before b j))
    ∙ sym (ap (λ ps. last_stated b ps (old b)) joined ∙ last_stated-more b (with_sums block (take i sums)) (block + i, x) (old b))

flat_map-more : {X Y : Type 0} (f : X → List Y) (xs : List X) (x : X) → flat_map f (xs ++ x ∷ []) ≡ flat_map f xs ++ f x
flat_map-more f xs x = flat_map-append f xs (x ∷ []) ∙ ap (λ r. flat_map f xs ++ r) (append-nil (f x))

-- one more item
pub state_next : (items : List Item) (i : ℕ) (x : Item) (now new : ℕ → Option ℕ) → i < length items → x ≡ get_or items i x
    → ((b : ℕ) → now b ≡ last_stated b (flat_map block_sums_of (items_of (take i items))) None)
    → ((b : ℕ) → new b ≡ last_stated b (block_sums_of (item_of x)) (now b))
    → (b : ℕ) → new b ≡ last_stated b (flat_map block_sums_of (items_of (take (i + 1) items))) None
state_next items i x now new lt is before step b =
    let joined : flat_map block_sums_of (items_of (take (i + 1) items)) ≡ flat_map block_sums_of (items_of (take i items)) ++ block_sums_of (item_of x) =
    ap (λ xs. flat_map block_sums_of (items_of xs)) (take_more items i x lt ∙ ap (λ y. take i items ++ y ∷ []) (sym is))
    ∙ ap (flat_map block_sums_of) (map-append item_of (take i items) (x ∷ []))
    ∙ flat_map-more block_sums_of (items_of (take i items)) (item_of x) in
    step b ∙ ap (last_stated b (block_sums_of (item_of x))) (before b)
    ∙ sym (ap (λ ps. last_stated b ps None) joined ∙ last_stated-append b (flat_map block_sums_of (items_of (take i items))) (block_sums_of (item_of x)) None)

-- ---- those that a transaction takes

module _ {s0 s1 s2 : ℕ → Option ℕ} {w0 w1 w2 : List (ℕ × ℕ)} {T U : ℕ → Bool} (a : MovesTaken T s0 s1 w0 w1) (c : MovesTaken U s1 s2 w1 w2) where
  pub takes_both : MovesTaken (λ b. T b || U b) s0 s2 w0 w2
  takes_both = record {
    left_is = λ b. left b (T b) (U b) (a.left_is b) (c.left_is b);
    new_is = λ b before. new b before (T b) (U b) (a.left_is b) (a.new_is b before) (c.new_is b before);
  }
    where
      left : (b : ℕ) (t u : Bool) → s1 b ≡ cond t None (s0 b) → s2 b ≡ cond u None (s1 b) → s2 b ≡ cond (t || u) None (s0 b)
      left b true true e f = f
      left b true false e f = f ∙ e
      left b false true e f = f
      left b false false e f = f ∙ e

      new : (b : ℕ) (before : Option ℕ) (t u : Bool) → s1 b ≡ cond t None (s0 b)
          → last_stated b w1 before ≡ cond t (sum_over (s0 b) (last_stated b w0 before)) (last_stated b w0 before)
          → last_stated b w2 before ≡ cond u (sum_over (s1 b) (last_stated b w1 before)) (last_stated b w1 before)
          → last_stated b w2 before ≡ cond (t || u) (sum_over (s0 b) (last_stated b w0 before)) (last_stated b w0 before)
      new b before true true e f g = g ∙ ap (λ o. sum_over o (last_stated b w1 before)) e ∙ f
      new b before true false e f g = g ∙ f
      new b before false true e f g = g ∙ (λ j. sum_over (e j) (f j))
      new b before false false e f g = g ∙ f

pub takes_none : {s : ℕ → Option ℕ} {w : List (ℕ × ℕ)} → MovesTaken (λ b. false) s s w w
takes_none = record { left_is = λ b. refl; new_is = λ b before. refl }

-- one more item that takes blocks
pub takes_more : (items : List Item) (i : ℕ) (x : Item) {s0 s1 s2 : ℕ → Option ℕ} {w0 w1 w2 : List (ℕ × ℕ)} → i < length items → x ≡ get_or items i x
    → MovesTaken (is_taken_by (items_of (take i items))) s0 s1 w0 w1
    → MovesTaken (λ b. is_taken_under b (item_of x).key (item_of x).value) s1 s2 w1 w2
    → MovesTaken (is_taken_by (items_of (take (i + 1) items))) s0 s2 w0 w2
takes_more items i x {s0} {s1} {s2} {w0} {w1} {w2} lt is before step =
    subst (λ t. MovesTaken t s0 s2 w0 w2) (λ j b. sym (taken b) j) (takes_both before step)
  where
    taken : (b : ℕ) → is_taken_by (items_of (take (i + 1) items)) b ≡ (is_taken_by (items_of (take i items)) b || is_taken_under b (item_of x).key (item_of x).value)
    taken b =
        let test : PlainItem → Bool = λ y. is_taken_under b y.key y.value in
        ap (λ xs. list_any test (items_of xs)) (take_more items i x lt ∙ ap (λ y. take i items ++ y ∷ []) (sym is))
        ∙ ap (list_any test) (map-append item_of (take i items) (x ∷ []))
        ∙ list_any-append test (items_of (take i items)) (item_of x ∷ [])
        ∙ ap (λ t. list_any test (items_of (take i items)) || t) (last (test (item_of x)))
      where
        last : (t : Bool) → (t || false) ≡ t
        last true = refl
        last false = refl

-- what is stated is stated over what stood before
last_stated-over : (b : ℕ) (ps : List (ℕ × ℕ)) (before : Option ℕ) → last_stated b ps before ≡ sum_over (last_stated b ps None) before
last_stated-over b [] before = refl
last_stated-over b (q ∷ ps) before =
    last_stated-over b ps (cond (q.0 == b) (Some q.1) before) ∙ twice (q.0 == b) (last_stated b ps None)
    ∙ ap (λ o. sum_over o before) (sym (last_stated-over b ps (cond (q.0 == b) (Some q.1) None)))
  where
    twice : (t : Bool) (o : Option ℕ) → sum_over o (cond t (Some q.1) before) ≡ sum_over (sum_over o (cond t (Some q.1) None)) before
    twice t (Some x) = refl
    twice true None = refl
    twice false None = refl

-- what stands at blocks of one kind alone
last_stated-filter : (f : ℕ → Bool) (b : ℕ) (ps : List (ℕ × ℕ)) (before : Option ℕ)
    → last_stated b (filter (λ p. f p.0) ps) before ≡ cond (f b) (last_stated b ps before) before
last_stated-filter f b [] before = sym (same (f b))
  where
    same : (t : Bool) → cond t before before ≡ before
    same true = refl
    same false = refl
last_stated-filter f b (p ∷ ps) before = by (p.0 == b) (f p.0) refl refl (last_stated-filter f b ps)
  where
    by : (here kept : Bool) → (p.0 == b) ≡ here → f p.0 ≡ kept → ((before : Option ℕ) → last_stated b (filter (λ p. f p.0) ps) before ≡ cond (f b) (last_stated b ps before) before)
        → last_stated b (cond kept (p ∷ filter (λ p. f p.0) ps) (filter (λ p. f p.0) ps)) before ≡ cond (f b) (last_stated b ps (cond (p.0 == b) (Some p.1) before)) before
    by true true e k rest =
        let here : f b ≡ true = ap f (sym (eqb-true p.0 b e)) ∙ k in
        ap (λ t. last_stated b (filter (λ p. f p.0) ps) (cond t (Some p.1) before)) e ∙ rest (Some p.1)
        ∙ (λ j. cond (here j) (last_stated b ps (Some p.1)) (Some p.1))
        ∙ sym (λ j. cond (here j) (last_stated b ps (cond (e j) (Some p.1) before)) before)
    by true false e k rest =
        let here : f b ≡ false = ap f (sym (eqb-true p.0 b e)) ∙ k in
        rest before ∙ (λ j. cond (here j) (last_stated b ps before) before) ∙ sym (λ j. cond (here j) (last_stated b ps (cond (e j) (Some p.1) before)) before)
    by false true e k rest = ap (λ t. last_stated b (filter (λ p. f p.0) ps) (cond t (Some p.1) before)) e ∙ rest before ∙ sym (ap (λ t. cond (f b) (last_stated b ps (cond t (Some p.1) before)) before) e)
    by false false e k rest = rest before ∙ sym (ap (λ t. cond (f b) (last_stated b ps (cond t (Some p.1) before)) before) e)

-- all that is stated and taken is what the transaction writes
pub takes_all : (items : List PlainItem) {stated left : ℕ → Option ℕ} {written : List (ℕ × ℕ)}
    → ((b : ℕ) → stated b ≡ last_stated b (flat_map block_sums_of items) None)
    → MovesTaken (is_taken_by items) stated left [] written → StatesLike (written_by items) written
takes_all items {stated} stated_is takes b old =
    takes.new_is b old ∙ ap (λ o. cond (is_taken_by items b) (sum_over o old) old) (stated_is b)
    ∙ ap (λ r. cond (is_taken_by items b) r old) (sym (last_stated-over b (flat_map block_sums_of items) old))
    ∙ sym (last_stated-filter (is_taken_by items) b (flat_map block_sums_of items) old)

-- the same where the loop has been over all items
pub takes_end : (items : List Item) (i : ℕ) {stated left : ℕ → Option ℕ} {written : List (ℕ × ℕ)} → length items ≤ i
    → ((b : ℕ) → stated b ≡ last_stated b (flat_map block_sums_of (items_of items)) None)
    → MovesTaken (is_taken_by (items_of (take i items))) stated left [] written → StatesLike (written_by (items_of items)) written
takes_end items i {stated} {left} {written} le stated_is takes =
    takes_all (items_of items) stated_is (subst (λ xs. MovesTaken (is_taken_by (items_of xs)) stated left [] written) (take_all i items le) takes)
