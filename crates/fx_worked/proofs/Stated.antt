-- What lists state last for a block, and what was found.
use Rattle.std.proofs.Common.{◌≡◌, ℕ, zero, suc, ◌+◌, ◌<◌, ◌==◌, drop, get_or, length, ◌&&◌, ◌||◌, Bool, true, false, cond, List, [], ◌∷◌, ◌++◌, Option, Some, refl, sym, ap, subst, ◌∙◌, arith, eqb-true, eq-eqb}
use Rattle.std.specs.Prelude.{IsTrue, ◌↔◌}
use Rattle.std.specs.List.{Contains, filter, flat_map}
use Rattle.std.proofs.lemmas.List.{drop_more}
use Rattle.fx_item.specs.Item.{PlainItem, item_of, items_of}
use Rattle.fx_item.specs.declared.item.Item.{Item}
use Rattle.fx_verify.specs.Kept.{block_sums_of, is_taken_by, last_stated, live_sum, written_by}
use Rattle.fx_verify.specs.Wrong.{is_found}
use Rattle.fx_worked.specs.Tried.{IsAsStated}

-- one list after another
pub stated-append : (b : ℕ) (ps qs : List (ℕ × ℕ)) (old : Option ℕ) → last_stated b (ps ++ qs) old ≡ last_stated b qs (last_stated b ps old)
stated-append b [] qs old = refl
stated-append b (p ∷ ps) qs old = stated-append b ps qs (cond (p.0 == b) (Some p.1) old)

-- the loop over items, one item on
pub stated-next : (b : ℕ) (items : List Item) (i : ℕ) (x : Item) (last next all : Option ℕ) → i < length items → x ≡ get_or items i x
    → next ≡ last_stated b (block_sums_of (item_of x)) last
    → last_stated b (flat_map block_sums_of (items_of (drop i items))) last ≡ all
    → last_stated b (flat_map block_sums_of (items_of (drop (i + 1) items))) next ≡ all
stated-next b items i x last next all lt is step before =
    let rest : List (ℕ × ℕ) = flat_map block_sums_of (items_of (drop (i + 1) items)) in
    let split : last_stated b (flat_map block_sums_of (items_of (drop i items))) last ≡ last_stated b (block_sums_of (item_of x) ++ rest) last =
    ap (λ xs. last_stated b (flat_map block_sums_of (items_of xs)) last) (drop_more items i x lt ∙ ap (λ y. y ∷ drop (i + 1) items) (sym is)) in
    ap (last_stated b rest) step ∙ sym (stated-append b (block_sums_of (item_of x)) rest last) ∙ sym split ∙ before

-- what stands at blocks of one kind alone
stated-filter : (f : ℕ → Bool) (b : ℕ) (ps : List (ℕ × ℕ)) (before : Option ℕ)
    → last_stated b (filter (λ p. f p.0) ps) before ≡ cond (f b) (last_stated b ps before) before
stated-filter f b [] before = sym (same (f b))
  where
    same : (t : Bool) → cond t before before ≡ before
    same true = refl
    same false = refl
stated-filter f b (p ∷ ps) before = by (p.0 == b) (f p.0) refl refl (stated-filter f b ps)
  where
    by : (here kept : Bool) → (p.0 == b) ≡ here → f p.0 ≡ kept → ((before : Option ℕ) → last_stated b (filter (λ p. f p.0) ps) before ≡ cond (f b) (last_stated b ps before) before)
        → last_stated b (cond kept (p ∷ filter (λ p. f p.0) ps) (filter (λ p. f p.0) ps)) before ≡ cond (f b) (last_stated b ps (cond (p.0 == b) (Some p.1) before)) before
    by true true e k rest =
        let here : f b ≡ true = ap f (sym (eqb-true p.0 b e)) ∙ k in
        ap (λ t. last_stated b (filter (λ p. f p.0) ps) (cond t (Some p.1) before)) e ∙ rest (Some p.1)
        ∙ (λ j. cond (here j) (last_stated b ps (Some p.1)) (Some p.1))
        ∙ sym (λ j. cond (here j) (last_stated b ps (cond (e j) (Some p.1) before)) before)
    by true false e k rest =
        let here : f b ≡ false = ap f (sym (eqb-true p.0 b e)) ∙ k in
        rest before ∙ (λ j. cond (here j) (last_stated b ps before) before) ∙ sym (λ j. cond (here j) (last_stated b ps (cond (e j) (Some p.1) before)) before)
    by false true e k rest = ap (λ t. last_stated b (filter (λ p. f p.0) ps) (cond t (Some p.1) before)) e ∙ rest before ∙ sym (ap (λ t. cond (f b) (last_stated b ps (cond t (Some p.1) before)) before) e)
    by false false e k rest = rest before ∙ sym (ap (λ t. cond (f b) (last_stated b ps (cond t (Some p.1) before)) before) e)

-- the block is taken, or it is not
pub stated-taken : (items : List PlainItem) (b : ℕ) (old : Option ℕ) (r : Option ℕ) → is_taken_by items b ≡ true → r ≡ last_stated b (flat_map block_sums_of items) old → r ≡ last_stated b (written_by items) old
stated-taken items b old r t e = e ∙ sym (stated-filter (is_taken_by items) b (flat_map block_sums_of items) old ∙ ap (λ x. cond x (last_stated b (flat_map block_sums_of items) old) old) t)

pub stated-untaken : (items : List PlainItem) (b : ℕ) (old : Option ℕ) → is_taken_by items b ≡ false → old ≡ last_stated b (written_by items) old
stated-untaken items b old t = sym (stated-filter (is_taken_by items) b (flat_map block_sums_of items) old ∙ ap (λ x. cond x (last_stated b (flat_map block_sums_of items) old) old) t)

-- ---- what was found

found_contained : (found : List (ℕ × ℕ)) (b x : ℕ) → is_found found b x ≡ true → Contains found (b, x)
found_contained [] b x e = absurd (cc)
found_contained (p ∷ ps) b x e = by (p.0 == b) (p.1 == x) refl refl (found_contained ps b x) e
  where
    later_one : Contains ps (b, x) → Contains (p ∷ ps) (b, x)
    later_one (k, lt, is) = (suc k, omega arith, is)

    by : (s t : Bool) → (p.0 == b) ≡ s → (p.1 == x) ≡ t → (is_found ps b x ≡ true → Contains ps (b, x)) → ((s && t) || is_found ps b x) ≡ true → Contains (p ∷ ps) (b, x)
    by true true f g later h = (0, omega arith, λ i. (eqb-true p.0 b f i, eqb-true p.1 x g i))
    by true false f g later h = later_one (later h)
    by false t f g later h = later_one (later h)

contained_found : (found : List (ℕ × ℕ)) (b x : ℕ) → Contains found (b, x) → is_found found b x ≡ true
contained_found [] b x (k, lt, is) = absurd (omega arith)
contained_found (p ∷ ps) b x (zero, lt, is) = (λ i. (eq-eqb p.0 b (ap (λ (r : ℕ × ℕ). r.0) is) i && eq-eqb p.1 x (ap (λ (r : ℕ × ℕ). r.1) is) i) || is_found ps b x)
contained_found (p ∷ ps) b x (suc k, lt, is) = ap (λ t. (p.0 == b && p.1 == x) || t) (contained_found ps b x (k, omega arith, is)) ∙ true_last (p.0 == b && p.1 == x)
  where
    true_last : (t : Bool) → (t || true) ≡ true
    true_last true = refl
    true_last false = refl

-- a live block with this sum was found, or it was not
pub as_stated : (txns : List (ℕ × List PlainItem)) (found : List (ℕ × ℕ)) (b sum : ℕ) (r : Bool) → live_sum txns b ≡ Some sum → r ≡ is_found found b sum → IsTrue r ↔ IsAsStated txns found b
as_stated txns found b sum r live is = by r is
  where
    by : (t : Bool) → t ≡ is_found found b sum → IsTrue t ↔ IsAsStated txns found b
    by true e = (
      λ _. λ other o. let both : Some sum ≡ Some other = sym live ∙ o in let same : sum ≡ other = cc in subst (λ x. Contains found (b, x)) same (found_contained found b sum (sym e)),
      λ _. refl,
    )
    by false e = (
      λ t. absurd (cc t),
      λ holds. let told : is_found found b sum ≡ true = contained_found found b sum (holds sum live) in absurd (cc (told, e)),
    )
