-- Rows of blocks of the device, put one behind the other.
use Rattle.std.proofs.Common.{◌≡◌, ◌⊎◌, inl, inr, ℕ, zero, suc, ◌+◌, ◌-◌, ◌<◌, ◌≤◌, ◌==◌, ◌&&◌, ◌||◌, Bool, true, false, cond, List, [], ◌∷◌, ◌++◌, length, drop, Option, Some, None, refl, sym, ap, subst, ◌∙◌, arith, eq-eqb}
use Rattle.std.specs.Prelude.{nat_le, nat_lt}
use Rattle.std.proofs.lemmas.Bool.{cases_Bool, cases_lt, ne_eqb}
use Rattle.std.proofs.lemmas.List.{append_assoc, append-nil, get_or-drop, get_or-take, length-drop, map-append}
use Rattle.fx_item.specs.Item.{PlainItem, IsItem, TakenValue, item_of, items_of}
use Rattle.fx_item.specs.declared.item.Item.{Item}
use Rattle.fx_item.specs.Overlay.{Point, AtKey, AtFileBlock, AtDeviceBlock, Entry, ValueEntry, or_older, says}
use Rattle.fx_item.specs.declared.item.TheConstants.{MAX_DEVICE_BLOCKS}
use Rattle.fx_item.proofs.Covered.{device_upto}
use Rattle.fx_item.proofs.Follow.{follow_holds}
use Rattle.fx_item.proofs.PlaceOrder.{upto_le}
use Rattle.fx_extent.specs.Allocations.{AreAllocationsOf, AreAscending, GoesFirst, IsFirstRow, IsLongestRow, ShareNone, are_one_range, lists_block, nth_number, range_item, said_by}
use Rattle.fx_extent.proofs.Chains.{Follows, GoOn, chain_ascending, chain_each, chain_joined, says_append}

-- ---- a row at the front of a list

abbrev in_row : ℕ → ℕ → ℕ → Bool
in_row s n b = nat_le s b && nat_lt b (s + n)

among_row : (b : ℕ) (xs : List ℕ) (s n : ℕ) → n ≤ length xs → ((k : ℕ) → k < n → nth_number xs k ≡ s + k) → lists_block xs b ≡ (in_row s n b || lists_block (drop n xs) b)
among_row b xs s zero le h =
    let none : in_row s 0 b ≡ false = grind (arith) in
    sym (ap (λ t. t || lists_block xs b) none)
among_row b [] s (suc n) le h = absurd (omega (arith, le))
among_row b (x ∷ xs) s (suc n) le h =
    let here : x ≡ s = h 0 (omega arith) ∙ omega arith in
    let test : ((s == b) || in_row (s + 1) n b) ≡ in_row s (suc n) b = grind (arith) in
    (λ j. (here j == b) || among_row b xs (s + 1) n (omega (arith, le)) (λ k lt. h (suc k) (omega (arith, lt)) ∙ omega arith) j)
    ∙ or_assoc (s == b) (in_row (s + 1) n b) (lists_block (drop n xs) b) ∙ ap (λ t. t || lists_block (drop n xs) b) test
  where
    or_assoc : (a c d : Bool) → (a || (c || d)) ≡ ((a || c) || d)
    or_assoc true c d = refl
    or_assoc false c d = refl

ascending_drop : (i : ℕ) (xs : List ℕ) (n : ℕ) → AreAscending i xs → n ≤ length xs → ((k : ℕ) → k < n → nth_number xs k ≡ i + k) → AreAscending (i + n) (drop n xs)
ascending_drop i xs zero r le h = let e : i ≡ i + 0 = omega arith in subst (λ m. AreAscending m xs) e r
ascending_drop i [] (suc n) r le h = absurd (omega (arith, le))
ascending_drop i (x ∷ xs) (suc n) r le h =
    let here : x + 1 ≡ i + 1 = omega (arith, h 0 (omega arith)) in
    let e : i + 1 + n ≡ i + suc n = omega arith in
    subst (λ m. AreAscending m (drop n xs)) e
    (ascending_drop (i + 1) xs n (subst (λ m. AreAscending m xs) here r.2) (omega (arith, le)) (λ k lt. h (suc k) (omega (arith, lt)) ∙ omega arith))

ascending_first : (least : ℕ) (xs : List ℕ) → AreAscending least xs → 0 < length xs → (least ≤ nth_number xs 0) × AreAscending (nth_number xs 0) xs
ascending_first least [] r some = absurd (omega (arith, some))
ascending_first least (x ∷ xs) r some = let same : x ≤ x = omega arith in (r.0, (same, r.1, r.2))

ascending_at : (least : ℕ) (xs : List ℕ) (k : ℕ) → AreAscending least xs → k < length xs → nth_number xs k < MAX_DEVICE_BLOCKS
ascending_at least [] k r lt = absurd (omega (arith, lt))
ascending_at least (x ∷ xs) zero r lt = r.1
ascending_at least (x ∷ xs) (suc k) r lt = ascending_at (x + 1) xs k r.2 (omega (arith, lt))

pub ascending_any : (least : ℕ) (xs : List ℕ) → AreAscending least xs → AreAscending 0 xs
ascending_any least [] r = tt
ascending_any least (x ∷ xs) r = let from : 0 ≤ x = omega arith in (from, r.1, r.2)

share_swap : (xs ys : List ℕ) → ShareNone xs ys → ShareNone ys xs
share_swap xs ys h b e = by (lists_block xs b) refl
  where
    by : (t : Bool) → lists_block xs b ≡ t → t ≡ false
    by true f = absurd (cc (sym (h b f) ∙ e))
    by false f = refl

-- ---- the items so far

-- the list of the taken ones, or that of the free ones
abbrev mine : Bool → List ℕ → List ℕ → List ℕ
mine k taken freed = cond k taken freed

-- The last item is a range that ends before the place, and that does not go on on its list.
pub record IsLastRow (least : ℕ) (taken freed : List ℕ) (y : PlainItem) : Type 0 where
  pub kind : Bool
  pub start : ℕ
  pub count : ℕ
  pub is : y ≡ range_item kind start count
  pub good : IsItem (range_item kind start count)
  pub ends : start + count ≤ least
  pub apart : 0 < length (cond kind taken freed) → nth_number (cond kind taken freed) 0 ≡ start + count → ⊥

abbrev pub RowEndsBefore : ℕ → List ℕ → List ℕ → Option PlainItem → Type 0
RowEndsBefore least taken freed None = Unit {0}
RowEndsBefore least taken freed (Some y) = IsLastRow least taken freed y

pub record AllocationsSoFar (taken freed left free : List ℕ) (items : List PlainItem) : Type 0 where
  pub least : ℕ
  pub last : Option PlainItem
  pub rest : AreAscending least left
  pub others : AreAscending least free
  pub none : ShareNone left free
  pub before : RowEndsBefore least left free last
  pub chain : (ys : List PlainItem) → GoOn are_one_range last ys → GoOn are_one_range None (items ++ ys)
  pub said : (p : Point) → or_older (says items p) (said_by left free p) ≡ said_by taken freed p

pub allocations_begin : (taken freed : List ℕ) → AreAscending 0 taken → AreAscending 0 freed → ShareNone taken freed → AllocationsSoFar taken freed taken freed []
allocations_begin taken freed t f n = record { least = 0; last = None; rest = t; others = f; none = n; before = tt; chain = λ ys c. c; said = λ p. refl }

pub allocations_end : (taken freed left free : List ℕ) (items : List PlainItem) → length left ≡ 0 → length free ≡ 0 → AllocationsSoFar taken freed left free items → AreAllocationsOf taken freed items
allocations_end taken freed [] [] items d e s =
    let chain : GoOn are_one_range None items = subst (GoOn are_one_range None) (append-nil items) (s.chain [] tt) in
    record {
      said = λ p. alone (says items p) p ∙ s.said p;
      each = chain_each are_one_range None items chain;
      ascending = chain_ascending are_one_range None items chain;
      joined = chain_joined are_one_range None items chain;
    }
  where
    alone : (o : Option (Option Entry)) (p : Point) → o ≡ or_older o (said_by [] [] p)
    alone (Some x) p = refl
    alone None (AtKey key) = refl
    alone None (AtFileBlock s i n) = refl
    alone None (AtDeviceBlock b) = refl
allocations_end taken freed (x ∷ xs) free items d e s = absurd (omega (arith, d))
allocations_end taken freed [] (x ∷ xs) items d e s = absurd (omega (arith, e))

-- ---- one more row

-- what two lists say, the first of which is of the kind k
abbrev pub said_both : Bool → List ℕ → List ℕ → Point → Option (Option Entry)
said_both k xs others p = cond k (said_by xs others p) (said_by others xs p)

module _ (xs others : List ℕ) (n : ℕ) (goes : GoesFirst xs others) (h : IsLongestRow xs n) (shares : ShareNone xs others) where
  among : (b : ℕ) → lists_block xs b ≡ (in_row (nth_number xs 0) n b || lists_block (drop n xs) b)
  among b = among_row b xs (nth_number xs 0) n h.within h.row

  row_in : (b : ℕ) → in_row (nth_number xs 0) n b ≡ true → lists_block others b ≡ false
  row_in b e = shares b (among b ∙ ap (λ t. t || lists_block (drop n xs) b) e)

  says_row : (k : Bool) (p : Point) → or_older (says (range_item k (nth_number xs 0) n ∷ []) p) (said_both k (drop n xs) others p) ≡ said_both k xs others p
  says_row true (AtKey key) = refl
  says_row false (AtKey key) = refl
  says_row true (AtFileBlock s i m) = refl
  says_row false (AtFileBlock s i m) = refl
  says_row true (AtDeviceBlock b) = by (in_row (nth_number xs 0) n b) ∙ sym (ap (λ t. cond t taken_there (cond (lists_block others b) (Some None) None)) (among b))
    where
      taken_there : Option (Option Entry)
      taken_there = Some (Some (ValueEntry TakenValue))

      by : (w : Bool) → or_older (cond w (Some (Some (ValueEntry TakenValue))) None) (cond (lists_block (drop n xs) b) (Some (Some (ValueEntry TakenValue))) (cond (lists_block others b) (Some None) None))
          ≡ cond (w || lists_block (drop n xs) b) (Some (Some (ValueEntry TakenValue))) (cond (lists_block others b) (Some None) None)
      by true = refl
      by false = refl
  says_row false (AtDeviceBlock b) = by (in_row (nth_number xs 0) n b) refl ∙ sym (ap (λ t. cond (lists_block others b) (Some (Some (ValueEntry TakenValue))) (cond t (Some None) None)) (among b))
    where
      by : (w : Bool) → in_row (nth_number xs 0) n b ≡ w
          → or_older (cond w (Some None) None) (cond (lists_block others b) (Some (Some (ValueEntry TakenValue))) (cond (lists_block (drop n xs) b) (Some None) None))
          ≡ cond (lists_block others b) (Some (Some (ValueEntry TakenValue))) (cond (w || lists_block (drop n xs) b) (Some None) None)
      by true e = sym (ap (λ t. cond t (Some (Some (ValueEntry TakenValue))) (Some None)) (row_in b e))
      by false e = refl

  -- the other list lies behind the row
  others_behind : (least : ℕ) → AreAscending least others → AreAscending (nth_number xs 0 + n) others
  others_behind least r = by others r goes.1 row_in
    where
      by : (ys : List ℕ) → AreAscending least ys → (0 < length ys → nth_number xs 0 ≤ nth_number ys 0)
          → ((b : ℕ) → in_row (nth_number xs 0) n b ≡ true → lists_block ys b ≡ false) → AreAscending (nth_number xs 0 + n) ys
      by [] r first out = tt
      by (y ∷ ys) r first out = (behind, r.1, r.2)
        where
          behind : nth_number xs 0 + n ≤ y
          behind = elim (cases_lt y (nth_number xs 0 + n)) [
            | inr past ↦ past
            | inl inside ↦
                let from : nth_number xs 0 ≤ y = first (omega arith) in
                let there : in_row (nth_number xs 0) n y ≡ true = grind (arith, from, inside) in
                let here : lists_block (y ∷ ys) y ≡ true = ap (λ t. t || lists_block ys y) (eq-eqb y y refl) in
                absurd (cc (sym here ∙ out y there))
          ]

  left_ascends : (least : ℕ) → AreAscending least xs → AreAscending (nth_number xs 0 + n) (drop n xs)
  left_ascends least r = ascending_drop (nth_number xs 0) xs n (ascending_first least xs r goes.0).1 h.within h.row

  left_shares : ShareNone (drop n xs) others
  left_shares b e = shares b (among b ∙ ap (λ t. in_row (nth_number xs 0) n b || t) e ∙ true_last (in_row (nth_number xs 0) n b))
    where
      true_last : (t : Bool) → (t || true) ≡ true
      true_last true = refl
      true_last false = refl

  pub row_fits : (least : ℕ) → AreAscending least xs → nth_number xs 0 + n ≤ MAX_DEVICE_BLOCKS
  row_fits least r =
      let last = ascending_at least xs (n - 1) r (omega (arith, h.some, h.within)) in
      omega (arith, last, h.row (n - 1) (omega (arith, h.some)), h.some)

  goes_no_further : 0 < length (drop n xs) → nth_number (drop n xs) 0 ≡ nth_number xs 0 + n → ⊥
  goes_no_further more e =
      let left : length (drop n xs) ≡ length xs - n = length-drop n xs in
      let here : n + 0 ≡ n = omega arith in
      h.longest (omega (arith, more, left)) (sym (get_or-drop n xs 0 0 ∙ ap (nth_number xs) here) ∙ e)

  -- the new item may stand behind the last one
  row_follows : (k : Bool) (least : ℕ) (last : Option PlainItem) (left free : List ℕ) → cond k left free ≡ xs → AreAscending least xs
      → IsItem (range_item k (nth_number xs 0) n) → RowEndsBefore least left free last → Follows are_one_range last (range_item k (nth_number xs 0) n)
  row_follows k least None left free same r good e = tt
  row_follows k least (Some y) left free same r good e = subst (λ z. Follows are_one_range (Some z) (range_item k (nth_number xs 0) n)) (sym e.is) (
    follow_holds (range_item e.kind e.start e.count).key (range_item k (nth_number xs 0) n).key e.good.key good.key
        ∙ upto_le (device_upto (e.start + e.count) (nth_number xs 0) (omega (arith, e.ends, (ascending_first least xs r goes.0).0))),
    no_join e.kind k e.apart same,
  )
    where
      differs : (a : ℕ) → (0 < length xs → nth_number xs 0 ≡ a → ⊥) → (a == nth_number xs 0) ≡ false
      differs a apart = ne_eqb a (nth_number xs 0) (λ f. apart goes.0 (sym f))

      no_join : (j k : Bool) → (0 < length (cond j left free) → nth_number (cond j left free) 0 ≡ e.start + e.count → ⊥) → cond k left free ≡ xs
          → are_one_range (range_item j e.start e.count) (range_item k (nth_number xs 0) n) ≡ false
      no_join true true apart same = differs (e.start + e.count) (subst (λ (ys : List ℕ). 0 < length ys → nth_number ys 0 ≡ e.start + e.count → ⊥) same apart)
      no_join false false apart same = differs (e.start + e.count) (subst (λ (ys : List ℕ). 0 < length ys → nth_number ys 0 ≡ e.start + e.count → ⊥) same apart)
      no_join true false apart same = refl
      no_join false true apart same = refl

older_assoc : (a b c : Option (Option Entry)) → or_older (or_older a b) c ≡ or_older a (or_older b c)
older_assoc None b c = refl
older_assoc (Some x) b c = refl

said_next : (items : List PlainItem) (x : PlainItem) (p : Point) (rest before all : Option (Option Entry)) → or_older (says (x ∷ []) p) rest ≡ before → or_older (says items p) before ≡ all
    → or_older (says (items ++ x ∷ []) p) rest ≡ all
said_next items x p rest before all e f =
    ap (λ o. or_older o rest) (says_append items (x ∷ []) p) ∙ older_assoc (says items p) (says (x ∷ []) p) rest ∙ ap (or_older (says items p)) e ∙ f

module _ (taken freed left free row : List ℕ) (items : List PlainItem) (s : AllocationsSoFar taken freed left free items) where
  pub taken_more : (after : List ℕ) → IsFirstRow left free row after → IsItem (range_item true (nth_number left 0) (length row))
      → AllocationsSoFar taken freed after free (items ++ range_item true (nth_number left 0) (length row) ∷ [])
  taken_more after f good = subst (λ ys. AllocationsSoFar taken freed ys free (items ++ range_item true (nth_number left 0) (length row) ∷ [])) (sym f.back) (record {
    least = nth_number left 0 + length row;
    last = Some (range_item true (nth_number left 0) (length row));
    rest = left_ascends left free (length row) f.goes f.longest s.none s.least s.rest;
    others = others_behind left free (length row) f.goes f.longest s.none s.least s.others;
    none = left_shares left free (length row) f.goes f.longest s.none;
    before = record { kind = true; start = nth_number left 0; count = length row; is = refl; good = good; ends = omega arith; apart = goes_no_further left free (length row) f.goes f.longest s.none };
    chain = λ ys c. subst (GoOn are_one_range None) (sym (append_assoc items (range_item true (nth_number left 0) (length row) ∷ []) ys))
        (s.chain (range_item true (nth_number left 0) (length row) ∷ ys) (good, row_follows left free (length row) f.goes f.longest s.none true s.least s.last left free refl s.rest good s.before, c));
    said = λ p. said_next items (range_item true (nth_number left 0) (length row)) p (said_by (drop (length row) left) free p) (said_by left free p) (said_by taken freed p) (says_row left free (length row) f.goes f.longest s.none true p) (s.said p);
  })

  pub freed_more : (after : List ℕ) → IsFirstRow free left row after → IsItem (range_item false (nth_number free 0) (length row))
      → AllocationsSoFar taken freed left after (items ++ range_item false (nth_number free 0) (length row) ∷ [])
  freed_more after f good =
      let swapped = share_swap left free s.none in
      subst (λ ys. AllocationsSoFar taken freed left ys (items ++ range_item false (nth_number free 0) (length row) ∷ [])) (sym f.back) (record {
        least = nth_number free 0 + length row;
        last = Some (range_item false (nth_number free 0) (length row));
        rest = others_behind free left (length row) f.goes f.longest swapped s.least s.rest;
        others = left_ascends free left (length row) f.goes f.longest swapped s.least s.others;
        none = share_swap (drop (length row) free) left (left_shares free left (length row) f.goes f.longest swapped);
        before = record { kind = false; start = nth_number free 0; count = length row; is = refl; good = good; ends = omega arith; apart = goes_no_further free left (length row) f.goes f.longest swapped };
        chain = λ ys c. subst (GoOn are_one_range None) (sym (append_assoc items (range_item false (nth_number free 0) (length row) ∷ []) ys))
            (s.chain (range_item false (nth_number free 0) (length row) ∷ ys) (good, row_follows free left (length row) f.goes f.longest swapped false s.least s.last left free refl s.others good s.before, c));
        said = λ p. said_next items (range_item false (nth_number free 0) (length row)) p (said_by left (drop (length row) free) p) (said_by left free p) (said_by taken freed p) (says_row free left (length row) f.goes f.longest swapped false p) (s.said p);
      })

-- ---- the same as the loop has it

row_first : (xs others row after : List ℕ) → IsFirstRow xs others row after → nth_number row 0 ≡ nth_number xs 0
row_first xs others row after f = ap (λ ys. nth_number ys 0) f.front ∙ get_or-take (length row) xs 0 0 f.longest.some

items_more : (old new : List Item) (x : Item) (y : PlainItem) → new ≡ old ++ x ∷ [] → item_of x ≡ y → items_of old ++ y ∷ [] ≡ items_of new
items_more old new x y pushed is = (λ j. items_of old ++ sym is j ∷ []) ∙ sym (map-append item_of old (x ∷ [])) ∙ ap items_of (sym pushed)

module _ (taken freed left free row after_taken after_freed : List ℕ) (k : Bool)
    (first : k ≡ true → (after_freed ≡ free) × IsFirstRow left free row after_taken)
    (second : k ≡ false → (after_taken ≡ left) × IsFirstRow free left row after_freed) where
  pub rows_step : (old new : List Item) (x : Item) → new ≡ old ++ x ∷ [] → item_of x ≡ range_item k (nth_number row 0) (length row)
      → IsItem (range_item k (nth_number row 0) (length row)) → AllocationsSoFar taken freed left free (items_of old) → AllocationsSoFar taken freed after_taken after_freed (items_of new)
  rows_step old new x pushed is good s = by (cases_Bool k)
    where
      by : (k ≡ true) ⊎ (k ≡ false) → AllocationsSoFar taken freed after_taken after_freed (items_of new)
      by (inl e) =
          let f = first e in
          let item : range_item k (nth_number row 0) (length row) ≡ range_item true (nth_number left 0) (length row) = λ j. range_item (e j) (row_first left free row after_taken f.1 j) (length row) in
          let more = taken_more taken freed left free row (items_of old) s after_taken f.1 (subst IsItem item good) in
          subst (λ ys. AllocationsSoFar taken freed after_taken ys (items_of new)) (sym f.0)
          (subst (AllocationsSoFar taken freed after_taken free) (items_more old new x (range_item true (nth_number left 0) (length row)) pushed (is ∙ item)) more)
      by (inr e) =
          let f = second e in
          let item : range_item k (nth_number row 0) (length row) ≡ range_item false (nth_number free 0) (length row) = λ j. range_item (e j) (row_first free left row after_freed f.1 j) (length row) in
          let more = freed_more taken freed left free row (items_of old) s after_freed f.1 (subst IsItem item good) in
          subst (λ ys. AllocationsSoFar taken freed ys after_freed (items_of new)) (sym f.0)
          (subst (AllocationsSoFar taken freed left after_freed) (items_more old new x (range_item false (nth_number free 0) (length row)) pushed (is ∙ item)) more)

  pub rows_fit : (items : List PlainItem) → AllocationsSoFar taken freed left free items → (0 < length row) × (nth_number row 0 + length row ≤ MAX_DEVICE_BLOCKS)
  rows_fit items s = by (cases_Bool k)
    where
      by : (k ≡ true) ⊎ (k ≡ false) → (0 < length row) × (nth_number row 0 + length row ≤ MAX_DEVICE_BLOCKS)
      by (inl e) =
          let f = first e in
          let fits = row_fits left free (length row) f.1.goes f.1.longest s.none s.least s.rest in
          (f.1.longest.some, omega (arith, fits, row_first left free row after_taken f.1))
      by (inr e) =
          let f = second e in
          let fits = row_fits free left (length row) f.1.goes f.1.longest (share_swap left free s.none) s.least s.others in
          (f.1.longest.some, omega (arith, fits, row_first free left row after_freed f.1))

  pub rows_less : length after_taken + length after_freed < length left + length free
  rows_less = by (cases_Bool k)
    where
      by : (k ≡ true) ⊎ (k ≡ false) → length after_taken + length after_freed < length left + length free
      by (inl e) =
          let f = first e in
          let gone : length after_taken ≡ length left - length row = ap length f.1.back ∙ length-drop (length row) left in
          let same : length after_freed ≡ length free = ap length f.0 in
          omega (arith, gone, same, f.1.longest.some, f.1.longest.within)
      by (inr e) =
          let f = second e in
          let gone : length after_freed ≡ length free - length row = ap length f.1.back ∙ length-drop (length row) free in
          let same : length after_taken ≡ length left = ap length f.0 in
          omega (arith, gone, same, f.1.longest.some, f.1.longest.within)
