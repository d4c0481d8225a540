-- Runs of new blocks, and what their extents say.
use Rattle.std.proofs.Common.{◌≡◌, inl, inr, ℕ, zero, suc, ◌+◌, ◌-◌, ◌<◌, ◌≤◌, ◌==◌, ◌&&◌, Bool, true, false, cond, List, [], ◌∷◌, ◌++◌, map, length, take, drop, get_or, Option, Some, None, refl, sym, ap, subst, ◌∙◌, arith, eq-eqb}
use Rattle.std.specs.Prelude.{nat_le, nat_lt, option_map}
use Rattle.std.specs.List.{find}
use Rattle.std.specs.Option.{option_or}
use Rattle.std.proofs.lemmas.Bool.{cases_order, ne_eqb}
use Rattle.std.proofs.lemmas.List.{take-append-drop}
use Rattle.std.proofs.lemmas.List.Folds.{find-append}
use Rattle.fx_item.specs.Overlay.{Point, AtKey, AtFileBlock, AtDeviceBlock, Entry, BlockEntry, or_older, says}
use Rattle.fx_item.specs.declared.item.TheConstants.{MAX_DEVICE_BLOCKS, MAX_FILE_BLOCKS}
use Rattle.fx_item.specs.declared.lock.LockKey.{LockKey}
use Rattle.fx_extent.specs.declared.storing.NewBlock.{NewBlock}
use Rattle.fx_extent.specs.Staged.{AreInPlaces, nth_block, new_entry, run_item, said_of}

-- The blocks are these, one after another, from a place and a block on.
abbrev pub IsRunFrom : ℕ → ℕ → List NewBlock → Type 0
IsRunFrom i b [] = Unit {0}
IsRunFrom i b (x ∷ xs) = (x.index ≡ i) × (x.block ≡ b) × IsRunFrom (i + 1) (b + 1) xs

pub run_from : (xs : List NewBlock) (i b : ℕ)
    → ((k : ℕ) → k < length xs → ((nth_block xs k).index ≡ i + k) × ((nth_block xs k).block ≡ b + k)) → IsRunFrom i b xs
run_from [] i b h = tt
run_from (x ∷ xs) i b h =
    let first = h 0 (omega arith) in (
      first.0 ∙ omega arith,
      first.1 ∙ omega arith,
      run_from xs (i + 1) (b + 1) (λ k lt. let next = h (suc k) (omega (arith, lt)) in (next.0 ∙ omega arith, next.1 ∙ omega arith)),
    )

-- what the sums of a run say at a place
abbrev run_entry : ℕ → ℕ → List NewBlock → ℕ → Option (Option Entry)
run_entry i b xs n = Some (Some (BlockEntry (b + (n - i)) (get_or (map (λ x. x.sum) xs) (n - i) 0)))

find_run : (xs : List NewBlock) (i b n : ℕ) → IsRunFrom i b xs
    → option_map new_entry (find (λ x. x.index == n) xs) ≡ cond (nat_le i n && nat_lt n (i + length xs)) (run_entry i b xs n) None
find_run [] i b n r =
    let none : (nat_le i n && nat_lt n (i + 0)) ≡ false = grind (arith) in
    sym (ap (λ t. cond t (run_entry i b [] n) None) none)
find_run (x ∷ xs) i b n r = elim (cases_order i n) [
  | inl same ↦
      let here : (x.index == n) ≡ true = eq-eqb x.index n (r.0 ∙ same) in
      let test : (nat_le i n && nat_lt n (i + suc (length xs))) ≡ true = grind (arith, same) in
      let zero_in : n - i ≡ 0 = omega (arith, same) in
      let block : b + (n - i) ≡ x.block = omega (arith, same, r.1) in
      ap (λ t. option_map new_entry (cond t (Some x) (find (λ y. y.index == n) xs))) here
      ∙ sym (
      ap (λ t. cond t (run_entry i b (x ∷ xs) n) None) test
      ∙ (λ j. Some (Some (BlockEntry (block j) (get_or (map (λ (y : NewBlock). y.sum) (x ∷ xs)) (zero_in j) 0))))
      )
  | inr (inl less) ↦
      let past : (x.index == n) ≡ false = ne_eqb x.index n (λ e. absurd (omega (arith, less, r.0, e))) in
      let test : (nat_le (i + 1) n && nat_lt n (i + 1 + length xs)) ≡ (nat_le i n && nat_lt n (i + suc (length xs))) = grind (arith, less) in
      let next : n - i ≡ suc (n - (i + 1)) = omega (arith, less) in
      let block : b + 1 + (n - (i + 1)) ≡ b + (n - i) = omega (arith, less) in
      ap (λ t. option_map new_entry (cond t (Some x) (find (λ y. y.index == n) xs))) past
      ∙ find_run xs (i + 1) (b + 1) n r.2
      ∙ (λ j. cond (test j) (Some (Some (BlockEntry (block j) (get_or (map (λ (y : NewBlock). y.sum) xs) (n - (i + 1)) 0)))) None)
      ∙ ap (λ m. cond (nat_le i n && nat_lt n (i + suc (length xs))) (Some (Some (BlockEntry (b + (n - i)) (get_or (map (λ (y : NewBlock). y.sum) (x ∷ xs)) m 0)))) None) (sym next)
  | inr (inr more) ↦
      let past : (x.index == n) ≡ false = ne_eqb x.index n (λ e. absurd (omega (arith, more, r.0, e))) in
      let first : (nat_le (i + 1) n && nat_lt n (i + 1 + length xs)) ≡ false = grind (arith, more) in
      let test : (nat_le i n && nat_lt n (i + suc (length xs))) ≡ false = grind (arith, more) in
      ap (λ t. option_map new_entry (cond t (Some x) (find (λ y. y.index == n) xs))) past
      ∙ find_run xs (i + 1) (b + 1) n r.2
      ∙ ap (λ t. cond t (run_entry (i + 1) (b + 1) xs n) None) first
      ∙ sym (ap (λ t. cond t (run_entry i b (x ∷ xs) n) None) test)
]

-- the extent of a run says what its blocks say
pub says_run : (at : LockKey) (run : List NewBlock) → IsRunFrom (nth_block run 0).index (nth_block run 0).block run
    → (p : Point) → says (run_item at run ∷ []) p ≡ said_of at run p
says_run at run r (AtKey key) = refl
says_run at run r (AtDeviceBlock block) = refl
says_run at run r (AtFileBlock s i n) = by (at.store == s) (at.id == i)
  where
    first : NewBlock
    first = nth_block run 0

    by : (a b : Bool) → cond (((a && b) && nat_le (nth_block run 0).index n) && nat_lt n ((nth_block run 0).index + length run)) (run_entry (nth_block run 0).index (nth_block run 0).block run n) None
        ≡ cond (a && b) (option_map new_entry (find (λ x. x.index == n) run)) None
    by true true = sym (find_run run (nth_block run 0).index (nth_block run 0).block n r)
    by true false = refl
    by false b = refl

said_append : (at : LockKey) (xs ys : List NewBlock) (p : Point) → said_of at (xs ++ ys) p ≡ or_older (said_of at xs p) (said_of at ys p)
said_append at xs ys (AtKey key) = refl
said_append at xs ys (AtDeviceBlock block) = refl
said_append at xs ys (AtFileBlock s i n) = by (at.store == s && at.id == i)
  where
    either : (a b : Option NewBlock) → option_map new_entry (option_or a b) ≡ or_older (option_map new_entry a) (option_map new_entry b)
    either None b = refl
    either (Some x) b = refl

    by : (t : Bool) → cond t (option_map new_entry (find (λ x. x.index == n) (xs ++ ys))) None
        ≡ or_older (cond t (option_map new_entry (find (λ x. x.index == n) xs)) None) (cond t (option_map new_entry (find (λ x. x.index == n) ys)) None)
    by true = ap (option_map new_entry) (find-append (λ (x : NewBlock). x.index == n) xs ys) ∙ either (find (λ x. x.index == n) xs) (find (λ x. x.index == n) ys)
    by false = refl

pub said_split : (at : LockKey) (blocks : List NewBlock) (n : ℕ) (p : Point) → said_of at blocks p ≡ or_older (said_of at (take n blocks) p) (said_of at (drop n blocks) p)
said_split at blocks n p = ap (λ xs. said_of at xs p) (sym (take-append-drop n blocks)) ∙ said_append at (take n blocks) (drop n blocks) p

-- ---- blocks whose places rise

pub rising_at : (least : ℕ) (xs : List NewBlock) (k : ℕ) → AreInPlaces least xs → k < length xs
    → ((nth_block xs k).index < MAX_FILE_BLOCKS) × ((nth_block xs k).block < MAX_DEVICE_BLOCKS)
rising_at least [] k r lt = absurd (omega (arith, lt))
rising_at least (x ∷ xs) zero r lt = (r.1, r.2)
rising_at least (x ∷ xs) (suc k) r lt = rising_at (x.index + 1) xs k r.3 (omega (arith, lt))

pub rising_first : (least : ℕ) (xs : List NewBlock) → AreInPlaces least xs → 0 < length xs → least ≤ (nth_block xs 0).index
rising_first least [] r lt = absurd (omega (arith, lt))
rising_first least (x ∷ xs) r lt = r.0

-- behind a run
rising_drop : (i : ℕ) (xs : List NewBlock) (n : ℕ) → AreInPlaces i xs → n ≤ length xs → ((k : ℕ) → k < n → (nth_block xs k).index ≡ i + k) → AreInPlaces (i + n) (drop n xs)
rising_drop i xs zero r le h = let e : i ≡ i + 0 = omega arith in subst (λ m. AreInPlaces m xs) e r
rising_drop i [] (suc n) r le h = absurd (omega (arith, le))
rising_drop i (x ∷ xs) (suc n) r le h =
    let here : x.index + 1 ≡ i + 1 = omega (arith, h 0 (omega arith)) in
    let e : i + 1 + n ≡ i + suc n = omega arith in
    subst (λ m. AreInPlaces m (drop n xs)) e
    (rising_drop (i + 1) xs n (subst (λ m. AreInPlaces m xs) here r.3) (omega (arith, le)) (λ k lt. h (suc k) (omega (arith, lt)) ∙ omega arith))

pub rising_behind : (least : ℕ) (xs : List NewBlock) (n : ℕ) → AreInPlaces least xs → 0 < n → n ≤ length xs
    → ((k : ℕ) → k < n → (nth_block xs k).index ≡ (nth_block xs 0).index + k) → AreInPlaces ((nth_block xs 0).index + n) (drop n xs)
rising_behind least [] n r some le h = absurd (omega (arith, some, le))
rising_behind least (x ∷ xs) n r some le h = rising_drop x.index (x ∷ xs) n (let same : x.index ≤ x.index = omega arith in (same, r.1, r.2, r.3)) le h

pub rising_any : (least : ℕ) (xs : List NewBlock) → AreInPlaces least xs → AreInPlaces 0 xs
rising_any least [] r = tt
rising_any least (x ∷ xs) r = let from : 0 ≤ x.index = omega arith in (from, r.1, r.2, r.3)
