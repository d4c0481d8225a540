-- A list of marks and the set of the numbers that are marked.
use Rattle.std.proofs.Common.{◌≡◌, ℕ, zero, suc, ◌+◌, ◌-◌, ◌<◌, ◌≤◌, Bool, true, false, ◌||◌, List, [], ◌∷◌, ◌++◌, length, take, drop, replicate, get_or, cond, refl, sym, ap, ◌∙◌, arith, nat_eq, inl, inr, length-append, length-take}
use Rattle.std.specs.Ordering.{nat_cmp}
use Rattle.std.specs.Cmp.{nat_cmp_total}
use Rattle.std.specs.List.{list_any, count_by, range_with_len}
use Rattle.std.specs.FinSet as set
use Rattle.std.specs.FinMap.{nat_cmp-IsAntisymmetric}
use Rattle.std.proofs.Math.ListN.{get_or-append, length-replicate}
use Rattle.std.proofs.lemmas.Bool.{cases_lt}
use Rattle.std.proofs.lemmas.List.{get_or-append_right, get_or-drop, get_or-replicate, get_or-take}
use Rattle.std.proofs.lemmas.List.Recursion.{is_count_by}
use Rattle.fx_plain.specs.Memory.{marked, places_from}

apart : (n q : ℕ) → q < n → nat_eq n q ≡ false
apart n q h = grind arith

below : (n q : ℕ) → n < q → nat_eq n q ≡ false
below n q h = grind arith

same : (n q : ℕ) → n ≡ q → nat_eq n q ≡ true
same n q h = grind arith

places_above : (n : ℕ) (marks : List Bool) (q : ℕ) → q < n → list_any (λ y. nat_eq y q) (places_from n marks) ≡ false
places_above n [] q h = refl
places_above n (true ∷ marks) q h = ap (λ b. b || list_any (λ y. nat_eq y q) (places_from (suc n) marks)) (apart n q h) ∙ places_above (suc n) marks q (omega arith)
places_above n (false ∷ marks) q h = places_above (suc n) marks q (omega arith)

places_at : (n : ℕ) (marks : List Bool) (i q : ℕ) → n + i ≡ q → list_any (λ y. nat_eq y q) (places_from n marks) ≡ get_or marks i false
places_at n [] i q e = refl
places_at n (true ∷ marks) zero q e = ap (λ b. b || list_any (λ y. nat_eq y q) (places_from (suc n) marks)) (same n q (omega arith))
places_at n (true ∷ marks) (suc i) q e = ap (λ b. b || list_any (λ y. nat_eq y q) (places_from (suc n) marks)) (below n q (omega arith)) ∙ places_at (suc n) marks i q (omega arith)
places_at n (false ∷ marks) zero q e = places_above (suc n) marks q (omega arith)
places_at n (false ∷ marks) (suc i) q e = places_at (suc n) marks i q (omega arith)

-- a number is in the set where its mark is set
pub contains-marked : (marks : List Bool) (q : ℕ) → set.contains (marked marks) q ≡ get_or marks q false
contains-marked marks q = set.contains-from_list_nat (places_from 0 marks) q ∙ places_at 0 marks q q (omega arith)

set_marks : List Bool → ℕ
set_marks [] = 0
set_marks (true ∷ marks) = 1 + set_marks marks
set_marks (false ∷ marks) = set_marks marks

set_marks-cons : (mark : Bool) (marks : List Bool) → set_marks (mark ∷ marks) ≡ cond mark (1 + set_marks marks) (set_marks marks)
unfolding set_marks
set_marks-cons true marks = refl
set_marks-cons false marks = refl

len-places : (n : ℕ) (marks : List Bool) → set.len (set.from_list {R = nat_cmp} (places_from n marks)) ≡ set_marks marks
unfolding set_marks
len-places n [] = set.len-empty nat_cmp
len-places n (true ∷ marks) =
    let rest = set.from_list {R = nat_cmp} (places_from (suc n) marks) in
    set.len-insert nat_cmp_total rest n
    ∙ ap (λ b. cond b (set.len rest) (set.len rest + 1)) (set.contains-from_list_nat (places_from (suc n) marks) n ∙ places_above (suc n) marks n (omega arith))
    ∙ ap (λ k. k + 1) (len-places (suc n) marks) ∙ omega arith
len-places n (false ∷ marks) = len-places (suc n) marks

set_marks-nil : set_marks [] ≡ 0
unfolding set_marks
set_marks-nil = refl

-- the set has as many numbers as marks are set
pub len-marked : (marks : List Bool) → set.len (marked marks) ≡ count_by (λ b. b) marks
len-marked marks = len-places 0 marks ∙ is_count_by set_marks (λ b. b) set_marks-nil set_marks-cons marks

none_at : (m q : ℕ) → get_or (replicate m false) q false ≡ false
none_at zero q = refl
none_at (suc m) zero = refl
none_at (suc m) (suc q) = none_at m q

padded : (marks : List Bool) (m q : ℕ) → get_or (marks ++ replicate m false) q false ≡ get_or marks q false
padded [] m q = none_at m q
padded (b ∷ marks) m zero = refl
padded (b ∷ marks) m (suc q) = padded marks m q

-- marks that are not set add nothing
pub marked-append : (marks : List Bool) (m : ℕ) → marked (marks ++ replicate m false) ≡ marked marks
marked-append marks m = set.same_set nat_cmp_total nat_cmp-IsAntisymmetric _ _ (λ q. contains-marked _ q ∙ padded marks m q ∙ sym (contains-marked marks q))

range_above : (a n q : ℕ) → q < a → list_any (λ y. nat_eq y q) (range_with_len a n) ≡ false
range_above a zero q h = refl
range_above a (suc n) q h = ap (λ b. b || list_any (λ y. nat_eq y q) (range_with_len (a + 1) n)) (apart a q h) ∙ range_above (a + 1) n q (omega arith)

range_past : (a n q : ℕ) → a + n ≤ q → list_any (λ y. nat_eq y q) (range_with_len a n) ≡ false
range_past a zero q h = refl
range_past a (suc n) q h = ap (λ b. b || list_any (λ y. nat_eq y q) (range_with_len (a + 1) n)) (below a q (omega arith)) ∙ range_past (a + 1) n q (omega arith)

range_within : (a n i q : ℕ) → a + i ≡ q → i < n → list_any (λ y. nat_eq y q) (range_with_len a n) ≡ true
range_within a zero i q e h = absurd (omega arith)
range_within a (suc n) zero q e h = ap (λ b. b || list_any (λ y. nat_eq y q) (range_with_len (a + 1) n)) (same a q (omega arith))
range_within a (suc n) (suc i) q e h = ap (λ b. b || list_any (λ y. nat_eq y q) (range_with_len (a + 1) n)) (below a q (omega arith)) ∙ range_within (a + 1) n i q (omega arith) (omega arith)

false-or : (b : Bool) → b ≡ (b || false)
false-or true = refl
false-or false = refl

or-true : (b : Bool) → true ≡ (b || true)
or-true true = refl
or-true false = refl

-- the marks with n of them set, from a on
module _ (a n : ℕ) (marks : List Bool) (fits : a + n ≤ length marks) where
  set_length : length (take a marks ++ replicate n true) ≡ a + n
  set_length = simp (length-append, length-take, length-replicate) (omega arith)

  set_before : (q : ℕ) → q < a → get_or (take a marks ++ replicate n true ++ drop (a + n) marks) q false ≡ get_or marks q false
  set_before q h =
      get_or-append (take a marks ++ replicate n true) (drop (a + n) marks) false q (omega (arith, set_length))
      ∙ get_or-append (take a marks) (replicate n true) false q (simp length-take (omega arith))
      ∙ get_or-take a marks q false h

  set_within : (q : ℕ) → a ≤ q → q < a + n → get_or (take a marks ++ replicate n true ++ drop (a + n) marks) q false ≡ true
  set_within q l h =
      get_or-append (take a marks ++ replicate n true) (drop (a + n) marks) false q (omega (arith, set_length))
      ∙ get_or-append_right (take a marks) (replicate n true) a q false (simp length-take (omega arith)) l
      ∙ get_or-replicate n (q - a) true false (omega arith)

  set_after : (q : ℕ) → a + n ≤ q → get_or (take a marks ++ replicate n true ++ drop (a + n) marks) q false ≡ get_or marks q false
  set_after q l =
      let k : (a + n) + (q - (a + n)) ≡ q = omega arith in
      get_or-append_right (take a marks ++ replicate n true) (drop (a + n) marks) (a + n) q false set_length l
      ∙ get_or-drop (a + n) marks (q - (a + n)) false
      ∙ ap (λ i. get_or marks i false) k

  set_at : (q : ℕ) → get_or (take a marks ++ replicate n true ++ drop (a + n) marks) q false ≡ (get_or marks q false || list_any (λ y. nat_eq y q) (range_with_len a n))
  set_at q =
      elim (cases_lt q a) [
        | inl h ↦ set_before q h ∙ false-or _ ∙ ap (λ b. get_or marks q false || b) (sym (range_above a n q h))
        | inr l ↦ elim (cases_lt q (a + n)) [
          | inl h ↦ set_within q l h ∙ or-true (get_or marks q false) ∙ ap (λ b. get_or marks q false || b) (sym (range_within a n (q - a) q (omega arith) (omega arith)))
          | inr h ↦ set_after q h ∙ false-or _ ∙ ap (λ b. get_or marks q false || b) (sym (range_past a n q h))
        ]
      ]

  -- to set marks is to add their numbers
  pub marked-set : marked (take a marks ++ replicate n true ++ drop (a + n) marks) ≡ set.union (marked marks) (set.from_list (range_with_len a n))
  marked-set = set.same_set nat_cmp_total nat_cmp-IsAntisymmetric _ _ (λ q.
      contains-marked _ q ∙ set_at q
      ∙ sym (set.contains-union nat_cmp_total (marked marks) (set.from_list (range_with_len a n)) q
      ∙ (λ i. contains-marked marks q i || set.contains-from_list_nat (range_with_len a n) q i)))
