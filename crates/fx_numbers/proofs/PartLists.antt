-- Parts in a list of places as a map from their numbers.
use Rattle.std.proofs.Common.{◌≡◌, ◌≢◌, inl, inr, ℕ, zero, suc, ◌+◌, ◌-◌, ◌<◌, ◌≤◌, true, false, cond, List, [], ◌∷◌, ◌++◌, length, set, get_or, Option, Some, None, refl, sym, ap, subst, ◌∙◌, arith}
use Rattle.std.specs.List.{slice_get}
use Rattle.std.specs.Prelude.{option_map}
use Rattle.std.specs.FinMap as finite
use Rattle.std.specs.FinMap.{find, get-from_entries, same_map, nat_cmp-IsAntisymmetric}
use Rattle.std.specs.Ordering.{nat_cmp, eq_by_cmp}
use Rattle.std.specs.Cmp.{nat_cmp_total}
use Rattle.std.proofs.lemmas.Bool.{cases_eq, cases_lt}
use Rattle.std.proofs.lemmas.List.Sums.{sum_by-set, sum_by_push}
use Rattle.std.proofs.lemmas.Option.{get_or_from_slice_get, slice_get_read}
use Rattle.fx_keys.specs.declared.table.TheConstants.{MAX_NUMBERS}
use Rattle.fx_parts.specs.Parts.{Part}
use Rattle.fx_parts.proofs.Maps.{get_same, get_other, gone_same, gone_other}
use Rattle.fx_numbers.specs.Slots.{EntersAs, HasFreeSlot, IsFirstFree, IsNumber, PartMap, entries_from, is_promise, parts_in, promised_in}

abbrev pub slot_part : List (Option Part) → ℕ → Option Part
slot_part [] i = None
slot_part (s ∷ ss) zero = s
slot_part (s ∷ ss) (suc i) = slot_part ss i

tied : (a b : ℕ) → a ≡ b → eq_by_cmp nat_cmp a b ≡ true
tied a b e = grind arith

not_tied : (a b : ℕ) → a ≢ b → eq_by_cmp nat_cmp a b ≡ false
not_tied a b e = grind arith

find_low : (n q : ℕ) (slots : List (Option Part)) → q < n → find nat_cmp q (entries_from n slots) ≡ None
find_low n q [] lt = refl
find_low n q (None ∷ slots) lt = find_low (n + 1) q slots (omega arith)
find_low n q (Some p ∷ slots) lt =
    ap (λ b. cond b (Some p) (find nat_cmp q (entries_from (n + 1) slots))) (not_tied q n (omega arith)) ∙ find_low (n + 1) q slots (omega arith)

find_from : (n i q : ℕ) (slots : List (Option Part)) → q ≡ n + i → find nat_cmp q (entries_from n slots) ≡ slot_part slots i
find_from n i q [] e = refl
find_from n zero q (None ∷ slots) e = find_low (n + 1) q slots (omega arith)
find_from n zero q (Some p ∷ slots) e = ap (λ b. cond b (Some p) (find nat_cmp q (entries_from (n + 1) slots))) (tied q n (omega arith))
find_from n (suc i) q (None ∷ slots) e = find_from (n + 1) i q slots (omega arith)
find_from n (suc i) q (Some p ∷ slots) e =
    ap (λ b. cond b (Some p) (find nat_cmp q (entries_from (n + 1) slots))) (not_tied q n (omega arith)) ∙ find_from (n + 1) i q slots (omega arith)

pub get_slot : (slots : List (Option Part)) (i q : ℕ) → q ≡ i + 1 → finite.get (parts_in slots) q ≡ slot_part slots i
get_slot slots i q e = get-from_entries nat_cmp_total (entries_from 1 slots) q ∙ find_from 1 i q slots (omega arith)

pub get_no_number : (slots : List (Option Part)) → finite.get (parts_in slots) 0 ≡ None
get_no_number slots = get-from_entries nat_cmp_total (entries_from 1 slots) 0 ∙ find_low 1 0 slots (omega arith)

-- ---- places

slot_get : (slots : List (Option Part)) (i : ℕ) → i < length slots → slice_get slots i ≡ Some (slot_part slots i)
slot_get [] i lt = absurd (omega arith)
slot_get (s ∷ ss) zero lt = refl
slot_get (s ∷ ss) (suc i) lt = slot_get ss i (omega arith)

slot_past : (slots : List (Option Part)) (i : ℕ) → length slots ≤ i → slot_part slots i ≡ None
slot_past [] i le = refl
slot_past (s ∷ ss) zero le = absurd (omega arith)
slot_past (s ∷ ss) (suc i) le = slot_past ss i (omega arith)

slot_set_same : (slots : List (Option Part)) (i : ℕ) (y : Option Part) → i < length slots → slot_part (set slots i y) i ≡ y
slot_set_same [] i y lt = absurd (omega arith)
slot_set_same (s ∷ ss) zero y lt = refl
slot_set_same (s ∷ ss) (suc i) y lt = slot_set_same ss i y (omega arith)

slot_set_other : (slots : List (Option Part)) (i j : ℕ) (y : Option Part) → j ≢ i → slot_part (set slots i y) j ≡ slot_part slots j
slot_set_other [] i j y ne = refl
slot_set_other (s ∷ ss) zero zero y ne = absurd (ne refl)
slot_set_other (s ∷ ss) zero (suc j) y ne = refl
slot_set_other (s ∷ ss) (suc i) zero y ne = refl
slot_set_other (s ∷ ss) (suc i) (suc j) y ne = slot_set_other ss i j y (λ e. ne (ap suc e))

slot_front : (slots : List (Option Part)) (y : Option Part) (j : ℕ) → j ≢ length slots → slot_part (slots ++ y ∷ []) j ≡ slot_part slots j
slot_front [] y zero ne = absurd (ne refl)
slot_front [] y (suc j) ne = refl
slot_front (s ∷ ss) y zero ne = refl
slot_front (s ∷ ss) y (suc j) ne = slot_front ss y j (λ e. ne (ap suc e))

slot_last : (slots : List (Option Part)) (y : Option Part) → slot_part (slots ++ y ∷ []) (length slots) ≡ y
slot_last [] y = refl
slot_last (s ∷ ss) y = slot_last ss y

-- a number that is in use has its place
pub record IsPlaced (slots : List (Option Part)) (who : ℕ) (part : Part) : Type 0 where
  pub first : 1 ≤ who
  pub within : who ≤ length slots
  pub here : slice_get slots (who - 1) ≡ Some (Some part)

none_some : {X : Type 0} (x : X) → None ≡ Some x → ⊥
none_some x e = cc

pub placed : (slots : List (Option Part)) (who : ℕ) (part : Part) → finite.get (parts_in slots) who ≡ Some part → IsPlaced slots who part
placed slots zero part is = absurd (none_some part (sym (get_no_number slots) ∙ is))
placed slots (suc i) part is = elim (cases_lt i (length slots)) [
  | inl lt ↦ record {
    first = omega arith;
    within = omega arith;
    here = subst (λ k. slice_get slots k ≡ Some (Some part)) (let e : i ≡ suc i - 1 = omega arith in e) (slot_get slots i lt ∙ ap Some (sym (get_slot slots i (suc i) (omega arith)) ∙ is));
  }
  | inr le ↦ absurd (none_some part (sym (slot_past slots i le) ∙ sym (get_slot slots i (suc i) (omega arith)) ∙ is))
]

-- what stands at the place
pub at_place : (slots : List (Option Part)) (who : ℕ) (part : Part) (d : Option Part) → finite.get (parts_in slots) who ≡ Some part → get_or slots (who - 1) d ≡ Some part
at_place slots who part d is = get_or_from_slice_get slots (who - 1) (Some part) d (placed slots who part is).here

-- ---- a place that is set

-- the map after one place is set: at that number, and at every other
module _ (slots : List (Option Part)) (who : ℕ) (y : Option Part) (first : 1 ≤ who) (within : who ≤ length slots) where
  set_here : finite.get (parts_in (set slots (who - 1) y)) who ≡ y
  set_here = get_slot (set slots (who - 1) y) (who - 1) who (omega arith) ∙ slot_set_same slots (who - 1) y (omega arith)

  set_there : (q : ℕ) → q ≢ who → finite.get (parts_in (set slots (who - 1) y)) q ≡ finite.get (parts_in slots) q
  set_there zero ne = get_no_number (set slots (who - 1) y) ∙ sym (get_no_number slots)
  set_there (suc i) ne =
      get_slot (set slots (who - 1) y) i (suc i) (omega arith)
      ∙ slot_set_other slots (who - 1) i y (λ e. ne (let f : suc i ≡ who = omega (arith, e, first) in f))
      ∙ sym (get_slot slots i (suc i) (omega arith))

pub put_map : (slots : List (Option Part)) (who : ℕ) (part : Part) → 1 ≤ who → who ≤ length slots → parts_in (set slots (who - 1) (Some part)) ≡ finite.insert (parts_in slots) who part
put_map slots who part first within = same_map nat_cmp_total nat_cmp-IsAntisymmetric _ _ (λ q. elim (cases_eq q who) [
  | inl e ↦ subst (λ k. finite.get (parts_in (set slots (who - 1) (Some part))) k ≡ finite.get (finite.insert (parts_in slots) who part) k) (sym e)
      (set_here slots who (Some part) first within ∙ sym (get_same (parts_in slots) who part))
  | inr ne ↦ set_there slots who (Some part) first within q ne ∙ sym (get_other (parts_in slots) who q part ne)
])

pub take_map : (slots : List (Option Part)) (who : ℕ) → 1 ≤ who → who ≤ length slots → parts_in (set slots (who - 1) None) ≡ finite.remove (parts_in slots) who
take_map slots who first within = same_map nat_cmp_total nat_cmp-IsAntisymmetric _ _ (λ q. elim (cases_eq q who) [
  | inl e ↦ subst (λ k. finite.get (parts_in (set slots (who - 1) None)) k ≡ finite.get (finite.remove (parts_in slots) who) k) (sym e)
      (set_here slots who None first within ∙ sym (gone_same (parts_in slots) who))
  | inr ne ↦ set_there slots who None first within q ne ∙ sym (gone_other (parts_in slots) who q ne)
])

pub push_map : (slots : List (Option Part)) (part : Part) (who : ℕ) → who ≡ length slots + 1 → parts_in (slots ++ Some part ∷ []) ≡ finite.insert (parts_in slots) who part
push_map slots part who e = same_map nat_cmp_total nat_cmp-IsAntisymmetric _ _ (λ q. by_number q)
  where
    by_number : (q : ℕ) → finite.get (parts_in (slots ++ Some part ∷ [])) q ≡ finite.get (finite.insert (parts_in slots) who part) q
    by_number zero = get_no_number (slots ++ Some part ∷ []) ∙ sym (get_other (parts_in slots) who 0 part (λ f. omega (arith, e, f)) ∙ get_no_number slots)
    by_number (suc i) = elim (cases_eq i (length slots)) [
      | inl f ↦ get_slot (slots ++ Some part ∷ []) i (suc i) (omega arith) ∙ ap (slot_part (slots ++ Some part ∷ [])) f ∙ slot_last slots (Some part)
          ∙ sym (ap (finite.get (finite.insert (parts_in slots) who part)) (let g : suc i ≡ who = omega (arith, e, f) in g) ∙ get_same (parts_in slots) who part)
      | inr ne ↦ get_slot (slots ++ Some part ∷ []) i (suc i) (omega arith) ∙ slot_front slots (Some part) i ne
          ∙ sym (get_other (parts_in slots) who (suc i) part (λ f. ne (let g : i ≡ length slots = omega (arith, e, f) in g)) ∙ get_slot slots i (suc i) (omega arith))
    ]

-- ---- what is reserved

abbrev one : Option Part → ℕ
one y = cond (is_promise y) 1 0

pub promised_set : (slots : List (Option Part)) (who : ℕ) (x y : Option Part) → 1 ≤ who → who ≤ length slots → slot_part slots (who - 1) ≡ x → promised_in (set slots (who - 1) y) + one x ≡ promised_in slots + one y
promised_set slots who x y first within here =
    let at : get_or slots (who - 1) x ≡ x = get_or_from_slice_get slots (who - 1) x x (slot_get slots (who - 1) (omega arith) ∙ ap Some here) in
    let h = sum_by-set one slots (who - 1) y x (omega arith) in
    ap (λ (k : Option Part). promised_in (set slots (who - 1) y) + one k) (sym at) ∙ h

pub promised_push : (slots : List (Option Part)) (y : Option Part) → promised_in (slots ++ y ∷ []) ≡ promised_in slots + one y
promised_push slots y = sum_by_push one slots y

pub slot_of_none : (slots : List (Option Part)) (who : ℕ) → 1 ≤ who → finite.get (parts_in slots) who ≡ None → slot_part slots (who - 1) ≡ None
slot_of_none slots who first free = sym (get_slot slots (who - 1) who (omega arith)) ∙ free

pub slot_of_some : (slots : List (Option Part)) (who : ℕ) (part : Part) → 1 ≤ who → finite.get (parts_in slots) who ≡ Some part → slot_part slots (who - 1) ≡ Some part
slot_of_some slots who part first is = sym (get_slot slots (who - 1) who (omega arith)) ∙ is

-- ---- the first place with nothing

first_is_free : (slots : List (Option Part)) (at : ℕ) → IsFirstFree slots at → slot_part slots at ≡ None
first_is_free slots at free = elim (cases_lt at (length slots)) [
  | inl lt ↦ some_is (slot_part slots at) None (sym (slot_get slots at lt) ∙ free.here lt)
  | inr le ↦ slot_past slots at le
]
  where
    some_is : (a b : Option Part) → Some a ≡ Some b → a ≡ b
    some_is a b e = cc

below_is_used : (slots : List (Option Part)) (at i : ℕ) → IsFirstFree slots at → i < at → slot_part slots i ≢ None
below_is_used slots at i free lt none = let within = free.within in free.before i lt (slot_get slots i (omega arith) ∙ ap Some none)

pub free_number : (slots : List (Option Part)) (at who : ℕ) → IsFirstFree slots at → who ≡ at + 1 → finite.get (parts_in slots) who ≡ None
free_number slots at who free e = get_slot slots at who e ∙ first_is_free slots at free

pub least_number : (slots : List (Option Part)) (at who : ℕ) → IsFirstFree slots at → who ≡ at + 1 → (other : ℕ) → IsNumber other → finite.get (parts_in slots) other ≡ None → who ≤ other
least_number slots at who free e other number none = elim (cases_lt (other - 1) at) [
  | inl lt ↦ let first = number.0 in absurd (below_is_used slots at (other - 1) free lt (slot_of_none slots other first none))
  | inr le ↦ let first = number.0 in omega arith
]

pub some_free : (slots : List (Option Part)) (at : ℕ) → IsFirstFree slots at → length slots ≤ MAX_NUMBERS → HasFreeSlot (parts_in slots) → at < MAX_NUMBERS
some_free slots at free few (who, number, none) = let least = least_number slots at (at + 1) free refl who number none in let most = number.1 in omega arith

pub there_is_free : (slots : List (Option Part)) (at : ℕ) → IsFirstFree slots at → at < MAX_NUMBERS → HasFreeSlot (parts_in slots)
there_is_free slots at free lt = (at + 1, (let a : 1 ≤ at + 1 = omega arith in a, let b : at + 1 ≤ MAX_NUMBERS = omega arith in b), free_number slots at (at + 1) free refl)

abbrev seen : List (Option Part) → ℕ → PartMap
seen slots places = record { parts = parts_in slots; reserved = promised_in slots; places = places }

module _ (slots : List (Option Part)) (places : ℕ) (few : length slots ≤ MAX_NUMBERS) (free_slot : HasFreeSlot (parts_in slots)) (at : ℕ) (free : IsFirstFree slots at) (part : Part) (unpromised : is_promise (Some part) ≡ false) where
  number_here : IsNumber (at + 1)
  number_here = let lt = some_free slots at free few free_slot in (omega arith, omega arith)

  pub enters_at : (y : Part) (places' : ℕ) → y ≡ part → at < length slots → EntersAs (seen slots places) (seen (set slots at (Some y)) places') part (at + 1)
  enters_at y places' same lt = subst (λ z. EntersAs (seen slots places) (seen (set slots at (Some z)) places') part (at + 1)) (sym same) (record {
    number = number_here;
    free = free_number slots at (at + 1) free refl;
    least = least_number slots at (at + 1) free refl;
    parts = subst (λ k. parts_in (set slots k (Some part)) ≡ finite.insert (parts_in slots) (at + 1) part) (let e : (at + 1) - 1 ≡ at = omega arith in e) (put_map slots (at + 1) part (omega arith) (omega arith));
    reserved =
        let h = promised_set slots (at + 1) None (Some part) (omega arith) (omega arith) (slot_of_none slots (at + 1) (omega arith) (free_number slots at (at + 1) free refl)) in
        let e : promised_in (set slots at (Some part)) ≡ promised_in (set slots ((at + 1) - 1) (Some part)) = ap (λ k. promised_in (set slots k (Some part))) (let e : at ≡ (at + 1) - 1 = omega arith in e) in
        let z : one (Some part) ≡ 0 = ap (λ b. cond b 1 0) unpromised in
        omega (arith, h, e, z);
  })

  pub enters_behind : (new : List (Option Part)) (places' : ℕ) → new ≡ slots ++ Some part ∷ [] → length slots ≤ at → EntersAs (seen slots places) (seen new places') part (at + 1)
  enters_behind new places' is le = subst (λ z. EntersAs (seen slots places) (seen z places') part (at + 1)) (sym is) (record {
    number = number_here;
    free = free_number slots at (at + 1) free refl;
    least = least_number slots at (at + 1) free refl;
    parts = let within = free.within in push_map slots part (at + 1) (omega arith);
    reserved = let z : one (Some part) ≡ 0 = ap (λ b. cond b 1 0) unpromised in omega (arith, promised_push slots (Some part), z);
  })

-- what is said of a part, by its place
pub slot_said : {X : Type 0} (f : Part → X) (slots : List (Option Part)) (who : ℕ) (y : Option Part) → 1 ≤ who → who - 1 < length slots → y ≡ get_or slots (who - 1) y → option_map f y ≡ option_map f (finite.get (parts_in slots) who)
slot_said f slots who y first lt is =
    let here : slot_part slots (who - 1) ≡ y = some_is (slot_part slots (who - 1)) y (sym (slot_get slots (who - 1) lt) ∙ slice_get_read slots (length slots) (who - 1) y refl lt is) in
    ap (option_map f) (sym here ∙ sym (get_slot slots (who - 1) who (omega arith)))
  where
    some_is : (a b : Option Part) → Some a ≡ Some b → a ≡ b
    some_is a b e = cc

pub past_said : {X : Type 0} (f : Part → X) (slots : List (Option Part)) (who : ℕ) → 1 ≤ who → length slots ≤ who - 1 → None ≡ option_map f (finite.get (parts_in slots) who)
past_said f slots who first le = ap (option_map f) (sym (slot_past slots (who - 1) le) ∙ sym (get_slot slots (who - 1) who (omega arith)))

pub zero_said : {X : Type 0} (f : Part → X) (slots : List (Option Part)) → None ≡ option_map f (finite.get (parts_in slots) 0)
zero_said f slots = ap (option_map f) (sym (get_no_number slots))
