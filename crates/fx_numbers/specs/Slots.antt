-- The parts of the numbers in use, in a list of places: number n has place n - 1.
use Rattle.std.specs.Prelude.{◌≡◌, ◌≢◌, ℕ, ◌+◌, ◌<◌, ◌≤◌, Bool, false, List, [], ◌∷◌, Option, None, Some, count_by, is_some, length, option_map, refl, slice_get, if◌then◌else◌}
use Rattle.std.specs.Coded.{Coded, code_by, coded×, coded_ℕ}
use Rattle.std.specs.FinMap as finite
use Rattle.std.specs.Ordering.{nat_cmp}
use Rattle.fx_keys.specs.declared.table.TheConstants.{MAX_NUMBERS}
use Rattle.fx_parts.specs.Parts.{Part}

-- the parts, how many of them have something reserved, and how many places there are
pub record PartMap : Type 0 where
  pub parts : finite.FinMap nat_cmp Part
  pub reserved : ℕ
  pub places : ℕ

abbrev pub part_map_code : Coded Part → Coded PartMap
part_map_code part =
    code_by (finite.FinMap nat_cmp Part × (ℕ × ℕ))
    (coded× (finite.code coded_ℕ part) (coded× coded_ℕ coded_ℕ))
    (λ m. (m.parts, (m.reserved, m.places)))
    (λ p. record { parts = p.0; reserved = p.1.0; places = p.1.1 }) (λ _. refl)

-- the parts with their numbers, from this number on
abbrev pub entries_from : ℕ → List (Option Part) → List (ℕ × Part)
entries_from n [] = []
entries_from n (None ∷ slots) = entries_from (n + 1) slots
entries_from n (Some part ∷ slots) = (n, part) ∷ entries_from (n + 1) slots

abbrev pub parts_in : List (Option Part) → finite.FinMap nat_cmp Part
parts_in slots = finite.from_entries (entries_from 1 slots)

-- 1 where the part has something reserved
abbrev pub promised_by : Part → ℕ
promised_by part = if is_some part.reserved then 1 else 0

abbrev pub is_promise : Option Part → Bool
is_promise None = false
is_promise (Some part) = is_some part.reserved

abbrev pub promised_in : List (Option Part) → ℕ
promised_in slots = count_by is_promise slots

-- whether something is reserved for the number, if it is in use
abbrev pub reserved_at : finite.FinMap nat_cmp Part → ℕ → Option Bool
reserved_at parts who = option_map (λ part. is_some part.reserved) (finite.get parts who)

-- a number that may be in use
abbrev pub IsNumber : ℕ → Type 0
IsNumber who = (1 ≤ who) × (who ≤ MAX_NUMBERS)

-- some number is in no use
abbrev pub HasFreeSlot : finite.FinMap nat_cmp Part → Type 0
HasFreeSlot parts = (who : ℕ) × IsNumber who × (finite.get parts who ≡ None)

-- the least number that was in no use is in use, with this part
pub record EntersAs (old new : PartMap) (part : Part) (who : ℕ) : Type 0 where
  pub number : IsNumber who
  pub free : finite.get old.parts who ≡ None
  pub least : (other : ℕ) → IsNumber other → finite.get old.parts other ≡ None → who ≤ other
  pub parts : new.parts ≡ finite.insert old.parts who part
  pub reserved : new.reserved ≡ old.reserved

-- the first place with nothing, or the end
pub record IsFirstFree (slots : List (Option Part)) (at : ℕ) : Type 0 where
  pub within : at ≤ length slots
  pub before : (i : ℕ) → i < at → slice_get slots i ≢ Some None
  pub here : at < length slots → slice_get slots at ≡ Some None
