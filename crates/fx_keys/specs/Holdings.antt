-- The keys of one number as a sorted array, and what is done to it.
use Rattle.std.specs.Prelude.{◌≡◌, ℕ, ◌+◌, ◌-◌, ◌<◌, ◌≤◌, ◌++◌, List, [], ◌∷◌, length, map, Option, Some, Result, Ok, Err, if◌then◌else◌, Vec, vec_len, vec_capacity, refl}
use Rattle.std.specs.List.{AllWithin, HoldsAt}
use Rattle.std.specs.List.Sorted.{IsStrictlySortedBy}
use Rattle.std.specs.Ordering.{eq_by_cmp}
use Rattle.std.specs.FinMap as finite
use Rattle.std.specs.Coded.{Coded, code_by, coded×, coded_ℕ, coded_list}
use Rattle.std.specs.Global.{Global}
use Rattle.std.specs.declared.cmp.Ordering.TheVariants.{Less, Greater}
use Rattle.fx_item.specs.declared.lock.LockKey.{LockKey}
use Rattle.fx_item.specs.declared.lock.Mode.{Mode}
use Rattle.fx_item.specs.declared.lock.Mode.TheVariants.{Write}
use Rattle.fx_item.specs.LockKey.{key_cmp}
use Rattle.fx_keys.specs.declared.holdings.Hold.{Hold}

-- the keys that a number holds, in order, and how many more there is place for
pub record Grants : Type 0 where
  pub holds : List Hold
  pub places : ℕ

abbrev pub grants_code : Coded Hold → Coded Grants
grants_code hold =
    code_by (List Hold × ℕ) (coded× (coded_list hold) coded_ℕ)
    (λ g. (g.holds, g.places)) (λ p. record { holds = p.0; places = p.1 }) (λ _. refl)

abbrev pub no_grants : Grants
no_grants = record { holds = []; places = 0 }

-- keys in order, each once
abbrev pub IsKeyArray : List Hold → Type 0
IsKeyArray holds = IsStrictlySortedBy key_cmp (map (λ h. h.key) holds)

-- keys in order, and memory for those that it may take
pub record IsRoomy (holds : Vec Hold Global) (places : ℕ) : Type 0 where
  pub sorted : IsKeyArray holds.items
  pub memory : vec_len holds + places ≤ vec_capacity holds

-- where the key stands, or would
abbrev pub Locates : List Hold → LockKey → Result ℕ ℕ → Type 0
Locates holds key (Ok i) = (i < length holds) × HoldsAt (λ h. h.key ≡ key) holds i
Locates holds key (Err i) =
    (i ≤ length holds) × AllWithin (λ h. key_cmp h.key key ≡ Less) holds 0 i
    × AllWithin (λ h. key_cmp h.key key ≡ Greater) holds i (length holds)

-- the mode in which the key is held
abbrev pub mode_in : List Hold → LockKey → Option Mode
mode_in holds key = finite.find key_cmp key (map (λ h. (h.key, h.mode)) holds)

-- with so many more places
abbrev pub roomier : ℕ → Grants → Grants
roomier count grants = record grants { places = grants.places + count }

-- with one more key, which takes a place
abbrev pub granted : LockKey → Mode → Grants → Grants
granted key mode grants = record {
  holds = grants.holds ++ record { key = key; mode = mode } ∷ [];
  places = grants.places - 1;
}

-- the key is held for a write, and nothing else changed
pub record IsRaised (old : Grants) (key : LockKey) (new : Grants) : Type 0 where
  pub modes : (k : LockKey) → mode_in new.holds k
      ≡ (if eq_by_cmp key_cmp k key then Some Write else mode_in old.holds k)
  pub places : new.places ≡ old.places
