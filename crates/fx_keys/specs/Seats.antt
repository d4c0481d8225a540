-- The numbers that hold a key or may take one, each once, with their keys.
use Rattle.std.specs.Prelude.{◌≡◌, ◌≢◌, ℕ, ◌+◌, ◌<◌, ◌≤◌, ◌==◌, ◌&&◌, ◌++◌, not, Bool, true, false, List, [], ◌∷◌, length, map, filter, nat_eq, Option, None, Some, is_some, unwrap_or, MatchOption, if◌then◌else◌}
use Rattle.std.specs.List.{All, AllWithin, HoldsAt, Contains, IsDistinct, flat_map}
use Rattle.std.specs.Ordering.{nat_cmp}
use Rattle.std.specs.FinMap as finite
use Rattle.smallvec.specs.SmallVec.{SmallVec}
use Rattle.fx_item.specs.declared.lock.LockKey.{LockKey}
use Rattle.fx_item.specs.declared.lock.Mode.{Mode}
use Rattle.fx_keys.specs.declared.table.TheConstants.{MAX_NUMBERS}
use Rattle.fx_keys.specs.declared.seats.Seat.{Seat}
use Rattle.fx_keys.specs.Conflict.{are_conflicting}
use Rattle.fx_keys.specs.Holdings.{Grants, no_grants, granted, roomier, mode_in, IsRaised}
use Rattle.fx_keys.specs.Table.{Table, IsListed, IsConsistent, hold_cmp}

-- the holds of one number
abbrev pub holds_at : Seat → List ((LockKey × ℕ) × Mode)
holds_at seat = map (λ h. ((h.key, seat.who), h.mode)) seat.holdings.holds

-- the holds of all numbers
abbrev pub holds_in : List Seat → List ((LockKey × ℕ) × Mode)
holds_in seats = flat_map holds_at seats

-- the places of all numbers
abbrev pub rooms_in : List Seat → List (ℕ × ℕ)
rooms_in seats = map (λ s. (s.who, s.holdings.places)) seats

abbrev pub seats_table : List Seat → Table
seats_table seats = record {
  holds = finite.from_entries (holds_in seats);
  rooms = finite.from_entries (rooms_in seats);
}

-- what the number has, if it is in the list
abbrev pub seat_of : List Seat → ℕ → Option Grants
seat_of seats who = finite.find nat_cmp who (map (λ s. (s.who, s.holdings)) seats)

abbrev pub grants_of : List Seat → ℕ → Grants
grants_of seats who = unwrap_or (seat_of seats who) no_grants

-- the first place where the number stands, if it does
abbrev pub SeatIs : List Seat → ℕ → Option ℕ → Type 0
SeatIs seats who None = All (λ s. s.who ≢ who) seats
SeatIs seats who (Some i) =
    (i < length seats) × HoldsAt (λ s. s.who ≡ who) seats i × AllWithin (λ s. s.who ≢ who) seats 0 i

-- a number with its first places
abbrev pub with_room : ℕ → ℕ → Seat
with_room who count = record { who = who; holdings = roomier count no_grants }

-- the number has these keys and places from now on
abbrev pub seated : ℕ → Grants → List Seat → List Seat
seated who grants [] = record { who = who; holdings = grants } ∷ []
seated who grants (s ∷ ss) =
    if s.who == who then record s { holdings = grants } ∷ ss else s ∷ seated who grants ss

-- the number has so many more places; with none it does not come into the list
abbrev pub with_places : ℕ → ℕ → List Seat → List Seat
with_places who count seats =
    if count == 0 then seats else seated who (roomier count (grants_of seats who)) seats

-- the number holds one more key
abbrev pub with_hold : ℕ → LockKey → Mode → List Seat → List Seat
with_hold who key mode seats = seated who (granted key mode (grants_of seats who)) seats

-- the number holds the key for a write
pub record RaisesAt (who : ℕ) (key : LockKey) (old new : List Seat) : Type 0 where
  pub grants : Grants
  pub raised : IsRaised (grants_of old who) key grants
  pub seats : new ≡ seated who grants old

-- without the number
abbrev pub left_by : ℕ → List Seat → List Seat
left_by who seats = filter (λ s. not (s.who == who)) seats

-- whether a hold in this mode, if there is one, keeps another from the mode
abbrev pub is_excluding : Option Mode → Mode → Bool
is_excluding None mode = false
is_excluding (Some held) mode = are_conflicting held mode

-- whether one who has these keys keeps another from holding the key in this mode
abbrev pub is_blocking : LockKey → Mode → Grants → Bool
is_blocking key mode grants = is_excluding (mode_in grants.holds key) mode

-- the other numbers that do
abbrev pub blockers : ℕ → LockKey → Mode → List Seat → List ℕ
blockers who key mode seats =
    map (λ s. s.who) (filter (λ s. not (s.who == who) && is_blocking key mode s.holdings) seats)

abbrev pub IsLeastOf : List ℕ → Option ℕ → Type 0
IsLeastOf ns least = MatchOption least (ns ≡ []) (λ w. Contains ns w × All (λ v. w ≤ v) ns)

-- what is so of the numbers of every key table
pub record AreSeats (seats : SmallVec Seat) : Type 0 where
  pub apart : IsDistinct nat_eq (map (λ s. s.who) seats.items)
  pub few : length seats.items ≤ MAX_NUMBERS
  pub inline : seats.capacity ≡ MAX_NUMBERS
  -- whoever is in the list holds a key or may take one
  pub used : (who : ℕ) → is_some (seat_of seats.items who) ≡ true →
      IsListed (seats_table seats.items) who
  pub consistent : IsConsistent (seats_table seats.items)
