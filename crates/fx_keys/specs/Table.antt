-- Who holds which key in which mode, how many more keys each number may take, and what the calls do to both.
use Rattle.std.specs.Prelude.{◌≡◌, ◌≢◌, ℕ, ◌+◌, ◌<◌, ◌≤◌, ◌==◌, ◌⊎◌, not, true, List, length, Option, Some, unwrap_or, nat_eq, refl}
use Rattle.std.specs.List.{All, IsDistinct}
use Rattle.std.specs.Ordering.{nat_cmp, ordering_then}
use Rattle.std.specs.FinMap as map
use Rattle.std.specs.Coded.{Coded, code_by, coded×, coded_ℕ}
use Rattle.std.specs.declared.cmp.Ordering.{Ordering}
use Rattle.std.specs.declared.cmp.Ordering.TheVariants.{Less}
use Rattle.fx_item.specs.declared.lock.LockKey.{LockKey}
use Rattle.fx_item.specs.declared.lock.Mode.{Mode}
use Rattle.fx_item.specs.declared.lock.Mode.TheVariants.{Change, Write, Read}
use Rattle.fx_item.specs.LockKey.{key_cmp}
use Rattle.fx_keys.specs.declared.table.TheConstants.{MAX_NUMBERS}
use Rattle.fx_keys.specs.declared.table.Asked.{Asked}
use Rattle.fx_keys.specs.declared.table.Asked.TheVariants.{Held, Busy}
use Rattle.fx_keys.specs.Conflict.{are_conflicting}

-- by key, then by number
abbrev pub hold_cmp : LockKey × ℕ → LockKey × ℕ → Ordering
hold_cmp x y = ordering_then (key_cmp x.0 y.0) (nat_cmp x.1 y.1)

-- the mode in which each number holds each key, and how many further holds there is place for
pub record Table : Type 0 where
  pub holds : map.FinMap hold_cmp Mode
  pub rooms : map.FinMap nat_cmp ℕ

-- a table is stored as its two maps
abbrev pub key_table_code : Coded LockKey → Coded Mode → Coded Table
key_table_code key mode =
    code_by (map.FinMap hold_cmp Mode × map.FinMap nat_cmp ℕ)
    (coded× (map.code (coded× key coded_ℕ) mode) (map.code coded_ℕ coded_ℕ))
    (λ t. (t.holds, t.rooms)) (λ p. record { holds = p.0; rooms = p.1 }) (λ _. refl)

abbrev pub empty_table : Table
empty_table = record { holds = map.empty; rooms = map.empty }

-- the mode in which the number holds the key
abbrev pub mode_of : Table → ℕ → LockKey → Option Mode
mode_of table who key = map.get table.holds (key, who)

-- how many further keys the number may take
abbrev pub room_of : Table → ℕ → ℕ
room_of table who = unwrap_or (map.get table.rooms who) 0

-- no two numbers hold a key in modes that conflict
abbrev pub IsConsistent : Table → Type 0
IsConsistent table = (key : LockKey) (v w : ℕ) (m n : Mode) → v ≢ w →
    mode_of table v key ≡ Some m → mode_of table w key ≡ Some n → are_conflicting m n ≢ true

-- it holds a key, or may take one
abbrev pub IsListed : Table → ℕ → Type 0
IsListed table who =
    (0 < room_of table who)
    ⊎ ((key : LockKey) × (mode : Mode) × (mode_of table who key ≡ Some mode))

-- fewer than 32 other numbers hold a key or may take one
abbrev pub HasSeatFor : Table → ℕ → Type 0
HasSeatFor table who = (others : List ℕ) → IsDistinct nat_eq others →
    All (λ w. (w ≢ who) × IsListed table w) others → length others < MAX_NUMBERS

-- each key of the number's is below the key
abbrev pub IsAboveKeysOf : Table → ℕ → LockKey → Type 0
IsAboveKeysOf table who key =
    (k : LockKey) (m : Mode) → mode_of table who k ≡ Some m → key_cmp k key ≡ Less

-- no smaller key of the number's is still held for a change
abbrev pub IsNextToRaise : Table → ℕ → LockKey → Type 0
IsNextToRaise table who key =
    (k : LockKey) → key_cmp k key ≡ Less → mode_of table who k ≢ Some Change

-- the number holds the key, and its hold keeps `who` from holding the key in this mode
pub record HoldsOff (table : Table) (who : ℕ) (key : LockKey) (mode : Mode) (other : ℕ)
    : Type 0 where
  pub apart : other ≢ who
  pub held : Mode
  pub holds : mode_of table other key ≡ Some held
  pub conflict : are_conflicting held mode ≡ true

-- the number reads what `who` would write
pub record Reads (table : Table) (who : ℕ) (key : LockKey) (other : ℕ) : Type 0 where
  pub apart : other ≢ who
  pub holds : mode_of table other key ≡ Some Read

-- the least number that has P
pub record IsLeast (P : ℕ → Type 0) (n : ℕ) : Type 0 where
  pub here : P n
  pub least : (m : ℕ) → P m → n ≤ m

-- the number has place for so many more holds, and nothing else changed
pub record GainsRoom (old new : Table) (who count : ℕ) : Type 0 where
  pub holds : new.holds ≡ old.holds
  pub room : room_of new who ≡ room_of old who + count
  pub others : (w : ℕ) → w ≢ who → room_of new w ≡ room_of old w

-- the number holds the key as well, which takes one of its places, and nothing else changed
pub record Gains (old new : Table) (who : ℕ) (key : LockKey) (mode : Mode) : Type 0 where
  pub holds : new.holds ≡ map.insert old.holds (key, who) mode
  pub room : room_of new who + 1 ≡ room_of old who
  pub others : (w : ℕ) → w ≢ who → room_of new w ≡ room_of old w

-- the number's hold of the key is a Write, and nothing else changed
pub record Rises (old new : Table) (who : ℕ) (key : LockKey) : Type 0 where
  pub holds : new.holds ≡ map.insert old.holds (key, who) Write
  pub rooms : new.rooms ≡ old.rooms

-- the number holds nothing and has no room, and nothing else changed
pub record Leaves (old new : Table) (who : ℕ) : Type 0 where
  pub holds : new.holds ≡ map.retain_keys old.holds (λ hold. not (hold.1 == who))
  pub rooms : new.rooms ≡ map.remove old.rooms who

-- what `ask` answers: Held where no other is in the way, else Busy with the least that is, and then nothing changed
abbrev pub AskGives : Table → ℕ → LockKey → Mode → Asked → Table → Type 0
AskGives old who key mode Held new =
    ((w : ℕ) → ¬ (HoldsOff old who key mode w)) × Gains old new who key mode
AskGives old who key mode (Busy w) new = IsLeast (HoldsOff old who key mode) w × (new ≡ old)

-- what `raise` answers: Held where no other reads, else Busy with the least that does, and then nothing changed
abbrev pub RaiseGives : Table → ℕ → LockKey → Asked → Table → Type 0
RaiseGives old who key Held new = ((w : ℕ) → ¬ (Reads old who key w)) × Rises old new who key
RaiseGives old who key (Busy w) new = IsLeast (Reads old who key) w × (new ≡ old)
