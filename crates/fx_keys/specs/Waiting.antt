-- Runs of calls, who waits for whom after one, and that no numbers wait in a circle.
use Rattle.std.specs.Prelude.{◌≡◌, ◌≢◌, ℕ, ◌<◌, ◌==◌, List, [], ◌∷◌, Option, None, Some, if◌then◌else◌}
use Rattle.fx_item.specs.declared.lock.LockKey.{LockKey}
use Rattle.fx_item.specs.declared.lock.Mode.{Mode}
use Rattle.fx_item.specs.declared.lock.Mode.TheVariants.{Change, Write, Read}
use Rattle.fx_keys.specs.declared.table.Asked.{Asked}
use Rattle.fx_keys.specs.declared.table.Asked.TheVariants.{Held, Busy}
use Rattle.fx_keys.specs.Table.{Table, empty_table, mode_of, room_of, HasSeatFor, IsAboveKeysOf, IsNextToRaise, HoldsOff, Reads, GainsRoom, Leaves, AskGives, RaiseGives}

-- a call that returned, with its answer
pub data KeyCall : Type 0 where
  Room : (who count : ℕ) → KeyCall
  Ask : (who : ℕ) (key : LockKey) (mode : Mode) (answer : Asked) → KeyCall
  Raise : (who : ℕ) (key : LockKey) (answer : Asked) → KeyCall
  DropAll : (who : ℕ) → KeyCall

-- who made it
abbrev pub caller_of : KeyCall → ℕ
caller_of (Room who count) = who
caller_of (Ask who key mode answer) = who
caller_of (Raise who key answer) = who
caller_of (DropAll who) = who

-- the call's condition on the table before it
abbrev pub MayBeMade : Table → KeyCall → Type 0
MayBeMade table (Room who count) = HasSeatFor table who
MayBeMade table (Ask who key mode answer) =
    (0 < room_of table who) × (mode ≢ Write) × IsAboveKeysOf table who key
MayBeMade table (Raise who key answer) =
    (mode_of table who key ≡ Some Change) × IsNextToRaise table who key
MayBeMade table (DropAll who) = Unit {0}

-- what the call did to the table
abbrev pub Did : Table → KeyCall → Table → Type 0
Did old (Room who count) new = GainsRoom old new who count
Did old (Ask who key mode answer) new = AskGives old who key mode answer new
Did old (Raise who key answer) new = RaiseGives old who key answer new
Did old (DropAll who) new = Leaves old new who

-- the number holds no key to read
abbrev pub IsNoReader : Table → ℕ → Type 0
IsNoReader table who = (key : LockKey) → mode_of table who key ≢ Some Read

-- a number that reads neither asks nor raises
abbrev pub IsDisciplined : Table → KeyCall → Type 0
IsDisciplined table (Room who count) = Unit {0}
IsDisciplined table (Ask who key mode answer) = IsNoReader table who
IsDisciplined table (Raise who key answer) = IsNoReader table who
IsDisciplined table (DropAll who) = Unit {0}

-- the disciplined calls, the last one first, lead from the new table to this one
abbrev pub Reaches : List KeyCall → Table → Type 0
Reaches [] table = table ≡ empty_table
Reaches (call ∷ calls) table =
    (before : Table) × Reaches calls before × MayBeMade before call
    × IsDisciplined before call × Did before call table

-- what a number waits to be granted
pub data Request : Type 0 where
  ToHold : (key : LockKey) (mode : Mode) → Request
  ToWrite : (key : LockKey) → Request

-- what was refused by the call
abbrev pub refused_request : KeyCall → Option Request
refused_request (Room who count) = None
refused_request (Ask who key mode Held) = None
refused_request (Ask who key mode (Busy w)) = Some (ToHold key mode)
refused_request (Raise who key Held) = None
refused_request (Raise who key (Busy w)) = Some (ToWrite key)
refused_request (DropAll who) = None

-- a number waits where its last call was answered Busy
abbrev pub request_of : List KeyCall → ℕ → Option Request
request_of [] who = None
request_of (call ∷ calls) who =
    if caller_of call == who then refused_request call else request_of calls who

-- the other's hold is in the way of the request
abbrev pub IsInTheWay : Table → ℕ → Option Request → ℕ → Type 0
IsInTheWay table who None other = ⊥
IsInTheWay table who (Some (ToHold key mode)) other = HoldsOff table who key mode other
IsInTheWay table who (Some (ToWrite key)) other = Reads table who key other

abbrev pub WaitsFor : List KeyCall → Table → ℕ → ℕ → Type 0
WaitsFor calls table who other = IsInTheWay table who (request_of calls who) other

-- from the first number over the others to the last, each waits for the next
abbrev pub IsChain : List KeyCall → Table → ℕ → List ℕ → ℕ → Type 0
IsChain calls table first [] last = WaitsFor calls table first last
IsChain calls table first (next ∷ others) last =
    WaitsFor calls table first next × IsChain calls table next others last

-- whatever disciplined calls were made, no number waits for itself over others
abbrev pub NoCycle : Type 0
NoCycle = (calls : List KeyCall) (table : Table) → Reaches calls table →
    (who : ℕ) (others : List ℕ) → ¬ (IsChain calls table who others who)
