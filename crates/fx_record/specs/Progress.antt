-- The state of a read of a stream, and how records move it on.
use Rattle.std.specs.Prelude.{◌≡◌, ℕ, ◌+◌, ◌≤◌, List, [], ◌∷◌, ◌++◌, length, IsTrue, Option, Some, None, Result, Ok, Err}
use Rattle.std.specs.Borrow.{Bor}
use Rattle.std.specs.List.{fold}
use Rattle.fx_item.specs.Item.{PlainItem}
use Rattle.fx_item.specs.declared.item.Item.{Item}
use Rattle.fx_record.specs.Record.{PlainRecord, IsRecord, record_bytes}
use Rattle.fx_record.specs.Reading.{IsCut}
use Rattle.fx_record.specs.Txns.{Front, number_of, may_come, in_order, last_number, put, txns_of, IsTxns, IsWrong, IsBadRecord}
use Rattle.fx_record.specs.declared.txns.Progress.{Progress}
use Rattle.fx_record.specs.declared.txns.TxnsFault.{TxnsFault}
use Rattle.fx_record.specs.declared.txns.TxnsFault.TheVariants as faults

-- the last number, how many records there were, and the transactions
pub record ReadState : Type 0 where
  pub last : ℕ
  pub read : ℕ
  pub txns : List (ℕ × List PlainItem)

abbrev pub read_state : Progress → ReadState
read_state p = record { last = p.last; read = p.read; txns = txns_of p.txns.items }

-- the state after one more record
abbrev pub state_after : ReadState → PlainRecord → ReadState
state_after s x = record { last = number_of x; read = s.read + 1; txns = put s.txns x }

-- the numbers follow each other, from the one after base to last
abbrev pub IsNumbered : ℕ → List (ℕ × List PlainItem) → ℕ → Type 0
IsNumbered base [] last = last ≡ base
IsNumbered base (t ∷ txns) last = (t.0 ≡ base + 1) × IsNumbered t.0 txns last

abbrev pub Numbered : ℕ → ReadState → Type 0
Numbered base s = IsNumbered base s.txns s.last

-- Records that stand first in the texts moved the state on, and end is left of the texts.
pub record Advance (base : ℕ) (from : ReadState) (texts : List (List ℕ)) (to : ReadState)
    (end : List (List ℕ)) : Type 0 where
  pub records : List PlainRecord
  pub front : Front texts records end
  pub ordered : IsTrue (in_order base from.last records)
  pub last_is : to.last ≡ last_number from.last records
  pub read_is : to.read ≡ from.read + length records
  pub txns_are : to.txns ≡ fold put from.txns records

-- The records moved the state on to a place at which none may come.
pub record Stopped (base : ℕ) (from : ReadState) (texts : List (List ℕ)) (place : ℕ) : Type 0 where
  pub to : ReadState
  pub text : List ℕ
  pub more : List (List ℕ)
  pub advance : Advance base from texts to (text ∷ more)
  pub wrong : IsWrong base to.last text
  pub place_is : to.read ≡ place

-- One record was taken from the front of the bytes, and rest is left.
pub record Took (base : ℕ) (from : ReadState) (bytes : List ℕ) (to : ReadState)
    (rest : List ℕ) : Type 0 where
  pub x : PlainRecord
  pub is_record : IsRecord x
  pub parts : bytes ≡ record_bytes x ++ rest
  pub comes : IsTrue (may_come base from.last x)
  pub to_is : to ≡ state_after from x
  pub numbered : Numbered base to

abbrev pub NextRead : ℕ → ReadState → List ℕ → ReadState
    → Result (Option (Bor (List ℕ))) TxnsFault → Type 0
NextRead base from bytes to (Ok (Some rest)) = Took base from bytes to rest.now
NextRead base from bytes to (Ok None) = IsCut bytes × (to ≡ from)
NextRead base from bytes to (Err (faults.BadRecord place)) =
    (place ≡ from.read) × IsWrong base from.last bytes
NextRead base from bytes to (Err faults.OutOfMemory) = Unit {0}

-- A text was read to its end, whatever texts come after it; or there is a bad record in it.
pub record RunDone (base : ℕ) (from : ReadState) (text : List ℕ) (to : ReadState) : Type 0 where
  pub advance : (more : List (List ℕ)) → Advance base from (text ∷ more) to more
  pub numbered : Numbered base to
  pub few : to.read ≤ from.read + length text

abbrev pub RunRead : ℕ → ReadState → List ℕ → ReadState → Result (Unit {0}) TxnsFault → Type 0
RunRead base from text to (Ok u) = RunDone base from text to
RunRead base from text to (Err (faults.BadRecord place)) =
    (more : List (List ℕ)) → Stopped base from (text ∷ more) place
RunRead base from text to (Err faults.OutOfMemory) = Unit {0}

-- ---- the answers

abbrev pub IsAnswer : ℕ → List (ℕ × List ℕ) → Result (List (ℕ × List Item)) TxnsFault → Type 0
IsAnswer base blocks (Ok txns) = IsTxns base blocks (txns_of txns)
IsAnswer base blocks (Err (faults.BadRecord place)) = IsBadRecord base blocks place
IsAnswer base blocks (Err faults.OutOfMemory) = Unit {0}

-- These transactions were answered, unless memory ran out.
abbrev pub Gave : Result (List (ℕ × List Item)) TxnsFault → List (ℕ × List PlainItem) → Type 0
Gave (Ok txns) wanted = txns_of txns ≡ wanted
Gave (Err e) wanted = e ≡ faults.OutOfMemory

-- This bad record was told, unless memory ran out.
abbrev pub Told : Result (List (ℕ × List Item)) TxnsFault → ℕ → Type 0
Told (Ok txns) place = ⊥
Told (Err faults.OutOfMemory) place = Unit {0}
Told (Err (faults.BadRecord told)) place = told ≡ place
