-- The transactions that a stream of blocks leaves. A block of the stream is its epoch and its
-- record bytes.
use Rattle.std.specs.Prelude.{◌≡◌, ℕ, ◌+◌, Bool, true, false, ◌&&◌, ◌==◌, nat_le, if◌then◌else◌, List, [], ◌∷◌, ◌++◌, length, map, filter, IsTrue}
use Rattle.std.specs.List.{fold, flat_map}
use Rattle.fx_item.specs.Item.{PlainItem, items_of}
use Rattle.fx_item.specs.declared.item.Item.{Item}
use Rattle.fx_record.specs.Record.{PlainRecord, TransactionRecord, DiscardRecord, IsRecord, record_bytes}
use Rattle.fx_record.specs.Reading.{IsCut}
use Rattle.fx_record.specs.declared.txns.Piece.{Piece}

-- the program's values as plain data
abbrev pub pieces_of : List Piece → List (ℕ × List ℕ)
pieces_of pieces = map (λ p. (p.epoch, p.records)) pieces

abbrev pub txns_of : List (ℕ × List Item) → List (ℕ × List PlainItem)
txns_of txns = map (λ t. (t.0, items_of t.1)) txns

-- ---- the bytes of each epoch

-- A block before runs of blocks: it begins a run, or the first run where that is of the same epoch.
abbrev pub onto : (ℕ × List ℕ) → List (ℕ × List ℕ) → List (ℕ × List ℕ)
onto block [] = block ∷ []
onto block (run ∷ runs) = if block.0 == run.0 then (block.0, block.1 ++ run.1) ∷ runs
    else block ∷ run ∷ runs

-- neighbours of one epoch joined
abbrev pub runs : List (ℕ × List ℕ) → List (ℕ × List ℕ)
runs [] = []
runs (block ∷ blocks) = onto block (runs blocks)

-- the bytes of each run
abbrev pub epoch_texts : List (ℕ × List ℕ) → List (List ℕ)
epoch_texts blocks = map (λ run. run.1) (runs blocks)

-- all bytes
abbrev pub all_bytes : List (ℕ × List ℕ) → List ℕ
all_bytes blocks = flat_map (λ block. block.1) blocks

-- ---- the records in the texts

-- These records stand first in the texts, and end is what is left of the texts after them. What is
-- cut at the end of a text is dropped.
pub data Front : List (List ℕ) → List PlainRecord → List (List ℕ) → Type 0 where
  Nothing : {end : List (List ℕ)} → Front end [] end
  First : {text rest : List ℕ} {more end : List
      (List ℕ)} {x : PlainRecord} {records : List PlainRecord} →
      IsRecord x → text ≡ record_bytes x ++ rest → Front (rest ∷ more) records end
      → Front (text ∷ more) (x ∷ records) end
  Dropped : {text : List ℕ} {more end : List (List ℕ)} {records : List PlainRecord} →
      IsCut text → Front more records end → Front (text ∷ more) records end

-- ---- numbers

abbrev pub number_of : PlainRecord → ℕ
number_of (TransactionRecord number items) = number
number_of (DiscardRecord number) = number

-- The record may come after this number: a transaction has the next one, and a discard none above
-- it, nor one below the base.
abbrev pub may_come : (base last : ℕ) → PlainRecord → Bool
may_come base last (TransactionRecord number items) = number == last + 1
may_come base last (DiscardRecord number) = nat_le base number && nat_le number last

-- each record may come after the one before it
abbrev pub in_order : (base last : ℕ) → List PlainRecord → Bool
in_order base last [] = true
in_order base last (x ∷ records) = may_come base last x && in_order base (number_of x) records

abbrev pub last_number : ℕ → List PlainRecord → ℕ
last_number last [] = last
last_number last (x ∷ records) = last_number (number_of x) records

-- ---- what they leave

-- A transaction is put at the end; a discard keeps the transactions up to its number.
abbrev pub put : List (ℕ × List PlainItem) → PlainRecord → List (ℕ × List PlainItem)
put txns (TransactionRecord number items) = txns ++ (number, items) ∷ []
put txns (DiscardRecord number) = filter (λ t. nat_le t.0 number) txns

abbrev pub txns_left_by : List PlainRecord → List (ℕ × List PlainItem)
txns_left_by records = fold put [] records

-- The blocks hold records in order from the base on, and these are the transactions that they
-- leave.
pub record IsTxns (base : ℕ) (blocks : List (ℕ × List ℕ))
    (txns : List (ℕ × List PlainItem)) : Type 0 where
  pub records : List PlainRecord
  pub read : Front (epoch_texts blocks) records []
  pub ordered : IsTrue (in_order base base records)
  pub txns_are : txns ≡ txns_left_by records

-- No record stands at the front of the bytes that may come after this number, and they are not cut.
abbrev pub IsWrong : (base last : ℕ) → List ℕ → Type 0
IsWrong base last bytes =
    (¬ IsCut bytes) × ((x : PlainRecord) (rest : List ℕ) → IsRecord x
    → bytes ≡ record_bytes x ++ rest → may_come base last x ≡ false)

-- The record at this place, counted from 0 in the stream, is none or has a number out of order.
pub record IsBadRecord (base : ℕ) (blocks : List (ℕ × List ℕ)) (place : ℕ) : Type 0 where
  pub records : List PlainRecord
  pub text : List ℕ
  pub more : List (List ℕ)
  pub read : Front (epoch_texts blocks) records (text ∷ more)
  pub ordered : IsTrue (in_order base base records)
  pub wrong : IsWrong base (last_number base records) text
  pub place_is : length records ≡ place
