-- Records as plain data, and their bytes. A record says that a transaction is done, or that all
-- transactions past a number are dropped.
use Rattle.std.specs.Prelude.{ℕ, ◌<◌, ◌^◌, List, ◌∷◌, ◌++◌, length, All, IsTrue}
use Rattle.std.specs.List.{flat_map}
use Rattle.byteorder.specs.Endian.{little_bytes}
use Rattle.fx_item.specs.Item.{PlainItem, IsNameItem, item_bytes, items_of}
use Rattle.fx_item.specs.Order.{is_ascending}
use Rattle.fx_record.specs.declared.record.Record.{Record}
use Rattle.fx_record.specs.declared.record.Record.TheVariants as records

pub data PlainRecord : Type 0 where
  TransactionRecord : (number : ℕ) (items : List PlainItem) → PlainRecord
  DiscardRecord : (number : ℕ) → PlainRecord

-- the program's value as plain data
abbrev pub plain_record : Record → PlainRecord
plain_record (records.Txn number items) = TransactionRecord number (items_of items)
plain_record (records.Discard number) = DiscardRecord number

-- Each is an item, and each may follow the one before it.
pub record AreItems (items : List PlainItem) : Type 0 where
  pub each : All IsNameItem items
  pub ascending : IsTrue (is_ascending items)

-- ---- the one spelling of each record

-- one item after the other
abbrev pub items_bytes : List PlainItem → List ℕ
items_bytes items = flat_map item_bytes items

-- tag, number, and for a transaction the count of its items and the items
unfoldable pub body_bytes : PlainRecord → List ℕ
body_bytes (TransactionRecord number items) =
    1 ∷ (little_bytes 8 number ++ (little_bytes 4 (length items) ++ items_bytes items))
body_bytes (DiscardRecord number) = 2 ∷ little_bytes 8 number

-- the length of what follows, and what follows
unfoldable pub record_bytes : PlainRecord → List ℕ
record_bytes x = little_bytes 4 (length (body_bytes x)) ++ body_bytes x

-- ---- which records there are

abbrev pub IsRecord : PlainRecord → Type 0
IsRecord (TransactionRecord number items) =
    (number < 2 ^ 64) × AreItems items
    × (length (body_bytes (TransactionRecord number items)) < 2 ^ 32)
IsRecord (DiscardRecord number) = number < 2 ^ 64
