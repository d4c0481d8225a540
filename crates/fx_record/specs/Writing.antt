-- Pieces of a record's bytes, and bytes that hold a transaction's record.
use Rattle.std.specs.Prelude.{◌≡◌, ℕ, List, ◌∷◌, ◌++◌}
use Rattle.byteorder.specs.Endian.{little_bytes}
use Rattle.fx_item.specs.Item.{PlainItem}
use Rattle.fx_record.specs.Record.{TransactionRecord, record_bytes}

-- what stands before a transaction's items: length, tag, number and count
unfoldable pub head_bytes : (len number count : ℕ) → List ℕ
head_bytes len number count =
    little_bytes 4 len ++ (1 ∷ (little_bytes 8 number ++ little_bytes 4 count))

-- The bytes begin with the record of a transaction.
pub record HoldsTransaction (bytes : List ℕ) : Type 0 where
  pub number : ℕ
  pub items : List PlainItem
  pub rest : List ℕ
  pub parts : bytes ≡ record_bytes (TransactionRecord number items) ++ rest
