-- What is said of bytes that are read as a record.
use Rattle.std.specs.Prelude.{◌≡◌, ◌≢◌, ◌<◌, ◌≤◌, ℕ, ◌+◌, List, [], ◌∷◌, ◌++◌, length, slice_index, take, drop, Result, Ok, Err, ◌⊎◌}
use Rattle.std.specs.Borrow.{Bor}
use Rattle.byteorder.specs.Endian.{little_number}
use Rattle.fx_item.specs.Item.{PlainItem, item_bytes, items_of}
use Rattle.fx_item.specs.declared.item.Item.{Item}
use Rattle.fx_record.specs.Record.{PlainRecord, AreItems, IsRecord, items_bytes, plain_record, body_bytes, record_bytes}
use Rattle.fx_record.specs.declared.record.Record.{Record}
use Rattle.fx_record.specs.declared.record.RecordFault.{RecordFault}
use Rattle.fx_record.specs.declared.record.RecordFault.TheVariants as faults

-- ---- the parts of bytes that are read

-- the length that the first four bytes state, and the bytes that it speaks of
abbrev pub stated : List ℕ → ℕ
stated bytes = little_number 4 bytes

abbrev pub body_at : List ℕ → List ℕ
body_at bytes = take (stated bytes) (drop 4 bytes)

-- of a transaction's body: the count that is stated, and the bytes of the items
abbrev pub count_at : List ℕ → ℕ
count_at body = little_number 4 (drop 9 body)

abbrev pub items_at : List ℕ → List ℕ
items_at body = drop 13 body

-- ---- the faults

-- Fewer bytes are there than the length and what it speaks of. So it is where the length is not
-- whole: then there are fewer than four.
abbrev pub IsCut : List ℕ → Type 0
IsCut bytes = length bytes < 4 + stated bytes

abbrev pub HoldsWhole : List ℕ → Type 0
HoldsWhole bytes = 4 + stated bytes ≤ length bytes

-- tag 1, and room for the number and the count
abbrev pub IsTransactionBody : List ℕ → Type 0
IsTransactionBody body = (slice_index body 0 ≡ 1) × (13 ≤ length body)

-- tag 2, and just room for the number
abbrev pub IsDiscardBody : List ℕ → Type 0
IsDiscardBody body = (slice_index body 0 ≡ 2) × (length body ≡ 9)

-- No item stands at the front of the bytes that may come after these.
abbrev pub NoneFollows : List PlainItem → List ℕ → Type 0
NoneFollows items bytes = (x : PlainItem) (rest : List ℕ) → bytes ≡ item_bytes x ++ rest
    → ¬ AreItems (items ++ x ∷ [])

-- Of bytes that were to hold count items: before this place there are items that ascend. There the
-- next one is missing, or all are there and bytes are left.
pub record IsBadItem (count : ℕ) (bytes : List ℕ) (place : ℕ) : Type 0 where
  pub before : List PlainItem
  pub left : List ℕ
  pub are_items : AreItems before
  pub place_is : length before ≡ place
  pub parts : bytes ≡ items_bytes before ++ left
  pub wrong : ((place < count) × NoneFollows before left) ⊎ ((place ≡ count) × (left ≢ []))

-- The body has this fault.
abbrev pub IsBodyFault : RecordFault → List ℕ → Type 0
IsBodyFault faults.BadTag body = (¬ IsTransactionBody body) × (¬ IsDiscardBody body)
IsBodyFault (faults.BadItem place) body =
    IsTransactionBody body × IsBadItem (count_at body) (items_at body) place
IsBodyFault faults.Cut body = ⊥
IsBodyFault faults.OutOfMemory body = ⊥

-- The bytes have this fault. No bytes have two.
abbrev pub IsFault : RecordFault → List ℕ → Type 0
IsFault faults.Cut bytes = IsCut bytes
IsFault faults.BadTag bytes = HoldsWhole bytes × IsBodyFault faults.BadTag (body_at bytes)
IsFault (faults.BadItem place) bytes =
    HoldsWhole bytes × IsBodyFault (faults.BadItem place) (body_at bytes)
IsFault faults.OutOfMemory bytes = ⊥

-- ---- the answers

-- One more item was taken from the front of the bytes, and rest is what is left; or none follows.
pub record TakesItem (items : List PlainItem) (bytes : List ℕ) (more : List PlainItem)
    (rest : List ℕ) : Type 0 where
  pub item : PlainItem
  pub more_is : more ≡ items ++ item ∷ []
  pub are_items : AreItems more
  pub parts : bytes ≡ item_bytes item ++ rest

abbrev pub ItemRead : ℕ → List PlainItem → List ℕ → List PlainItem
    → Result (Bor (List ℕ)) RecordFault → Type 0
ItemRead place items bytes more (Ok rest) = TakesItem items bytes more rest.now
ItemRead place items bytes more (Err (faults.BadItem at)) = (at ≡ place) × NoneFollows items bytes
ItemRead place items bytes more (Err e) = e ≡ faults.OutOfMemory

-- The bytes are those of these items, of which there are count; or they are not, at that place.
pub record AreAll (count : ℕ) (bytes : List ℕ) (items : List PlainItem) : Type 0 where
  pub are_items : AreItems items
  pub count_is : length items ≡ count
  pub bytes_are : bytes ≡ items_bytes items

abbrev pub ItemsRead : ℕ → List ℕ → Result (List Item) RecordFault → Type 0
ItemsRead count bytes (Ok items) = AreAll count bytes (items_of items)
ItemsRead count bytes (Err (faults.BadItem place)) = IsBadItem count bytes place
ItemsRead count bytes (Err e) = e ≡ faults.OutOfMemory

-- The body is that of this record.
abbrev pub IsBodyOf : List ℕ → PlainRecord → Type 0
IsBodyOf body x = IsRecord x × (body ≡ body_bytes x)

abbrev pub BodyRead : List ℕ → Result Record RecordFault → Type 0
BodyRead body (Ok x) = IsBodyOf body (plain_record x)
BodyRead body (Err e) = (e ≡ faults.OutOfMemory) ⊎ IsBodyFault e body

-- The record at the front was read as this one, with its length, unless memory ran out.
abbrev pub IsRecordReadAs : Result (Record × ℕ) RecordFault → PlainRecord → Type 0
IsRecordReadAs (Ok r) x = (plain_record r.0 ≡ x) × (r.1 ≡ length (record_bytes x))
IsRecordReadAs (Err e) x = e ≡ faults.OutOfMemory

-- The bytes were refused for this fault, unless memory ran out.
abbrev pub IsRefusedAs : Result (Record × ℕ) RecordFault → RecordFault → Type 0
IsRefusedAs (Ok r) fault = ⊥
IsRefusedAs (Err e) fault = (e ≡ faults.OutOfMemory) ⊎ (e ≡ fault)
