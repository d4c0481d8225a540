-- The state of a merge, and what its items are.
use Rattle.std.specs.Prelude.{◌≡◌, ℕ, Bool, true, List, map, count_by, Option, Some, None, is_some}
use Rattle.std.specs.List.{flat_map}
use Rattle.std.specs.Ordering.{is_lt}
use Rattle.fx_item.specs.Item.{PlainKey, PlainItem, IsItem, item_of}
use Rattle.fx_item.specs.Place.{Place, place_cmp, Upto, Below, begins, ends}
use Rattle.fx_item.specs.Overlay.{Said}
use Rattle.fx_item.specs.Look.{IsFirstFrom}
use Rattle.fx_item.specs.Meeting.{IsPiece}
use Rattle.fx_item.specs.declared.item.Item.{Item}
use Rattle.fx_merge.specs.Cursor.{edges_of}

-- the lists of the levels, the newest first; the blocks that are not at hand; where the merge goes on,
-- and whether an item was given
pub record MergeState : Type 0 where
  pub levels : List (List PlainItem)
  pub lacks : List ℕ
  pub place : Place
  pub started : Bool

-- where a merge goes on: from its first key, and then from the end of the last item
abbrev pub place_now : PlainKey → Option PlainItem → Place
place_now from None = begins from
place_now from (Some last) = ends last.key

abbrev pub merge_state : {X : Type 0} → (X → List PlainItem) → (X → List ℕ) → List X
    → PlainKey → Option PlainItem → MergeState
merge_state items lacks levels from last = record {
  levels = map items levels;
  lacks = flat_map lacks levels;
  place = place_now from last;
  started = is_some last;
}

-- after an item was given
abbrev pub after_item : MergeState → Option PlainItem → MergeState
after_item s None = s
after_item s (Some x) = record s { place = ends x.key; started = true }

-- nothing begins before a place
abbrev pub BeginsFrom : Place → Option PlainItem → Type 0
BeginsFrom place None = Unit {0}
BeginsFrom place (Some x) = Upto place (begins x.key)

-- once an item was given, the next one does not begin before its end
abbrev pub IsOnward : MergeState → Option PlainItem → Type 0
IsOnward s x = s.started ≡ true → BeginsFrom s.place x

abbrev pub IsGiven : Option PlainItem → Type 0
IsGiven None = Unit {0}
IsGiven (Some last) = IsItem last

-- What is left of an item behind another one, past whose end it ends; None where it is left whole.
abbrev pub IsRemainder : PlainItem → PlainItem → Option Item → Type 0
IsRemainder last item None = Upto (ends last.key) (begins item.key)
IsRemainder last item (Some rest) =
    Below (begins item.key) (ends last.key)
    × IsPiece item (item_of rest) (ends last.key) (ends item.key)

-- x comes first from the end of the last item on wherever the item does, and begins there or behind it
pub record IsTrimmed (last item x : PlainItem) : Type 0 where
  pub first : (said : Said) → IsFirstFrom said (ends last.key) item
      → IsFirstFrom said (ends last.key) x
  pub begin : Upto (ends last.key) (begins x.key)
  pub end : ends x.key ≡ ends item.key

abbrev pub IsTrimmedLast : Option PlainItem → PlainItem → PlainItem → Type 0
IsTrimmedLast None item x = x ≡ item
IsTrimmedLast (Some last) item x = IsTrimmed last item x

-- how many ends of the levels' items lie past a place
abbrev pub edges_past : List (List PlainItem) → Place → ℕ
edges_past lists place = count_by (λ q. is_lt (place_cmp place q)) (edges_of lists)
