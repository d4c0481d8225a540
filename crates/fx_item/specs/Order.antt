-- The order of keys, and which items may follow each other in one list.
use Rattle.std.specs.Prelude.{ℕ, Bool, true, ◌&&◌, ◌||◌, ◌==◌, not, nat_le, List, [], ◌∷◌}
use Rattle.std.specs.Ordering.{nat_cmp, is_lt}
use Rattle.std.specs.Cmp.Lexicographic.{slice_cmp}
use Rattle.std.specs.declared.cmp.Ordering.{Ordering}
use Rattle.fx_item.specs.Item.{PlainKey, ObjectKey, AttributeKey, ExtentKey, ChildKey, GraveKey, AllocationKey, PlainItem}

-- A key as numbers that are compared from left to right: the keys of nodes first, by store, id,
-- kind, and name or range; then those of the allocator, by range.
abbrev pub rank : PlainKey → List ℕ
rank (ObjectKey store id) = 0 ∷ store ∷ id ∷ 1 ∷ []
rank (AttributeKey store id name) = 0 ∷ store ∷ id ∷ 2 ∷ name
rank (ExtentKey store id start stop) = 0 ∷ store ∷ id ∷ 3 ∷ start ∷ stop ∷ []
rank (ChildKey store id name) = 0 ∷ store ∷ id ∷ 4 ∷ name
rank (GraveKey store id) = 0 ∷ store ∷ id ∷ 5 ∷ []
rank (AllocationKey start stop) = 1 ∷ start ∷ stop ∷ []

abbrev pub key_cmp : PlainKey → PlainKey → Ordering
key_cmp a b = slice_cmp nat_cmp (rank a) (rank b)

-- the ranges of one file, and those of the device, are apart
abbrev pub is_apart : PlainKey → PlainKey → Bool
is_apart (ExtentKey s i start stop) (ExtentKey t j next end) =
    not (s == t && i == j) || nat_le stop next
is_apart (AllocationKey start stop) (AllocationKey next end) = nat_le stop next
is_apart _ _ = true

-- a key may follow an earlier one in a list: it is greater, and overlaps it nowhere
abbrev pub may_follow : PlainKey → PlainKey → Bool
may_follow earlier later = is_lt (key_cmp earlier later) && is_apart earlier later

-- each key of the list may follow the one before it
abbrev pub is_ascending : List PlainItem → Bool
is_ascending [] = true
is_ascending (x ∷ []) = true
is_ascending (x ∷ y ∷ rest) = may_follow x.key y.key && is_ascending (y ∷ rest)
