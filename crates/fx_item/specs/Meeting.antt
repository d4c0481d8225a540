-- Parts of items, how a newer and an older item meet, and the laws of what is found.
use Rattle.std.specs.Ordering.{is_le}
use Rattle.std.specs.Prelude.{◌≡◌, ℕ, ◌+◌, ◌-◌, ◌<◌, ◌≤◌, true, false, List, [], ◌∷◌, ◌++◌, map, reverse, Option, Some, None, take, drop, ◌⊎◌, if◌then◌else◌}
use Rattle.fx_item.specs.Item.{PlainKey, ExtentKey, AllocationKey, PlainValue, ExtentValue, PlainItem, IsKey, IsItem, item_of}
use Rattle.fx_item.specs.Order.{key_cmp, may_follow}
use Rattle.fx_item.specs.Place.{Place, place_cmp, Upto, Below, begins, ends}
use Rattle.fx_item.specs.Overlay.{Point, Said, at, covers, entry_in, says, or_older, overlay}
use Rattle.fx_item.specs.Look.{IsFirstFrom, FindsLive, is_point_key, map_of, after_all}
use Rattle.fx_item.specs.declared.item.Item.{Item}
use Rattle.fx_item.specs.declared.meeting.Meet.{Meet}
use Rattle.fx_item.specs.declared.meeting.Meet.TheVariants as meets

abbrev pub cut_key : PlainKey → ℕ → ℕ → PlainKey
cut_key (ExtentKey s i start stop) from to = ExtentKey s i from to
cut_key (AllocationKey start stop) from to = AllocationKey from to
cut_key key from to = key

-- the first numbers left out, and then so many: the block and the sums move with the cut
abbrev pub cut_value : PlainValue → ℕ → ℕ → PlainValue
cut_value (ExtentValue block sums) skip count =
    ExtentValue (block + skip) (take count (drop skip sums))
cut_value value skip count = value

-- the part of an item from one number of its range to another
abbrev pub cut_item : PlainItem → ℕ → ℕ → PlainItem
cut_item x from to = record {
  key = cut_key x.key from to;
  value = cut_value x.value (from - (begins x.key).number) (to - from);
}

-- from and to bound a part of the key's range that is not empty
abbrev pub IsPart : PlainKey → ℕ → ℕ → Type 0
IsPart (ExtentKey s i start stop) from to = (start ≤ from) × (from < to) × (to ≤ stop)
IsPart (AllocationKey start stop) from to = (start ≤ from) × (from < to) × (to ≤ stop)
IsPart _ from to = ⊥

-- a piece of an item between two places, which says there what the item says
pub record IsPiece (x piece : PlainItem) (from to : Place) : Type 0 where
  pub good : IsItem piece
  pub begin : begins piece.key ≡ from
  pub end : ends piece.key ≡ to
  pub same : (p : Point) → covers piece.key p ≡ true
      → entry_in piece.key piece.value p ≡ entry_in x.key x.value p

-- What is left of the older item before the newer one begins, and after it ends.
abbrev pub IsLeftPart : PlainItem → PlainItem → Option Item → Type 0
IsLeftPart newer older None = Upto (begins newer.key) (begins older.key)
IsLeftPart newer older (Some piece) =
    Below (begins older.key) (begins newer.key)
    × IsPiece older (item_of piece) (begins older.key) (begins newer.key)

abbrev pub IsRightPart : PlainItem → PlainItem → Option Item → Type 0
IsRightPart newer older None = Upto (ends older.key) (ends newer.key)
IsRightPart newer older (Some piece) =
    Below (ends newer.key) (ends older.key)
    × IsPiece older (item_of piece) (ends newer.key) (ends older.key)

-- How a newer and an older item meet. They are apart; or the newer hides the older; or the older is
-- cut.
abbrev pub Meets : PlainItem → PlainItem → Meet → Type 0
Meets newer older meets.Apart =
    Upto (ends newer.key) (begins older.key) ⊎ Upto (ends older.key) (begins newer.key)
Meets newer older meets.Hidden =
    Upto (begins newer.key) (begins older.key) × Upto (ends older.key) (ends newer.key)
Meets newer older (meets.Cut left right) =
    IsLeftPart newer older left × IsRightPart newer older right
    × Below (begins newer.key) (ends older.key) × Below (begins older.key) (ends newer.key)

-- ---- the points that are left

abbrev pub piece_list : Option Item → List PlainItem
piece_list None = []
piece_list (Some x) = item_of x ∷ []

-- what is left of the older item
abbrev pub rest_of : PlainItem → Meet → List PlainItem
rest_of older meets.Apart = older ∷ []
rest_of older meets.Hidden = []
rest_of older (meets.Cut left right) = piece_list left ++ piece_list right

-- The pieces say what the older item says, at exactly the points that the newer one does not cover.
abbrev pub MeetLaw : Type 0
MeetLaw = (newer older : PlainItem) (m : Meet) → IsItem newer → Meets newer older m → (p : Point)
    → says (rest_of older m) p ≡ (if covers newer.key p then None else says (older ∷ []) p)

-- A key covers the points from where it begins to where it ends.
abbrev pub CoverLaw : Type 0
CoverLaw = (key : PlainKey) (p : Point)
    → (covers key p ≡ true → Upto (begins key) (at p) × Below (at p) (ends key))
    × (Upto (begins key) (at p) → Below (at p) (ends key) → covers key p ≡ true)

-- An overlay of overlays is the overlay of all lists.
abbrev pub OverlayLaw : Type 0
OverlayLaw = (xs ys : List Said) (p : Point)
    → overlay (xs ++ ys) p ≡ or_older (overlay xs p) (overlay ys p)

-- What stands under each key after lists is the map of their overlay.
abbrev pub AfterAllLaw : Type 0
AfterAllLaw = (lists : List (List PlainItem)) (key : PlainKey)
    → after_all lists key ≡ map_of (overlay (map says (reverse lists))) key

-- Two answers of one look begin with the same points and say the same of them: they differ in where
-- they end alone.
abbrev pub SplitLaw : Type 0
SplitLaw = (said : Said) (from : Place) (x y : PlainItem)
    → IsFirstFrom said from x → IsFirstFrom said from y → (p : Point) → Upto from (at p)
    → (Below (at p) (begins x.key) → covers y.key p ≡ false)
    × (covers x.key p ≡ true → covers y.key p ≡ true
    → entry_in x.key x.value p ≡ entry_in y.key y.value p)

-- What a look finds first stands under its key, and under no point key before it anything stands.
pub record IsFirstKey (said : Said) (key : PlainKey) (x : PlainItem) : Type 0 where
  pub stands : is_point_key x.key ≡ true → map_of said x.key ≡ Some x.value
  pub first : (other : PlainKey) → Upto (begins key) (begins other)
      → Below (begins other) (begins x.key) → map_of said other ≡ None

abbrev pub FindsKey : Said → PlainKey → Option PlainItem → Type 0
FindsKey said key None =
    (other : PlainKey) → Upto (begins key) (begins other) → map_of said other ≡ None
FindsKey said key (Some x) = IsFirstKey said key x

abbrev pub KeyLaw : Type 0
KeyLaw = (said : Said) (key : PlainKey) (found : Option PlainItem)
    → FindsLive said (begins key) found → FindsKey said key found

-- The order of point keys is that of the places where they begin.
abbrev pub OrderLaw : Type 0
OrderLaw = (a b : PlainKey) → is_point_key a ≡ true → is_point_key b ≡ true
    → key_cmp a b ≡ place_cmp (begins a) (begins b)

-- A key may follow an earlier one in a list exactly where it begins at its end or behind it.
abbrev pub FollowLaw : Type 0
FollowLaw = (a b : PlainKey) → IsKey a → IsKey b
    → may_follow a b ≡ is_le (place_cmp (ends a) (begins b))
