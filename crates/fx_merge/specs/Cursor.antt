-- The levels below a node of the tree of a merge, and what is known of what comes first in each part.
use Rattle.std.specs.Prelude.{◌+◌, ℕ, Bool, true, false, not, List, [], ◌∷◌, ◌++◌, map, Option, Some, None}
use Rattle.std.specs.Borrow.{Bor}
use Rattle.std.specs.List.{flat_map}
use Rattle.std.specs.Ordering.{is_le}
use Rattle.fx_item.specs.Item.{PlainItem, key_of}
use Rattle.fx_item.specs.Place.{Place, place_cmp, Upto, begins, ends}
use Rattle.fx_item.specs.Overlay.{Said, says, overlay}
use Rattle.fx_item.specs.Look.{FindsFrom}
use Rattle.fx_merge.specs.Choice.{head_item, HasEdges}
use Rattle.fx_merge.specs.declared.choice.Head.{Head}
use Rattle.fx_merge.specs.declared.choice.Head.TheVariants as heads
use Rattle.fx_merge.specs.declared.cursor.Cursor.{Cursor, Empty, One, Two'}

-- what is known still holds from a place on
abbrev pub reaches : Place → Head → Bool
reaches place heads.Unknown = false
reaches place (heads.Known None) = true
reaches place (heads.Known (Some x)) = not (is_le (place_cmp (ends (key_of x.key)) place))

-- where the items of lists begin and end
abbrev pub item_edges : PlainItem → List Place
item_edges x = begins x.key ∷ ends x.key ∷ []

abbrev pub list_edges : List PlainItem → List Place
list_edges items = flat_map item_edges items

abbrev pub edges_of : List (List PlainItem) → List Place
edges_of lists = flat_map list_edges lists

-- what lists say together, the newest first
abbrev pub says_all : List (List PlainItem) → Said
says_all lists = overlay (map says lists)

-- what was found first in lists from an earlier place on
pub record WasFirst (lists : List (List PlainItem)) (place : Place)
    (found : Option PlainItem) : Type 0 where
  pub from : Place
  pub upto : Upto from place
  pub finds : FindsFrom (says_all lists) from found
  pub edges : HasEdges (edges_of lists) from found

abbrev pub HeadHolds : List (List PlainItem) → Place → Head → Type 0
HeadHolds lists place heads.Unknown = Unit {0}
HeadHolds lists place (heads.Known x) = WasFirst lists place (head_item (heads.Known x))

-- what is found first from the place on
pub record FindsIn (lists : List (List PlainItem)) (place : Place)
    (found : Option PlainItem) : Type 0 where
  pub finds : FindsFrom (says_all lists) place found
  pub edges : HasEdges (edges_of lists) place found

-- ---- the tree

-- the levels of a node, the newest first
abbrev pub levels_of : {L : Type 0} → Cursor L → List (Bor L)
levels_of Empty = []
levels_of (One level) = level ∷ []
levels_of (Two' p head newer last older) = levels_of newer ++ levels_of older

abbrev pub level_lists : {L : Type 0} → (Bor L → List PlainItem) → Cursor L → List (List PlainItem)
level_lists items cursor = map items (levels_of cursor)

-- each head is what was found first in its part
abbrev pub AllHold : {L : Type 0} → (Bor L → List PlainItem) → Place → Cursor L → Type 0
AllHold items place Empty = Unit {0}
AllHold items place (One level) = Unit {0}
AllHold items place (Two' p head newer last older) =
    HeadHolds (level_lists items newer) place head × HeadHolds (level_lists items older) place last
    × AllHold items place newer × AllHold items place older

-- how many nodes there are
abbrev pub cursor_size : {L : Type 0} → Cursor L → ℕ
cursor_size Empty = 1
cursor_size (One level) = 1
cursor_size (Two' p head newer last older) = cursor_size newer + cursor_size older + 1
