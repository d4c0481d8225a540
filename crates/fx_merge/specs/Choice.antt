-- What comes first in the overlay of a newer and an older part, given what comes first in each.
use Rattle.std.specs.Prelude.{◌≡◌, ◌⊎◌, Bool, ◌||◌, List, Option, Some, None, option_map, Contains}
use Rattle.std.specs.Ordering.{is_le}
use Rattle.fx_item.specs.Item.{PlainKey, PlainItem, IsItem, item_of}
use Rattle.fx_item.specs.Place.{Place, place_cmp, Below, begins, ends}
use Rattle.fx_item.specs.Overlay.{Said, over}
use Rattle.fx_item.specs.Look.{FindsFrom}
use Rattle.fx_merge.specs.declared.choice.Head.{Head}
use Rattle.fx_merge.specs.declared.choice.Head.TheVariants as heads
use Rattle.fx_merge.specs.declared.choice.Choice.{Choice}
use Rattle.fx_merge.specs.declared.choice.Choice.TheVariants as choices

abbrev pub head_item : Head → Option PlainItem
head_item heads.Unknown = None
head_item (heads.Known x) = option_map item_of x

-- An end of the item that lies past a place is one of these places.
abbrev pub HasEdges : List Place → Place → Option PlainItem → Type 0
HasEdges edges place None = Unit {0}
HasEdges edges place (Some x) =
    (Below place (begins x.key) → Contains edges (begins x.key))
    × (Below place (ends x.key) → Contains edges (ends x.key))

abbrev pub IfItem : Option PlainItem → Type 0
IfItem None = Unit {0}
IfItem (Some x) = IsItem x

-- x comes first in an overlay wherever the newer one comes first in its upper part, and the older one
-- in its lower part; and its ends are ends of theirs.
pub record ComesFirst (place : Place) (newer older x : Option PlainItem) : Type 0 where
  pub first : (m n : Said) → FindsFrom m place newer → FindsFrom n place older
      → FindsFrom (over m n) place x
  pub edges : (edges : List Place) → HasEdges edges place newer → HasEdges edges place older
      → HasEdges edges place x

-- which one was chosen
abbrev pub chosen : Option PlainItem → Option PlainItem → Choice → Option PlainItem
chosen newer older choices.Newer = newer
chosen newer older choices.Older = older
chosen newer older (choices.Left x) = Some (item_of x)

-- the newer key begins no later than the older one, or no later than the place
abbrev pub leads_at : Place → PlainKey → PlainKey → Bool
leads_at place newer older =
    is_le (place_cmp (begins newer) (begins older)) || is_le (place_cmp (begins newer) place)

-- the head stays, or is to be looked up anew
abbrev pub StaysOrGoes : Head → Head → Type 0
StaysOrGoes old new = (new ≡ old) ⊎ (new ≡ heads.Unknown)
