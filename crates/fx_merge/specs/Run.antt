-- What a merge gives from a place on, its first item that is no tombstone and all its items, and where
-- it is afterwards.
use Rattle.std.specs.Prelude.{◌≡◌, List, Option, Some, None}
use Rattle.fx_item.specs.Item.{PlainItem}
use Rattle.fx_item.specs.Place.{Upto, Below}
use Rattle.fx_item.specs.Overlay.{Point, at, says, live_in}
use Rattle.fx_item.specs.Look.{AllApart, FindsFrom, SayFrom}
use Rattle.fx_merge.specs.Cursor.{says_all}
use Rattle.fx_merge.specs.Merge.{MergeState, after_item}

-- The items are in order, and say from the place on what the levels say together.
pub record IsMerged (s : MergeState) (items : List PlainItem) : Type 0 where
  pub apart : AllApart items
  pub same : SayFrom (says items) (says_all s.levels) s.place

-- It is a merge of the same levels, at the same place or behind it.
pub record HasMoved (old new : MergeState) : Type 0 where
  pub levels : new.levels ≡ old.levels
  pub lacks : new.lacks ≡ old.lacks
  pub upto : Upto old.place new.place

-- It moved over points at which nothing stands.
pub record HasPassed (old new : MergeState) : Type 0 where
  pub moved : HasMoved old new
  pub clear : (p : Point) → Upto old.place (at p) → Below (at p) new.place
      → live_in (says_all old.levels) p ≡ None

-- It moved to a place from which on nothing is said.
pub record IsAtEnd (old new : MergeState) : Type 0 where
  pub moved : HasMoved old new
  pub rest : FindsFrom (says_all new.levels) new.place None

-- behind the item that was given, or at the end
abbrev pub IsBehind : MergeState → MergeState → Option PlainItem → Type 0
IsBehind old new None = IsAtEnd old new
IsBehind old new (Some x) = new ≡ after_item old (Some x)
