-- What is known of the halves of a node.
use Rattle.std.specs.Borrow.{Bor}
use Rattle.std.specs.Prelude.{List}
use Rattle.fx_item.specs.Item.{PlainItem}
use Rattle.fx_item.specs.Place.{Place}
use Rattle.fx_merge.specs.Cursor.{level_lists, AllHold, HeadHolds}
use Rattle.fx_merge.specs.declared.cursor.Fork.{Fork}

abbrev pub ForkHolds : {L : Type 0} → (Bor L → List PlainItem) → Place → Fork L → Type 0
ForkHolds items place f =
    HeadHolds (level_lists items f.newer.levels) place f.newer.head × HeadHolds (level_lists items f.older.levels) place f.older.head
    × AllHold items place f.newer.levels × AllHold items place f.older.levels
