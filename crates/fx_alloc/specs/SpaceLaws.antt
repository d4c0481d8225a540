-- What holds of allocators, for those who stand above.
use Rattle.std.specs.Prelude.{ℕ, ◌<◌, ◌⊎◌, ◌↔◌, length}
use Rattle.fx_item.specs.declared.Sizes.{Sizes}
use Rattle.fx_item.specs.declared.space.Need.{Need}
use Rattle.fx_item.specs.SpaceRule.{NeedsNothing, HasRoom}
use Rattle.fx_alloc.specs.Space.{Space, live_of, free_count, beyond_of, PassesCounts, HoldsBlock}
use Rattle.fx_alloc.specs.Inside.{IsSoundSpace}

-- the sizes of the tree and the graveyard, as they are counted
abbrev pub counted_sizes : Space → Sizes
counted_sizes s = record { nodes = s.nodes; attributes = s.attributes; blocks = live_of s }

-- Room by the rule over plain numbers, for what the tree and the counts beyond it hold, is what the
-- counts and the ids here allow.
abbrev pub CountsAgree : Type 0
CountsAgree = (s : Space) (need : Need)
    → HasRoom (length s.uses) s.ring (counted_sizes s) need (beyond_of s)
    ↔ (NeedsNothing need ⊎ PassesCounts s need)

-- For a number that may still draw, a block is free.
abbrev pub DrawsAreFree : Type 0
DrawsAreFree = (s : Space) (who : ℕ) → IsSoundSpace s → HoldsBlock s who → 0 < free_count s
