-- What sizes gain.
use Rattle.std.specs.Prelude.{◌+◌, ◌≤◌}
use Rattle.fx_item.specs.declared.Sizes.{Sizes}
use Rattle.fx_item.specs.declared.space.Need.{Need}

-- the sizes are no more than the old ones and the need
pub record GainsAtMost (old : Sizes) (need : Need) (new : Sizes) : Type 0 where
  pub nodes : new.nodes ≤ old.nodes + need.nodes
  pub attributes : new.attributes ≤ old.attributes + need.attributes
  pub blocks : new.blocks ≤ old.blocks + need.blocks
