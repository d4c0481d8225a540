-- The items of the tests.
use Rattle.std.specs.Prelude.{◌≡◌, true}
use Rattle.fx_item.specs.Item.{PlainItem, IsItem}
use Rattle.fx_item.specs.Look.{is_point_key}

-- an item under the key of one point
pub record IsPlain (x : PlainItem) : Type 0 where
  pub good : IsItem x
  pub point : is_point_key x.key ≡ true
