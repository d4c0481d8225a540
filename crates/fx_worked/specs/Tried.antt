-- What plain slow functions answer, in the words of the definitions that they try.
use Rattle.std.specs.Prelude.{◌≡◌, ℕ, List, Some, Contains}
use Rattle.fx_item.specs.Item.{PlainItem, value_of}
use Rattle.fx_item.specs.Overlay.{Point, AtFileBlock, AtDeviceBlock, Entry, ValueEntry, BlockEntry}
use Rattle.fx_verify.specs.Kept.{live_sum}
use Rattle.fx_worked.specs.declared.looking.Spot.{Spot}
use Rattle.fx_worked.specs.declared.looking.Spot.TheVariants as spots
use Rattle.fx_worked.specs.declared.looking.Told.{Told}
use Rattle.fx_worked.specs.declared.looking.Told.TheVariants as tolds

-- If the block is live after these transactions, it was found with the sum that is stated for it.
abbrev pub IsAsStated : List (ℕ × List PlainItem) → List (ℕ × ℕ) → ℕ → Type 0
IsAsStated txns found block = (sum : ℕ) → live_sum txns block ≡ Some sum
    → Contains found (block, sum)

abbrev pub point_of : Spot → Point
point_of (spots.FileBlock store id place) = AtFileBlock store id place
point_of (spots.DeviceBlock block) = AtDeviceBlock block

abbrev pub entry_told : Told → Entry
entry_told (tolds.Value value) = ValueEntry (value_of value.now)
entry_told (tolds.Block block sum) = BlockEntry block sum
