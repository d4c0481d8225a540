-- Which parts a value has.
use Rattle.std.specs.Prelude.{ℕ, ◌+◌, ◌≤◌, length}
use Rattle.fx_item.specs.Item.{PlainValue, ExtentValue}
use Rattle.fx_item.specs.declared.item.TheConstants.{MAX_DEVICE_BLOCKS}

-- there are so many numbers behind the first ones, and the blocks lie on the device
abbrev pub HasPart : PlainValue → ℕ → ℕ → Type 0
HasPart (ExtentValue block sums) skip count =
    (skip + count ≤ length sums) × (block + skip + count ≤ MAX_DEVICE_BLOCKS)
HasPart value skip count = Unit {0}
