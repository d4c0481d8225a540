-- What a value's length in bytes rests on.
use Rattle.std.specs.Prelude.{◌≤◌, length}
use Rattle.fx_item.specs.Item.{PlainValue, AttributeValue, ExtentValue}
use Rattle.fx_item.specs.declared.item.TheConstants.{MAX_EXTENT_BLOCKS, MAX_TEXT}

-- a text and sums within their bounds
abbrev pub IsShort : PlainValue → Type 0
IsShort (AttributeValue text) = length text ≤ MAX_TEXT
IsShort (ExtentValue block sums) = length sums ≤ MAX_EXTENT_BLOCKS
IsShort _ = Unit {0}
