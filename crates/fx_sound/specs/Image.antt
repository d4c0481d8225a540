-- An image as plain data, and what is counted in it.
use Rattle.std.specs.Prelude.{◌≡◌, ℕ, ◌+◌, ◌-◌, Bool, true, false, List, length, count_by, sum_by, Some}
use Rattle.std.specs.List.{slice_get}
use Rattle.fx_item.specs.Item.{PlainKey, ObjectKey, AttributeKey, ExtentKey, PlainItem}
use Rattle.fx_item.specs.Overlay.{live_in, says}
use Rattle.fx_item.specs.Look.{AllApart, is_gone}
use Rattle.fx_item.specs.SpaceRule.{layer_bound}
use Rattle.fx_item.specs.declared.Sizes.{Sizes}
use Rattle.fx_contents.specs.Points.{Points}
use Rattle.fx_sound.specs.declared.image.ImageNumbers.{ImageNumbers}

-- What a mount has gathered of an image before it is judged.
pub record PlainImage : Type 0 where
  -- blocks of the disk, and of the ring
  pub disk : ℕ
  pub ring : ℕ
  -- the blocks of its layers
  pub layers : List ℕ
  -- what its layers and kept transactions say together, in order
  pub items : List PlainItem
  -- blocks of its stream, and whether it has transactions beyond the kept number
  pub stream : ℕ
  pub drops : Bool
  pub numbers : ImageNumbers

-- The items stand: in order, none covers a point of another, and none is a tombstone.
pub record AreStanding (items : List PlainItem) : Type 0 where
  pub apart : AllApart items
  pub alive : (i : ℕ) (x : PlainItem) → slice_get items i ≡ Some x → is_gone x.value ≡ false

-- what stands at each point
abbrev pub points_in : List PlainItem → Points
points_in items = live_in (says items)

-- ---- what is counted, the graveyard included

abbrev pub is_object : PlainKey → Bool
is_object (ObjectKey store id) = true
is_object _ = false

abbrev pub is_attribute : PlainKey → Bool
is_attribute (AttributeKey store id name) = true
is_attribute _ = false

-- blocks of a file that a key covers
abbrev pub blocks_under : PlainKey → ℕ
blocks_under (ExtentKey store id start stop) = stop - start
blocks_under _ = 0

abbrev pub node_total : List PlainItem → ℕ
node_total items = count_by (λ x. is_object x.key) items

abbrev pub attribute_total : List PlainItem → ℕ
attribute_total items = count_by (λ x. is_attribute x.key) items

-- live blocks: those of files
abbrev pub block_total : List PlainItem → ℕ
block_total items = sum_by (λ x. blocks_under x.key) items

-- the bound on the blocks of the layers that these items want
abbrev pub layers_wanted : List PlainItem → ℕ
layers_wanted items = layer_bound (node_total items) (attribute_total items) (block_total items)

-- blocks that are neither of the system, nor live, nor of a layer
abbrev pub free_blocks : PlainImage → ℕ
free_blocks image =
    image.disk - (image.ring + 2 + block_total image.items + length image.layers)
