-- Blocks of files as they are looked up.
use Rattle.std.specs.Prelude.{Option, None, if◌then◌else◌}
use Rattle.fx_item.specs.Item.{PlainItem}
use Rattle.fx_item.specs.Overlay.{Point, Entry, BlockEntry, covers, entry_in}
use Rattle.fx_item.specs.declared.block.BlockRef.{BlockRef}

-- a block of the device and its sum, as the entry that stands for it
abbrev pub ref_entry : BlockRef → Entry
ref_entry r = BlockEntry r.block r.sum

-- what an item says of a point that it covers; nothing of any other
abbrev pub entry_by : PlainItem → Point → Option Entry
entry_by x point = if covers x.key point then entry_in x.key x.value point else None
