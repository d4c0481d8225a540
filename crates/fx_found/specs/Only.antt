-- Which faults may still be told of a sound image, and what stands in one before its transactions.
use Rattle.std.specs.Prelude.{◌++◌, reverse}
use Rattle.fx_item.specs.Overlay.{live_in}
use Rattle.fx_contents.specs.Points.{Points}
use Rattle.fx_merge.specs.Cursor.{says_all}
use Rattle.fx_layerset.specs.Levels.{item_lists}
use Rattle.fx_found.specs.Image.{ImageParts, layer_levels}
use Rattle.fx_found.specs.declared.fault.FindFault.{FindFault}
use Rattle.fx_found.specs.declared.fault.FindFault.TheVariants.{Cramped, Device, OutOfMemory}

-- No fault of the image's own but that it is cramped; that the disk failed; that memory was short.
abbrev pub MayStillHold : FindFault → Type 0
MayStillHold (Cramped free) = Unit {0}
MayStillHold Device = Unit {0}
MayStillHold OutOfMemory = Unit {0}
MayStillHold fault = ⊥

-- what stands at each point by the layers alone, before the first transaction
abbrev pub base_points : ImageParts → Points
base_points p = live_in (says_all (item_lists
    (reverse (layer_levels p.objects) ++ reverse (layer_levels p.allocs))))
