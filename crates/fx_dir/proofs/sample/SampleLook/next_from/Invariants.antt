use Rattle.std.proofs.Common.{take, map}
use Rattle.std.specs.Prelude.{option_copied, option_map}
use Rattle.fx_item.specs.Item.{item_of, key_of}
use Rattle.fx_item.specs.Look.{FindsFrom}
use Rattle.fx_item.specs.Overlay.{says}
use Rattle.fx_item.specs.Place.{begins}
use Rattle.fx_dir.proofs.sample.SampleLook.next_from.Given as goal

abbrev pub invariant-loop-item : goal.invariant-loop-item
invariant-loop-item l = FindsFrom (says (map item_of (take l.item-index l.item-items))) (begins (key_of l.key)) (option_map item_of (option_copied l.best))
