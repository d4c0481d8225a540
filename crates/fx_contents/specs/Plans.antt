-- A write with new blocks from a number on, written out: the conditions of a write can be met.
use Rattle.std.specs.Prelude.{ℕ, ◌+◌, ◌-◌, ◌==◌, ◌&&◌, nat_lt, max, List, length, Option, None, Some, if◌then◌else◌}
use Rattle.fx_item.specs.Item.{PlainKey, ObjectKey, AttributeKey, ExtentKey, ChildKey, GraveKey, AllocationKey, FileValue}
use Rattle.fx_item.specs.Overlay.{AtKey, AtFileBlock, AtDeviceBlock, Entry, ValueEntry, BlockEntry, Said}
use Rattle.fx_namespace.specs.Nodes.{NodeId}
use Rattle.fx_contents.specs.Points.{Points, device_block}
use Rattle.fx_contents.specs.Files.{bytes_of_block}
use Rattle.fx_contents.specs.Writes.{is_covered, patched}

-- the Object of a node tells a file's length, and nothing is said of another key
abbrev pub length_said : NodeId → ℕ → PlainKey → Option (Option Entry)
length_said node len (ObjectKey store id) =
    if store == node.store && id == node.id then Some (Some (ValueEntry (FileValue len))) else None
length_said node len (AttributeKey store id name) = None
length_said node len (ExtentKey store id start stop) = None
length_said node len (ChildKey store id name) = None
length_said node len (GraveKey store id) = None
length_said node len (AllocationKey start stop) = None

-- what the items say: block k of the file is block `base + k` of the device
abbrev pub planned_write : NodeId → (base at : ℕ) → List ℕ → ℕ → Said
planned_write node base at text len (AtKey key) =
    length_said node (max len (at + length text)) key
planned_write node base at text len (AtFileBlock store id k) =
    if store == node.store && id == node.id then
    (if is_covered at text k then Some (Some (BlockEntry (base + k) 0)) else None)
    else None
planned_write node base at text len (AtDeviceBlock b) = None

-- what the blocks of the device hold then
abbrev pub planned_blocks : Points → (ℕ → List ℕ) → NodeId → (base at : ℕ) → List ℕ → ℕ → List ℕ
planned_blocks m f node base at text b =
    if nat_lt b base then f b
    else patched at text (b - base) (bytes_of_block f (device_block m node (b - base)))
