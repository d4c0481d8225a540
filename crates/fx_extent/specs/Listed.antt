-- The items of a line that writes or cuts one file, and what they say.
use Rattle.std.specs.Prelude.{◌≡◌, ℕ, List, [], ◌∷◌, ◌++◌, ◌&&◌, ◌==◌, nat_lt, map, Option, Some, None, option_map, option_to_list, if◌then◌else◌}
use Rattle.std.specs.List.{find}
use Rattle.fx_item.specs.Item.{ObjectKey, ExtentKey, FileValue, GoneValue, PlainItem}
use Rattle.fx_item.specs.Overlay.{AtKey, AtFileBlock, AtDeviceBlock, Entry, ValueEntry, Said, or_older, same_key}
use Rattle.fx_namespace.specs.Nodes.{NodeId}
use Rattle.fx_contents.specs.Cuts.{IsEdge, cut_block}
use Rattle.fx_contents.specs.Points.{Points, device_block}
use Rattle.fx_contents.specs.Staged.{StagedBlock}
use Rattle.fx_extent.specs.Allocations.{said_by}
use Rattle.fx_extent.specs.Staged.{new_entry}
use Rattle.fx_extent.specs.Touched.{is_between}
use Rattle.fx_extent.specs.declared.storing.NewBlock.{NewBlock}

-- the new blocks that stand for staged ones, by what their bytes sum up to
abbrev pub staged_blocks : (List ℕ → ℕ) → List StagedBlock → List NewBlock
staged_blocks sum staged =
    map (λ s. record { index = s.index; block = s.block; sum = sum s.bytes }) staged

-- the places of a file from one on, up to another, have no block any more
abbrev pub gone_item : NodeId → (from to : ℕ) → Option PlainItem
gone_item node from to = if nat_lt from to then
    Some (record { key = ExtentKey node.store node.id from to; value = GoneValue }) else None

-- The file's Object with its length, where its new blocks lie, which places have none any more, and
-- which blocks are taken and free again.
abbrev pub file_items : NodeId → (len : ℕ) → (extents : List PlainItem) → Option PlainItem
    → (allocations : List PlainItem) → List PlainItem
file_items node len extents gone allocations =
    record { key = ObjectKey node.store node.id; value = FileValue len }
    ∷ (extents ++ option_to_list gone ++ allocations)

-- what is said of one place of the file
abbrev pub place_said : List NewBlock → (from to n : ℕ) → Option (Option Entry)
place_said blocks from to n = or_older (option_map new_entry (find (λ x. x.index == n) blocks))
    (if is_between from to n then Some None else None)

-- what such a line says: the file's length, its new blocks, and the allocations
abbrev pub file_said : NodeId → (len : ℕ) → List NewBlock → (from to : ℕ)
    → (taken freed : List ℕ) → Said
file_said node len blocks from to taken freed (AtKey key) =
    if same_key (ObjectKey node.store node.id) key then Some (Some (ValueEntry (FileValue len)))
    else None
file_said node len blocks from to taken freed (AtFileBlock store id n) =
    if node.store == store && node.id == id then place_said blocks from to n else None
file_said node len blocks from to taken freed (AtDeviceBlock block) =
    said_by taken freed (AtDeviceBlock block)

-- The new block of a truncation: the held block in which a lesser size lies, with zeros from there on.
-- There is none where no such block is held.
abbrev pub AreCut : Points → (ℕ → List ℕ) → NodeId → (size len : ℕ) → List StagedBlock → Type 0
AreCut m f node size len [] =
    (k old : ℕ) → IsEdge size len k → device_block m node k ≡ Some old → ⊥
AreCut m f node size len (s ∷ []) = IsEdge size len s.index × (old : ℕ)
    × (device_block m node s.index ≡ Some old) × (s.bytes ≡ cut_block size s.index (f old))
AreCut m f node size len (s ∷ next ∷ rest) = ⊥
