-- How the read of a layer goes on, block by block.
use Rattle.std.specs.Prelude.{◌≡◌, ◌⊎◌, ℕ, Bool, true, false, List, ◌∷◌, ◌++◌, Option, Some, None, Result, Ok, Err}
use Rattle.fx_item.specs.Item.{PlainItem, items_of}
use Rattle.fx_item.specs.declared.item.Item.{Item}
use Rattle.fx_layfile.specs.Block.{IsIndexBlock, IsDataBlock}
use Rattle.fx_layfile.specs.Layer.{BlockBytes, IsUnmarked, AreUnmarked, mark_block, mark_blocks, IndexPart, DataPart, first_part, IsIndexChain, index_places, names_of_parts, data_places, items_of_parts, AreData, IsBadIndex, IsBadData, IsDisordered, EndsOrder, Verdict, Whole, BadAt, DisorderAt, IsVerdict}
use Rattle.fx_layfile.specs.declared.layer.LayerFault.{LayerFault}
use Rattle.fx_layfile.specs.declared.layer.LayerFault.TheVariants as faults

-- a layer in memory: its blocks, index blocks first, and its items
pub record PlainLayer : Type 0 where
  pub blocks : List ℕ
  pub items : List PlainItem

-- no read failed
abbrev pub is_read : {T : Type 0} → Result T LayerFault → Bool
is_read (Ok x) = true
is_read (Err faults.Device) = false
is_read (Err fault) = true

-- The mark of a block was set, where the block had none.
abbrev pub Claimed : (ring : ℕ) → List Bool → ℕ → List Bool → Bool → Type 0
Claimed ring old at new true = IsUnmarked ring old at × (new ≡ mark_block old at)
Claimed ring old at new false = (IsUnmarked ring old at → ⊥) × (new ≡ old)

-- The mark of a block was set, or not as it may not be read.
abbrev pub IsClaimed : (ring : ℕ) → List Bool → ℕ → List Bool → Type 0
IsClaimed ring old at new = (free : Bool) × Claimed ring old at new free

-- A block was read, and its mark set; or it may not be read.
abbrev pub Fetched : (ring : ℕ) → List Bool → ℕ → List Bool → Result (Unit {0}) LayerFault
    → Type 0
Fetched ring old at new (Ok u) = IsUnmarked ring old at × (new ≡ mark_block old at)
Fetched ring old at new (Err (faults.BadBlock bad)) = (bad ≡ at) × (IsUnmarked ring old at → ⊥)
Fetched ring old at new (Err (faults.Order bad)) = ⊥
Fetched ring old at new (Err faults.Device) = Unit {0}
Fetched ring old at new (Err faults.OutOfMemory) = Unit {0}

-- ---- the index blocks

-- The index blocks so far lead from the first one to `at`, and name these data blocks.
pub record Leads (blocks : BlockBytes) (tree first at : ℕ) (places names : List ℕ) : Type 0 where
  pub parts : List IndexPart
  pub begins : first_part parts at ≡ first
  pub chain : IsIndexChain blocks tree parts at
  pub places_are : places ≡ index_places parts
  pub names_are : names ≡ names_of_parts parts

-- One index block was read behind these, or it is bad.
abbrev pub LeadsOn : BlockBytes → (ring : ℕ) → List Bool → (tree at : ℕ) → (names more : List ℕ)
    → Result ℕ LayerFault → Type 0
LeadsOn blocks ring marks tree at names more (Ok next) =
    (found : List ℕ) × (more ≡ names ++ found) × IsIndexBlock (blocks at) tree next found
LeadsOn blocks ring marks tree at names more (Err (faults.BadBlock bad)) =
    (bad ≡ at) × ((next : ℕ) (found : List ℕ) → IsUnmarked ring marks at
    → IsIndexBlock (blocks at) tree next found → ⊥)
LeadsOn blocks ring marks tree at names more (Err (faults.Order bad)) = ⊥
LeadsOn blocks ring marks tree at names more (Err faults.Device) = Unit {0}
LeadsOn blocks ring marks tree at names more (Err faults.OutOfMemory) = Unit {0}

-- This index block is bad, and marks are left: those of the good ones before it, and its own if it
-- was unmarked.
abbrev pub BadIndexLeaves : BlockBytes → (ring : ℕ) → (old new : List Bool)
    → (tree first bad : ℕ) → Type 0
BadIndexLeaves blocks ring old new tree first bad =
    (h : IsBadIndex blocks ring old tree first bad)
    × IsClaimed ring (mark_blocks old (index_places h.parts)) bad new

abbrev pub IndexFound : BlockBytes → (ring : ℕ) → (old new : List Bool) → (tree first : ℕ)
    → Result (List ℕ × List ℕ) LayerFault → Type 0
IndexFound blocks ring old new tree first (Ok r) = Leads blocks tree first 0 r.0 r.1
IndexFound blocks ring old new tree first (Err (faults.BadBlock bad)) =
    BadIndexLeaves blocks ring old new tree first bad
IndexFound blocks ring old new tree first (Err (faults.Order bad)) = ⊥
IndexFound blocks ring old new tree first (Err faults.Device) = Unit {0}
IndexFound blocks ring old new tree first (Err faults.OutOfMemory) = Unit {0}

-- ---- the data blocks

-- the first block with which the order ended, with one more block
abbrev pub noted : Option ℕ → (ascends : Bool) → (at : ℕ) → Option ℕ
noted (Some bad) ascends at = Some bad
noted None true at = None
noted None false at = Some at

abbrev pub EndsAt : List DataPart → Option ℕ → Type 0
EndsAt leaves None = Unit {0}
EndsAt leaves (Some bad) = IsDisordered leaves bad

-- The data blocks so far hold these items, and the order ended where it did.
pub record Gathers (blocks : BlockBytes) (tree : ℕ) (places : List ℕ) (items : List PlainItem)
    (disorder : Option ℕ) : Type 0 where
  pub leaves : List DataPart
  pub named : places ≡ data_places leaves
  pub leaves_are : AreData blocks tree leaves
  pub items_are : items ≡ items_of_parts leaves
  pub ends : EndsAt leaves disorder

-- A data block was read, or it is bad.
abbrev pub GathersOn : BlockBytes → (ring : ℕ) → List Bool → (tree at : ℕ)
    → (old new : List PlainItem) → Result (Unit {0}) LayerFault → Type 0
GathersOn blocks ring marks tree at old new (Ok u) =
    (more : List PlainItem) × (new ≡ old ++ more) × IsDataBlock (blocks at) tree more
GathersOn blocks ring marks tree at old new (Err (faults.BadBlock bad)) =
    (bad ≡ at) × ((found : List PlainItem) → IsUnmarked ring marks at
    → IsDataBlock (blocks at) tree found → ⊥)
GathersOn blocks ring marks tree at old new (Err (faults.Order bad)) = ⊥
GathersOn blocks ring marks tree at old new (Err faults.Device) = Unit {0}
GathersOn blocks ring marks tree at old new (Err faults.OutOfMemory) = Unit {0}

-- A data block that is bad, among those named. All before it are good.
pub record IsBadName (blocks : BlockBytes) (ring : ℕ) (marks : List Bool) (tree : ℕ)
    (names : List ℕ) (bad : ℕ) : Type 0 where
  pub leaves : List DataPart
  pub rest : List ℕ
  pub named : names ≡ data_places leaves ++ bad ∷ rest
  pub leaves_are : AreData blocks tree leaves
  pub unmarked : AreUnmarked ring marks (data_places leaves)
  pub wrong : (items : List PlainItem)
      → IsUnmarked ring (mark_blocks marks (data_places leaves)) bad
      → IsDataBlock (blocks bad) tree items → ⊥

-- It leaves the marks of the good ones before it, and its own if it was unmarked.
abbrev pub BadNameLeaves : BlockBytes → (ring : ℕ) → (old new : List Bool) → (tree : ℕ)
    → (names : List ℕ) → (bad : ℕ) → Type 0
BadNameLeaves blocks ring old new tree names bad =
    (h : IsBadName blocks ring old tree names bad)
    × IsClaimed ring (mark_blocks old (data_places h.leaves)) bad new

abbrev pub DataFound : BlockBytes → (ring : ℕ) → (old new : List Bool) → (tree : ℕ)
    → (names : List ℕ) → Result (List Item × Option ℕ) LayerFault → Type 0
DataFound blocks ring old new tree names (Ok r) = Gathers blocks tree names (items_of r.0) r.1
DataFound blocks ring old new tree names (Err (faults.BadBlock bad)) =
    BadNameLeaves blocks ring old new tree names bad
DataFound blocks ring old new tree names (Err (faults.Order bad)) = ⊥
DataFound blocks ring old new tree names (Err faults.Device) = Unit {0}
DataFound blocks ring old new tree names (Err faults.OutOfMemory) = Unit {0}

-- ---- the answer

-- What is said of the layer is so, unless a read failed or memory ran out.
abbrev pub IsSaid : BlockBytes → (ring : ℕ) → List Bool → (tree first : ℕ)
    → Result PlainLayer LayerFault → Type 0
IsSaid blocks ring marks tree first (Ok layer) =
    IsVerdict blocks ring marks tree first (Whole layer.blocks layer.items)
IsSaid blocks ring marks tree first (Err (faults.BadBlock bad)) =
    IsVerdict blocks ring marks tree first (BadAt bad)
IsSaid blocks ring marks tree first (Err (faults.Order at)) =
    IsVerdict blocks ring marks tree first (DisorderAt at)
IsSaid blocks ring marks tree first (Err faults.Device) = Unit {0}
IsSaid blocks ring marks tree first (Err faults.OutOfMemory) = Unit {0}

-- Data block `bad` leaves the marks of all index blocks and of the good data blocks before it, and
-- its own if it was unmarked.
abbrev pub BadDataLeaves : BlockBytes → (ring : ℕ) → (old new : List Bool)
    → (tree first bad : ℕ) → Type 0
BadDataLeaves blocks ring old new tree first bad =
    (h : IsBadData blocks ring old tree first bad)
    × IsClaimed ring (mark_blocks (mark_blocks old (index_places h.parts)) (data_places h.leaves))
    bad new

-- Where the order ends the marks of all blocks of the layer are left.
abbrev pub DisorderLeaves : BlockBytes → (ring : ℕ) → (old new : List Bool)
    → (tree first at : ℕ) → Type 0
DisorderLeaves blocks ring old new tree first at =
    (h : EndsOrder blocks ring old tree first at)
    × (new ≡ mark_blocks (mark_blocks old (index_places h.parts)) (data_places h.leaves))

-- The marks that are left by a layer with a fault, unless a read failed or memory ran out.
abbrev pub LeavesMarks : BlockBytes → (ring : ℕ) → (old new : List Bool) → (tree first : ℕ)
    → LayerFault → Type 0
LeavesMarks blocks ring old new tree first (faults.BadBlock bad) =
    BadIndexLeaves blocks ring old new tree first bad
    ⊎ BadDataLeaves blocks ring old new tree first bad
LeavesMarks blocks ring old new tree first (faults.Order at) =
    DisorderLeaves blocks ring old new tree first at
LeavesMarks blocks ring old new tree first faults.Device = Unit {0}
LeavesMarks blocks ring old new tree first faults.OutOfMemory = Unit {0}

-- The answer is this verdict, unless a read failed or memory ran out.
abbrev pub GivesVerdict : Result PlainLayer LayerFault → Verdict → Type 0
GivesVerdict (Ok layer) verdict = verdict ≡ Whole layer.blocks layer.items
GivesVerdict (Err (faults.BadBlock bad)) verdict = verdict ≡ BadAt bad
GivesVerdict (Err (faults.Order at)) verdict = verdict ≡ DisorderAt at
GivesVerdict (Err faults.Device) verdict = Unit {0}
GivesVerdict (Err faults.OutOfMemory) verdict = Unit {0}
