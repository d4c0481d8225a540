-- How a disk is read, and what is read of it whether it tells its bytes or not.
use Rattle.std.specs.Prelude.{◌≡◌, ℕ, ◌+◌, ◌-◌, ◌^◌, ◌≤◌, Bool, true, false, Option, Some, None, Result, Ok, Err, List, [], ◌∷◌, length}
use Rattle.std.specs.List.{flat_map}
use Rattle.fx_base.specs.Causes.{RoseUnless}
use Rattle.fx_disk.specs.Seen.{DiskSeen, HasOnlyRead}
use Rattle.fx_item.specs.Item.{PlainItem}
use Rattle.fx_jblock.specs.declared.Start.{Start}
use Rattle.fx_journal.specs.Stream.{IsStream, MayBeStream}
use Rattle.fx_journal.specs.declared.stream.StreamBlock.{StreamBlock}
use Rattle.fx_log.specs.Chosen.{start_of}
use Rattle.fx_logcuts.specs.Cuts.{pieces_in}
use Rattle.fx_record.specs.Txns.{IsTxns, IsBadRecord}
use Rattle.fx_kept.specs.Kept.{sum_found}
use Rattle.fx_layfile.specs.Layer.{BlockBytes}
use Rattle.fx_layfile.specs.declared.layer.LayerFault.{LayerFault}
use Rattle.fx_layfile.specs.declared.layer.LayerFault.TheVariants as layers
use Rattle.fx_super.specs.Super.{Fields, Decoded, KeepsRules}
use Rattle.fx_super.specs.Chosen.{block_of}
use Rattle.fx_super.specs.declared.choice.Which.TheVariants.{A, B}
use Rattle.fx_super.specs.declared.superblock.Super.{Super}
use Rattle.fx_super.specs.declared.decode.SuperFault.{SuperFault}
use Rattle.fx_item.specs.Look.{next_id_after, next_store_after}
use Rattle.fx_nodes.specs.Table.{MovesOn}
use Rattle.fx_layfile.specs.Reading.{PlainLayer}
use Rattle.fx_layerset.specs.Levels.{PlainLevel, levels_in}
use Rattle.fx_layerset.specs.declared.layered.Layered.{Layered}
use Rattle.fx_found.specs.Layers.{IsBadAmong}
use Rattle.fx_found.specs.declared.numbers.NextNumbers.{NextNumbers}
use Rattle.fx_found.specs.declared.fault.FindFault.{FindFault}
use Rattle.fx_found.specs.declared.fault.FindFault.TheVariants as faults

-- The disk was only read, at most so many times; a read failed or none did.
pub record ReadsAtMost (before after : DiskSeen) (most : ℕ) (good : Bool) : Type 0 where
  pub read : HasOnlyRead before after
  pub faults : RoseUnless good before.faults after.faults
  pub few : after.reads ≤ before.reads + most

-- no read failed
abbrev pub has_read : {T : Type 0} → Result T FindFault → Bool
has_read (Ok x) = true
has_read (Err faults.Device) = false
has_read (Err fault) = true

-- A superblock by the rules, of a disk of so many blocks.
pub record IsOfDisk (size : ℕ) (f : Fields) : Type 0 where
  pub slots : 2 ≤ size
  pub rules : KeepsRules f
  pub blocks : f.blocks ≡ size

-- Blocks that may be the superblock's stream, so many, up to this place, and the transactions that
-- their records leave.
pub record HoldsTxns (f : Fields) (closed : ℕ) (next : Start) (txns : List (ℕ × List PlainItem))
    : Type 0 where
  pub stream : List StreamBlock
  pub may : MayBeStream f.ring f.generation (start_of f) stream next
  pub closed_is : closed ≡ length stream
  pub txns_are : IsTxns f.base (pieces_in stream) txns

-- ---- superblocks, layers and records

-- What was read of the two places of superblocks is what stands there.
pub record AreSupers (image : List (List ℕ)) (first second : Result Super SuperFault) : Type 0
  where
    pub first_is : Decoded (block_of image A) first
    pub second_is : Decoded (block_of image B) second

abbrev pub find_fault : LayerFault → FindFault
find_fault (layers.BadBlock block) = faults.BadLayer block
find_fault (layers.Order block) = faults.BadLayer block
find_fault layers.Device = faults.Device
find_fault layers.OutOfMemory = faults.OutOfMemory

-- The disk failed, or memory was short.
abbrev pub IsNoFinding : FindFault → Type 0
IsNoFinding faults.Device = Unit {0}
IsNoFinding faults.OutOfMemory = Unit {0}
IsNoFinding fault = ⊥

-- The first bad block of these layers is told, unless the disk failed or memory was short.
abbrev pub IsLayerFault : BlockBytes → (ring : ℕ) → List Bool → (tree : ℕ) → List ℕ → FindFault
    → Type 0
IsLayerFault blocks ring marks tree firsts (faults.BadLayer bad) =
    IsBadAmong blocks ring marks tree firsts bad
IsLayerFault blocks ring marks tree firsts fault = IsNoFinding fault

-- The same of the first bad record in these pieces, and in the superblock's stream.
abbrev pub IsTxnsFault : (base : ℕ) → List (ℕ × List ℕ) → FindFault → Type 0
IsTxnsFault base pieces (faults.BadRecord place) = IsBadRecord base pieces place
IsTxnsFault base pieces fault = IsNoFinding fault

abbrev pub IsRecordFault : List (List ℕ) → Fields → FindFault → Type 0
IsRecordFault image f (faults.BadRecord place) = (stream : List StreamBlock) × (next : Start)
    × IsStream image f.ring f.generation (start_of f) stream next
    × IsBadRecord f.base (pieces_in stream) place
IsRecordFault image f fault = IsNoFinding fault

-- ---- sums of blocks

abbrev pub pair_with : ℕ → Option ℕ → List (ℕ × ℕ)
pair_with block None = []
pair_with block (Some sum) = (block, sum) ∷ []

-- the block with the sum that is found in it, where data can lie in it
abbrev pub sum_in : (List ℕ → ℕ) → (begin : ℕ) → List (List ℕ) → ℕ → List (ℕ × ℕ)
sum_in sum begin image block = pair_with block (sum_found sum begin image block)

abbrev pub sums_in : (List ℕ → ℕ) → (begin : ℕ) → List (List ℕ) → List ℕ → List (ℕ × ℕ)
sums_in sum begin image blocks = flat_map (sum_in sum begin image) blocks

-- ---- levels, and the numbers that items use

-- layers of the program as levels
abbrev pub layers_seen : List (Layered PlainLayer) → List PlainLevel
layers_seen levels = levels_in (λ l. l.items) (λ l. []) levels

-- Over these lists of items the numbers rise above all ids and stores that they use.
pub record MovesOver (old new : NextNumbers) (lists : List (List PlainItem)) : Type 0 where
  pub id : MovesOn (2 ^ 64 - 1) old.id new.id (λ n. next_id_after n lists)
  pub store : MovesOn (2 ^ 32 - 1) old.store new.store (λ n. next_store_after n lists)
