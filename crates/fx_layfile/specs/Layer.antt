-- The layer that stands in the blocks of a disk, and what is found where blocks are bad.
use Rattle.std.specs.Prelude.{◌≡◌, ℕ, ◌+◌, ◌<◌, ◌≤◌, ◌⊎◌, Bool, true, false, List, [], ◌∷◌, ◌++◌, length, map, take, All, slice_index_or, slice_set, count_by, Some}
use Rattle.std.specs.List.{flat_map, fold, slice_get}
use Rattle.fx_base.specs.Causes.{RoseUnless}
use Rattle.fx_disk.specs.Record.{DiskRecord}
use Rattle.fx_disk.specs.Seen.{DiskSeen, HasOnlyRead}
use Rattle.fx_item.specs.Item.{PlainItem}
use Rattle.fx_item.specs.Order.{is_ascending}
use Rattle.fx_super.specs.declared.superblock.TheConstants.{RING_AT}
use Rattle.fx_layfile.specs.Block.{IsIndexBlock, IsDataBlock}

-- ---- blocks that were read, as a mark for each block of the disk

-- The block lies behind the ring, on the disk, and has no mark.
pub record IsUnmarked (ring : ℕ) (marks : List Bool) (block : ℕ) : Type 0 where
  pub after_ring : ring + RING_AT ≤ block
  pub on_disk : block < length marks
  pub free : slice_index_or marks block false ≡ false

abbrev pub mark_block : List Bool → ℕ → List Bool
mark_block marks block = slice_set marks block true

abbrev pub mark_blocks : List Bool → List ℕ → List Bool
mark_blocks marks blocks = fold mark_block marks blocks

-- Each block of the list is unmarked once those before it are marked: so none stands twice.
abbrev pub AreUnmarked : (ring : ℕ) → List Bool → List ℕ → Type 0
AreUnmarked ring marks [] = Unit {0}
AreUnmarked ring marks (block ∷ rest) =
    IsUnmarked ring marks block × AreUnmarked ring (mark_block marks block) rest

-- ---- the blocks of a layer

-- an index block: where it stands, and the data blocks that it names
pub record IndexPart : Type 0 where
  pub at : ℕ
  pub names : List ℕ

-- a data block: where it stands, and its items
pub record DataPart : Type 0 where
  pub at : ℕ
  pub items : List PlainItem

-- the bytes of each block
abbrev pub BlockBytes : Type 0
BlockBytes = ℕ → List ℕ

abbrev pub blocks_in : List (List ℕ) → BlockBytes
blocks_in image b = slice_index_or image b []

-- where the first part stands; `stop` where there is none
abbrev pub first_part : List IndexPart → (stop : ℕ) → ℕ
first_part [] stop = stop
first_part (part ∷ rest) stop = part.at

-- The parts are index blocks each of which names the next, and the last one names `stop`.
abbrev pub IsIndexChain : BlockBytes → (tree : ℕ) → List IndexPart → (stop : ℕ) → Type 0
IsIndexChain blocks tree [] stop = Unit {0}
IsIndexChain blocks tree (part ∷ rest) stop =
    IsIndexBlock (blocks part.at) tree (first_part rest stop) part.names
    × IsIndexChain blocks tree rest stop

abbrev pub index_places : List IndexPart → List ℕ
index_places parts = map (λ part. part.at) parts

-- all data blocks that the parts name
abbrev pub names_of_parts : List IndexPart → List ℕ
names_of_parts parts = flat_map (λ part. part.names) parts

abbrev pub data_places : List DataPart → List ℕ
data_places leaves = map (λ leaf. leaf.at) leaves

abbrev pub items_of_parts : List DataPart → List PlainItem
items_of_parts leaves = flat_map (λ leaf. leaf.items) leaves

abbrev pub AreData : BlockBytes → (tree : ℕ) → List DataPart → Type 0
AreData blocks tree leaves = All (λ leaf. IsDataBlock (blocks leaf.at) tree leaf.items) leaves

-- A chain of index blocks from `first` to the last one.
pub record IsIndexOf (blocks : BlockBytes) (ring : ℕ) (marks : List Bool) (tree first : ℕ)
    (parts : List IndexPart) : Type 0 where
  pub begins : first_part parts 0 ≡ first
  pub some : 1 ≤ length parts
  pub chain : IsIndexChain blocks tree parts 0
  pub unmarked : AreUnmarked ring marks (index_places parts)

-- The layer that `first` names: its index blocks, and the data blocks that these name. All stand
-- behind the ring in blocks with no mark, each once.
pub record IsStored (blocks : BlockBytes) (ring : ℕ) (marks : List Bool) (tree first : ℕ)
    (parts : List IndexPart) (leaves : List DataPart) : Type 0 where
  pub index : IsIndexOf blocks ring marks tree first parts
  pub named : names_of_parts parts ≡ data_places leaves
  pub leaves_are : AreData blocks tree leaves
  pub unmarked : AreUnmarked ring (mark_blocks marks (index_places parts)) (data_places leaves)

-- ---- what is wrong with a layer

-- An index block that is none, that lies outside, or that comes again. All before it are good.
pub record IsBadIndex (blocks : BlockBytes) (ring : ℕ) (marks : List Bool) (tree first bad : ℕ)
    : Type 0 where
  pub parts : List IndexPart
  pub begins : first_part parts bad ≡ first
  pub chain : IsIndexChain blocks tree parts bad
  pub unmarked : AreUnmarked ring marks (index_places parts)
  -- after an index block that names 0 none follows
  pub follows : bad ≡ 0 → parts ≡ []
  pub wrong : (next : ℕ) (names : List ℕ)
      → IsUnmarked ring (mark_blocks marks (index_places parts)) bad
      → IsIndexBlock (blocks bad) tree next names → ⊥

-- The same of a data block, where all index blocks are good.
pub record IsBadData (blocks : BlockBytes) (ring : ℕ) (marks : List Bool) (tree first bad : ℕ)
    : Type 0 where
  pub parts : List IndexPart
  pub index : IsIndexOf blocks ring marks tree first parts
  pub leaves : List DataPart
  pub rest : List ℕ
  pub named : names_of_parts parts ≡ data_places leaves ++ bad ∷ rest
  pub leaves_are : AreData blocks tree leaves
  pub unmarked : AreUnmarked ring (mark_blocks marks (index_places parts)) (data_places leaves)
  pub wrong : (items : List PlainItem)
      → IsUnmarked ring
      (mark_blocks (mark_blocks marks (index_places parts)) (data_places leaves)) bad
      → IsDataBlock (blocks bad) tree items → ⊥

-- The items up to this data block are in order, and with its items they no longer are.
pub record IsDisordered (leaves : List DataPart) (at : ℕ) : Type 0 where
  pub place : ℕ
  pub here : slice_get (data_places leaves) place ≡ Some at
  pub before : is_ascending (items_of_parts (take place leaves)) ≡ true
  pub breaks : is_ascending (items_of_parts (take (place + 1) leaves)) ≡ false

-- What there is to say of the layer that `first` names: it is whole, of these blocks and items; or
-- this block is bad; or all blocks are good, and with this one the order ends.
pub data Verdict : Type 0 where
  Whole : (blocks : List ℕ) (items : List PlainItem) → Verdict
  BadAt : (block : ℕ) → Verdict
  DisorderAt : (block : ℕ) → Verdict

pub record IsWholeLayer (blocks : BlockBytes) (ring : ℕ) (marks : List Bool) (tree first : ℕ)
    (places : List ℕ) (items : List PlainItem) : Type 0 where
  pub parts : List IndexPart
  pub leaves : List DataPart
  pub stored : IsStored blocks ring marks tree first parts leaves
  pub places_are : places ≡ index_places parts ++ data_places leaves
  pub items_are : items ≡ items_of_parts leaves
  pub ordered : is_ascending items ≡ true

pub record EndsOrder (blocks : BlockBytes) (ring : ℕ) (marks : List Bool) (tree first at : ℕ)
    : Type 0 where
  pub parts : List IndexPart
  pub leaves : List DataPart
  pub stored : IsStored blocks ring marks tree first parts leaves
  pub disordered : IsDisordered leaves at

abbrev pub IsVerdict : BlockBytes → (ring : ℕ) → List Bool → (tree first : ℕ) → Verdict → Type 0
IsVerdict blocks ring marks tree first (Whole places items) =
    IsWholeLayer blocks ring marks tree first places items
IsVerdict blocks ring marks tree first (BadAt bad) =
    IsBadIndex blocks ring marks tree first bad ⊎ IsBadData blocks ring marks tree first bad
IsVerdict blocks ring marks tree first (DisorderAt at) =
    EndsOrder blocks ring marks tree first at

-- ---- what a disk tells

-- The disk tells that it reads as this image.
pub record TellsImage (seen : DiskSeen) (image : List (List ℕ)) : Type 0 where
  pub log : DiskRecord
  pub told : seen.told ≡ Some log
  pub reads : log.contents ≡ image

-- No mark was cleared.
abbrev pub KeepsMarks : (old new : List Bool) → Type 0
KeepsMarks old new = (block : ℕ) → slice_index_or old block false ≡ true
    → slice_index_or new block false ≡ true

-- The disk was only read, at most as many times as marks were gained; and no mark was cleared.
pub record ReadsMarked (before after : DiskSeen) (old new : List Bool) (good : Bool) : Type 0 where
  pub read : HasOnlyRead before after
  pub faults : RoseUnless good before.faults after.faults
  pub size : length new ≡ length old
  pub kept : KeepsMarks old new
  pub few : after.reads + count_by (λ mark. mark) old ≤ before.reads + count_by (λ mark. mark) new
