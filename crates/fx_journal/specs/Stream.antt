-- The stream of the journal: the blocks that continue each other, in the ring, from a start on.
use Rattle.std.specs.Prelude.{◌≡◌, ℕ, ◌+◌, ◌%◌, ◌<◌, ◌≤◌, Option, None, Some, List, [], ◌∷◌, length, slice_index_or}
use Rattle.fx_sum.specs.Checksum.{fletch}
use Rattle.fx_jblock.specs.Block.{body, Continues}
use Rattle.fx_jblock.specs.declared.TheConstants.{RECORD_BYTES}
use Rattle.fx_jblock.specs.declared.Start.{Start}
use Rattle.fx_super.specs.declared.superblock.TheConstants.{RING_AT}
use Rattle.fx_journal.specs.declared.stream.StreamBlock.{StreamBlock}

-- The ring lies behind the two superblocks, and its blocks are used in turn.
abbrev pub place_of : ℕ → ℕ → ℕ
place_of ring sequence = RING_AT + sequence % ring

-- the bytes that a disk of these contents holds for a sequence
abbrev pub bytes_for : List (List ℕ) → ℕ → ℕ → List ℕ
bytes_for contents ring sequence = slice_index_or contents (place_of ring sequence) []

-- the place after a block: its sum begins at the sum of this block, and its epoch is no lower
abbrev pub place_after : Start → StreamBlock → Start
place_after place block = record {
  sequence = place.sequence + 1;
  chain = fletch place.chain (body place.sequence block.epoch block.records);
  floor = block.epoch;
}

-- The bytes are this block, and it continues the stream at this place.
pub record StandsAs (bytes : List ℕ) (generation : ℕ) (place : Start) (block : StreamBlock) : Type 0
  where
    pub sequence : block.sequence ≡ place.sequence
    pub continues : Continues bytes place.sequence place.floor generation place.chain block.epoch
        block.records

-- The block stands in the ring for this place.
abbrev pub StandsAt : List (List ℕ) → ℕ → ℕ → Start → StreamBlock → Type 0
StandsAt contents ring generation place block =
    StandsAs (bytes_for contents ring place.sequence) generation place block

-- The blocks continue each other in the ring, from the start to the place that is next.
abbrev pub IsRun : List (List ℕ) → ℕ → ℕ → Start → List StreamBlock → Start → Type 0
IsRun contents ring generation start [] next = next ≡ start
IsRun contents ring generation start (block ∷ blocks) next =
    StandsAt contents ring generation start block ×
    IsRun contents ring generation (place_after start block) blocks next

-- The stream is the longest run of at most as many blocks as the ring has.
pub record IsStream (contents : List (List ℕ)) (ring generation : ℕ) (start : Start)
    (blocks : List StreamBlock) (next : Start) : Type 0 where
  pub run : IsRun contents ring generation start blocks next
  pub few : length blocks ≤ ring
  pub longest : (others : List StreamBlock) (place : Start) →
      IsRun contents ring generation start others place → length others ≤ ring →
      length others ≤ length blocks

-- The block may stand at this place of some stream.
pub record MayFollow (generation : ℕ) (place : Start) (block : StreamBlock) : Type 0 where
  pub sequence : block.sequence ≡ place.sequence
  pub filled : 1 ≤ length block.records
  pub room : length block.records ≤ RECORD_BYTES
  pub begun : 1 ≤ block.epoch
  pub least : place.floor ≤ block.epoch
  pub most : block.epoch ≤ generation

-- The blocks may follow each other, from the start to the place that is next.
abbrev pub IsSeries : ℕ → Start → List StreamBlock → Start → Type 0
IsSeries generation start [] next = next ≡ start
IsSeries generation start (block ∷ blocks) next =
    MayFollow generation start block × IsSeries generation (place_after start block) blocks next

-- What is read, whether the disk tells its bytes or not: blocks that may follow each other from the
-- start to the place that is next, at most as many as the ring has.
pub record MayBeStream (ring generation : ℕ) (start : Start) (blocks : List StreamBlock)
    (place : Start) : Type 0 where
  pub series : IsSeries generation start blocks place
  pub few : length blocks ≤ ring
  pub next : place.sequence ≡ start.sequence + length blocks

-- What is found in the bytes for a place: the block that stands there, with the place after it, or
-- none.
abbrev pub IsNext : List ℕ → ℕ → Start → Option (StreamBlock × Start) → Type 0
IsNext bytes generation place None = (block : StreamBlock) → StandsAs bytes generation place block →
    ⊥
IsNext bytes generation place (Some found) = StandsAs bytes generation place found.0 ×
    (found.1 ≡ place_after place found.0)

-- Two disks hold the same in the ring.
abbrev pub SameRing : ℕ → List (List ℕ) → List (List ℕ) → Type 0
SameRing ring contents others =
    (at : ℕ) → RING_AT ≤ at → at < ring + RING_AT →
    slice_index_or contents at [] ≡ slice_index_or others at []
