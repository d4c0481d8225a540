-- A superblock: its fields, the rules that they keep, and the bytes that they are.
use Rattle.std.specs.Prelude.{◌≡◌, ◌≢◌, ◌<◌, ◌≤◌, ℕ, ◌+◌, ◌*◌, ◌^◌, List, ◌++◌, [], All, length, take, drop, replicate, Result, Ok, Err}
use Rattle.byteorder.specs.Endian.{little_bytes, little_number}
use Rattle.fx_sum.specs.Checksum.{fletch}
use Rattle.fx_super.specs.Layers.{layer_bytes, HoldsLayers}
use Rattle.fx_super.specs.declared.layers.TheConstants.{LAYERS, LAYER_BYTES}
use Rattle.fx_super.specs.declared.superblock.TheConstants.{MAGIC, VERSION_AT, SUM_AT, SIZE_BYTES, COUNTER_BYTES, PADDING, VERSION, MIN_RING, MAX_RING, MAX_BLOCKS, RING_SHARE, SPARE_BLOCKS, RING_AT, MAX_GENERATION, COUNT_END, MAX_NEXT_STORE}
use Rattle.fx_super.specs.declared.superblock.Super.{Super}
use Rattle.fx_super.specs.declared.decode.SuperFault.{SuperFault}
use Rattle.fx_super.specs.declared.decode.SuperFault.TheVariants.{Bad, Version}

-- The fields of a superblock, in their order.
pub record Fields : Type 0 where
  pub version : ℕ
  pub blocks : ℕ
  pub generation : ℕ
  pub ring : ℕ
  pub sequence : ℕ
  pub chain : ℕ
  pub base : ℕ
  pub next_id : ℕ
  pub next_store : ℕ
  pub objects : List ℕ
  pub allocs : List ℕ
  pub floor : ℕ

abbrev pub fields_of : Super → Fields
fields_of s = record {
  version = s.version;
  blocks = s.blocks;
  generation = s.generation;
  ring = s.ring;
  sequence = s.sequence;
  chain = s.chain;
  base = s.base;
  next_id = s.next_id;
  next_store = s.next_store;
  objects = s.objects;
  allocs = s.allocs;
  floor = s.floor;
}

-- the superblock of a new image
abbrev pub first_fields : ℕ → ℕ → Fields
first_fields blocks ring = record {
  version = VERSION;
  blocks = blocks;
  generation = 1;
  ring = ring;
  sequence = 0;
  chain = 1;
  base = 0;
  next_id = 1;
  next_store = 1;
  objects = [];
  allocs = [];
  floor = 1;
}

-- A layer begins after the ring, on the device.
pub record IsLayer (f : Fields) (block : ℕ) : Type 0 where
  pub after_ring : f.ring + RING_AT ≤ block
  pub on_device : block < f.blocks

pub record KeepsRules (f : Fields) : Type 0 where
  pub version_is : f.version ≡ VERSION
  pub ring_least : MIN_RING ≤ f.ring
  pub ring_most : f.ring ≤ MAX_RING
  pub blocks_least : RING_SHARE * f.ring + SPARE_BLOCKS ≤ f.blocks
  pub blocks_most : f.blocks ≤ MAX_BLOCKS
  pub generation_least : 1 ≤ f.generation
  pub generation_most : f.generation ≤ MAX_GENERATION
  pub sequence_below : f.sequence < COUNT_END
  pub chain_fits : f.chain < 2 ^ 64
  pub base_below : f.base < COUNT_END
  pub next_id_least : 1 ≤ f.next_id
  pub next_id_most : f.next_id ≤ COUNT_END
  pub next_store_least : 1 ≤ f.next_store
  pub next_store_most : f.next_store ≤ MAX_NEXT_STORE
  pub objects_most : length f.objects ≤ LAYERS
  pub objects_are : All (IsLayer f) f.objects
  pub allocs_most : length f.allocs ≤ LAYERS
  pub allocs_are : All (IsLayer f) f.allocs
  pub floor_least : 1 ≤ f.floor
  pub floor_most : f.floor ≤ f.generation

-- the rules of the version, the sizes and the generation
abbrev pub HasSizes : Fields → Type 0
HasSizes f =
    (f.version ≡ VERSION) × (MIN_RING ≤ f.ring) × (f.ring ≤ MAX_RING) × (f.blocks ≤ MAX_BLOCKS)
    × (RING_SHARE * f.ring + SPARE_BLOCKS ≤ f.blocks)
    × (1 ≤ f.generation) × (f.generation ≤ MAX_GENERATION)

-- the rules of the counters and the floor
abbrev pub HasCounters : Fields → Type 0
HasCounters f =
    (f.sequence < COUNT_END) × (f.base < COUNT_END) × (1 ≤ f.next_id) × (f.next_id ≤ COUNT_END)
    × (1 ≤ f.next_store) × (f.next_store ≤ MAX_NEXT_STORE)
    × (1 ≤ f.floor) × (f.floor ≤ f.generation)

-- the blocks of the device, the generation, the blocks of the ring, and zero
unfoldable pub sizes : ℕ → ℕ → ℕ → List ℕ
sizes blocks generation ring =
    little_bytes 4 blocks
    ++ (little_bytes 8 generation
    ++ (little_bytes 4 ring
    ++ little_bytes 4 0))

-- sequence, chain, base, next id, next store, the number of layers of each tree, and zero
unfoldable pub counters : ℕ → ℕ → ℕ → ℕ → ℕ → ℕ → ℕ → List ℕ
counters sequence chain base next_id next_store objects allocs =
    little_bytes 8 sequence
    ++ (little_bytes 8 chain
    ++ (little_bytes 8 base
    ++ (little_bytes 8 next_id
    ++ (little_bytes 4 next_store
    ++ (little_bytes 4 objects
    ++ (little_bytes 4 allocs
    ++ little_bytes 4 0))))))

-- the zeros after the floor
unfoldable pub super_padding : List ℕ
super_padding = replicate PADDING 0

-- what follows the version: these, the lists of layers, the floor, and zeros
unfoldable pub after_version : Fields → List ℕ
after_version f =
    sizes f.blocks f.generation f.ring
    ++ (counters f.sequence f.chain f.base f.next_id f.next_store
    (length f.objects) (length f.allocs)
    ++ (layer_bytes f.objects
    ++ (layer_bytes f.allocs
    ++ (little_bytes 8 f.floor ++ super_padding))))

-- all of a superblock but its sum
unfoldable pub super_body : Fields → List ℕ
super_body f = little_bytes 8 MAGIC ++ (little_bytes 4 f.version ++ after_version f)

-- the body and its sum
unfoldable pub super_block : Fields → List ℕ
super_block f = super_body f ++ little_bytes 8 (fletch 0 (super_body f))

-- The block is the superblock of these fields, which keep the rules.
pub record IsSuper (block : List ℕ) (f : Fields) : Type 0 where
  pub rules : KeepsRules f
  pub bytes_are : block ≡ super_block f

-- The magic and the sum are right, and the version is another one.
pub record IsVersion (block : List ℕ) (version : ℕ) : Type 0 where
  pub magic_is : little_number 8 block ≡ MAGIC
  pub sum_is : little_number 8 (drop SUM_AT block) ≡ fletch 0 (take SUM_AT block)
  pub version_is : little_number 4 (drop VERSION_AT block) ≡ version
  pub is_other : version ≢ VERSION

-- These bytes are the sizes, and each number fits its place.
pub record AreSizes (bytes : List ℕ) (blocks generation ring : ℕ) : Type 0 where
  pub blocks_fit : blocks < 2 ^ 32
  pub generation_fits : generation < 2 ^ 64
  pub ring_fits : ring < 2 ^ 32
  pub bytes_are : bytes ≡ sizes blocks generation ring

-- These bytes are the counters, and each number fits its place.
pub record AreCounters (bytes : List ℕ)
    (sequence chain base next_id next_store objects allocs : ℕ) : Type 0 where
  pub sequence_fits : sequence < 2 ^ 64
  pub chain_fits : chain < 2 ^ 64
  pub base_fits : base < 2 ^ 64
  pub next_id_fits : next_id < 2 ^ 64
  pub next_store_fits : next_store < 2 ^ 32
  pub objects_fit : objects < 2 ^ 32
  pub allocs_fit : allocs < 2 ^ 32
  pub bytes_are : bytes ≡ counters sequence chain base next_id next_store objects allocs

-- These bytes follow the version in a superblock of these fields, each of which fits its place.
pub record IsAfterVersion (bytes : List ℕ) (f : Fields) : Type 0 where
  pub sizes_are : AreSizes (take SIZE_BYTES bytes) f.blocks f.generation f.ring
  pub counters_are : AreCounters (take COUNTER_BYTES (drop SIZE_BYTES bytes))
      f.sequence f.chain f.base f.next_id f.next_store (length f.objects) (length f.allocs)
  pub objects_are : HoldsLayers (take LAYER_BYTES (drop (SIZE_BYTES + COUNTER_BYTES) bytes))
      (length f.objects) f.objects
  pub allocs_are : HoldsLayers
      (take LAYER_BYTES (drop (SIZE_BYTES + COUNTER_BYTES + LAYER_BYTES) bytes))
      (length f.allocs) f.allocs
  pub floor_fits : f.floor < 2 ^ 64
  pub tail_is : drop (SIZE_BYTES + COUNTER_BYTES + 2 * LAYER_BYTES) bytes
      ≡ little_bytes 8 f.floor ++ super_padding

-- What is said of a block.
abbrev pub Decoded : List ℕ → Result Super SuperFault → Type 0
Decoded block (Ok s) = IsSuper block (fields_of s)
Decoded block (Err (Version v)) = IsVersion block v
Decoded block (Err Bad) = ((f : Fields) → IsSuper block f → ⊥) × ((v : ℕ) → IsVersion block v → ⊥)
