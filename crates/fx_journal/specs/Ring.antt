-- The ring of the journal: the blocks from its start on, those that wait in its queue, and the
-- pool's buffers that hold these.
use Rattle.std.specs.Prelude.{◌≡◌, ◌≢◌, ℕ, ◌+◌, ◌-◌, ◌*◌, ◌/◌, ◌^◌, ◌<◌, ◌≤◌, min, List, [], ◌∷◌, ◌++◌, length, drop, All, Option, Some, None, slice_index_or, sum_by, nat_lt, if◌then◌else◌, ◌&&◌}
use Rattle.std.specs.List.{flat_map}
use Rattle.fx_sum.specs.Checksum.{fletch}
use Rattle.fx_jblock.specs.Block.{body, Holds}
use Rattle.fx_jblock.specs.declared.Start.{Start}
use Rattle.fx_jblock.specs.declared.TheConstants.{RECORD_BYTES}
use Rattle.fx_super.specs.declared.superblock.TheConstants.{MIN_RING, MAX_RING}
use Rattle.fx_pool.specs.Region.{Region, Run, IsSound, IsOut, bytes_of}

-- A ring of `size` blocks. `closed` counts the blocks from the start up to the unfinished one, and
-- the last `queued` of these are not written yet. `chain` and `text` are the unfinished block's
-- chain before it and its record bytes. The first `queued` buffers hold the blocks that are not
-- written; each other one is kept for the unfinished block, where it holds bytes, or for a promised
-- one.
pub record RingState : Type 0 where
  pub start : Start
  pub size : ℕ
  pub epoch : ℕ
  pub closed : ℕ
  pub chain : ℕ
  pub text : List ℕ
  pub promised : ℕ
  pub queued : ℕ
  pub buffers : List Run

-- A closed block that is not written yet: its sequence number, the chain before it, and its record
-- bytes.
pub record Queued : Type 0 where
  pub sequence : ℕ
  pub chain : ℕ
  pub text : List ℕ

-- the sequence number of the block at a place; numbers stand still at their end
abbrev pub number : ℕ → ℕ
number place = min place (2 ^ 64 - 1)

-- how many blocks these record bytes want: their number over 4,064, rounded up
abbrev pub want : ℕ → ℕ
want bytes = (bytes + (RECORD_BYTES - 1)) / RECORD_BYTES

-- 1 where the unfinished block holds bytes, else 0
abbrev pub begun : List ℕ → ℕ
begun [] = 0
begun (_ ∷ _) = 1

-- the blocks from the start through the unfinished one, plus one where that holds bytes
abbrev pub live : RingState → ℕ
live ring = ring.closed + 1 + begun ring.text

-- the places of the unfinished block and of the first block that is not written
abbrev pub next_place : RingState → ℕ
next_place ring = ring.start.sequence + ring.closed

abbrev pub first_place : RingState → ℕ
first_place ring = next_place ring - ring.queued

-- the place of the unfinished block, as the beginning of a stream
abbrev pub next_start : RingState → Start
next_start ring = record {
  sequence = number (next_place ring);
  chain = ring.chain;
  floor = ring.epoch;
}

-- the unfinished block as it would be closed with these further bytes
abbrev pub unfinished : RingState → List ℕ → Queued
unfinished ring piece =
    record { sequence = number (next_place ring); chain = ring.chain; text = ring.text ++ piece }

abbrev pub chain_after : ℕ → Queued → ℕ
chain_after epoch q = fletch q.chain (body q.sequence epoch q.text)

-- The ring after its unfinished block is closed with these further bytes. Where it held none, the
-- block was a promised one.
abbrev pub closes : RingState → List ℕ → RingState
closes ring piece = record ring {
  closed = ring.closed + 1;
  chain = chain_after ring.epoch (unfinished ring piece);
  text = [];
  promised = ring.promised + begun ring.text - 1;
  queued = ring.queued + 1;
}

-- The ring after padding, and the block that padding closes, if there is one.
abbrev pub padded_by : RingState → List ℕ → RingState
padded_by ring [] = ring
padded_by ring (_ ∷ _) = closes ring []

abbrev pub padded : RingState → RingState
padded ring = padded_by ring ring.text

abbrev pub padding_by : RingState → List ℕ → List Queued
padding_by ring [] = []
padding_by ring (_ ∷ _) = unfinished ring [] ∷ []

abbrev pub padding : RingState → List Queued
padding ring = padding_by ring ring.text

-- the first block that is not written, if there is one and its sequence number lies below the bound
abbrev pub next_block : RingState → ℕ → Option ℕ
next_block ring before =
    if nat_lt 0 ring.queued && nat_lt (number (first_place ring)) before
    then Some (number (first_place ring)) else None

-- the ring after its first block that was not written has left the queue
abbrev pub without_first : RingState → RingState
without_first ring = record ring { queued = ring.queued - 1; buffers = drop 1 ring.buffers }

-- How many blocks lie before the sequence number, and how many of the queue's blocks are among
-- them.
abbrev pub freed : RingState → ℕ → ℕ
freed ring sequence = sequence - ring.start.sequence

abbrev pub freed_queued : RingState → ℕ → ℕ
freed_queued ring sequence = ring.queued - (ring.closed - freed ring sequence)

-- the ring without the blocks before the sequence number
abbrev pub without_before : RingState → ℕ → RingState
without_before ring sequence = record ring {
  start = record (ring.start) { sequence = sequence };
  closed = ring.closed - freed ring sequence;
  queued = ring.queued - freed_queued ring sequence;
  buffers = drop (freed_queued ring sequence) ring.buffers;
}

-- What every ring keeps. Each block that is live or promised has a place of its own in the ring.
pub record IsRing (ring : RingState) : Type 0 where
  pub least : MIN_RING ≤ ring.size
  pub most : ring.size ≤ MAX_RING
  pub epoch_begun : 1 ≤ ring.epoch
  pub unfinished_room : length ring.text < RECORD_BYTES
  pub own_places : ring.closed + begun ring.text + ring.promised ≤ ring.size
  pub waiting : ring.queued ≤ ring.closed
  pub buffers_len : length ring.buffers ≡ ring.queued + ring.promised + begun ring.text

abbrev pub run_at : List Run → ℕ → Run
run_at runs i = slice_index_or runs i (record { start = 0; order = 0 })

-- The buffers are out in the pool, of one block each, and all apart.
pub record KeepsBuffers (runs : List Run) (region : Region) : Type 0 where
  pub sound : IsSound region
  pub out : (i : ℕ) → i < length runs → IsOut region (run_at runs i)
  pub single : (i : ℕ) → i < length runs → (run_at runs i).order ≡ 0
  pub apart : (i j : ℕ) → i < j → j < length runs → (run_at runs i).start ≢ (run_at runs j).start

-- the buffer is none of these
abbrev pub IsOther : List Run → Run → Type 0
IsOther own run = (i : ℕ) → i < length own → run.start ≢ (run_at own i).start

-- Each buffer that is out and none of these stays out, with its bytes.
pub record KeepsRest (own : List Run) (old new : Region) : Type 0 where
  pub order : new.order ≡ old.order
  pub out : (run : Run) → IsOut old run → IsOther own run → IsOut new run
  pub bytes : (run : Run) → IsOut old run → IsOther own run → bytes_of new run ≡ bytes_of old run

-- What every call of a ring keeps: its size and its epoch, that it is a ring whose buffers are its
-- own, and the buffers of others.
pub record KeepsRing (old new : RingState) (before after : Region) : Type 0 where
  pub size : new.size ≡ old.size
  pub epoch : new.epoch ≡ old.epoch
  pub ring : IsRing new
  pub buffers : KeepsBuffers new.buffers after
  pub others : KeepsRest old.buffers before after

-- how many blocks lie in buffers that are out
abbrev pub run_blocks : Option ℕ → ℕ
run_blocks None = 0
run_blocks (Some order) = 2 ^ order

abbrev pub blocks_out : Region → ℕ
blocks_out region = sum_by run_blocks region.out

-- So many blocks more are promised, and their buffers were taken out of the pool.
pub record Promises (old new : RingState) (before after : Region) (count : ℕ) : Type 0 where
  pub ring : new ≡ record old { promised = old.promised + count; buffers = new.buffers }
  pub taken : blocks_out after ≡ blocks_out before + count

-- So many blocks fewer are promised, and their buffers were given back.
pub record Cancels (old new : RingState) (before after : Region) (count : ℕ) : Type 0 where
  pub ring : new ≡ record old { promised = old.promised - count; buffers = new.buffers }
  pub given : blocks_out after + count ≡ blocks_out before

-- So many record bytes were appended: what they took of the promise, and what they added to the
-- ring and to its queue. Buffers that they did not need were given back.
pub record AppendCounts (old new : RingState) (before after : Region) (bytes : ℕ) : Type 0 where
  pub promised : new.promised ≡ old.promised - want bytes
  pub counted : RECORD_BYTES * new.closed + length new.text
      ≡ RECORD_BYTES * old.closed + length old.text + bytes
  pub queued : new.queued + old.closed ≡ old.queued + new.closed
  pub start : new.start ≡ old.start
  pub given : blocks_out after + length old.buffers ≡ blocks_out before + length new.buffers

-- Each block of the queue has the number of its place, and its chain is the one after the block
-- before; the last one's is the chain before the unfinished block.
abbrev pub first_chain : List Queued → ℕ → ℕ
first_chain [] chain = chain
first_chain (q ∷ _) chain = q.chain

abbrev pub IsLinked : ℕ → ℕ → List Queued → ℕ → Type 0
IsLinked epoch place [] chain = Unit {0}
IsLinked epoch place (q ∷ qs) chain =
    (q.sequence ≡ number place) × (first_chain qs chain ≡ chain_after epoch q) ×
    IsLinked epoch (place + 1) qs chain

-- the buffers hold the blocks, in their order
abbrev pub AreHeld : Region → ℕ → List Run → List Queued → Type 0
AreHeld region epoch runs [] = Unit {0}
AreHeld region epoch [] (q ∷ qs) = ⊥
AreHeld region epoch (run ∷ runs) (q ∷ qs) =
    Holds (bytes_of region run) q.sequence epoch q.chain q.text × AreHeld region epoch runs qs

-- These are the closed blocks that are not written yet.
pub record HoldsQueue (ring : RingState) (region : Region) (queue : List Queued) : Type 0 where
  pub count : length queue ≡ ring.queued
  pub linked : IsLinked ring.epoch (first_place ring) queue ring.chain
  pub held : AreHeld region ring.epoch ring.buffers queue

-- the record bytes of the blocks, joined
abbrev pub texts : List Queued → List ℕ
texts blocks = flat_map (λ (q : Queued). q.text) blocks

abbrev pub IsFilled : Queued → Type 0
IsFilled q = length q.text ≡ RECORD_BYTES

-- The record bytes were appended: full blocks were closed, which go on from the chain before, and
-- they and what is left in the unfinished block are what that held before and then the record
-- bytes.
pub record Appended (old new : RingState) (region : Region) (queue : List Queued)
    (bytes : List ℕ) : Type 0 where
  pub blocks : List Queued
  pub filled : All IsFilled blocks
  pub goes_on : first_chain blocks new.chain ≡ old.chain
  pub holds : HoldsQueue new region (queue ++ blocks)
  pub joined : texts blocks ++ new.text ≡ old.text ++ bytes
