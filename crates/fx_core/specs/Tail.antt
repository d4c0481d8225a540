-- The ring of a mounted disk in memory: which of its blocks are promised to whom, and which commits
-- lie in blocks that are written.
use Rattle.std.specs.Prelude.{◌≡◌, ℕ, ◌+◌, ◌^◌, ◌≤◌, List, length, sum_by, get_or, max}
use Rattle.fx_keys.specs.declared.table.TheConstants.{MAX_NUMBERS}
use Rattle.fx_journal.specs.Ring.{RingState, IsRing, KeepsBuffers, blocks_out}
use Rattle.fx_pool.specs.Region.{Region}

-- The ring and its buffers; how many blocks are promised to each number; for each count of blocks
-- the last commit whose record ends with so many; how many blocks were written; and the last commit
-- whose record lies in these.
pub record TailState : Type 0 where
  pub ring : RingState
  pub pool : Region
  pub wants : List ℕ
  pub reached : List ℕ
  pub written : ℕ
  pub done : ℕ

-- The ring has its buffers out of the pool, which has one more for each of its blocks.
pub record HasRingBuffers (ring : RingState) (pool : Region) : Type 0 where
  pub ring_is : IsRing ring
  pub buffers : KeepsBuffers ring.buffers pool
  pub out : blocks_out pool ≡ length ring.buffers
  pub enough : ring.size + 1 ≤ 2 ^ pool.order

-- What is so of every tail.
pub record IsTail (t : TailState) : Type 0 where
  pub buffers : HasRingBuffers t.ring t.pool
  pub seats : length t.wants ≡ MAX_NUMBERS + 1
  pub promised : sum_by (λ w. w) t.wants ≡ t.ring.promised
  pub places : length t.reached ≡ t.ring.size + 2
  pub written_is : t.written + t.ring.queued ≡ t.ring.closed

-- through how many blocks what was appended reaches
abbrev pub reach : RingState → ℕ
reach ring = ring.closed + (Rattle.fx_journal.specs.Ring.begun ring.text)

-- the last commit in so many blocks, given the last one in fewer
abbrev pub last_in : List ℕ → ℕ → ℕ → ℕ
last_in reached written done = max done (get_or reached written 0)
