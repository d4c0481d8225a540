-- A region of blocks, cut into runs: some are free, the others are buffers that are out.
-- A table has an entry for each block: the order of the run that begins there, or nothing.
use Rattle.std.specs.Prelude.{◌≡◌, ◌≢◌, ℕ, ◌+◌, ◌*◌, ◌^◌, ◌<◌, ◌≤◌, ◌⊎◌, Bool, false, eqb, List, length, Option, Some, None, slice_index_or, slice_set, slice_range, replicate, count_by}
use Rattle.fx_base.specs.declared.block.TheConstants.{BLOCK_BYTES}
use Rattle.fx_pool.specs.declared.pool.TheConstants.{MAX_ORDER}

-- where a run begins, and its order: it has 2 ^ order blocks
pub record Run : Type 0 where
  pub start : ℕ
  pub order : ℕ

-- a region of 2 ^ order blocks: its free runs, the buffers that are out, and its bytes
pub record Region : Type 0 where
  pub order : ℕ
  pub free : List (Option ℕ)
  pub out : List (Option ℕ)
  pub bytes : List ℕ

-- in this table a run of order k begins at block s
abbrev pub RunBegins : List (Option ℕ) → ℕ → ℕ → Type 0
RunBegins table s k = slice_index_or table s None ≡ Some k

-- a free run or a buffer of order k begins at block s
abbrev pub Begins : List (Option ℕ) → List (Option ℕ) → ℕ → ℕ → Type 0
Begins free out s k = RunBegins free s k ⊎ RunBegins out s k

abbrev pub IsMultiple : ℕ → ℕ → Type 0
IsMultiple n m = (q : ℕ) × (n ≡ q * m)

-- the run that block b lies in
pub record Covers (Begin : ℕ → ℕ → Type 0) (b : ℕ) : Type 0 where
  pub start : ℕ
  pub order : ℕ
  pub begins : Begin start order
  pub low : start ≤ b
  pub high : b < start + 2 ^ order

-- each of the blocks lies in exactly one run, and each run begins at a multiple of its length
pub record IsTiling (blocks : ℕ) (Begin : ℕ → ℕ → Type 0) : Type 0 where
  pub aligned : (s k : ℕ) → Begin s k → IsMultiple s (2 ^ k)
  pub within : (s k : ℕ) → Begin s k → s + 2 ^ k ≤ blocks
  pub apart : (s k t j : ℕ) → Begin s k → Begin t j → s < t → s + 2 ^ k ≤ t
  pub covered : (b : ℕ) → b < blocks → Covers Begin b

-- runs of order k at s and b are the halves of a run of order k + 1
pub record IsBuddy (s b k : ℕ) : Type 0 where
  pub start : ℕ
  pub aligned : IsMultiple start (2 * 2 ^ k)
  pub halves : ((s ≡ start) × (b ≡ start + 2 ^ k)) ⊎ ((s ≡ start + 2 ^ k) × (b ≡ start))

-- free runs and buffers tile the blocks, none is both, and no two free runs are buddies
pub record IsDivided (blocks : ℕ) (free out : List (Option ℕ)) : Type 0 where
  pub tiling : IsTiling blocks (Begins free out)
  pub exclusive : (s k j : ℕ) → RunBegins free s k → RunBegins out s j → ⊥
  pub merged : (s b k : ℕ) → IsBuddy s b k → RunBegins free s k → RunBegins free b k → ⊥

-- what every pool keeps: tables with an entry for each block, and bytes for each
pub record IsPool (order : ℕ) (free out : List (Option ℕ)) (bytes : List ℕ) : Type 0 where
  pub order_le : order ≤ MAX_ORDER
  pub free_len : length free ≡ 2 ^ order
  pub out_len : length out ≡ 2 ^ order
  pub bytes_len : length bytes ≡ BLOCK_BYTES * 2 ^ order
  pub divided : IsDivided (2 ^ order) free out

abbrev pub IsSound : Region → Type 0
IsSound p = IsPool p.order p.free p.out p.bytes

-- a free run of order k or more
pub record HasFree (p : Region) (k : ℕ) : Type 0 where
  pub start : ℕ
  pub order : ℕ
  pub at_least : k ≤ order
  pub free : RunBegins p.free start order

-- a free run in which the run lies, of the lowest order that serves
pub record LiesFree (p : Region) (r : Run) : Type 0 where
  pub start : ℕ
  pub order : ℕ
  pub free : RunBegins p.free start order
  pub lowest : (s k : ℕ) → r.order ≤ k → RunBegins p.free s k → order ≤ k
  pub low : start ≤ r.start
  pub high : r.start + 2 ^ r.order ≤ start + 2 ^ order

-- the run is a buffer that is out
abbrev pub IsOut : Region → Run → Type 0
IsOut p r = RunBegins p.out r.start r.order

-- the run of this order was taken, out of a free run of the lowest order that serves: it is out
-- now, and apart from what was out
pub record IsTaken (before after : Region) (k : ℕ) (run : Run) : Type 0 where
  pub order : run.order ≡ k
  pub was_free : LiesFree before run
  pub is_out : IsOut after run
  pub apart : (other : Run) → IsOut before other → other.start ≢ run.start
  pub out : after.out ≡ slice_set before.out run.start (Some k)

-- what taking a run and giving it back leave alone, which is all but the runs
pub record KeepsBytes (before after : Region) : Type 0 where
  pub order : after.order ≡ before.order
  pub bytes : after.bytes ≡ before.bytes
  pub sound : IsSound after

-- what the run's blocks hold
abbrev pub bytes_of : Region → Run → List ℕ
bytes_of p r = slice_range p.bytes (BLOCK_BYTES * r.start) (BLOCK_BYTES * (r.start + 2 ^ r.order))

abbrev pub is_order : ℕ → Option ℕ → Bool
is_order k None = false
is_order k (Some j) = eqb j k

-- how many free runs have the order
abbrev pub free_of : Region → ℕ → ℕ
free_of p k = count_by (is_order k) p.free

-- the region with all of it free, and zeros in it
abbrev pub whole : ℕ → Region
whole order = record {
  order = order;
  free = slice_set (replicate (2 ^ order) None) 0 (Some order);
  out = replicate (2 ^ order) None;
  bytes = replicate (BLOCK_BYTES * 2 ^ order) 0;
}
