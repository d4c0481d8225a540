-- What becomes of the ring's buffers and of the pool where buffers of one block are taken, given
-- back and written.
use Rattle.std.specs.Prelude.{◌≡◌, ◌≢◌, ℕ, ◌+◌, List, length, take}
use Rattle.fx_pool.specs.Region.{Region, Run, IsSound, IsOut, bytes_of}
use Rattle.fx_journal.specs.Ring.{KeepsBuffers, KeepsRest, blocks_out}

-- So many buffers were taken out of the pool, behind those that were there. What was out still is,
-- and no byte changed.
pub record TookBuffers (own now : List Run) (before after : Region) (count : ℕ) : Type 0 where
  pub buffers : KeepsBuffers now after
  pub kept : take (length own) now ≡ own
  pub len : length now ≡ length own + count
  pub others : (run : Run) → IsOut before run → IsOut after run
  pub bytes : after.bytes ≡ before.bytes
  pub order : after.order ≡ before.order
  pub counted : blocks_out after ≡ blocks_out before + count

-- So many of the buffers were given back. What others have out still is, and no byte changed.
pub record GaveBuffers (own now : List Run) (before after : Region) (count : ℕ) : Type 0 where
  pub buffers : KeepsBuffers now after
  pub others : KeepsRest own before after
  pub bytes : after.bytes ≡ before.bytes
  pub counted : blocks_out after + count ≡ blocks_out before

-- A buffer was written: the same buffers are out, and each other one has its bytes.
pub record WroteBuffer (own : Run) (before after : Region) : Type 0 where
  pub others : (run : Run) → IsOut before run → run.start ≢ own.start →
      bytes_of after run ≡ bytes_of before run
  pub out : after.out ≡ before.out
  pub order : after.order ≡ before.order
  pub sound : IsSound after
