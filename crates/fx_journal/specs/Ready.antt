-- What the tests keep from call to call: the ring's buffers are all that is out of a pool of 512
-- blocks.
use Rattle.std.specs.Prelude.{◌≡◌, length}
use Rattle.fx_super.specs.declared.superblock.TheConstants.{MIN_RING}
use Rattle.fx_pool.specs.Region.{Region}
use Rattle.fx_journal.specs.Ring.{RingState, IsRing, KeepsBuffers, blocks_out}

pub record HasPool (ring : RingState) (region : Region) : Type 0 where
  pub ring_ok : IsRing ring
  pub buffers : KeepsBuffers ring.buffers region
  pub size : ring.size ≡ MIN_RING
  pub order : region.order ≡ 9
  pub out : blocks_out region ≡ length ring.buffers
