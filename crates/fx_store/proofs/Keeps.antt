-- What a disk tells, and the superblock of the next generation.
use Rattle.std.proofs.Common.{ℕ, ◌+◌, ◌≤◌, ◌∙◌, Bool, true, false, arith}
use Rattle.std.specs.Prelude.{Option, Some, None, IfSome, slice_index_or}
use Rattle.fx_disk.specs.Record.{DiskRecord}
use Rattle.fx_disk.specs.Seen.{DiskSeen, GoesOn}
use Rattle.fx_disk.proofs.Frames.{called_then}
use Rattle.fx_store.specs.Mounted.{KeepsLive, State, WroteAll}
use Rattle.fx_store.specs.Opening.{MakesCalls}
use Rattle.fx_super.specs.Super.{Fields, KeepsRules, IsLayer}
use Rattle.fx_super.specs.declared.superblock.TheConstants.{MAX_GENERATION}
use Rattle.fx_log.specs.Chosen.{next_generation}

pub if-more : (o : Option DiskRecord) (P Q : DiskRecord → Type 0) → ((r : DiskRecord) → P r → Q r) → IfSome o P → IfSome o Q
if-more None P Q f h = tt
if-more (Some r) P Q f h = f r h

pub if-both : (o : Option DiskRecord) (P Q R : DiskRecord → Type 0) → ((r : DiskRecord) → P r → Q r → R r) → IfSome o P → IfSome o Q → IfSome o R
if-both None P Q R f h k = tt
if-both (Some r) P Q R f h k = f r h k

-- calls that were made, or of which one failed, go on
pub made-goes : (count : ℕ) (before after : DiskSeen) (good : Bool) → MakesCalls count before after good → GoesOn before after
made-goes count before after true h = h.1.goes
made-goes count before after false h = h.1.goes

-- the last call of a sync comes after every block that waited was written
pub live-then : {Device : Type 0} (a b c : DiskSeen) (old mid new : State Device) (good : Bool) → WroteAll a b old mid → KeepsLive a b old mid true → KeepsLive b c mid new good → KeepsLive a c old new good
live-then a b c old mid new good w x y = record {
  mount = record { from = y.mount.from ∙ x.mount.from; base = y.mount.base ∙ x.mount.base; txns = y.mount.txns ∙ x.mount.txns; ring = y.mount.ring ∙ x.mount.ring };
  live = y.live ∙ x.live;
  each = record { each = omega (arith, w.waiting, w.calls, x.live, y.each.each); most = omega (arith, w.waiting, w.calls, x.live, y.each.most) };
  called = called_then a b c good x.called y.called;
}

-- the rules of a superblock hold of that of the next generation, where there is room above
pub rules-next : (f : Fields) → KeepsRules f → f.generation + 1 ≤ MAX_GENERATION → KeepsRules (next_generation f)
rules-next f h room = record {
  version_is = h.version_is;
  ring_least = h.ring_least;
  ring_most = h.ring_most;
  blocks_least = h.blocks_least;
  blocks_most = h.blocks_most;
  generation_least = omega arith;
  generation_most = omega (arith, room);
  sequence_below = h.sequence_below;
  chain_fits = h.chain_fits;
  base_below = h.base_below;
  next_id_least = h.next_id_least;
  next_id_most = h.next_id_most;
  next_store_least = h.next_store_least;
  next_store_most = h.next_store_most;
  objects_most = h.objects_most;
  objects_are = λ k d lt. let is : IsLayer f (slice_index_or f.objects k d) = h.objects_are k d lt in record { after_ring = is.after_ring; on_device = is.on_device };
  allocs_most = h.allocs_most;
  allocs_are = λ k d lt. let is : IsLayer f (slice_index_or f.allocs k d) = h.allocs_are k d lt in record { after_ring = is.after_ring; on_device = is.on_device };
  floor_least = h.floor_least;
  floor_most = omega (arith, h.floor_most);
}
