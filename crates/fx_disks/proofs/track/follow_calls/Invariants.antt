use Rattle.std.proofs.Common.{◌≡◌, ℕ, ◌≤◌, length, map}
use Rattle.fx_disks.specs.Calls.{call_of}
use Rattle.fx_disks.specs.Tracks.{TrackedAfter}
use Rattle.fx_disks.proofs.track.follow_calls.Given as goal

abbrev pub invariant-loop-index : goal.invariant-loop-index
invariant-loop-index l = record {
  len : length l.tracks.items ≡ length l.fn.tracks.items;
  flushed : l.flushed ≤ l.index;
  tracked : TrackedAfter (map call_of l.calls) l.index l.flushed l.tracks.items;
}
