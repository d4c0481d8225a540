use Rattle.std.proofs.Common.{◌≡◌, ℕ, length, map, take}
use Rattle.fx_disks.specs.Calls.{call_of}
use Rattle.fx_disks.specs.Left.{AreChosen}
use Rattle.fx_disks.proofs.left.choose_all.Given as goal

abbrev pub invariant-loop-pick : goal.invariant-loop-pick
invariant-loop-pick l = record {
  len : length l.chosen.items ≡ length l.tracks;
  chosen : AreChosen (map call_of l.calls) l.moment l.chosen.items (take l.pick-index l.picks);
}
