use Rattle.std.proofs.Common.{◌≡◌, ◌≤◌, ◌+◌, ◌-◌, vec_len}
use Rattle.fx_io.specs.Told.{Gives}
use Rattle.fx_io.proofs.source.read_whole.Given as goal

abbrev pub invariant-loop-buffer : goal.invariant-loop-buffer
invariant-loop-buffer g l = record {
  given : Gives (g.S.Source.seen l.fn.src).left (g.S.Source.seen l.src).left l.text.items;
  within : vec_len l.text ≤ l.most + 1;
  unfailed : (g.S.Source.seen l.src).faults ≡ (g.S.Source.seen l.fn.src).faults;
}

abbrev pub decreases-loop-buffer : goal.decreases-loop-buffer
decreases-loop-buffer g l = l.most + 1 - vec_len l.text
