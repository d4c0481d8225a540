use Rattle.std.proofs.Common.{◌≡◌, length}
use Rattle.fx_io.proofs.Pieces.{Written}
use Rattle.fx_io.proofs.sink.write_whole.Given as goal

abbrev pub invariant-loop-rest : goal.invariant-loop-rest
invariant-loop-rest g l = record {
  written : Written (g.K.Sink.seen l.fn.out).text (g.K.Sink.seen l.out).text l.fn.text l.rest;
  unfailed : (g.K.Sink.seen l.out).faults ≡ (g.K.Sink.seen l.fn.out).faults;
}

abbrev pub decreases-loop-rest : goal.decreases-loop-rest
decreases-loop-rest g l = length l.rest
