use Rattle.std.proofs.Common.{ap}
use Rattle.fx_io.specs.Memory.{MemorySink}
use Rattle.fx_io.proofs.Counted.{told_takes, takes_within, takes_moves, counted}
use Rattle.fx_io.proofs.Pieces.{takes_nothing}
use Rattle.fx_io.proofs.memory.MemSinkSink.TheImpl.Goals as goal

pub write-tells : goal.write-tells
write-tells c = record {
  count = takes_within _ _ _ c.result c.ensures.takes;
  moves = takes_moves _ _ _ c.result c.ensures.takes;
  takes = told_takes _ _ _ c.result c.ensures.takes;
  front = takes_nothing c.result _ _ _ c.ensures.kept;
  faults = counted c.result _ _ (ap (λ (s : MemorySink). s.faults) c.ensures.counts) c.ensures.grows;
}
