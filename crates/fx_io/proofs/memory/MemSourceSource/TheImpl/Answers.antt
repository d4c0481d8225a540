use Rattle.std.proofs.Common.{ap}
use Rattle.fx_io.specs.Memory.{MemorySource}
use Rattle.fx_io.proofs.Counted.{told_gives, gives_within, gives_end, told_kept, counted}
use Rattle.fx_io.proofs.memory.MemSourceSource.TheImpl.Goals as goal

pub read-tells : goal.read-tells
read-tells c = record {
  count = gives_within _ _ _ c.result c.ensures.gives;
  gives = told_gives _ _ _ c.result c.ensures.gives;
  ended = gives_end _ _ _ c.result c.ensures.gives;
  kept = told_kept c.result _ _ c.ensures.kept;
  faults = counted c.result _ _ (ap (λ (s : MemorySource). s.faults) c.ensures.counts) c.ensures.grows;
}
