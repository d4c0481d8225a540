use Rattle.std.proofs.Common.{◌+◌, refl, sym, subst}
use Rattle.fx_journal.specs.Ring.{KeepsBuffers}
use Rattle.fx_core.specs.declared.tail.NotOpened.{NotOpened}
use Rattle.fx_core.proofs.Begun.{core_begun}
use Rattle.fx_core.proofs.mounted.Core.open.Goals as goal

pub close-requires : goal.close-requires
close-requires g c = record { buffers = subst (λ (x : NotOpened). KeepsBuffers x.ring.buffers x.pool) (sym c.in-Err.ensures.refused) c.requires.buffers.buffers }

pub invariant_of-result : goal.invariant_of-result
invariant_of-result g c = core_begun c.after_all_law.ensures c.requires c.open-2.result c.open-2.ensures c.in-Ok.tail c.in-Ok.ensures.opened (record { ids = c.args.found.found.ids + 8388608; stores = c.args.found.found.stores + 8388608 }) refl refl
