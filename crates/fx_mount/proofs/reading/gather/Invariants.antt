use Rattle.std.proofs.Common.{drop}
use Rattle.fx_record.specs.Txns.{txns_of}
use Rattle.fx_mount.proofs.Gathering.{Gathers}
use Rattle.fx_mount.proofs.reading.gather.Given as goal

abbrev pub invariant-loop-items : goal.invariant-loop-items
invariant-loop-items l = Gathers l.fn.sup.next_id l.fn.sup.next_store (txns_of l.fn.txns) (txns_of (drop l.items-index l.items-items)) l.table
