use Rattle.std.proofs.Common.{◌≡◌, map}
use Rattle.std.specs.List.{fold}
use Rattle.fx_record.specs.Record.{plain_record}
use Rattle.fx_record.specs.Txns.{put, txns_of, txns_left_by}
use Rattle.fx_worked.proofs.folding.folded.Given as goal

abbrev pub invariant-loop-record : goal.invariant-loop-record
invariant-loop-record l = fold put (txns_of l.txns.items) (map plain_record l.record-iterator.rest.items) ≡ txns_left_by (map plain_record l.fn.records.items)
