use Rattle.std.proofs.Common.{◌≡◌, drop, map}
use Rattle.fx_record.specs.Record.{plain_record}
use Rattle.fx_record.specs.Txns.{in_order}
use Rattle.fx_worked.proofs.folding.is_in_order.Given as goal

abbrev pub invariant-loop-record : goal.invariant-loop-record
invariant-loop-record l = in_order l.base l.last (map plain_record (drop l.record-index l.records)) ≡ in_order l.base l.base (map plain_record l.records)
