use Rattle.std.proofs.Common.{take}
use Rattle.fx_record.specs.Txns.{txns_of}
use Rattle.fx_found.specs.Image.{lists_of_txns}
use Rattle.fx_found.specs.Reading.{MovesOver}
use Rattle.fx_found.proofs.numbers.past_txns.Given as goal

abbrev pub invariant-loop-items : goal.invariant-loop-items
invariant-loop-items l = MovesOver l.fn.next l.next (lists_of_txns (txns_of (take l.items-index l.txns)))
