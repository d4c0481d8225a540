use Rattle.std.proofs.Common.{◌≡◌, take}
use Rattle.fx_record.specs.Txns.{pieces_of, all_bytes}
use Rattle.fx_record.proofs.txns.join.Given as goal

abbrev pub invariant-loop-piece : goal.invariant-loop-piece
invariant-loop-piece l = l.text.items ≡ all_bytes (pieces_of (take l.piece-index l.run))
