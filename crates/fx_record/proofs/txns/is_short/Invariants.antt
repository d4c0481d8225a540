use Rattle.std.proofs.Common.{◌≡◌, ◌+◌, length, drop}
use Rattle.fx_record.specs.Txns.{pieces_of, all_bytes}
use Rattle.fx_record.proofs.txns.is_short.Given as goal

abbrev pub invariant-loop-piece : goal.invariant-loop-piece
invariant-loop-piece l =
    l.room + length (all_bytes (pieces_of l.pieces)) ≡ 4294967295 + length (all_bytes (pieces_of (drop l.piece-index l.pieces)))
