use Rattle.std.proofs.Common.{◌≡◌}
use Rattle.fx_record.specs.Txns as records
use Rattle.fx_image.specs.Standing.{stream_pieces}
use Rattle.fx_mount.proofs.reading.stream_pieces.Given as goal

abbrev pub invariant-loop-block : goal.invariant-loop-block
invariant-loop-block l = records.pieces_of l.pieces.items ≡ stream_pieces l.yielded
