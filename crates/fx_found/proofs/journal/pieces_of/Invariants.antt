use Rattle.std.proofs.Common.{◌≡◌}
use Rattle.fx_record.specs.Txns as records
use Rattle.fx_logcuts.specs.Cuts.{pieces_in}
use Rattle.fx_found.proofs.journal.pieces_of.Given as goal

abbrev pub invariant-loop-block : goal.invariant-loop-block
invariant-loop-block l = records.pieces_of l.pieces.items ≡ pieces_in l.yielded
