use Rattle.std.proofs.Common.{◌+◌, ◌≤◌, length}
use Rattle.fx_record.specs.Txns.{pieces_of, epoch_texts, all_bytes}
use Rattle.fx_record.specs.Progress.{read_state, Numbered, Advance}
use Rattle.fx_record.proofs.Moves.{start_of}
use Rattle.fx_record.proofs.txns.read_all.Given as goal

abbrev pub invariant-loop-rest : goal.invariant-loop-rest
invariant-loop-rest l = record {
  advance : Advance l.base (start_of l.base) (epoch_texts (pieces_of l.pieces)) (read_state l.progress) (epoch_texts (pieces_of l.rest));
  numbered : Numbered l.base (read_state l.progress);
  few : l.progress.read + length (all_bytes (pieces_of l.rest)) ≤ length (all_bytes (pieces_of l.pieces));
}

abbrev pub decreases-loop-rest : goal.decreases-loop-rest
decreases-loop-rest l = length l.rest
