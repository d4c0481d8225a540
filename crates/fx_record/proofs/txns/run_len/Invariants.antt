use Rattle.std.proofs.Common.{◌≡◌, ℕ, ◌<◌, get_or}
use Rattle.fx_record.specs.declared.txns.Piece.{Piece}
use Rattle.fx_record.proofs.txns.run_len.Given as goal

abbrev pub invariant-loop-i : goal.invariant-loop-i
invariant-loop-i l = (k : ℕ) (d : Piece) → k < l.i → (get_or l.pieces k d).epoch ≡ l.epoch
