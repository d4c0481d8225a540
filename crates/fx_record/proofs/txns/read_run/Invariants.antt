use Rattle.std.proofs.Common.{◌+◌, ◌≤◌, List, ℕ, ◌∷◌, length}
use Rattle.fx_record.specs.Progress.{read_state, Numbered, Advance}
use Rattle.fx_record.proofs.txns.read_run.Given as goal

abbrev pub invariant-loop-left : goal.invariant-loop-left
invariant-loop-left l = record {
  advance : (more : List (List ℕ)) → Advance l.base (read_state l.fn.progress) (l.text ∷ more) (read_state l.progress) (l.rest ∷ more);
  numbered : Numbered l.base (read_state l.progress);
  few : l.progress.read + length l.rest ≤ l.fn.progress.read + length l.text;
}

abbrev pub decreases-loop-left : goal.decreases-loop-left
decreases-loop-left l = length l.rest
