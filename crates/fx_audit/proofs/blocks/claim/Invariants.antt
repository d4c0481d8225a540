use Rattle.std.proofs.Common.{◌≡◌, ℕ, ◌<◌, get_or, length}
use Rattle.fx_audit.specs.Claims.{claimed}
use Rattle.fx_audit.proofs.blocks.claim.Given as goal

abbrev pub invariant-loop-at : goal.invariant-loop-at
invariant-loop-at l = record {
  len : length l.table ≡ length l.initial.table;
  counts : (block : ℕ) → block < length l.initial.table → get_or l.table block 0 ≡ claimed block (get_or l.initial.table block 0) (l.start, l.at);
}
