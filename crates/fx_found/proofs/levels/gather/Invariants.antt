use Rattle.std.proofs.Common.{◌≡◌, ◌+◌, ◌≤◌, ◌++◌, length, reverse}
use Rattle.std.specs.Prelude.{All}
use Rattle.fx_record.specs.Commits.{IsCommit}
use Rattle.fx_record.specs.Txns.{txns_of}
use Rattle.fx_found.specs.Image.{batch_levels, layer_levels}
use Rattle.fx_found.proofs.levels.gather.Given as goal

abbrev pub invariant-loop-items : goal.invariant-loop-items
invariant-loop-items l = record {
  batches : l.set.levels.batches ++ batch_levels (txns_of (reverse l.txns.items)) ≡ batch_levels (txns_of l.fn.txns);
  objects : l.set.levels.objects ≡ layer_levels l.fn.objects.items;
  allocs : l.set.levels.allocs ≡ layer_levels l.fn.allocs.items;
  room : length l.set.levels.batches + length l.txns.items ≤ l.set.room.batches;
  commits : All (λ t. IsCommit t.1) (txns_of l.txns.items);
}

abbrev pub decreases-loop-items : goal.decreases-loop-items
decreases-loop-items l = length l.txns.items
