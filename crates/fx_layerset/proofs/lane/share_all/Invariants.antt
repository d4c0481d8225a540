use Rattle.std.proofs.Common.{◌≡◌, ◌≤◌, length, take}
use Rattle.std.specs.Prelude.{vec_capacity, vec_len}
use Rattle.fx_layerset.specs.Levels.{levels_in}
use Rattle.fx_layerset.proofs.lane.share_all.Given as goal

abbrev pub invariant-loop-level : goal.invariant-loop-level
invariant-loop-level g l = record {
  same : levels_in g.L.Level.items g.L.Level.lacks l.shared.items ≡ levels_in g.L.Level.items g.L.Level.lacks (take l.level-index l.lane);
  count : vec_len l.shared ≡ l.level-index;
  room : length l.lane ≤ vec_capacity l.shared;
}
