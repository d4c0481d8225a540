use Rattle.std.proofs.Common.{◌≡◌, ◌++◌, length, reverse, map}
use Rattle.fx_layerset.specs.Levels.{level_in, levels_in}
use Rattle.fx_layerset.proofs.lane.push_newest_first.Given as goal

abbrev pub invariant-loop-newest : goal.invariant-loop-newest
invariant-loop-newest g l =
    map (λ b. level_in g.L.Level.items g.L.Level.lacks b.now) l.refs.items ++ reverse (levels_in g.L.Level.items g.L.Level.lacks l.rest)
    ≡ map (λ b. level_in g.L.Level.items g.L.Level.lacks b.now) l.initial.refs.items ++ reverse (levels_in g.L.Level.items g.L.Level.lacks l.lane)

abbrev pub decreases-loop-newest : goal.decreases-loop-newest
decreases-loop-newest g l = length l.rest
