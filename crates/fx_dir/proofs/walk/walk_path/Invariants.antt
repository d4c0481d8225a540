use Rattle.fx_item.specs.Look.{map_of}
use Rattle.fx_dir.proofs.Walking.{IsWalkTo}
use Rattle.fx_dir.proofs.walk.walk_path.Given as goal

abbrev pub invariant-loop-name : goal.invariant-loop-name
invariant-loop-name g l = IsWalkTo (map_of (g.L.Look.said l.look)) l.names l.name-index l.dirs.items l.at l.kind
