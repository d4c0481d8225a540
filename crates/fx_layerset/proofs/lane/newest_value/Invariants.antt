use Rattle.std.proofs.Common.{◌≡◌, length, reverse}
use Rattle.fx_item.specs.Item.{key_of}
use Rattle.fx_item.specs.Overlay.{AtKey}
use Rattle.fx_item.specs.Look.{MayFail}
use Rattle.fx_item.specs.declared.look.LookFault.{LookFault}
use Rattle.fx_layerset.specs.Levels.{levels_in, lacked_by, said_over}
use Rattle.fx_layerset.proofs.lane.newest_value.Given as goal

abbrev pub invariant-loop-level : goal.invariant-loop-level
invariant-loop-level g l = record {
  said : said_over (reverse (levels_in g.L.Level.items g.L.Level.lacks l.rest)) (AtKey (key_of l.key))
      ≡ said_over (reverse (levels_in g.L.Level.items g.L.Level.lacks l.lane)) (AtKey (key_of l.key));
  lacked : (fault : LookFault) → MayFail (lacked_by (reverse (levels_in g.L.Level.items g.L.Level.lacks l.rest))) fault
      → MayFail (lacked_by (reverse (levels_in g.L.Level.items g.L.Level.lacks l.lane))) fault;
}

abbrev pub decreases-loop-level : goal.decreases-loop-level
decreases-loop-level g l = length l.rest
