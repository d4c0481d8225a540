use Rattle.std.proofs.Common.{◌≡◌, drop, map}
use Rattle.fx_events.specs.Notes.{settled_upto}
use Rattle.fx_worked.specs.Noted.{noted_of}
use Rattle.fx_worked.proofs.noting.settled_noted.Given as goal

abbrev pub invariant-loop-event : goal.invariant-loop-event
invariant-loop-event l = settled_upto l.settled (map noted_of (drop l.event-index l.events)) ≡ settled_upto l.kept (map noted_of l.events)
