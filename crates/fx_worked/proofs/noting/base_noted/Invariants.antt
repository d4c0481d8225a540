use Rattle.std.proofs.Common.{◌≡◌, drop, map}
use Rattle.fx_events.specs.Notes.{base_number}
use Rattle.fx_worked.specs.Noted.{noted_of}
use Rattle.fx_worked.proofs.noting.base_noted.Given as goal

abbrev pub invariant-loop-event : goal.invariant-loop-event
invariant-loop-event l = base_number l.raised (map noted_of (drop l.event-index l.events)) ≡ base_number l.base (map noted_of l.events)
