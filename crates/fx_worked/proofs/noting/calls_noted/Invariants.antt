use Rattle.std.proofs.Common.{◌≡◌, drop, map}
use Rattle.fx_events.specs.Notes.{calls_in}
use Rattle.fx_worked.specs.Noted.{noted_of}
use Rattle.fx_worked.proofs.noting.calls_noted.Given as goal

abbrev pub invariant-loop-event : goal.invariant-loop-event
invariant-loop-event l = calls_in (map noted_of (drop l.event-index l.events)) l.number ≡ calls_in (map noted_of l.events) l.number
