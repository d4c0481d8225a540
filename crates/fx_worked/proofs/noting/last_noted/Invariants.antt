use Rattle.std.proofs.Common.{◌≡◌, ◌+◌, ◌≤◌, drop, length, map}
use Rattle.fx_events.specs.Notes.{entries_in}
use Rattle.fx_worked.specs.Noted.{noted_of}
use Rattle.fx_worked.proofs.noting.last_noted.Given as goal

abbrev pub invariant-loop-event : goal.invariant-loop-event
invariant-loop-event l = (l.last + length (entries_in (map noted_of (drop l.event-index l.events))) ≡ l.kept + length (entries_in (map noted_of l.events))) × (l.last ≤ l.kept + l.event-index)
