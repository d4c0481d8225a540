-- Events as notes.
use Rattle.fx_events.specs.Notes.{Note, Commits, Settles, Raises}
use Rattle.fx_worked.specs.declared.noting.Event.{Event}
use Rattle.fx_worked.specs.declared.noting.Event.TheVariants as events

abbrev pub noted_of : Event → Note
noted_of (events.Commit entry) = Commits entry
noted_of (events.Mark number calls) = Settles number calls
noted_of (events.Base base) = Raises base
