use Rattle.std.proofs.Common.{List, map, ap, ◌∙◌}
use Rattle.fx_events.specs.Notes.{entries_in, history_in}
use Rattle.fx_numbers.specs.Noted.{NoteList, flushes_in, note_of, settled_with}
use Rattle.fx_numbers.specs.declared.flush.Flush.{Flush}
use Rattle.fx_numbers.specs.declared.log.Happened.{Happened}
use Rattle.fx_numbers.proofs.Flushes.{settled_history}
use Rattle.fx_numbers.proofs.log.Log.into_history.Goals as goal

pub returns : goal.returns
returns c =
    let notes = map note_of c.self.inside.notes.items in
    c.new.ensures
    ∙ c.in_ok-entries.ensures
    ∙ ap (λ (fs : List Flush). settled_with fs (entries_in notes)) (c.as_slice-2.ensures.value ∙ c.in_ok-flushes.ensures ∙ ap (λ (l : List Happened). flushes_in (map note_of l)) c.as_slice.ensures.value)
    ∙ settled_history notes
    ∙ ap (λ (v : NoteList). history_in v.notes) c.self.view_is
