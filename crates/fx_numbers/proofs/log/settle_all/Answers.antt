use Rattle.std.proofs.Common.{◌++◌, ◌∷◌, [], List, map, ap, sym, ◌∙◌}
use Rattle.fx_history.specs.declared.entry.Entry.{Entry}
use Rattle.fx_events.specs.Notes.{entries_in}
use Rattle.fx_numbers.specs.Noted.{note_of, settled_with}
use Rattle.fx_numbers.specs.declared.log.Happened.{Happened}
use Rattle.fx_numbers.proofs.Flushes.{no_entry, one_settled}
use Rattle.fx_numbers.proofs.log.settle_all.Goals as goal

pub loop-note-preserved-in_default : goal.loop-note-preserved-in_default
loop-note-preserved-in_default c = record {
  alike = c.loop-note.invariant.alike;
  entries = c.loop-note.invariant.entries ∙ no_entry c.args.flushes.now c.loop-note.yielded c.in-Some.note c.in_default.not-Commits;
}

pub loop-note-preserved : goal.loop-note-preserved
loop-note-preserved c = record {
  alike = c.first_from-rest.ensures.alike;
  entries =
      c.in_ok-push.ensures.items
      ∙ ap (λ (l : List Entry). l ++ c.settled.result ∷ []) c.loop-note.invariant.entries
      ∙ one_settled c.args.flushes.now c.loop-note.yielded c.in-Commits.entry c.settled.result c.calls_of.result c.settled.ensures (c.calls_of.ensures ∙ c.first_from-rest.ensures.first)
      ∙ ap (λ (h : Happened). settled_with c.args.flushes.now (entries_in (map note_of (c.loop-note.yielded ++ h ∷ [])))) (sym c.in-Commits.is);
}
