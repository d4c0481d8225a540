use Rattle.std.proofs.Common.{◌++◌, ◌∷◌, [], List, map, take, ap, sym, ◌∙◌, arith}
use Rattle.fx_numbers.specs.Noted.{flushes_in, note_of}
use Rattle.fx_numbers.specs.declared.flush.Flush.{Flush}
use Rattle.fx_numbers.specs.declared.log.Happened.{Happened}
use Rattle.fx_numbers.proofs.Flushes.{flush_step, no_flush, one_flush}
use Rattle.fx_numbers.proofs.log.flushes_of.Goals as goal

pub loop-note-preserved-in_default : goal.loop-note-preserved-in_default
loop-note-preserved-in_default c =
    c.loop-note.invariant
    ∙ no_flush (flushes_in (map note_of (take c.loop-note.note-index c.args.notes.now))) c.note-item.result c.in_default.not-Settles
    ∙ sym (flush_step c.args.notes.now c.loop-note.note-index c.note-item.result (omega arith) c.note-item.is)

pub loop-note-preserved : goal.loop-note-preserved
loop-note-preserved c =
    c.in_ok-push.ensures.items
    ∙ ap (λ (l : List Flush). l ++ record { number = c.in-Settles.number; calls = c.in-Settles.calls } ∷ []) c.loop-note.invariant
    ∙ ap (λ (h : Happened). flushes_in (map note_of (take c.loop-note.note-index c.args.notes.now)) ++ one_flush h) (sym c.in-Settles.is)
    ∙ sym (flush_step c.args.notes.now c.loop-note.note-index c.note-item.result (omega arith) c.note-item.is)
