use Rattle.std.proofs.Common.{◌≡◌, map, take}
use Rattle.fx_numbers.specs.Noted.{flushes_in, note_of}
use Rattle.fx_numbers.proofs.log.flushes_of.Given as goal

abbrev pub invariant-loop-note : goal.invariant-loop-note
invariant-loop-note l = l.flushes.items ≡ flushes_in (map note_of (take l.note-index l.notes))
