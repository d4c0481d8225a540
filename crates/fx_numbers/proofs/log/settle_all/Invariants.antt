use Rattle.std.proofs.Common.{◌≡◌, map}
use Rattle.fx_events.specs.Notes.{entries_in}
use Rattle.fx_numbers.specs.Noted.{ReachAlike, note_of, settled_with}
use Rattle.fx_numbers.proofs.log.settle_all.Given as goal

abbrev pub invariant-loop-note : goal.invariant-loop-note
invariant-loop-note l = record {
  alike : ReachAlike l.last l.rest l.flushes;
  entries : l.entries.items ≡ settled_with l.flushes (entries_in (map note_of l.yielded));
}
