use Rattle.std.proofs.Common.{◌≡◌, ◌++◌, take, drop}
use Rattle.std.specs.Prelude.{map}
use Rattle.fx_store.specs.Line.{settled_entry}
use Rattle.fx_store.proofs.session.settle_each.Given as goal

abbrev pub invariant-loop-entry : goal.invariant-loop-entry
invariant-loop-entry l = l.entries ≡ map (settled_entry l.calls) (take l.entry-index l.initial.entries) ++ drop l.entry-index l.initial.entries
