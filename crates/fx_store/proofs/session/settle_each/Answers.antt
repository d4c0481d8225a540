use Rattle.std.proofs.Common.{◌<◌, length, get_or, arith}
use Rattle.std.proofs.lemmas.List.{get_or_default}
use Rattle.std.proofs.lemmas.List.Edits.{map_over_more}
use Rattle.fx_history.specs.declared.entry.Entry.{Entry}
use Rattle.fx_store.specs.Line.{settled_entry}
use Rattle.fx_store.proofs.session.settle_each.Goals as goal

pub loop-entry-preserved : goal.loop-entry-preserved
loop-entry-preserved c =
    let x : Entry = get_or c.loop-entry.entries c.loop-entry.entry-index c.entry-item.result in
    let within : c.loop-entry.entry-index < length c.loop-entry.entries = omega (arith, c.loop-entry.auto.entries, c.loop-entry-test.true) in
    map_over_more (settled_entry c.args.calls) c.args.entries.now c.loop-entry.entries c.loop-entry.entry-index x c.loop-entry-test.true c.loop-entry.invariant (get_or_default c.loop-entry.entries c.loop-entry.entry-index c.entry-item.result x within)
