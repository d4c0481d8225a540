use Rattle.std.proofs.Common.{◌≡◌, ◌+◌, ◌∷◌, ◌++◌, [], ℕ, List, map, length, sym, ap, ◌∙◌, arith, subst, refl}
use Rattle.std.proofs.lemmas.List.{length-map}
use Rattle.fx_disk.specs.Record as model
use Rattle.fx_disks.specs.Calls.{call_of}
use Rattle.fx_disks.proofs.Holding.{IsIndex-write}
use Rattle.fx_disks.proofs.memory.keep_write.Goals as goal

pub returns-clause-index : goal.returns-clause-index
returns-clause-index c entry e h =
    rw (c.if-not-push_call.ensures.kept refl, c.note_write.ensures)
    (IsIndex-write entry (map call_of c.args.calls.now.items) c.extend_index.new.latest.items c.args.at _ _ c.args.ok (omega (arith, c.if-not-extend_index.ensures.len refl, c.requires.at)) (omega (arith, c.len.ensures, length-map c.args.calls.now.items call_of))
    (c.extend_index.ensures.index entry (map call_of c.args.calls.now.items) e h))
