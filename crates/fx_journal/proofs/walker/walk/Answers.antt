use Rattle.std.proofs.Common.{rules, ◌≡◌, refl, List, sym, subst, ◌∙◌, arith}
use Rattle.std.specs.Prelude.{Option}
use Rattle.std.specs.Option.{IfSome}
use Rattle.fx_disk.specs.Record.{DiskRecord}
use Rattle.fx_disk.proofs.Frames.{only_read_then, read_only}
use Rattle.fx_journal.specs.declared.stream.StreamBlock.{StreamBlock}
use Rattle.fx_journal.specs.Stream.{IsNext, IsStream}
use Rattle.fx_journal.proofs.Telling.{Taken, taken_run, taken_series, taken_length, taken_sequence, told_full, told_end}
use Rattle.fx_journal.proofs.walker.walk.Goals as goal
use Rattle.fx_journal.proofs.walker.walk.Goals.{else-reading-test, then-reading-test+in-Ok+in-Ok-take_block+in_default-found}

pub reading-preserved : goal.reading-preserved
reading-preserved g c =
    let next = subst (IsNext c.read.new.into c.args.generation c.reading.next) c.in-Some.is c.in-Ok-take_block.ensures in
    let taken : Taken c.read.new.into c.args.generation c.reading.next c.in-Some.after c.in-Some.found c.reading.items.items c.keep.new.items.items =
    record { stands = next.0; moved = next.1; kept = c.in-Ok-keep.ensures } in
    let longer = taken_length _ _ _ _ _ _ _ taken in
    let on = taken_sequence _ _ _ _ _ _ _ taken in
    record {
      run = taken_run _ _ _ _ _ _ _ _ _ _ _ _ taken c.in-Ok.ensures.read.told c.block_number.ensures.place c.reading.invariant.run c.in-Ok.ensures.bytes;
      series = taken_series _ _ _ _ _ _ _ _ taken c.reading.invariant.series;
      sequence = omega (arith, longer, on);
      few = omega (arith, longer);
      disk = only_read_then _ _ _ c.reading.invariant.disk (read_only _ _ _ c.in-Ok.ensures.read);
      reads = omega (arith, longer, c.in-Ok.ensures.read.reads, c.in-Ok.ensures.read.limit refl, c.reading.invariant.reads);
      faults = c.in-Ok.ensures.read.faults.answer ∙ c.reading.invariant.faults;
    }

pub returns-clause-stream : goal.returns-clause-stream
returns-clause-stream g c =
    let before : (g.D.Disk.seen c.reading.disk).told ≡ (g.D.Disk.seen c.args.disk.now).told = c.reading.invariant.disk.told in
    let read : IfSome (g.D.Disk.seen c.reading.disk).told (λ r. IsStream r.contents c.args.ring c.args.generation c.args.start c.reading.items.items c.reading.next) =
    elim c.reading-test.branch [
      | else-reading-test w ↦ told_full _ _ _ _ _ _ (search rules) (omega arith) (omega arith) c.reading.invariant.run
      | then-reading-test+in-Ok+in-Ok-take_block+in_default-found w ↦ told_end (g.D.Disk.seen c.reading.disk).told c.args.ring c.args.generation w.block_number.result c.args.start c.reading.next c.reading.items.items w.read.new.into (search rules) (omega arith) c.reading.invariant.few w.block_number.ensures.place c.reading.invariant.run w.in-Ok.ensures.bytes (subst (IsNext w.read.new.into c.args.generation c.reading.next) w.in_default-found.is w.in-Ok-take_block.ensures)
    ] in
    let listed = subst (λ (l : List StreamBlock). IfSome (g.D.Disk.seen c.reading.disk).told (λ r. IsStream r.contents c.args.ring c.args.generation c.args.start l c.reading.next)) (sym c.new.ensures) read in
    subst (λ (o : Option DiskRecord). IfSome o (λ r. IsStream r.contents c.args.ring c.args.generation c.args.start c.new.result c.reading.next)) before listed
