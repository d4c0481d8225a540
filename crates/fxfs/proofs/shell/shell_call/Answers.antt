use Rattle.std.proofs.Common.{sym, subst, ◌∙◌}
use Rattle.std.specs.Prelude.{List, ℕ}
use Rattle.std.specs.Option.{IfSome}
use Rattle.fx_script.specs.declared.script.Task.{Task}
use Rattle.fx_mount.specs.Found.{IsMountedAt}
use Rattle.fx_store.specs.Mounted.{KeepsImages}
use Rattle.fxfs.specs.Outside.{Outside, End, ended, outside}
use Rattle.fxfs.specs.Lines.{IsNoScript}
use Rattle.fxfs.proofs.ShellEnding.{Ran, shell_ends, Refused, refused_ends, unasked_ends}
use Rattle.fxfs.proofs.shell.shell_call.Goals as goal

pub returns-in-Ok-mount-clause-ends : goal.returns-in-Ok-mount-clause-ends
returns-in-Ok-mount-clause-ends g c =
    let store = c.in-Ok-mount.store in
    let mounted = c.in-Ok-mount.ensures in
    let finish = c.finish.ensures in
    let mid = g.D.Disk.seen store.disk in
    let last = g.D.Disk.seen c.finish.result.disk in
    let before : Outside = outside (g.D.Disk.seen c.args.disk) (g.S.Source.seen c.args.src.now) (g.K.Sink.seen c.args.out.now) in
    let after : Outside = outside last (g.S.Source.seen c.read_tasks.new.src) (g.K.Sink.seen c.finish.new.out) in
    let end : End = ended c.finish.result.stop c.finish.result.base c.finish.result.history c.finish.result.outcomes in
    let tasks : List Task = c.in-Ok.tasks in
    let base_is = sym finish.base in
    let ran : Ran before after mid store.from store.txns store.ring store.live end tasks = record {
      spelled = c.in-Ok.ensures.ok;
      opens = (
        mounted.opens.0,
        mounted.opens.1,
        subst (λ (n : ℕ). IfSome before.disk.told (IsMountedAt before.disk.size n store.txns mounted.opens.0)) base_is mounted.opens.2,
      );
      ring_is = mounted.new.ring;
      mount_from = mounted.new.from;
      mount_calls = mounted.new.calls;
      mount_unfailed = mounted.new.faults;
      mount_disk = mounted.goes;
      run = λ opening opens. (finish.ends opening opens).ran;
      finishes = λ opening opens. (finish.ends opening opens).finishes;
      finish_disk = finish.disk;
      images = subst (λ (n : ℕ). IfSome last.told (KeepsImages last.size store.from store.txns n end.history)) base_is finish.leaves.images;
      settled = finish.leaves.by_now;
      most = c.read_tasks.ensures.most;
      source = c.read_tasks.ensures.goes;
      sink = finish.sink;
    } in
    shell_ends before after mid store.from store.txns store.ring store.live end tasks ran

pub returns-clause-ends : goal.returns-clause-ends
returns-clause-ends g c =
    let un = c.in-Err-mount.field-0 in
    let refused = c.in-Err-mount.ensures in
    let stopped = c.stopped-in-Err-mount.ensures in
    let result = c.stopped-in-Err-mount.result in
    let before : Outside = outside (g.D.Disk.seen c.args.disk) (g.S.Source.seen c.args.src.now) (g.K.Sink.seen c.args.out.now) in
    let after : Outside = outside (g.D.Disk.seen un.disk) (g.S.Source.seen c.read_tasks.new.src) (g.K.Sink.seen c.stopped-in-Err-mount.new.out) in
    let end : End = ended result.stop result.base result.history result.outcomes in
    let known : Refused before after un.fault end c.in-Ok.tasks = record {
      spelled = c.in-Ok.ensures.ok;
      stop = stopped.stop ∙ c.mount_stop.ensures;
      stopped = stopped.stopped;
      cause = refused.cause;
      calls = refused.few;
      disk = refused.goes;
      opening = refused.opening;
      most = c.read_tasks.ensures.most;
      source = c.read_tasks.ensures.goes;
      sink = stopped.goes;
    } in
    rw stopped.disk (refused_ends before after end c.in-Ok.tasks un.fault known)

pub returns-in-Err-clause-ends : goal.returns-in-Err-clause-ends
returns-in-Err-clause-ends g c =
    let result = c.stopped.result in
    let source_before = g.S.Source.seen c.args.src.now in
    let source_after = g.S.Source.seen c.read_tasks.new.src in
    let end : End = ended result.stop result.base result.history result.outcomes in
    rw c.stopped.ensures.disk
    (unasked_ends (g.D.Disk.seen c.args.disk) source_before source_after (g.K.Sink.seen c.args.out.now) (g.K.Sink.seen c.stopped.new.out) end
    (g.met.D.Disk.told_ok c.args.disk) c.stopped.ensures.stopped
    (subst (IsNoScript source_before source_after) (sym c.stopped.ensures.stop) c.in-Err.ensures.err) c.read_tasks.ensures.most c.read_tasks.ensures.goes c.stopped.ensures.goes)

pub returns-in_default-clause-ends : goal.returns-in_default-clause-ends
returns-in_default-clause-ends g c =
    let result = c.stopped-in_default.result in
    let source_before = g.S.Source.seen c.args.src.now in
    let source_after = g.S.Source.seen c.read_tasks.new.src in
    let end : End = ended result.stop result.base result.history result.outcomes in
    rw c.stopped-in_default.ensures.disk
    (unasked_ends (g.D.Disk.seen c.args.disk) source_before source_after (g.K.Sink.seen c.args.out.now) (g.K.Sink.seen c.stopped-in_default.new.out) end
    (g.met.D.Disk.told_ok c.args.disk) c.stopped-in_default.ensures.stopped
    (subst (IsNoScript source_before source_after) (sym c.stopped-in_default.ensures.stop) tt) c.read_tasks.ensures.most c.read_tasks.ensures.goes c.stopped-in_default.ensures.goes)
