use Rattle.std.proofs.Common.{ℕ, List, [], Bool, sym, subst, ◌∙◌, ap, length, arith}
use Rattle.fx_disk.proofs.Frames.{goes_then}
use Rattle.fx_history.specs.Outcome.{LineEnd}
use Rattle.fx_history.specs.Transcript.{Session}
use Rattle.fx_image.specs.Standing.{Transactions}
use Rattle.fx_store.specs.Mounted.{Opens}
use Rattle.fxfs.specs.Outside.{End, ended}
use Rattle.fxfs.specs.Lines.{Lasts, TellsEnd}
use Rattle.fxfs.specs.Shell.{AreFull}
use Rattle.fxfs.proofs.FaultsTold.{faults_between}
use Rattle.fxfs.proofs.FinalFlush.{finishes, settled_of_mount}
use Rattle.fxfs.proofs.SyncsTold.{syncs_later}
use Rattle.fxfs.proofs.shell.finish.Goals as goal

pub tell_end-stop-requires : goal.tell_end-stop-requires
tell_end-stop-requires g c = ap length c.as_slice.ensures ∙ c.run-outcomes.ensures.one_each

pub returns-clause-ends : goal.returns-clause-ends
returns-clause-ends g c opening opens =
    let store = c.args.store in
    let new = c.run-outcomes.new.store in
    let start = g.D.Disk.seen store.disk in
    let mid = g.D.Disk.seen new.disk in
    let after = g.D.Disk.seen c.close-is_flushed.result.disk in
    let sink_before = g.K.Sink.seen c.args.out.now in
    let sink_after = g.K.Sink.seen c.tell_end-stop.new.out in
    let tasks = c.args.tasks.now in
    let outcomes = c.run-outcomes.result in
    let closed = c.close-is_flushed.result in
    let history = closed.history in
    let flushed : Bool = closed.is_flushed in
    let stop = c.tell_end-stop.result in
    let end : End = ended stop closed.base history outcomes in
    let run = c.run-outcomes.ensures in
    let close = c.close-is_flushed.ensures in
    let lines = run.lines opening opens in
    let base_is = sym (close.base ∙ run.mount.base) in
    let session = subst (λ (n : ℕ). Session opening n new.history tasks outcomes) (sym run.mount.base) lines.session in
    let made = close.lasts opening (subst (λ (ts : Transactions). Opens ts opening) (sym run.mount.txns) opens) in
    let as_from = subst (λ (n : ℕ). Lasts flushed mid.calls mid.faults n opening new.base history [] after) run.mount.from made in
    let lasts : Lasts flushed mid.calls mid.faults store.from opening end.base end.history [] after =
    subst (λ (n : ℕ). Lasts flushed mid.calls mid.faults store.from opening n history [] after) (sym close.base) as_from in
    let tells : TellsEnd flushed sink_before sink_after tasks end.outcomes stop =
    subst (λ (os : List LineEnd). TellsEnd flushed sink_before sink_after tasks os stop) c.as_slice.ensures c.tell_end-stop.ensures.tells in
    record {
      ran = record {
        session = subst (λ (n : ℕ). Session opening n history tasks outcomes) (sym close.base) (close.session.session opening tasks outcomes session);
        faults = faults_between start.faults start.faults mid.faults after.faults outcomes (omega arith) close.disk.faults lines.told.faults;
        syncs = syncs_later start.calls mid after (g.met.D.Disk.told_ok new.disk) close.disk outcomes lines.told.syncs;
        calls = record {
          least = omega (arith, lines.told.least, close.disk.calls);
          most = omega (arith, run.most, close.most, close.session.as_many, c.requires.none_waits);
        };
        full = subst (λ (n : ℕ). AreFull store.ring store.live n outcomes) base_is lines.full;
      };
      finishes = finishes start mid after store.from opening end lines.told run.disk.faults sink_before sink_after tasks flushed stop lasts tells;
    }

pub returns-clause-leaves : goal.returns-clause-leaves
returns-clause-leaves g c =
    settled_of_mount (g.D.Disk.seen c.close-is_flushed.result.disk) c.args.store c.run-outcomes.new.store c.close-is_flushed.result.history c.run-outcomes.ensures.mount c.close-is_flushed.ensures.leaves

pub returns-clause-disk : goal.returns-clause-disk
returns-clause-disk g c =
    goes_then (g.D.Disk.seen c.args.store.disk) (g.D.Disk.seen c.run-outcomes.new.store.disk) (g.D.Disk.seen c.close-is_flushed.result.disk) c.run-outcomes.ensures.disk c.close-is_flushed.ensures.disk
