use Rattle.std.proofs.Common.{◌≤◌, List, [], length, sym, ap, subst, ◌∙◌}
use Rattle.std.specs.Prelude.{All}
use Rattle.fx_history.specs.declared.entry.Entry.{Entry}
use Rattle.fx_history.specs.Transcript.{Session}
use Rattle.fx_store.specs.Mounted.{LeavesSettled}
use Rattle.fxfs.specs.Lines.{Lasts}
use Rattle.fxfs.proofs.FinalFlush.{closed_length, closed_session, settled_of_mount}
use Rattle.fxfs.proofs.shell.close.Goals as goal

pub returns-clause-lasts : goal.returns-clause-lasts
returns-clause-lasts g c opening opens =
    let old = c.args.store in
    let before = g.D.Disk.seen old.disk in
    let after = g.D.Disk.seen c.flush-is_flushed.new.store.disk in
    rw (ap (λ e. e.disk) c.end-disk.ensures.gives) (
    subst (λ (h : List Entry). Lasts c.flush-is_flushed.result before.calls before.faults old.from opening old.base h [] after) (sym (ap (λ e. e.history) c.end-disk.ensures.gives)) (
    c.flush-is_flushed.ensures.lasts opening opens))

pub returns-clause-session : goal.returns-clause-session
returns-clause-session g c =
    let old = c.args.store in
    let new = c.flush-is_flushed.new.store in
    let after = g.D.Disk.seen new.disk in
    let all : All (λ (entry : Entry). entry.settled ≤ after.calls) new.history = rw (ap (λ e. e.disk) c.end-disk.ensures.gives) at c.end-disk.ensures.leaves.by_now in
    record {
      as_many = ap (λ e. length e.history) c.end-disk.ensures.gives ∙ closed_length c.flush-is_flushed.result after.calls old.history new.history c.flush-is_flushed.ensures.settles;
      session = λ opening tasks outcomes session.
          subst (λ (h : List Entry). Session opening old.base h tasks outcomes) (sym (ap (λ e. e.history) c.end-disk.ensures.gives)) (
          closed_session c.flush-is_flushed.result after.calls old.history new.history c.flush-is_flushed.ensures.settles all opening old.base tasks outcomes session);
    }

pub returns-clause-leaves : goal.returns-clause-leaves
returns-clause-leaves g c =
    let seen = g.D.Disk.seen c.end-disk.result.disk in
    let new = c.flush-is_flushed.new.store in
    settled_of_mount seen c.args.store new c.end-disk.result.history c.flush-is_flushed.ensures.keeps.mount (
    subst (λ (h : List Entry). LeavesSettled seen new h) (sym (ap (λ e. e.history) c.end-disk.ensures.gives)) c.end-disk.ensures.leaves)
