use Rattle.std.proofs.Common.{◌≡◌, ℕ, ◌+◌, ◌<◌, [], ◌∷◌, ◌++◌, refl, sym, ap, subst, ◌∙◌, suc, take, drop, length, arith, rules, length-append, length-drop}
use Rattle.std.specs.Prelude.{List}
use Rattle.fx_disk.proofs.Frames.{goes_same, goes_then}
use Rattle.fx_plain.specs.Tree.{Tree}
use Rattle.fx_item.specs.declared.full.Full.{Full}
use Rattle.fx_script.specs.declared.script.Task.{Task}
use Rattle.fx_history.specs.declared.outcome.EndKind.TheVariants as ends
use Rattle.fx_history.specs.Outcome.{LineEnd}
use Rattle.fx_history.specs.Transcript.{EndsNext}
use Rattle.fx_history.proofs.Sessions.{Follows, follows_more, follows_none, session_of}
use Rattle.fx_store.specs.Mounted.{Opens}
use Rattle.fxfs.specs.Shell.{AreFull, AreLines, AreTold, syncs_in}
use Rattle.fxfs.proofs.ListFronts.{take_more, drop_more, take_all}
use Rattle.fxfs.proofs.FaultsTold.{AreWithin, full_none, full_more, within_none, within_more}
use Rattle.fxfs.proofs.SyncsTold.{syncs_in_more, sync_of}
use Rattle.fxfs.proofs.LinesTold.{told_none, told_more}
use Rattle.fxfs.proofs.shell.run.Goals as goal

pub push_reserved-requires : goal.push_reserved-requires
push_reserved-requires g c =
    let n : ℕ = length c.loop-line.items.items in
    let some : n < length c.args.tasks.now =
    omega (arith, c.loop-line.invariant.few, length-drop n c.args.tasks.now, ap length (sym c.loop-line.invariant.left ∙ c.in-Some.ensures.steps)) in
    omega (arith, some, c.loop-line.invariant.room, c.loop-line.items.ok.0)

pub loop-line-init : goal.loop-line-init
loop-line-init g c =
    let store = c.args.store.now in
    let seen = g.D.Disk.seen store.disk in
    record {
      follows = λ opening opens.
          subst (λ (os : List LineEnd). Follows opening store.base store.history (take (length os) c.args.tasks.now) os) (sym c.requires.empty)
          (subst (λ (h : List _). Follows opening store.base h [] []) (sym c.requires.fresh) (follows_none opening store.base));
      left = subst (λ (os : List LineEnd). c.into_iter-line-iterator.result ≡ drop (length os) c.args.tasks.now) (sym c.requires.empty) (search rules);
      few = omega (arith, ap length c.requires.empty);
      room = c.requires.room;
      told = λ opening opens. subst (AreTold seen seen) (sym c.requires.empty) (told_none seen);
      most = omega (arith, ap (λ (os : List LineEnd). syncs_in (take (length os) c.args.tasks.now)) c.requires.empty);
      full = λ opening opens. subst (AreFull store.ring store.live store.base) (sym c.requires.empty) (full_none store.ring store.live store.base);
      within = subst (AreWithin store.live) (sym c.requires.empty) (within_none store.live);
      low = omega arith;
      live = omega arith;
      mount = record { from = refl; base = refl; txns = refl; ring = refl };
      goes = goes_same seen;
    }

pub loop-line-preserved : goal.loop-line-preserved
loop-line-preserved g c =
    let tasks = c.args.tasks.now in
    let n : ℕ = length c.loop-line.items.items in
    let start = c.args.store.now in
    let old = c.loop-line.store in
    let new = c.run_line-outcome.new.store in
    let task : Task = c.in-Some.line in
    let at : ℕ = c.run_line-outcome.result.at in
    let kind = c.run_line-outcome.result.kind in
    let invariant = c.loop-line.invariant in
    let mount = invariant.mount in
    let exec = c.run_line-outcome.ensures in
    let here : drop n tasks ≡ task ∷ c.next.new.self = sym invariant.left ∙ c.in-Some.ensures.steps in
    let some : n < length tasks = omega (arith, invariant.few, length-drop n tasks, ap length here) in
    let longer : length (c.loop-line.items.items ++ c.run_line-outcome.result ∷ []) ≡ suc n = omega (arith, length-append c.loop-line.items.items (c.run_line-outcome.result ∷ [])) in
    let front : take (suc n) tasks ≡ take n tasks ++ task ∷ [] = take_more n tasks c.next.new.self task here in
    let next : (opening : Tree) → Opens start.txns opening → EndsNext opening start.base old.history new.history task at kind = λ opening opens.
    subst (λ n. EndsNext opening n old.history new.history task at kind) mount.base
    (exec.ends opening (rw mount.txns opens)) in
    let refusal : (full : Full) → kind ≡ ends.Full full → (full ≡ record { live = old.live; promised = 0; want = 1 }) × (start.ring < old.live + 2) = λ full is.
    let r = exec.takes.full full is in (r.0, omega (arith, r.1, mount.ring)) in
    record {
      follows = λ opening opens.
          rw (c.push_reserved.ensures.items, longer, front) (
          follows_more kind at opening start.base old.history new.history (take n tasks) c.loop-line.items.items task (invariant.follows opening opens) (search rules) (next opening opens));
      left = rw (c.push_reserved.ensures.items, longer) (sym (drop_more n tasks c.next.new.self task here));
      few = rw c.push_reserved.ensures.items (omega (arith, longer, some));
      room = omega (arith, invariant.room, c.push_reserved.ensures.capacity);
      told = λ opening opens. rw c.push_reserved.ensures.items (
          told_more (g.D.Disk.seen start.disk) (g.D.Disk.seen old.disk) (g.D.Disk.seen new.disk) old.waiting c.loop-line.items.items at kind
          (g.met.D.Disk.told_ok old.disk) invariant.goes exec.keeps.disk (invariant.told opening opens)
          (λ calls is. let s = (exec.syncs (sync_of opening start.base old.history new.history task at kind (next opening opens) calls is)).synced calls is in (s.0, s.1.calls, s.1.flushed))
          exec.faults);
      most = rw (c.push_reserved.ensures.items, longer, front) (omega (arith, invariant.most, exec.keeps.each.most, syncs_in_more (take n tasks) task));
      full = λ opening opens. rw c.push_reserved.ensures.items (
          full_more start.ring start.live old.live start.base opening old.history new.history task c.loop-line.items.items at kind (invariant.full opening opens) invariant.within invariant.low invariant.live (next opening opens)
          refusal (λ done. omega (arith, exec.takes.room done, mount.ring)));
      within = rw c.push_reserved.ensures.items (within_more start.ring old.live new.live c.loop-line.items.items at kind invariant.within exec.takes.least refusal);
      low = omega (arith, invariant.low, exec.takes.least);
      live = omega (arith, invariant.live, exec.takes.most);
      mount = record { from = exec.keeps.mount.from ∙ mount.from; base = exec.keeps.mount.base ∙ mount.base; txns = exec.keeps.mount.txns ∙ mount.txns; ring = exec.keeps.mount.ring ∙ mount.ring };
      goes = goes_then (g.D.Disk.seen start.disk) (g.D.Disk.seen old.disk) (g.D.Disk.seen new.disk) invariant.goes exec.keeps.disk;
    }

pub returns-clause-lines : goal.returns-clause-lines
returns-clause-lines g c opening opens =
    let base = c.args.store.now.base in
    let history = c.loop-line.store.history in
    let n : ℕ = length c.loop-line.items.items in
    let whole : take n c.args.tasks.now ≡ c.args.tasks.now = take_all n c.args.tasks.now (sym c.loop-line.invariant.left ∙ c.in-None.ensures.steps.0) in
    let all : Follows opening base history c.args.tasks.now c.loop-line.items.items =
    subst (λ (ks : List Task). Follows opening base history ks c.loop-line.items.items) whole (c.loop-line.invariant.follows opening opens) in
    subst (λ (os : List LineEnd). AreLines opening (g.D.Disk.seen c.args.store.now.disk) (g.D.Disk.seen c.loop-line.store.disk) c.args.store.now c.loop-line.store c.args.tasks.now os) (sym c.new.ensures)
    (record {
      session = session_of opening base history c.args.tasks.now c.loop-line.items.items all;
      full = c.loop-line.invariant.full opening opens;
      told = c.loop-line.invariant.told opening opens;
    })

pub returns-clause-one_each : goal.returns-clause-one_each
returns-clause-one_each g c =
    let n : ℕ = length c.loop-line.items.items in
    let none : drop n c.args.tasks.now ≡ [] = sym c.loop-line.invariant.left ∙ c.in-None.ensures.steps.0 in
    let same : n ≡ length c.args.tasks.now = omega (arith, c.loop-line.invariant.few, length-drop n c.args.tasks.now, ap length none) in
    ap length c.new.ensures ∙ same

pub returns-clause-most : goal.returns-clause-most
returns-clause-most g c =
    let n : ℕ = length c.loop-line.items.items in
    let whole : take n c.args.tasks.now ≡ c.args.tasks.now = take_all n c.args.tasks.now (sym c.loop-line.invariant.left ∙ c.in-None.ensures.steps.0) in
    omega (arith, c.loop-line.invariant.most, c.loop-line.invariant.live, ap syncs_in whole)
