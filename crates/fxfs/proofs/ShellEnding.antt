-- How `shell` ends: once its lines were run, where the disk was not mounted, and where there was no script.
use Rattle.std.proofs.Common.{◌≡◌, ℕ, ◌+◌, ◌≤◌, List, arith, inl, inr, refl, subst, sym, ◌∙◌}
use Rattle.std.specs.Prelude.{Option, Some, None, All}
use Rattle.std.specs.Option.{IfSome}
use Rattle.fx_disk.specs.Record.{DiskRecord}
use Rattle.fx_disk.specs.Steps.{IsRecordOf}
use Rattle.fx_disk.specs.Seen.{DiskSeen, GoesOn}
use Rattle.fx_disk.proofs.Frames.{goes_same, goes_then, only_read_same}
use Rattle.fx_io.specs.Told.{GivesAtMost}
use Rattle.fx_io.specs.Seen.{SourceSeen, SinkSeen, SourceGoesOn, SinkGoesOn}
use Rattle.fx_log.specs.Raising.{ChoosesSince, ChoosesNext}
use Rattle.fx_log.proofs.SuperTold.{told-begun}
use Rattle.fx_image.specs.Standing.{Transactions}
use Rattle.fx_image.specs.Prefix.{KeepsPrefix}
use Rattle.fx_image.proofs.MountUnfinished.{told-untouched}
use Rattle.fx_plain.specs.Tree.{Tree}
use Rattle.fx_script.specs.declared.script.Task.{Task}
use Rattle.fx_history.specs.declared.entry.Entry.{Entry}
use Rattle.fx_history.specs.Outcome.{LineEnd}
use Rattle.fx_store.specs.Mounted.{Opens, KeepsImages, LeavesOpening}
use Rattle.fx_mount.specs.declared.fault.MountFault.{MountFault}
use Rattle.fx_mount.specs.declared.fault.MountFault.TheVariants as mounts
use Rattle.fx_mount.specs.Found.{HasReadWell, HasRing, IsMountedAt, IsMountCause}
use Rattle.fxfs.specs.declared.ended.Stop.{Stop}
use Rattle.fxfs.specs.declared.ended.Stop.TheVariants as stops
use Rattle.fxfs.specs.declared.shell.TheConstants.{MAX_INPUT}
use Rattle.fxfs.specs.Outside.{Outside, End, IsStopped, outside}
use Rattle.fxfs.specs.Stop.{stop_of}
use Rattle.fxfs.specs.Lines.{Spells, IsNoScript, IsDurable, IsNotDurable, Finishes, Tells, TellsUnsynced}
use Rattle.fxfs.specs.Shell.{AreFull, AreRun, AreSyncs, AreCalls, HasNotRun, HasRunLines, HasSynced, HasNotSynced, ShellDid, ShellEnds}
use Rattle.fxfs.proofs.FaultsTold.{faults_between}
use Rattle.fxfs.proofs.FinalFlush.{durable_at}

-- ---- once its lines were run

keeps_since : (o : Option DiskRecord) (size from calls : ℕ) (txns : Transactions) (base : ℕ) (history : List Entry) → from ≡ calls → IfSome o (KeepsImages size from txns base history) → IfSome o (ChoosesSince calls)
keeps_since None size from calls txns base history e k = tt
keeps_since (Some r) size from calls txns base history e k = subst (λ (n : ℕ). ChoosesSince n r) e k.super

keeps_next : (o : Option DiskRecord) (size from calls : ℕ) (txns : Transactions) (base : ℕ) (history : List Entry) → from ≡ calls → IfSome o (KeepsImages size from txns base history) → IfSome o (ChoosesNext calls)
keeps_next None size from calls txns base history e k = tt
keeps_next (Some r) size from calls txns base history e k = subst (λ (n : ℕ). ChoosesNext n r) e k.next

keeps_prefix : (o : Option DiskRecord) (size from calls : ℕ) (txns : Transactions) (base : ℕ) (history : List Entry) (opening : Tree) → Opens txns opening → from ≡ calls
    → IfSome o (KeepsImages size from txns base history) → IfSome o (KeepsPrefix size calls opening base history)
keeps_prefix None size from calls txns base history opening opens e k = tt
keeps_prefix (Some r) size from calls txns base history opening opens e k = subst (λ (n : ℕ). KeepsPrefix size n opening base history r) e (k.prefix opening opens)

-- the ring that is told is that of the image
full_told : (o : Option DiskRecord) (size base : ℕ) (txns : Transactions) (opening : Tree) (ring live : ℕ) (outcomes : List LineEnd) → IfSome o (IsMountedAt size base txns opening) → IfSome o (λ r. HasRing r.contents ring live)
    → AreFull ring live base outcomes → IfSome o (λ r. (ring live : ℕ) → HasRing r.contents ring live → AreFull ring live base outcomes)
full_told None size base txns opening ring live outcomes mounted has full = tt
full_told (Some r) size base txns opening ring live outcomes (f, mountable, _) has full = λ other_ring other_live others.
    let image = mountable.image_is in
    let here = has f image.stream image.chosen (image.next, image.stream_is) in
    let there = others f image.stream image.chosen (image.next, image.stream_is) in
    subst (λ (n : ℕ). AreFull n other_live base outcomes) (here.0 ∙ sym there.0) (subst (λ (n : ℕ). AreFull ring n base outcomes) (here.1 ∙ sym there.1) full)

-- What is known of the mount, of the lines and of what came after them. `mid` is the disk as it was mounted.
pub record Ran (before after : Outside) (mid : DiskSeen) (from : ℕ) (txns : Transactions) (ring live : ℕ) (end : End) (tasks : List Task) : Type 0 where
  pub spelled : Spells before.source after.source tasks
  pub opens : (opening : Tree) × Opens txns opening × IfSome before.disk.told (IsMountedAt before.disk.size end.base txns opening)
  pub ring_is : IfSome before.disk.told (λ r. HasRing r.contents ring live)
  pub mount_from : from ≡ before.disk.calls
  pub mount_calls : mid.calls ≡ before.disk.calls + 2
  pub mount_unfailed : mid.faults ≡ before.disk.faults
  pub mount_disk : GoesOn before.disk mid
  pub run : (opening : Tree) → Opens txns opening → AreRun ring live opening mid after.disk tasks end
  pub finishes : (opening : Tree) → Opens txns opening → Finishes mid.calls mid.faults from opening after.disk before.sink after.sink tasks end end.stop
  pub finish_disk : GoesOn mid after.disk
  pub images : IfSome after.disk.told (KeepsImages after.disk.size from txns end.base end.history)
  pub settled : All (λ entry. entry.settled ≤ after.disk.calls) end.history
  pub most : GivesAtMost before.source.left after.source.left (MAX_INPUT + 1)
  pub source : SourceGoesOn before.source after.source
  pub sink : SinkGoesOn before.sink after.sink

module _ (before after : Outside) (mid : DiskSeen) (from : ℕ) (txns : Transactions) (ring live : ℕ) (end : End) (tasks : List Task) (k : Ran before after mid from txns ring live end tasks) where
  abbrev ran : HasRunLines before after end tasks
  ran = let run = k.run k.opens.0 k.opens.1 in record {
    spelled = k.spelled;
    txns = txns;
    opening = k.opens.0;
    opens = k.opens.1;
    mounted = k.opens.2;
    session = run.session;
    next = keeps_next after.disk.told after.disk.size from before.disk.calls txns end.base end.history k.mount_from k.images;
    prefix = keeps_prefix after.disk.told after.disk.size from before.disk.calls txns end.base end.history k.opens.0 k.opens.1 k.mount_from k.images;
    faults = faults_between before.disk.faults mid.faults after.disk.faults after.disk.faults end.outcomes k.mount_disk.faults (omega arith) run.faults;
    syncs = subst (λ (n : ℕ). AreSyncs n after.disk.calls after.disk.told end.outcomes) k.mount_calls run.syncs;
    calls = subst (λ (n : ℕ). AreCalls n after.disk.calls tasks end.history end.outcomes) k.mount_calls run.calls;
    full = full_told before.disk.told before.disk.size end.base txns k.opens.0 ring live end.outcomes k.opens.2 k.ring_is run.full;
  }

  synced : IsDurable mid.calls mid.faults from k.opens.0 end.base end.history end.outcomes after.disk → Tells before.sink after.sink tasks end.outcomes end.stop → HasSynced before after end
  synced durable tells = record {
    tasks = tasks;
    ran = ran;
    durable = durable_at mid.calls (before.disk.calls + 2) mid.faults before.disk.faults from before.disk.calls k.opens.0 end.base end.history end.outcomes after.disk
        k.mount_calls k.mount_unfailed k.mount_from durable;
    tells = tells;
  }

  not_synced : IsNotDurable mid.faults end.outcomes after.disk → TellsUnsynced before.sink after.sink tasks end.outcomes → HasNotSynced before after end
  not_synced fails tells = record {
    tasks = tasks;
    ran = ran;
    failed = subst (λ (n : ℕ). IsNotDurable n end.outcomes after.disk) k.mount_unfailed fails;
    tells = tells;
  }

  -- what was done, by why the command stopped
  did : (stop : Stop) → end.stop ≡ stop → Finishes mid.calls mid.faults from k.opens.0 after.disk before.sink after.sink tasks end stop → ShellDid before after end stop
  did stops.Done is (durable, tells) = synced durable (subst (Tells before.sink after.sink tasks end.outcomes) (sym is) tells)
  did stops.Write is (durable, tells) = synced durable (subst (Tells before.sink after.sink tasks end.outcomes) (sym is) tells)
  did stops.OutOfMemory is (durable, tells) = inr (synced durable (subst (Tells before.sink after.sink tasks end.outcomes) (sym is) tells))
  did stops.Device is (fails, tells) = (omega (arith, fails.rose, k.mount_disk.faults), inr (not_synced fails tells))
  did stops.BadWords is (durable, tells) = absurd tells
  did (stops.NotMounted fault) is (durable, tells) = absurd tells
  did stops.Read is (durable, tells) = absurd tells
  did (stops.BadLine number fault) is (durable, tells) = absurd tells
  did stops.TooMuchInput is (durable, tells) = absurd tells
  did (stops.DiskTooSmall blocks) is (durable, tells) = absurd tells

  pub shell_ends : ShellEnds before after end
  shell_ends = record {
    did = did end.stop refl (k.finishes k.opens.0 k.opens.1);
    images = keeps_since after.disk.told after.disk.size from before.disk.calls txns end.base end.history k.mount_from k.images;
    settled = k.settled;
    most = k.most;
    disk = goes_then before.disk mid after.disk k.mount_disk k.finish_disk;
    source = k.source;
    sink = k.sink;
  }

-- ---- where the disk was not mounted

-- What is known then.
pub record Refused (before after : Outside) (fault : MountFault) (end : End) (tasks : List Task) : Type 0 where
  pub spelled : Spells before.source after.source tasks
  pub stop : end.stop ≡ stop_of fault
  pub stopped : IsStopped before.sink after.sink end
  pub cause : IsMountCause before.disk after.disk fault
  pub calls : after.disk.calls ≤ before.disk.calls + 2
  pub disk : GoesOn before.disk after.disk
  pub opening : LeavesOpening before.disk.calls after.disk
  pub most : GivesAtMost before.source.left after.source.left (MAX_INPUT + 1)
  pub source : SourceGoesOn before.source after.source
  pub sink : SinkGoesOn before.sink after.sink

module _ (before after : Outside) (end : End) (tasks : List Task) where
  not_run : (fault : MountFault) → Refused before after fault end tasks → HasReadWell before.disk after.disk → HasNotRun before after end
  not_run fault k well = record { stopped = k.stopped; disk = well; opening = k.opening }

  -- the fault is the image's own
  no_image : (fault : MountFault) → end.stop ≡ stops.NotMounted fault → ShellDid before after end (stops.NotMounted fault) → ShellDid before after end end.stop
  no_image fault is did = subst (ShellDid before after end) (sym is) did

  refused_did : (fault : MountFault) → Refused before after fault end tasks → ShellDid before after end end.stop
  refused_did mounts.Device k =
      subst (ShellDid before after end) (sym k.stop) (k.cause.0, inl (record { stopped = k.stopped; spelled = (tasks, k.spelled); calls = k.calls; failed = k.cause.1; opening = k.opening }))
  refused_did mounts.OutOfMemory k = subst (ShellDid before after end) (sym k.stop) (inl (not_run mounts.OutOfMemory k k.cause))
  refused_did mounts.NoSuper k = no_image mounts.NoSuper k.stop (not_run mounts.NoSuper k k.cause.0, (tasks, k.spelled), k.cause.1)
  refused_did (mounts.Version version) k =
      no_image (mounts.Version version) k.stop (not_run (mounts.Version version) k k.cause.0, (tasks, k.spelled), k.cause.1)
  refused_did (mounts.DiskSize blocks) k =
      no_image (mounts.DiskSize blocks) k.stop (not_run (mounts.DiskSize blocks) k k.cause.0, (tasks, k.spelled), k.cause.1)
  refused_did (mounts.BadLayer block) k =
      no_image (mounts.BadLayer block) k.stop (not_run (mounts.BadLayer block) k k.cause.0, (tasks, k.spelled), k.cause.1)
  refused_did (mounts.BadRecord place) k =
      no_image (mounts.BadRecord place) k.stop (not_run (mounts.BadRecord place) k k.cause.0, (tasks, k.spelled), k.cause.1)
  refused_did (mounts.BadTree store id) k =
      no_image (mounts.BadTree store id) k.stop (not_run (mounts.BadTree store id) k k.cause.0, (tasks, k.spelled), k.cause.1)
  refused_did (mounts.Cramped free) k =
      no_image (mounts.Cramped free) k.stop (not_run (mounts.Cramped free) k k.cause.0, (tasks, k.spelled), k.cause.1)

  pub refused_ends : (fault : MountFault) → Refused before after fault end tasks → ShellEnds before after end
  refused_ends fault k = record {
    did = refused_did fault k;
    images = k.opening.super;
    settled = subst (All (λ (entry : Entry). entry.settled ≤ after.disk.calls)) (sym k.stopped.idle.history) (λ i d l. absurd (omega arith));
    most = k.most;
    disk = k.disk;
    source = k.source;
    sink = k.sink;
  }

-- ---- where there was no script, or no memory

not_asked : (stop : Stop) (before after : Outside) (end : End) → after.disk ≡ before.disk → HasNotRun before after end → IsNoScript before.source after.source stop → ShellDid before after end stop
not_asked stops.Done before after end same h n = absurd n
not_asked stops.Write before after end same h n = absurd n
not_asked stops.OutOfMemory before after end same h n = inl h
not_asked stops.Device before after end same h n = absurd n
not_asked stops.BadWords before after end same h n = absurd n
not_asked (stops.NotMounted fault) before after end same h n = absurd n
not_asked stops.Read before after end same h n = (same, h, n)
not_asked (stops.BadLine number fault) before after end same h n = (same, h, n)
not_asked stops.TooMuchInput before after end same h n = (same, h, n)
not_asked (stops.DiskTooSmall blocks) before after end same h n = absurd n

pub unasked_ends : (disk : DiskSeen) (source_before source_after : SourceSeen) (sink_before sink_after : SinkSeen) (end : End) → IfSome disk.told (IsRecordOf disk.size disk.calls)
    → IsStopped sink_before sink_after end → IsNoScript source_before source_after end.stop → GivesAtMost source_before.left source_after.left (MAX_INPUT + 1)
    → SourceGoesOn source_before source_after → SinkGoesOn sink_before sink_after → ShellEnds (outside disk source_before sink_before) (outside disk source_after sink_after) end
unasked_ends disk source_before source_after sink_before sink_after end told stopped why most source_goes sink_goes =
    let before : Outside = outside disk source_before sink_before in
    let after : Outside = outside disk source_after sink_after in
    let images = told-begun disk.size disk.calls disk.told told in
    let opening : LeavesOpening disk.calls disk = record { super = images; prefix = λ opening base. told-untouched disk.size disk.calls opening base disk.told told } in
    record {
      did = not_asked end.stop before after end refl (record { stopped = stopped; disk = record { only = only_read_same disk; faults = refl }; opening = opening }) why;
      images = images;
      settled = subst (All (λ (entry : Entry). entry.settled ≤ disk.calls)) (sym stopped.idle.history) (λ i d l. absurd (omega arith));
      most = most;
      disk = goes_same disk;
      source = source_goes;
      sink = sink_goes;
    }
