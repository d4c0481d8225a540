-- One line more: what lines tell of the disk.
use Rattle.std.proofs.Common.{ℕ, List, [], ◌∷◌, ◌++◌, refl, arith}
use Rattle.std.specs.Option.{IfSome}
use Rattle.fx_disk.specs.Steps.{IsRecordOf}
use Rattle.fx_disk.specs.Seen.{DiskSeen, GoesOn}
use Rattle.fx_history.specs.declared.outcome.EndKind.{EndKind}
use Rattle.fx_history.specs.Outcome.{LineEnd}
use Rattle.fx_store.specs.Mounted.{TellsFaults}
use Rattle.fxfs.specs.Shell.{AreTold}
use Rattle.fxfs.proofs.FaultsTold.{end_of, faults_none, faults_more, unfailed_more}
use Rattle.fxfs.proofs.SyncsTold.{TellsSync, syncs_none, syncs_more, least_more}

pub told_none : (seen : DiskSeen) → AreTold seen seen []
told_none seen = record {
  faults = faults_none seen.faults;
  unfailed = λ none. refl;
  syncs = syncs_none seen.calls seen.calls seen.told;
  least = omega arith;
}

pub told_more : (first before after : DiskSeen) (waiting : ℕ) (outcomes : List LineEnd) (at : ℕ) (kind : EndKind) → IfSome before.told (IsRecordOf before.size before.calls)
    → GoesOn first before → GoesOn before after → AreTold first before outcomes → TellsSync before after waiting kind → TellsFaults before after kind
    → AreTold first after (outcomes ++ end_of at kind ∷ [])
told_more first before after waiting outcomes at kind was from goes k sync fault = record {
  faults = faults_more first.faults before.faults after.faults outcomes at kind k.faults from.faults goes.faults (λ count is. let t = fault.fault count is in (t.0, t.1));
  unfailed = unfailed_more first.faults before.faults after.faults outcomes at kind k.unfailed fault.none;
  syncs = syncs_more first.calls waiting before after was goes from.calls outcomes at kind k.syncs sync;
  least = least_more first.calls before.calls waiting after.calls outcomes at kind k.least goes.calls (λ calls is. (sync calls is).1);
}
