-- The flush at the end of a session: what was made is durable, or the disk failed.
use Rattle.std.proofs.Common.{◌≡◌, ℕ, zero, suc, ◌<◌, ◌≤◌, Bool, true, false, List, [], ◌∷◌, refl, sym, ap, subst, ◌∙◌, length, arith}
use Rattle.std.specs.Prelude.{All, Option, None, Some}
use Rattle.std.specs.Option.{IfSome}
use Rattle.std.proofs.lemmas.List.{length-map}
use Rattle.fx_disk.specs.Record.{DiskRecord}
use Rattle.fx_disk.specs.Seen.{DiskSeen, HasCalled, HasFailedLast}
use Rattle.fx_io.specs.Seen.{SinkSeen}
use Rattle.fx_plain.specs.Tree.{Tree}
use Rattle.fx_script.specs.declared.script.Task.{Task}
use Rattle.fx_history.specs.declared.entry.Entry.{Entry}
use Rattle.fx_history.specs.Outcome.{LineEnd}
use Rattle.fx_history.specs.History.{settle, settle_entry, settled_by}
use Rattle.fx_history.specs.Transcript.{Session}
use Rattle.fx_history.proofs.Settling.{settled_by_some}
use Rattle.fx_history.proofs.Sessions.{session_settle}
use Rattle.fx_image.specs.Standing.{Transactions}
use Rattle.fx_image.specs.Prefix.{KeepsAll}
use Rattle.fx_store.specs.Mounted.{State, Opens, KeepsImages, KeepsLive, KeepsWhole, LeavesImages, LeavesSettled, SameMount, FlushedAll, HasSettled}
use Rattle.fxfs.specs.declared.ended.Stop.{Stop}
use Rattle.fxfs.specs.declared.ended.Stop.TheVariants as stops
use Rattle.fxfs.specs.Outside.{End}
use Rattle.fxfs.specs.Lines.{IsDurable, IsNotDurable, Lasts, SettlesIf, Finishes, TellsEnd}
use Rattle.fxfs.specs.Shell.{AreTold}

abbrev AreSettledBy : ℕ → List Entry → Type 0
AreSettledBy calls history = All (λ entry. entry.settled ≤ calls) history

no_later : (calls before : ℕ) → settled_by calls before ≤ calls → before ≤ calls
no_later calls zero l = omega arith
no_later calls (suc before) l = l

-- what is settled at no later call was settled at none before
settled_before : (calls : ℕ) (h : List Entry) → AreSettledBy calls (settle calls h) → AreSettledBy calls h
settled_before calls [] all i d l = absurd (omega arith)
settled_before calls (e ∷ h) all zero d l = no_later calls e.settled (all zero e (omega arith))
settled_before calls (e ∷ h) all (suc i) d l = settled_before calls h (λ j x k. all (suc j) x (omega arith)) i d (omega arith)

settled_all : (calls : ℕ) (h : List Entry) → 0 < calls → All (λ entry. 0 < entry.settled) (settle calls h)
settled_all calls [] some i d l = absurd (omega arith)
settled_all calls (e ∷ h) some zero d l = settled_by_some calls e.settled some
settled_all calls (e ∷ h) some (suc i) d l = settled_all calls h some i d (omega arith)

-- what holds for each opening holds for this one
all_from : (o : Option DiskRecord) (size from : ℕ) (txns : Transactions) (base : ℕ) (history : List Entry) (opening : Tree) → Opens txns opening
    → IfSome o (KeepsWhole size from txns base history) → IfSome o (KeepsAll size from opening base history)
all_from None size from txns base history opening opens k = tt
all_from (Some r) size from txns base history opening opens k = k opening opens

-- ---- the flush itself

-- a sync that was good makes all durable
pub sync_lasts : {Device : Type 0} (before after : DiskSeen) (old new : State Device) → KeepsLive before after old new true → HasSettled before after old new → (opening : Tree) → Opens old.txns opening
    → IsDurable before.calls before.faults old.from opening old.base new.history [] after
sync_lasts before after old new keeps done opening opens =
    let same : SameMount old new = keeps.mount in
    let flushed : FlushedAll before after old new = done.flushed in
    let here = all_from after.told after.size new.from new.txns new.base new.history opening (subst (λ (ts : Transactions). Opens ts opening) (sym same.txns) opens) done.whole in
    let at_base = subst (λ (n : ℕ). IfSome after.told (KeepsAll after.size new.from opening n new.history)) same.base here in
    record {
      flushed = flushed.flushed;
      more = omega (arith, flushed.calls);
      below = λ i line told got is. absurd (cc got);
      unfailed = λ none. keeps.called.faults;
      settled = subst (λ (h : List Entry). All (λ entry. 0 < entry.settled) h) (sym done.history) (settled_all after.calls old.history (omega (arith, flushed.calls)));
      whole = subst (λ (n : ℕ). IfSome after.told (KeepsAll after.size n opening old.base new.history)) same.from at_base;
    }

pub failure_lasts : (before after : DiskSeen) → HasCalled before after false → HasFailedLast after → IsNotDurable before.faults [] after
failure_lasts before after called failed = record { rose = called.faults; failed = failed; above = λ i line told got is. absurd (cc got) }

-- ---- the history after it

-- no entry is gone or new
pub closed_length : (flushed : Bool) (calls : ℕ) (old new : List Entry) → SettlesIf flushed calls old new → length new ≡ length old
closed_length true calls old new (_, is) = ap length is ∙ length-map old (settle_entry calls)
closed_length false calls old new is = ap length is

-- a session stays one
pub closed_session : (flushed : Bool) (calls : ℕ) (old new : List Entry) → SettlesIf flushed calls old new → AreSettledBy calls new
    → (tree : Tree) (base : ℕ) (tasks : List Task) (outcomes : List LineEnd) → Session tree base old tasks outcomes → Session tree base new tasks outcomes
closed_session true calls old new (some, is) all tree base tasks outcomes session =
    let earlier : AreSettledBy calls old = settled_before calls old (subst (AreSettledBy calls) is all) in
    subst (λ (h : List Entry). Session tree base h tasks outcomes) (sym is) (session_settle tree base calls old tasks outcomes session some earlier)
closed_session false calls old new is all tree base tasks outcomes session = subst (λ (h : List Entry). Session tree base h tasks outcomes) (sym is) session

-- ---- after the lines

-- the same by counts that are known to be these
pub durable_at : (calls other_calls faults other_faults from other_from : ℕ) (opening : Tree) (base : ℕ) (history : List Entry) (outcomes : List LineEnd) (disk : DiskSeen)
    → calls ≡ other_calls → faults ≡ other_faults → from ≡ other_from → IsDurable calls faults from opening base history outcomes disk
    → IsDurable other_calls other_faults other_from opening base history outcomes disk
durable_at calls other_calls faults other_faults from other_from opening base history outcomes disk e f g k = rw (sym e, sym f, sym g) k

module _ (start mid after : DiskSeen) (from : ℕ) (opening : Tree) (end : End) (told : AreTold start mid end.outcomes) (grows : start.faults ≤ mid.faults) where
  -- the flush comes after all syncs that lines tell
  durable_after : IsDurable mid.calls mid.faults from opening end.base end.history [] after → IsDurable start.calls start.faults from opening end.base end.history end.outcomes after
  durable_after k = record {
    flushed = k.flushed;
    more = omega (arith, told.least, k.more);
    below = λ i line calls got is. omega (arith, (told.syncs.each i line calls got is).within, k.more);
    unfailed = λ none. k.unfailed refl ∙ told.unfailed none;
    settled = k.settled;
    whole = k.whole;
  }

  -- the disk failed after all faults that lines tell
  failed_after : IsNotDurable mid.faults [] after → IsNotDurable start.faults end.outcomes after
  failed_after k = record {
    rose = omega (arith, k.rose, grows);
    failed = k.failed;
    above = λ i line count got is. let was = told.faults.each i line count got is in omega (arith, was.1, k.rose);
  }

  module _ (before_sink after_sink : SinkSeen) (tasks : List Task) where
    flushed_finishes : (stop : Stop) → IsDurable mid.calls mid.faults from opening end.base end.history [] after → TellsEnd true before_sink after_sink tasks end.outcomes stop
        → Finishes start.calls start.faults from opening after before_sink after_sink tasks end stop
    flushed_finishes stops.Done flushed tells = (durable_after flushed, tells)
    flushed_finishes stops.Write flushed tells = (durable_after flushed, tells)
    flushed_finishes stops.OutOfMemory flushed tells = (durable_after flushed, tells)
    flushed_finishes stops.Device flushed tells = absurd tells
    flushed_finishes stops.BadWords flushed tells = absurd tells
    flushed_finishes (stops.NotMounted fault) flushed tells = absurd tells
    flushed_finishes stops.Read flushed tells = absurd tells
    flushed_finishes (stops.BadLine number fault) flushed tells = absurd tells
    flushed_finishes stops.TooMuchInput flushed tells = absurd tells
    flushed_finishes (stops.DiskTooSmall blocks) flushed tells = absurd tells

    -- what was done, by whether it was flushed
    pub finishes : (flushed : Bool) (stop : Stop) → Lasts flushed mid.calls mid.faults from opening end.base end.history [] after → TellsEnd flushed before_sink after_sink tasks end.outcomes stop
        → Finishes start.calls start.faults from opening after before_sink after_sink tasks end stop
    finishes true stop flushed tells = flushed_finishes stop flushed tells
    finishes false stop fails (is, tells) = subst (Finishes start.calls start.faults from opening after before_sink after_sink tasks end) (sym is) (failed_after fails, tells)

-- ---- what a stop leaves

-- the images are those of the same mount
images_of_mount : {Device : Type 0} (seen : DiskSeen) (old new : State Device) (history : List Entry) → SameMount old new → LeavesImages seen new history → LeavesImages seen old history
images_of_mount seen old new history same k =
    subst (λ (n : ℕ). IfSome seen.told (KeepsImages seen.size n old.txns old.base history)) same.from
    (subst (λ (ts : Transactions). IfSome seen.told (KeepsImages seen.size new.from ts old.base history)) same.txns
    (subst (λ (n : ℕ). IfSome seen.told (KeepsImages seen.size new.from new.txns n history)) same.base k))

pub settled_of_mount : {Device : Type 0} (seen : DiskSeen) (old new : State Device) (history : List Entry) → SameMount old new → LeavesSettled seen new history → LeavesSettled seen old history
settled_of_mount seen old new history same k = record { images = images_of_mount seen old new history same k.images; by_now = k.by_now }
