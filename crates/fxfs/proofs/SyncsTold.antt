-- One line more: the syncs that lines tell, and the calls that the disk made for them.
use Rattle.std.proofs.Common.{◌≡◌, ℕ, ◌+◌, ◌<◌, ◌≤◌, List, [], ◌∷◌, ◌++◌, refl, sym, ap, subst, ◌∙◌, length, arith, inl, inr, false}
use Rattle.std.specs.Prelude.{Option, Some, None}
use Rattle.std.specs.Option.{IfSome}
use Rattle.std.proofs.lemmas.List.{get_or_append_left}
use Rattle.std.proofs.lemmas.List.Sums.{sum_by_push}
use Rattle.fx_disk.specs.Record.{Call, Flush, DiskRecord, call_at}
use Rattle.fx_disk.specs.Loose.{IsGoodFlush}
use Rattle.fx_disk.specs.Longer.{IsLonger, Extends}
use Rattle.fx_disk.specs.Steps.{IsRecordOf}
use Rattle.fx_disk.specs.Seen.{DiskSeen, GoesOn, IsFlushedBy}
use Rattle.fx_plain.specs.Tree.{Tree}
use Rattle.fx_script.specs.declared.script.Task.{Task}
use Rattle.fx_script.specs.declared.line.Line.TheVariants.{Sync}
use Rattle.fx_history.specs.declared.entry.Entry.{Entry}
use Rattle.fx_history.specs.declared.outcome.EndKind.{EndKind}
use Rattle.fx_history.specs.declared.outcome.EndKind.TheVariants as ends
use Rattle.fx_history.specs.Outcome.{LineEnd}
use Rattle.fx_history.proofs.Histories.{got_split}
use Rattle.fx_store.specs.Line.{flushes}
use Rattle.fx_history.specs.Transcript.{EndsNext, is_synced}
use Rattle.fxfs.specs.Lines.{synced_in}
use Rattle.fxfs.specs.Shell.{AreSyncs, syncs_in}
use Rattle.fxfs.proofs.FaultsTold.{end_of, count_more, pairs_more}

-- ---- each sync that a line tells

-- an earlier call stands where it stood
call_stays : (r s : DiskRecord) (place : ℕ) → IsLonger r s → place < length r.calls → call_at s.calls place ≡ call_at r.calls place
call_stays r s place g lt = ap (λ (cs : List Call). call_at cs place) g.calls ∙ get_or_append_left r.calls g.further (Flush false) place lt

-- a good flush stays one
flush_stays : (size before place : ℕ) (told_before told_after : Option DiskRecord) → IfSome told_before (IsRecordOf size before) → Extends told_before told_after → place < before
    → IfSome told_before (λ r. IsGoodFlush (call_at r.calls place)) → IfSome told_after (λ r. IsGoodFlush (call_at r.calls place))
flush_stays size before place None told_after was e lt k = subst (λ (o : Option DiskRecord). IfSome o (λ r. IsGoodFlush (call_at r.calls place))) (sym e) tt
flush_stays size before place (Some r) told_after was (s, e, g) lt k =
    subst (λ (o : Option DiskRecord). IfSome o (λ r. IsGoodFlush (call_at r.calls place))) (sym e) (subst IsGoodFlush (sym (call_stays r s place g (omega (arith, lt, was.counted)))) k)

pub syncs_none : (first last : ℕ) (told : Option DiskRecord) → AreSyncs first last told []
syncs_none first last told = record {
  each = λ i end calls got is. absurd (cc got);
  rising = λ i j former latter lt got. absurd (cc got);
}

-- no line more, and further calls
pub syncs_later : (first : ℕ) (before after : DiskSeen) → IfSome before.told (IsRecordOf before.size before.calls) → GoesOn before after
    → (outcomes : List LineEnd) → AreSyncs first before.calls before.told outcomes → AreSyncs first after.calls after.told outcomes
syncs_later first before after was goes outcomes k = record {
  each = λ i end calls got is. let sync = k.each i end calls got is in record {
    later = sync.later;
    within = omega (arith, sync.within, goes.calls);
    flushed = λ place same. flush_stays before.size before.calls place before.told after.told was goes.told (omega (arith, sync.within, same)) (sync.flushed place same);
  };
  rising = k.rising;
}

-- what is known of the disk after a line that ended so
abbrev pub TellsSync : DiskSeen → DiskSeen → ℕ → EndKind → Type 0
TellsSync before after waiting kind =
    (calls : ℕ) → kind ≡ ends.Synced calls → (calls ≡ after.calls) × (after.calls ≡ before.calls + waiting + 1) × IsFlushedBy after.calls after

-- the last call is the one with this number
last_flush : (after : DiskSeen) (calls place : ℕ) → calls ≡ after.calls → IsFlushedBy after.calls after → calls ≡ place + 1 → IfSome after.told (λ r. IsGoodFlush (call_at r.calls place))
last_flush after calls place is by e =
    let same : by.last ≡ place = omega (arith, by.counted, is, e) in
    subst (λ (n : ℕ). IfSome after.told (λ r. IsGoodFlush (call_at r.calls n))) same by.flush

pub syncs_more : (first waiting : ℕ) (before after : DiskSeen) → IfSome before.told (IsRecordOf before.size before.calls) → GoesOn before after → first ≤ before.calls
    → (outcomes : List LineEnd) (at : ℕ) (kind : EndKind) → AreSyncs first before.calls before.told outcomes → TellsSync before after waiting kind
    → AreSyncs first after.calls after.told (outcomes ++ end_of at kind ∷ [])
syncs_more first waiting before after was goes from outcomes at kind k tells =
    let later = syncs_later first before after was goes outcomes k in
    record {
      each = λ i end calls got is. elim (got_split outcomes (end_of at kind) i end got) [
        | inl old ↦ later.each i end calls old is
        | inr new ↦ let by = tells calls (ap (λ (x : LineEnd). x.kind) new.1 ∙ is) in record {
          later = omega (arith, by.0, by.1, from);
          within = omega (arith, by.0);
          flushed = λ place e. last_flush after calls place by.0 by.2 e;
        }
      ];
      rising = pairs_more (λ (x y : LineEnd). (m n : ℕ) → x.kind ≡ ends.Synced m → y.kind ≡ ends.Synced n → m < n) outcomes (end_of at kind) k.rising
          (λ i x got m n is same. let by = tells n same in omega (arith, (k.each i x m got is).within, by.0, by.1));
    }

-- what is known of the calls that such a line made
abbrev Counted : ℕ → ℕ → ℕ → EndKind → Type 0
Counted before waiting after kind = (calls : ℕ) → kind ≡ ends.Synced calls → after ≡ before + waiting + 1

-- ---- how many calls the lines made

-- one call at least for each sync that was good
pub least_more : (first before waiting after : ℕ) (outcomes : List LineEnd) (at : ℕ) (kind : EndKind) → first + synced_in outcomes ≤ before → before ≤ after → Counted before waiting after kind
    → first + synced_in (outcomes ++ end_of at kind ∷ []) ≤ after
least_more first before waiting after outcomes at (ends.Synced calls) k grows counted = omega (arith, k, count_more (λ o. is_synced o.kind) outcomes (end_of at (ends.Synced calls)), counted calls refl)
least_more first before waiting after outcomes at ends.Committed k grows counted = omega (arith, k, count_more (λ o. is_synced o.kind) outcomes (end_of at ends.Committed), grows)
least_more first before waiting after outcomes at (ends.Seen answer) k grows counted = omega (arith, k, count_more (λ o. is_synced o.kind) outcomes (end_of at (ends.Seen answer)), grows)
least_more first before waiting after outcomes at (ends.Refused index refusal) k grows counted = omega (arith, k, count_more (λ o. is_synced o.kind) outcomes (end_of at (ends.Refused index refusal)), grows)
least_more first before waiting after outcomes at (ends.Full full) k grows counted = omega (arith, k, count_more (λ o. is_synced o.kind) outcomes (end_of at (ends.Full full)), grows)
least_more first before waiting after outcomes at (ends.DeviceFault count) k grows counted = omega (arith, k, count_more (λ o. is_synced o.kind) outcomes (end_of at (ends.DeviceFault count)), grows)
least_more first before waiting after outcomes at ends.OutOfMemory k grows counted = omega (arith, k, count_more (λ o. is_synced o.kind) outcomes (end_of at ends.OutOfMemory), grows)

-- one line more among those that are `sync`
pub syncs_in_more : (tasks : List Task) (task : Task) → syncs_in (tasks ++ task ∷ []) ≡ syncs_in tasks + flushes task.line
syncs_in_more tasks task = sum_by_push (λ (t : Task). flushes t.line) tasks task

-- a line that tells a sync is one
pub sync_of : (tree : Tree) (base : ℕ) (old new : List Entry) (task : Task) (at : ℕ) (kind : EndKind) → EndsNext tree base old new task at kind
    → (calls : ℕ) → kind ≡ ends.Synced calls → task.line ≡ Sync
sync_of tree base old new task at kind next calls is =
    (let h : EndsNext tree base old new task at (ends.Synced calls) = subst (EndsNext tree base old new task at) is next in h).2
