-- A call of the numbers, as an event of the core.
use Rattle.std.proofs.Common.{◌≡◌, ℕ, zero, suc, Bool, true, refl, drop, ◌++◌, ◌+◌, ◌<◌, ◌≤◌, ◌^◌, List, length, set, sym, ap, subst, ◌∙◌, arith}
use Rattle.std.specs.Prelude.{Option, None, Some, get_or, IfSome, Result, Ok, Err, nat_lt, ◌&&◌, if◌then◌else◌}
use Rattle.std.specs.FinMap as finite
use Rattle.fx_item.specs.declared.space.Need.{Need}
use Rattle.std.proofs.Common.{get_or-set_same, set-set}
use Rattle.std.proofs.lemmas.List.{set-get_or}
use Rattle.fx_journal.specs.Ring.{Appended, Cancels, HoldsQueue, Promises, Queued, RingState, first_place, next_block, number, padded, padding, want, without_first}
use Rattle.fx_journal.specs.Writing.{block_at, first_bytes, wrote}
use Rattle.fx_journal.specs.declared.ring.Wrote.{Wrote}
use Rattle.fx_journal.specs.declared.ring.Wrote.TheVariants.{Block, Nothing}
use Rattle.fx_image.proofs.Mounted.{mounted-promised}
use Rattle.fx_core.proofs.Reaching.{reached_same}
use Rattle.fx_disk.specs.Seen.{DiskSeen, HasFlushed, HasWritten}
use Rattle.fx_disk.specs.Steps.{IsRecordOf}
use Rattle.fx_events.specs.Notes.{Note, entries_in, last_calls, settled_upto}
use Rattle.fx_plain.specs.Tree.{Tree}
use Rattle.fx_image.specs.Standing.{Transactions}
use Rattle.fx_numbers.specs.State.{HasUsedPart, IsStep, IsStepBy, MayStep, NumbersState, commit_now, shared_of}
use Rattle.fx_parts.specs.Parts.{Part, Reservation, SharedState}
use Rattle.fx_parts.specs.Happening.{Commit, Count, Mark, MayHappen, Reserve, RollBack, SharedEvent, after_event}
use Rattle.fx_core.specs.Events.{IsQuiet}
use Rattle.fx_core.specs.Inside.{GivenLimits, IsCore, blocks_wanted}
use Rattle.fx_core.specs.Tail.{IsTail, TailState, last_in, reach}
use Rattle.fx_core.proofs.Noted.{history_length}
use Rattle.fx_core.proofs.Staying.{settled_mark}
use Rattle.std.specs.Option.{IsSome}
use Rattle.fx_item.specs.Item.{PlainItem}
use Rattle.fx_history.specs.declared.entry.Entry.{Entry}
use Rattle.fx_record.specs.Commits.{IsCommit}
use Rattle.fx_record.specs.Record.{TransactionRecord, record_bytes}
use Rattle.fx_record.proofs.Lengths.{sum_text}
use Rattle.fx_supers.specs.InMemory.{IsContinued}
use Rattle.fx_image.specs.Journal.{journal_id, journal_store}
use Rattle.fx_parts.specs.Live.{MakesNames}
use Rattle.fx_parts.proofs.Readied.{may_commit}
use Rattle.fx_core.specs.Core.{IsPreparedFor, numbered_entry}
use Rattle.fx_core.specs.Logged.{IsWritable}
use Rattle.fx_core.proofs.Written.{written_commit, written_within}
use Rattle.fx_core.proofs.Moves.{core_cancelled, core_committed, core_flush_tried, core_padded, core_reserved, core_resettled, core_settled, core_write_tried, core_written, counted-calls, done_least, fewer-flushed}
use Rattle.fx_core.proofs.Quiet.{core_quiet}

some_queued : (ring : RingState) (before sequence : ℕ) → next_block ring before ≡ Some sequence → 1 ≤ ring.queued
some_queued ring before sequence e = by ring.queued refl (nat_lt (number (first_place ring)) before) e
  where
    by : (q : ℕ) → ring.queued ≡ q → (low : Bool) → (if nat_lt 0 q && low then Some (number (first_place ring)) else None) ≡ Some sequence → 1 ≤ ring.queued
    by zero is low f = absurd (cc)
    by (suc q) is low f = omega (arith, is)

-- whatever tree was found
abbrev pub HoldsCore : DiskSeen → ℕ → Transactions → GivenLimits → NumbersState → TailState → Type 0
HoldsCore seen from txns end n t = (tree : Tree) × IsCore seen from txns end (shared_of tree n) t

pub core_step : {seen : DiskSeen} {from : ℕ} {txns : Transactions} {end : GivenLimits} {old new : NumbersState} {t : TailState} → HoldsCore seen from txns end old t → (event : SharedEvent) → IsQuiet event → IsStep old new event → HoldsCore seen from txns end new t
core_step {seen} {from} {txns} {end} {old} {new} {t} h event quiet step =
    (h.0, subst (λ (s : SharedState). IsCore seen from txns end s t) (sym (step.does h.0)) (core_quiet seen from txns end (shared_of h.0 old) t event h.1 quiet (step.may h.0)))

-- nothing has changed
pub core_still : {seen : DiskSeen} {from : ℕ} {txns : Transactions} {end : GivenLimits} {old new : NumbersState} {t : TailState} → HoldsCore seen from txns end old t → new ≡ old → HoldsCore seen from txns end new t
core_still {seen} {from} {txns} {end} {old} {new} {t} h e = subst (λ (n : NumbersState). HoldsCore seen from txns end n t) (sym e) h

-- ---- what a core knows

-- ids stay far below their bounds
pub core_low : (n : NumbersState) {seen : DiskSeen} {from : ℕ} {txns : Transactions} {end : GivenLimits} {t : TailState} → HoldsCore seen from txns end n t → (end.ids ≤ 2 ^ 62) × (end.stores ≤ 2 ^ 31) × (n.ids ≤ end.ids) × (n.stores ≤ end.stores)
core_low n h = let k = h.1 in let room = k.mounted.journal.reading.room in
    (omega (arith, ap (λ (e : GivenLimits). e.ids) k.end_is, room.ids_left), omega (arith, ap (λ (e : GivenLimits). e.stores) k.end_is, room.stores_left), k.ids, k.stores)

-- a number that is in use is one of 1 to 32
pub core_number : (n : NumbersState) {seen : DiskSeen} {from : ℕ} {txns : Transactions} {end : GivenLimits} {t : TailState} → HoldsCore seen from txns end n t → (who : ℕ) (part : Part) → finite.get n.parts who ≡ Some part → who ≤ 32
core_number n h who part is = (h.1.shared.numbers who part is).1

-- what is promised to it is what its reservation wants
pub core_wants : (n : NumbersState) {seen : DiskSeen} {from : ℕ} {txns : Transactions} {end : GivenLimits} {t : TailState} → HoldsCore seen from txns end n t → (who : ℕ) (part : Part) → finite.get n.parts who ≡ Some part → get_or t.wants who 0 ≡ blocks_wanted part.reserved
core_wants n h who part is = h.1.wants who ∙ ap (λ (o : Option Part). elim o [ Some p ↦ blocks_wanted p.reserved | None ↦ 0 ]) is

-- ---- reservations

pub core_reserve : {seen : DiskSeen} {from : ℕ} {txns : Transactions} {end : GivenLimits} {old new : NumbersState} {t : TailState} → HoldsCore seen from txns end old t → (who : ℕ) (need : Need) (bytes : ℕ) (part : Part) → finite.get old.parts who ≡ Some part → part.reserved ≡ None
    → (u : TailState) → who < length t.wants → ((queue : List Queued) → HoldsQueue t.ring t.pool queue → HoldsQueue u.ring u.pool queue) → Promises t.ring u.ring t.pool u.pool (want bytes)
    → u ≡ record t { ring = u.ring; pool = u.pool; wants = set t.wants who (want bytes) } → old.ids + need.nodes ≤ end.ids → old.stores + need.nodes ≤ end.stores → IsStep old new (Reserve who need bytes) → HoldsCore seen from txns end new u
core_reserve {seen} {from} {txns} {end} h who need bytes part is none u lt queue p e i k step =
    (h.0, subst (λ (s : SharedState). IsCore seen from txns end s u) (sym (step.does h.0)) (core_reserved h.1 who part is u lt queue need bytes none p e i k))

pub core_rollback : {seen : DiskSeen} {from : ℕ} {txns : Transactions} {end : GivenLimits} {old new : NumbersState} {t : TailState} → HoldsCore seen from txns end old t → (who : ℕ) (part : Part) → finite.get old.parts who ≡ Some part
    → (u : TailState) → who < length t.wants → ((queue : List Queued) → HoldsQueue t.ring t.pool queue → HoldsQueue u.ring u.pool queue) → Cancels t.ring u.ring t.pool u.pool (get_or t.wants who 0)
    → u ≡ record t { ring = u.ring; pool = u.pool; wants = set t.wants who 0 } → IsStep old new (RollBack who) → HoldsCore seen from txns end new u
core_rollback {seen} {from} {txns} {end} h who part is u lt queue p e step =
    (h.0, subst (λ (s : SharedState). IsCore seen from txns end s u) (sym (step.does h.0)) (core_cancelled h.1 who part is u lt queue p e))

-- what was promised is given back: nothing has changed but which buffers are out
module _ (t u v : TailState) (who x : ℕ) (lt : who < length t.wants) (none : get_or t.wants who 0 ≡ 0)
    (p : Promises t.ring u.ring t.pool u.pool x) (e : u ≡ record t { ring = u.ring; pool = u.pool; wants = set t.wants who x })
    (q : Cancels u.ring v.ring u.pool v.pool (get_or u.wants who 0)) (f : v ≡ record u { ring = v.ring; pool = v.pool; wants = set u.wants who 0 }) where
  wants_u : u.wants ≡ set t.wants who x
  wants_u = ap (λ (w : TailState). w.wants) e

  wants_v : v.wants ≡ t.wants
  wants_v =
      ap (λ (w : TailState). w.wants) f ∙ ap (λ (ws : List ℕ). set ws who 0) wants_u ∙ set-set t.wants who x 0
      ∙ ap (set t.wants who) (sym none) ∙ set-get_or t.wants who 0

  given : get_or u.wants who 0 ≡ x
  given = ap (λ (ws : List ℕ). get_or ws who 0) wants_u ∙ get_or-set_same t.wants who x 0 lt

  promised_v : v.ring.promised ≡ t.ring.promised
  promised_v = omega (arith, ap (λ (r : RingState). r.promised) q.ring, ap (λ (r : RingState). r.promised) p.ring, given)

  pub unreserved_ring : v.ring ≡ record t.ring { buffers = v.ring.buffers }
  unreserved_ring = q.ring ∙ ap (λ n. record u.ring { promised = n; buffers = v.ring.buffers }) (omega (arith, ap (λ (r : RingState). r.promised) p.ring, given)) ∙ ap (λ (r : RingState). record r { promised = t.ring.promised; buffers = v.ring.buffers }) p.ring

  pub unreserved_tail : v ≡ record t { ring = v.ring; pool = v.pool }
  unreserved_tail = f ∙ ap (λ (ws : List ℕ). record u { ring = v.ring; pool = v.pool; wants = ws }) (sym (ap (λ (w : TailState). w.wants) f) ∙ wants_v) ∙ ap (λ (w : TailState). record w { ring = v.ring; pool = v.pool; wants = t.wants }) e

-- which buffers are out is no matter
pub core_unreserved : (n : NumbersState) {seen : DiskSeen} {from : ℕ} {txns : Transactions} {end : GivenLimits} {t : TailState} → HoldsCore seen from txns end n t → (v : TailState) → ((queue : List Queued) → HoldsQueue t.ring t.pool queue → HoldsQueue v.ring v.pool queue)
    → v.ring ≡ record t.ring { buffers = v.ring.buffers } → v ≡ record t { ring = v.ring; pool = v.pool } → HoldsCore seen from txns end n v
core_unreserved n {seen} {from} {txns} {end} {t} h v queue ring tail = (
  h.0,
  let k = h.1 in record {
    journal = k.journal;
    size_is = k.size_is;
    from_is = k.from_is;
    txns_is = k.txns_is;
    opens = k.opens;
    mounted = mounted-promised k.journal seen t.ring t.pool k.mounted v.ring v.pool t.ring.promised v.ring.buffers ring queue;
    shared = k.shared;
    logged = k.logged;
    end_is = k.end_is;
    ids = k.ids;
    stores = k.stores;
    wants = λ w. ap (λ (x : TailState). get_or x.wants w 0) tail ∙ k.wants w;
    reached = reached_same k.journal t v k.reached (ap (λ (x : TailState). x.done) tail) (ap (λ (x : TailState). x.reached) tail) (ap (λ (x : TailState). x.written) tail) (ap (λ (r : RingState). r.closed) ring) (ap (λ (r : RingState). r.text) ring);
    faults = k.faults;
  },
)

-- ---- the disk

module _ (n : NumbersState) {seen : DiskSeen} {from : ℕ} {txns : Transactions} {end : GivenLimits} {t : TailState} (h : HoldsCore seen from txns end n t) where
  pub core_pad : (u : TailState) → u ≡ record t { ring = u.ring; pool = u.pool } → u.ring ≡ padded t.ring → IsTail u → ((queue : List Queued) → HoldsQueue t.ring t.pool queue → HoldsQueue u.ring u.pool (queue ++ padding t.ring)) → HoldsCore seen from txns end n u
  core_pad u e pads is queue = (h.0, core_padded h.1 u e pads is.buffers.ring_is queue)

  module _ (later : DiskSeen) (told : IfSome seen.told (IsRecordOf seen.size seen.calls)) (more : seen.faults ≤ later.faults) (m : NumbersState) (counts : IsStep n m (Count later.faults)) where
    counted : (P : SharedState → Type 0) → P (record (shared_of h.0 n) { faults = later.faults }) → P (shared_of h.0 m)
    counted P p = subst P (sym (counts.does h.0)) p

    faults_le : n.faults ≤ later.faults
    faults_le = omega (arith, h.1.faults, more)

    -- a write that was tried
    pub core_write_failed : {A : Type 0} (before : ℕ) (result : Result Wrote A) (good : Bool) → (next_block t.ring before ≡ None → result ≡ Ok (wrote None)) → (fault : A) → result ≡ Err fault
        → ((sequence : ℕ) → next_block t.ring before ≡ Some sequence → (queue : List Queued) → HoldsQueue t.ring t.pool queue → HasWritten seen later (block_at t.ring sequence) (first_bytes t.ring.epoch queue) good)
        → HoldsCore later from txns end m t
    core_write_failed before result good nothing fault bad made = by (next_block t.ring before) refl
      where
        by : (next : Option ℕ) → next_block t.ring before ≡ next → HoldsCore later from txns end m t
        by None e = let ok = nothing e in absurd (cc (sym ok ∙ bad))
        by (Some sequence) e = (h.0, counted (λ s. IsCore later from txns end s t) (core_write_tried h.1 later good told faults_le before sequence e (made sequence e)))

    pub core_write_done : (before sequence : ℕ) → next_block t.ring before ≡ Some sequence → (u : TailState) → IsTail t → u ≡ record t { ring = u.ring; pool = u.pool; written = t.written + 1; done = last_in t.reached (t.written + 1) t.done } → u.ring ≡ without_first t.ring
        → ((queue : List Queued) → HoldsQueue t.ring t.pool queue → HasWritten seen later (block_at t.ring sequence) (first_bytes t.ring.epoch queue) true)
        → ((queue : List Queued) → HoldsQueue t.ring t.pool queue → HoldsQueue u.ring u.pool (drop 1 queue)) → HoldsCore later from txns end m u
    core_write_done before sequence next u is rest ring made queue =
        (h.0, counted (λ s. IsCore later from txns end s u) (core_written h.1 later true told faults_le before sequence next made refl u rest ring queue is.written_is (some_queued t.ring before sequence next)))

    module _ (good : Bool) (w : HasFlushed seen later good) where
      pub core_flush_failed : HoldsCore later from txns end m t
      core_flush_failed = (h.0, counted (λ s. IsCore later from txns end s t) (core_flush_tried h.1 later good told faults_le w))

      kept_notes : (m.kept ≡ n.kept) × (m.notes ≡ n.notes)
      kept_notes = (ap (λ (s : SharedState). s.mounted.kept) (counts.does h.0), ap (λ (s : SharedState). s.notes) (counts.does h.0))

      settled_same : settled_upto m.kept m.notes ≡ settled_upto n.kept n.notes
      settled_same = ap (λ k. settled_upto k m.notes) kept_notes.0 ∙ ap (settled_upto n.kept) kept_notes.1

      module _ (was_good : good ≡ true) where
        pub core_may_mark : settled_upto m.kept m.notes < t.done → MayStep m (Mark t.done later.calls)
        core_may_mark further tree =
            let k = h.1 in
            let number : t.done ≡ n.kept + k.reached.count = omega (arith, k.reached.done_is, k.logged.kept) in
            record {
              further = further;
              within = omega (arith, number, kept_notes.0, ap (λ (notes : List Note). length (entries_in notes)) kept_notes.1, k.reached.whole.few, ap length k.logged.history, history_length n.notes);
              some = omega (arith, counted-calls k later good told faults_le w was_good);
              later = omega (arith, ap (last_calls 0) kept_notes.1, k.logged.flushed, fewer-flushed k later good told faults_le w);
            }

        pub core_marked : (further : settled_upto m.kept m.notes < t.done) → (marked : NumbersState) → IsStepBy m marked (Mark t.done later.calls) → HoldsCore later from txns end marked t
        core_marked further marked does = (
          h.0,
          subst (λ (s : SharedState). IsCore later from txns end s t) (sym (does h.0))
              (counted (λ s. IsCore later from txns end (after_event s (Mark t.done later.calls)) t) (core_settled h.1 later good told faults_le w was_good (omega (arith, further, settled_same)))),
        )

        pub core_unmarked : (settled_upto m.kept m.notes < t.done → ⊥) → HoldsCore later from txns end m t
        core_unmarked none =
            let least = done_least h.1 in
            (h.0, counted (λ s. IsCore later from txns end s t) (core_resettled h.1 later good told faults_le w was_good (omega (arith, least, settled_same, none))))

  pub core_settled_is : (settled_upto n.kept n.notes < t.done → ⊥) → settled_upto n.kept n.notes ≡ t.done
  core_settled_is none = omega (arith, none, done_least h.1)

-- ---- what a write answers

pub wrote_block : (next : Option ℕ) (sequence : ℕ) → Block sequence ≡ wrote next → next ≡ Some sequence
wrote_block None sequence e = absurd (cc)
wrote_block (Some n) sequence e = ap Some (cc e)

pub wrote_none : (next : Option ℕ) → Nothing ≡ wrote next → next ≡ None
wrote_none None e = refl
wrote_none (Some n) e = absurd (cc)

-- what is settled after a mark
pub counted_settled : (n m : NumbersState) (faults : ℕ) → IsStep n m (Count faults) → Tree → settled_upto m.kept m.notes ≡ settled_upto n.kept n.notes
counted_settled n m faults step tree = ap (λ (s : SharedState). settled_upto s.mounted.kept s.notes) (step.does tree)

pub core_marked_is : (m marked : NumbersState) (done calls : ℕ) → IsStepBy m marked (Mark done calls) → Tree → settled_upto marked.kept marked.notes ≡ done
core_marked_is m marked done calls does tree = ap (λ (s : SharedState). settled_upto s.mounted.kept s.notes) (does tree) ∙ settled_mark m.kept m.notes done calls

-- ---- a commit

-- blocks that more bytes want are no fewer
pub want_more : (a b : ℕ) → a ≤ b → want a ≤ want b
want_more a b le = omega (arith, le)

-- the entry's number is no matter to what was planned
writable_numbered : (part : Part) (entry : Entry) (number : ℕ) (items : List PlainItem) → IsWritable part entry items → IsWritable part (numbered_entry number entry) items
writable_numbered part entry number items w = let p = w.planned in record {
  planned = record {
    index = p.index;
    snapshot = p.snapshot;
    taken = p.taken;
    since = p.since;
    r = p.r;
    reserved = p.reserved;
    step = p.step;
    alone = p.alone;
    plan = p.plan;
    keys = p.keys;
  };
  above = w.above;
  sayable = w.sayable;
}

module _ (n : NumbersState) {seen : DiskSeen} {from : ℕ} {txns : Transactions} {end : GivenLimits} {t : TailState} (h : HoldsCore seen from txns end n t)
    (who : ℕ) (entry : Entry) (text : List ℕ) (items : List PlainItem) (used : HasUsedPart n who (IsPreparedFor who entry text items)) where
  abbrev part : Part
  part = used.0

  abbrev ready : IsPreparedFor who entry text items part
  ready = used.2

  abbrev number_then : ℕ
  number_then = commit_now n + 1

  abbrev entry_now : Entry
  entry_now = numbered_entry number_then entry

  w : IsWritable part entry_now items
  w = writable_numbered part entry number_then items ready.writable

  pub commit_reserved : IsSome part.reserved
  commit_reserved = subst (λ (o : Option Reservation). IsSome o) (sym ready.writable.planned.reserved) refl

  -- it has bytes, and not more than were reserved
  pub commit_some : 1 ≤ length text
  commit_some = omega (arith, ap length ready.text_is, sum_text ready.number items)

  pub commit_room : (bytes : ℕ) → bytes ≡ length text → want bytes ≤ get_or t.wants who 0
  commit_room bytes e = omega (arith, want_more bytes ready.writable.planned.r.bytes (omega (arith, e, ready.room)), core_wants n h who part used.1 ∙ ap blocks_wanted ready.writable.planned.reserved)

  pub commit_low : number_then < 2 ^ 64
  commit_low = let k = h.1 in omega (arith, k.logged.kept, ap length k.logged.history, history_length n.notes, k.mounted.journal.few.few, k.mounted.journal.reading.room.commits, k.mounted.journal.reading.base_is)

  module _ (bytes : List ℕ) (u : TailState) (m : NumbersState) (bytes_are : bytes ≡ record_bytes (TransactionRecord number_then items))
      (rest : u ≡ record t { ring = u.ring; pool = u.pool; wants = set t.wants who 0; reached = set t.reached (reach u.ring) number_then }) (lt : who < length t.wants) (on : IsContinued t.ring u.ring) (tails : IsTail t × IsTail u)
      (appends : (queue : List Queued) → HoldsQueue t.ring t.pool queue → Appended t.ring u.ring u.pool queue bytes) (step : IsStepBy n m (Commit who entry_now items)) where
    pub core_commit : HoldsCore seen from txns end m u
    core_commit =
        let k = h.1 in
        let s : SharedState = shared_of h.0 n in
        let low = core_low n h in
        let may : MayHappen MakesNames s (Commit who entry_now items) = may_commit s k.shared who part used.1 entry_now items w.planned refl ready.unsettled ready.client in
        let are : IsCommit items = written_commit s who part entry_now items k.shared used.1 w (omega (arith, low.0, low.2)) (omega (arith, low.1, low.3)) in
        let within = written_within s who part entry_now items k.shared used.1 w (omega (arith, low.0, low.2)) (omega (arith, low.1, low.3)) (journal_id k.journal) (journal_store k.journal) k.logged.ids k.logged.stores in (
          h.0,
          subst (λ (x : SharedState). IsCore seen from txns end x u) (sym (step h.0))
              (core_committed k who entry_now items may are lt within.0 within.1 u rest on tails.1.buffers.ring_is tails.0.buffers.ring_is tails.0.written_is tails.0.places
              (λ queue holds. subst (Appended t.ring u.ring u.pool queue) bytes_are (appends queue holds))),
        )
