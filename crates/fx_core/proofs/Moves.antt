-- A core over the events that its ring and its disk see.
use Rattle.std.proofs.Common.{◌≡◌, ◌≢◌, ◌⊎◌, inl, inr, ℕ, ◌+◌, ◌-◌, ◌<◌, ◌≤◌, Bool, true, List, [], ◌∷◌, ◌++◌, Option, Some, None, length, length-append, take, drop, set, refl, sym, ap, subst, ◌∙◌, arith}
use Rattle.std.proofs.Common.{get_or-set_other, get_or-set_same}
use Rattle.std.specs.Prelude.{All, IfSome, get_or, max}
use Rattle.std.specs.FinMap as finite
use Rattle.std.proofs.lemmas.Bool.{cases_eq, cases_lt}
use Rattle.std.proofs.lemmas.List.{take-append-le}
use Rattle.std.proofs.Math.Seq.{take-length}
use Rattle.fx_item.specs.Item.{PlainItem}
use Rattle.fx_item.specs.Look.{next_id, next_store}
use Rattle.fx_item.specs.declared.space.Need.{Need}
use Rattle.fx_disk.specs.Seen.{DiskSeen, HasFlushed, HasWritten}
use Rattle.fx_disk.specs.Steps.{IsRecordOf}
use Rattle.fx_disk.proofs.Made.{made-counts}
use Rattle.fx_disk.proofs.Frames.{no_fewer_calls}
use Rattle.fx_journal.specs.Ring.{Appended, Cancels, HoldsQueue, IsFilled, IsRing, Promises, Queued, RingState, begun, next_block, padded, padded_by, padding, padding_by, texts, want, without_first}
use Rattle.fx_journal.specs.Writing.{block_at, first_bytes}
use Rattle.fx_record.specs.Commits.{IsCommit, commits_bytes}
use Rattle.fx_record.proofs.Lengths.{sum_text}
use Rattle.fx_supers.specs.InMemory.{IsContinued}
use Rattle.fx_history.specs.declared.entry.Entry.{Entry}
use Rattle.fx_events.specs.Notes.{Commits, entries_in, settled_upto}
use Rattle.fx_image.specs.Standing.{Transactions}
use Rattle.fx_image.specs.Journal.{AreWritten, IsNextCommit, Journal, commit_bytes, with_closed, with_commit, with_settled, with_written, journal_id, journal_store, settle_upto}
use Rattle.fx_image.specs.Mounted.{IsMounted}
use Rattle.fx_image.proofs.Mounted.{mounted-commit, mounted-flush-tried, mounted-padded, mounted-promised, mounted-settled, mounted-tried, mounted-written}
use Rattle.fx_image.proofs.PrefixImage.{texts-fewer}
use Rattle.fx_image.proofs.FewCommits.{commits-few}
use Rattle.fx_image.proofs.SettleUpto.{upto_length, upto_same}
use Rattle.fx_parts.specs.Live.{MakesNames}
use Rattle.fx_parts.specs.Parts.{IsPartOf, Part, SharedState}
use Rattle.fx_parts.specs.Sound.{IsSharedSound}
use Rattle.fx_parts.specs.Happening.{Commit, Count, Mark, MayHappen, Reserve, RollBack, after_event, part_committed, set_part, with_reserved}
use Rattle.fx_parts.proofs.Events.{by_there, event_sound}
use Rattle.fx_parts.proofs.Maps.{get_other, get_same}
use Rattle.fx_core.specs.Inside.{HoldsReached, GivenLimits, IsCore, LiesIn, since_mount, blocks_wanted, wanted_by}
use Rattle.fx_core.specs.Logged.{IsLogged}
use Rattle.fx_core.specs.Tail.{TailState, last_in, reach}
use Rattle.fx_core.proofs.Reaching.{TakesText, closed_is, commits_fewer, lies_long, reached_same, written_longer, written_so}
use Rattle.std.proofs.lemmas.List.Elements.{All-head}
use Rattle.fx_core.proofs.Committed.{agreed_after, next_commit}
use Rattle.fx_core.proofs.Noted.{history_length}
use Rattle.fx_core.proofs.Staying.{logged_later, logged_leaves, logged_mark}

abbrev wanted_of : Option Part → ℕ
wanted_of o = elim o [ Some part ↦ blocks_wanted part.reserved | None ↦ 0 ]

-- what is blocks_wanted where the part of one number is another one
wants_then : (wants : List ℕ) (parts : finite.FinMap Rattle.std.specs.Ordering.nat_cmp Part) (who : ℕ) (new : Part) (x : ℕ) → who < length wants → x ≡ blocks_wanted new.reserved → ((w : ℕ) → get_or wants w 0 ≡ wanted_by parts w)
    → (w : ℕ) → get_or (set wants who x) w 0 ≡ wanted_by (finite.insert parts who new) w
wants_then wants parts who new x lt same h w = elim (cases_eq w who) [
  | inl here ↦ ap (λ k. get_or (set wants who x) k 0) here ∙ get_or-set_same wants who x 0 lt ∙ same ∙ sym (ap wanted_of (get_same parts who new)) ∙ ap (wanted_by (finite.insert parts who new)) (sym here)
  | inr ne ↦ get_or-set_other wants who w x 0 ne ∙ h w ∙ sym (ap wanted_of (get_other parts who w new ne))
]

module _ {seen : DiskSeen} {from : ℕ} {txns : Transactions} {end : GivenLimits} {s : SharedState} {t : TailState} (h : IsCore seen from txns end s t) where
  abbrev j : Journal
  j = h.journal

  -- ---- blocks are promised, and given back

  module _ (who : ℕ) (part : Part) (is : IsPartOf s who part) (u : TailState) (lt : who < length t.wants)
      (queue : (queue : List Queued) → HoldsQueue t.ring t.pool queue → HoldsQueue u.ring u.pool queue) where
    pub core_reserved : (need : Need) (bytes : ℕ) → part.reserved ≡ None → Promises t.ring u.ring t.pool u.pool (want bytes) → u ≡ record t { ring = u.ring; pool = u.pool; wants = set t.wants who (want bytes) }
        → s.ids + need.nodes ≤ end.ids → s.stores + need.nodes ≤ end.stores → IsCore seen from txns end (after_event s (Reserve who need bytes)) u
    core_reserved need bytes none p e i k =
        let f : Part → SharedState = λ (x : Part). record s { parts = finite.insert s.parts who (with_reserved need bytes s x); ids = s.ids + need.nodes; stores = s.stores + need.nodes } in
        let may : MayHappen MakesNames s (Reserve who need bytes) = (part, is, none) in
        record {
          journal = j;
          size_is = h.size_is;
          from_is = h.from_is;
          txns_is = h.txns_is;
          opens = h.opens;
          mounted = mounted-promised j seen t.ring t.pool h.mounted u.ring u.pool (t.ring.promised + want bytes) u.ring.buffers p.ring queue;
          shared = event_sound s h.shared (Reserve who need bytes) may;
          logged = logged_leaves seen.calls s j h.logged (Reserve who need bytes) tt may;
          end_is = h.end_is;
          ids = by_there (λ x. x.ids ≤ end.ids) s who part f is i;
          stores = by_there (λ x. x.stores ≤ end.stores) s who part f is k;
          wants = by_there (λ x. (w : ℕ) → get_or u.wants w 0 ≡ wanted_by x.parts w) s who part f is
              (λ w. ap (λ (v : TailState). get_or v.wants w 0) e ∙ wants_then t.wants s.parts who (with_reserved need bytes s part) (want bytes) lt refl h.wants w);
          reached = reached_same j t u h.reached (ap (λ (v : TailState). v.done) e) (ap (λ (v : TailState). v.reached) e) (ap (λ (v : TailState). v.written) e) (ap (λ (r : RingState). r.closed) p.ring) (ap (λ (r : RingState). r.text) p.ring);
          faults = by_there (λ x. x.faults ≡ seen.faults) s who part f is h.faults;
        }

    pub core_cancelled : Cancels t.ring u.ring t.pool u.pool (get_or t.wants who 0) → u ≡ record t { ring = u.ring; pool = u.pool; wants = set t.wants who 0 } → IsCore seen from txns end (after_event s (RollBack who)) u
    core_cancelled p e =
        let f : Part → SharedState = λ (x : Part). set_part who (record x { reserved = None }) s in
        let may : MayHappen MakesNames s (RollBack who) = (part, is, tt) in
        record {
          journal = j;
          size_is = h.size_is;
          from_is = h.from_is;
          txns_is = h.txns_is;
          opens = h.opens;
          mounted = mounted-promised j seen t.ring t.pool h.mounted u.ring u.pool (t.ring.promised - get_or t.wants who 0) u.ring.buffers p.ring queue;
          shared = event_sound s h.shared (RollBack who) may;
          logged = logged_leaves seen.calls s j h.logged (RollBack who) tt may;
          end_is = h.end_is;
          ids = by_there (λ x. x.ids ≤ end.ids) s who part f is h.ids;
          stores = by_there (λ x. x.stores ≤ end.stores) s who part f is h.stores;
          wants = by_there (λ x. (w : ℕ) → get_or u.wants w 0 ≡ wanted_by x.parts w) s who part f is
              (λ w. ap (λ (v : TailState). get_or v.wants w 0) e ∙ wants_then t.wants s.parts who (record part { reserved = None }) 0 lt refl h.wants w);
          reached = reached_same j t u h.reached (ap (λ (v : TailState). v.done) e) (ap (λ (v : TailState). v.reached) e) (ap (λ (v : TailState). v.written) e) (ap (λ (r : RingState). r.closed) p.ring) (ap (λ (r : RingState). r.text) p.ring);
          faults = by_there (λ x. x.faults ≡ seen.faults) s who part f is h.faults;
        }

  -- ---- the unfinished block is closed

  padding_takes : (text : List ℕ) → t.ring.text ≡ text → TakesText j.log.tail.text (padding_by t.ring text)
  padding_takes [] e = tt
  padding_takes (x ∷ xs) e = omega (arith, ap length h.mounted.ring_is.text, length-append t.ring.text [])

  padded_counts : (text : List ℕ) → t.ring.text ≡ text → ((padded_by t.ring text).closed ≡ t.ring.closed + length (padding_by t.ring text)) × (reach (padded_by t.ring text) ≡ reach t.ring)
  padded_counts [] e = (omega arith, refl)
  padded_counts (x ∷ xs) e = (omega arith, omega (arith, ap begun e))

  module _ (u : TailState) (e : u ≡ record t { ring = u.ring; pool = u.pool }) (pads : u.ring ≡ padded t.ring) (ring_is : IsRing u.ring)
      (queue : (queue : List Queued) → HoldsQueue t.ring t.pool queue → HoldsQueue u.ring u.pool (queue ++ padding t.ring)) where
    abbrev closed-journal : Journal
    closed-journal = with_closed j (padding t.ring) u.ring.chain u.ring.text

    counts_are : (u.ring.closed ≡ t.ring.closed + length (padding t.ring)) × (reach u.ring ≡ reach t.ring)
    counts_are = let c = padded_counts t.ring.text refl in (ap (λ (r : RingState). r.closed) pads ∙ c.0, ap reach pads ∙ c.1)

    reached_padded : HoldsReached closed-journal u
    reached_padded =
        let r = h.reached in
        let same : u.reached ≡ t.reached = ap (λ (v : TailState). v.reached) e in
        record {
          count = r.count;
          done_is = ap (λ (v : TailState). v.done) e ∙ r.done_is;
          whole = record { more = r.whole.more; few = r.whole.few; whole = written_longer j r.count (padding t.ring) h.mounted.journal.log.most r.whole };
          known = λ n i is. r.known n i (ap (λ (xs : List ℕ). get_or xs n 0) (sym same) ∙ is);
          lies = λ n i is le. let old = ap (λ (xs : List ℕ). get_or xs n 0) (sym same) ∙ is in record {
            there = r.known n i old;
            whole = lies_long j seen t h.mounted r (padding t.ring) (padding_takes t.ring.text refl) n i old (omega (arith, le, counts_are.0));
          };
          ahead = λ n past. ap (λ (xs : List ℕ). get_or xs n 0) same ∙ r.ahead n (omega (arith, past, counts_are.1));
          last = elim r.last [
            | inl all ↦ inl (ap (λ (v : TailState). v.done) e ∙ all)
            | inr p ↦ inr (p.0, omega (arith, p.1, ap (λ (v : TailState). v.written) e), omega (arith, p.2, counts_are.1), ap (λ (xs : List ℕ). get_or xs p.0 0) same ∙ p.3)
          ];
        }

    pub core_padded : IsCore seen from txns end s u
    core_padded = record {
      journal = closed-journal;
      size_is = h.size_is;
      from_is = h.from_is;
      txns_is = h.txns_is;
      opens = h.opens;
      mounted = mounted-padded j seen t.ring t.pool h.mounted u.ring u.pool ring_is pads (queue (drop j.log.tail.written j.log.tail.blocks) h.mounted.ring_is.queue);
      shared = h.shared;
      logged = record { tree = h.logged.tree; kept = h.logged.kept; history = h.logged.history; settled = h.logged.settled; flushed = h.logged.flushed; items = h.logged.items; ids = h.logged.ids; stores = h.logged.stores };
      end_is = h.end_is;
      ids = h.ids;
      stores = h.stores;
      wants = λ w. ap (λ (v : TailState). get_or v.wants w 0) e ∙ h.wants w;
      reached = reached_padded;
      faults = h.faults;
    }

  -- ---- calls of the disk

  module _ (later : DiskSeen) (good : Bool) (told : IfSome seen.told (IsRecordOf seen.size seen.calls)) (faults : s.faults ≤ later.faults) where
    counted : IsSharedSound MakesNames (record s { faults = later.faults })
    counted = event_sound s h.shared (Count later.faults) faults

    -- so many calls later, with the faults counted
    logged_then : seen.calls ≤ later.calls → IsLogged later.calls (record s { faults = later.faults }) j
    logged_then fewer = let l = logged_later seen.calls later.calls s j fewer h.logged in
        record { tree = l.tree; kept = l.kept; history = l.history; settled = l.settled; flushed = l.flushed; items = l.items; ids = l.ids; stores = l.stores }

    -- a call failed, or was not made: the journal is as it was
    core_tried : IsMounted j later t.ring t.pool → later.size ≡ seen.size → seen.calls ≤ later.calls → IsCore later from txns end (record s { faults = later.faults }) t
    core_tried m size fewer = record {
      journal = j;
      size_is = h.size_is ∙ sym size;
      from_is = h.from_is;
      txns_is = h.txns_is;
      opens = h.opens;
      mounted = m;
      shared = counted;
      logged = logged_then fewer;
      end_is = h.end_is;
      ids = h.ids;
      stores = h.stores;
      wants = h.wants;
      reached = h.reached;
      faults = refl;
    }

    -- ---- the first block that waits is written

    module _ (before sequence : ℕ) (next : next_block t.ring before ≡ Some sequence)
        (w : (queue : List Queued) → HoldsQueue t.ring t.pool queue → HasWritten seen later (block_at t.ring sequence) (first_bytes t.ring.epoch queue) good) where
      wrote : HasWritten seen later (block_at t.ring sequence) (first_bytes t.ring.epoch (drop j.log.tail.written j.log.tail.blocks)) good
      wrote = w (drop j.log.tail.written j.log.tail.blocks) h.mounted.ring_is.queue

      fewer-calls : seen.calls ≤ later.calls
      fewer-calls = no_fewer_calls seen.calls later.calls later.last_made good _ _ wrote.made

      pub core_write_tried : IsCore later from txns end (record s { faults = later.faults }) t
      core_write_tried = core_tried (mounted-tried j seen t.ring t.pool h.mounted told later good before sequence next wrote) wrote.size fewer-calls

      module _ (was_good : good ≡ true) (u : TailState) (rest : u ≡ record t { ring = u.ring; pool = u.pool; written = t.written + 1; done = last_in t.reached (t.written + 1) t.done }) (ring : u.ring ≡ without_first t.ring)
          (queue : (queue : List Queued) → HoldsQueue t.ring t.pool queue → HoldsQueue u.ring u.pool (drop 1 queue)) (tail_is : t.written + t.ring.queued ≡ t.ring.closed) (some : 1 ≤ t.ring.queued) where
        abbrev noted : ℕ
        noted = get_or t.reached (t.written + 1) 0

        done-now : u.done ≡ max t.done noted
        done-now = ap (λ (v : TailState). v.done) rest

        closed-same : u.ring.closed ≡ t.ring.closed
        closed-same = ap (λ (r : RingState). r.closed) ring

        place : t.written + 1 ≡ length j.log.head.read + (j.log.tail.written + 1)
        place = omega (arith, written_so j seen t h.mounted tail_is)

        -- the commits up to where it is done still lie in what is written
        older : AreWritten (with_written j) h.reached.count
        older = let a = h.reached.whole in record {
          more = a.more;
          few = a.few;
          whole = omega (arith, a.whole, texts-fewer j.log.tail.blocks j.log.tail.written (j.log.tail.written + 1) (omega arith));
        }

        -- so do those up to what is noted here
        newer : (i : ℕ) → noted ≡ j.opening.base + i + 1 → t.done < noted → AreWritten (with_written j) (i + 1)
        newer i is high =
            let l = h.reached.lies (t.written + 1) i is (omega (arith, tail_is, some)) in
            let here : since_mount j (t.written + 1) ≡ j.log.tail.written + 1 = omega (arith, place) in
            record {
              more = omega (arith, h.reached.whole.more, h.reached.done_is, is, high);
              few = l.there;
              whole = omega (arith, l.whole, ap (λ n. length (texts (take n j.log.tail.blocks))) here);
            }

        counts-now : (count : ℕ) × (u.done ≡ j.opening.base + count) × AreWritten (with_written j) count
        counts-now = elim (cases_lt t.done noted) [
          | inr low ↦ (h.reached.count, omega (arith, done-now, low, h.reached.done_is), older)
          | inl high ↦ (let is : noted ≡ j.opening.base + (noted - j.opening.base - 1) + 1 = omega (arith, high, h.reached.done_is) in
              (noted - j.opening.base - 1 + 1, omega (arith, done-now, high, is), newer (noted - j.opening.base - 1) is high))
        ]

        -- what is noted is no later than the last commit
        noted-most : noted ≤ j.opening.base + length j.commits.history
        noted-most = elim (cases_lt j.opening.base noted) [
          | inr low ↦ omega (arith, low)
          | inl high ↦ (let is : noted ≡ j.opening.base + (noted - j.opening.base - 1) + 1 = omega (arith, high) in
              omega (arith, is, h.reached.known (t.written + 1) (noted - j.opening.base - 1) is))
        ]

        reached-same : u.reached ≡ t.reached
        reached-same = ap (λ (v : TailState). v.reached) rest

        reach-same : reach u.ring ≡ reach t.ring
        reach-same = ap reach ring

        last-now : (u.done ≡ j.opening.base + length j.commits.history) ⊎ ((k : ℕ) × (u.written < k) × (k ≤ reach u.ring) × (get_or u.reached k 0 ≡ j.opening.base + length j.commits.history))
        last-now = elim h.reached.last [
          | inl all ↦ inl (omega (arith, done-now, all, noted-most))
          | inr p ↦ elim (cases_eq p.0 (t.written + 1)) [
            | inl here ↦ inl (let is : noted ≡ j.opening.base + length j.commits.history = ap (λ k. get_or t.reached k 0) (sym here) ∙ p.3 in
                omega (arith, done-now, is, h.reached.done_is, h.reached.whole.few))
            | inr far ↦ inr (p.0, omega (arith, p.1, far, ap (λ (v : TailState). v.written) rest), omega (arith, p.2, reach-same), ap (λ (xs : List ℕ). get_or xs p.0 0) reached-same ∙ p.3)
          ]
        ]

        pub core_written : IsCore later from txns end (record s { faults = later.faults }) u
        core_written =
            let l = logged_then fewer-calls in
            let c = counts-now in
            record {
              journal = with_written j;
              size_is = h.size_is ∙ sym wrote.size;
              from_is = h.from_is;
              txns_is = h.txns_is;
              opens = h.opens;
              mounted = mounted-written j seen t.ring t.pool h.mounted told later good before sequence next wrote was_good u.ring u.pool ring (queue (drop j.log.tail.written j.log.tail.blocks) h.mounted.ring_is.queue);
              shared = counted;
              logged = record { tree = l.tree; kept = l.kept; history = l.history; settled = l.settled; flushed = l.flushed; items = l.items; ids = l.ids; stores = l.stores };
              end_is = h.end_is;
              ids = h.ids;
              stores = h.stores;
              wants = λ q. ap (λ (v : TailState). get_or v.wants q 0) rest ∙ h.wants q;
              reached = record {
                count = c.0;
                done_is = c.1;
                whole = c.2;
                known = λ n i is. h.reached.known n i (ap (λ (xs : List ℕ). get_or xs n 0) (sym reached-same) ∙ is);
                lies = λ n i is le. let old = h.reached.lies n i (ap (λ (xs : List ℕ). get_or xs n 0) (sym reached-same) ∙ is) (omega (arith, le, closed-same)) in record { there = old.there; whole = old.whole };
                ahead = λ n past. ap (λ (xs : List ℕ). get_or xs n 0) reached-same ∙ h.reached.ahead n (omega (arith, past, reach-same));
                last = last-now;
              };
              faults = refl;
            }

    -- ---- a flush

    module _ (w : HasFlushed seen later good) where
      pub fewer-flushed : seen.calls ≤ later.calls
      fewer-flushed = no_fewer_calls seen.calls later.calls later.last_made good _ _ w.made

      pub core_flush_tried : IsCore later from txns end (record s { faults = later.faults }) t
      core_flush_tried = core_tried (mounted-flush-tried j seen t.ring t.pool h.mounted told later good w) w.size fewer-flushed

      module _ (was_good : good ≡ true) where
        pub counted-calls : later.calls ≡ seen.calls + 1
        counted-calls = made-counts seen.calls later.calls later.last_made good _ _ was_good w.made

        abbrev flushed : Journal
        flushed = with_settled (seen.calls + 1) h.reached.count j

        flushed-mounted : IsMounted flushed later t.ring t.pool
        flushed-mounted = mounted-settled j seen t.ring t.pool h.mounted told later good w was_good h.reached.count h.reached.whole

        flushed-long : length flushed.commits.history ≡ length j.commits.history
        flushed-long = upto_length (seen.calls + 1) (j.opening.base + h.reached.count) j.commits.history

        flushed-reached : HoldsReached flushed t
        flushed-reached = let r = h.reached in record {
          count = r.count;
          done_is = r.done_is;
          whole = record { more = omega arith; few = omega (arith, r.whole.few, flushed-long); whole = r.whole.whole };
          known = λ k i is. omega (arith, r.known k i is, flushed-long);
          lies = λ k i is le. let old = r.lies k i is le in record { there = omega (arith, old.there, flushed-long); whole = old.whole };
          ahead = r.ahead;
          last = elim r.last [
            | inl all ↦ inl (omega (arith, all, flushed-long))
            | inr p ↦ inr (p.0, p.1, p.2, omega (arith, p.3, flushed-long))
          ];
        }

        -- further commits are settled
        pub core_settled : settled_upto s.mounted.kept s.notes < t.done → IsCore later from txns end (after_event (record s { faults = later.faults }) (Mark t.done later.calls)) t
        core_settled further =
            let logged = logged_then fewer-flushed in
            let number : s.mounted.kept + h.reached.count ≡ t.done = omega (arith, h.logged.kept, h.reached.done_is) in
            let may : MayHappen MakesNames (record s { faults = later.faults }) (Mark t.done later.calls) = record {
              further = further;
              within = omega (arith, number, h.reached.whole.few, ap length h.logged.history, history_length s.notes);
              some = omega (arith, counted-calls);
              later = omega (arith, h.logged.flushed, fewer-flushed);
            } in
            record {
              journal = flushed;
              size_is = h.size_is ∙ sym w.size;
              from_is = h.from_is;
              txns_is = h.txns_is;
              opens = h.opens;
              mounted = flushed-mounted;
              shared = event_sound (record s { faults = later.faults }) counted (Mark t.done later.calls) may;
              logged = subst (λ c. IsLogged later.calls (after_event (record s { faults = later.faults }) (Mark t.done later.calls)) (with_settled c h.reached.count j)) counted-calls
                  (subst (λ n. IsLogged later.calls (after_event (record s { faults = later.faults }) (Mark n later.calls)) (with_settled later.calls h.reached.count j)) number
                  (logged_mark later.calls later.calls h.reached.count (record s { faults = later.faults }) j counted logged));
              end_is = h.end_is;
              ids = h.ids;
              stores = h.stores;
              wants = h.wants;
              reached = flushed-reached;
              faults = refl;
            }

        -- no further commit is settled
        pub core_resettled : settled_upto s.mounted.kept s.notes ≡ t.done → IsCore later from txns end (record s { faults = later.faults }) t
        core_resettled all =
            let l = logged_then fewer-flushed in
            let marks : h.reached.count ≡ j.commits.marks = omega (arith, h.logged.settled, all, h.reached.done_is) in
            let same : flushed.commits.history ≡ j.commits.history =
            ap (λ n. settle_upto (seen.calls + 1) (j.opening.base + n) j.commits.history) marks
            ∙ upto_same j.opening.tree j.opening.base (seen.calls + 1) j.commits.marks j.commits.history h.mounted.journal.legal h.mounted.journal.marked.first in
            record {
              journal = flushed;
              size_is = h.size_is ∙ sym w.size;
              from_is = h.from_is;
              txns_is = h.txns_is;
              opens = h.opens;
              mounted = flushed-mounted;
              shared = counted;
              logged = record {
                tree = l.tree;
                kept = l.kept;
                history = same ∙ l.history;
                settled = omega (arith, l.settled, marks);
                flushed = l.flushed;
                items = l.items;
                ids = l.ids;
                stores = l.stores;
              };
              end_is = h.end_is;
              ids = h.ids;
              stores = h.stores;
              wants = h.wants;
              reached = flushed-reached;
              faults = refl;
            }

  -- ---- where it stands

  -- what is done is no less than what is settled
  pub done_least : settled_upto s.mounted.kept s.notes ≤ t.done
  done_least = omega (arith, h.logged.settled, h.reached.done_is, h.reached.whole.more)

  -- where no block waits, all commits are done
  pub done_all : t.written + t.ring.queued ≡ t.ring.closed → t.ring.queued + begun t.ring.text ≡ 0 → t.done ≡ s.mounted.kept + length (entries_in s.notes)
  done_all tail_is none = elim h.reached.last [
    | inl all ↦ omega (arith, all, h.logged.kept, ap length h.logged.history, history_length s.notes)
    | inr p ↦ absurd (omega (arith, p.1, p.2, tail_is, none))
  ]

  -- ---- a commit

  module _ (who : ℕ) (entry : Entry) (items : List PlainItem) (may : MayHappen MakesNames s (Commit who entry items)) (are : IsCommit items) (lt : who < length t.wants)
      (id : next_id (journal_id j) items ≤ s.ids) (store : next_store (journal_store j) items ≤ s.stores)
      (u : TailState) (rest : u ≡ record t { ring = u.ring; pool = u.pool; wants = set t.wants who 0; reached = set t.reached (reach u.ring) entry.number })
      (on : IsContinued t.ring u.ring) (ring_is : IsRing u.ring) (old_ring : IsRing t.ring) (tail_is : t.written + t.ring.queued ≡ t.ring.closed) (places : length t.reached ≡ t.ring.size + 2)
      (appends : (queue : List Queued) → HoldsQueue t.ring t.pool queue → Appended t.ring u.ring u.pool queue (commit_bytes entry items)) where
    abbrev a : Appended t.ring u.ring u.pool (drop j.log.tail.written j.log.tail.blocks) (commit_bytes entry items)
    a = appends (drop j.log.tail.written j.log.tail.blocks) h.mounted.ring_is.queue

    abbrev k : Journal
    k = with_commit j entry items a.blocks u.ring.chain u.ring.text

    next : IsNextCommit j entry items
    next = next_commit seen.calls s j h.shared h.logged h.mounted.journal entry items may.1 are
        (commits-few j seen.calls h.mounted.journal (omega (arith, old_ring.unfinished_room, ap length h.mounted.ring_is.text)))
        (omega (arith, id, h.ids, ap (λ (e : GivenLimits). e.ids) h.end_is)) (omega (arith, store, h.stores, ap (λ (e : GivenLimits). e.stores) h.end_is))

    mounted-then : IsMounted k seen u.ring u.pool
    mounted-then = mounted-commit j seen t.ring t.pool h.mounted entry items next u.ring u.pool ring_is on.start on.size on.epoch on.queued a

    closed-then : u.ring.closed ≡ t.ring.closed + length a.blocks
    closed-then = omega (arith, on.queued, a.holds.count, length-append (drop j.log.tail.written j.log.tail.blocks) a.blocks, h.mounted.ring_is.queue.count)

    takes : (blocks : List Queued) → All IsFilled blocks → TakesText j.log.tail.text blocks
    takes [] f = tt
    takes (q ∷ qs) f = omega (arith, All-head IsFilled q qs f, old_ring.unfinished_room, ap length h.mounted.ring_is.text)

    long-then : length k.commits.history ≡ length j.commits.history + 1
    long-then = length-append j.commits.history (entry ∷ [])

    number-is : entry.number ≡ j.opening.base + length j.commits.history + 1
    number-is = next.number

    same-records : (n : ℕ) → n ≤ length j.commits.history → take n k.commits.records ≡ take n j.commits.records
    same-records n le = take-append-le n j.commits.records (items ∷ []) (omega (arith, le, h.mounted.journal.replays.one_each))

    -- the record has bytes, so it reaches further than what was written
    some-bytes : 1 ≤ length (commit_bytes entry items)
    some-bytes = omega (arith, sum_text entry.number items)

    begun_some : (text : List ℕ) → 1 ≤ length text → begun text ≡ 1
    begun_some [] l = absurd (omega (arith, l))
    begun_some (x ∷ xs) l = refl

    begun_most : (text : List ℕ) → begun text ≤ 1
    begun_most [] = omega arith
    begun_most (x ∷ xs) = omega arith

    none-begun : (text : List ℕ) → begun text ≡ 0 → text ≡ []
    none-begun [] e = refl
    none-begun (x ∷ xs) e = absurd (omega (arith, e))

    further-by : (blocks : List Queued) → u.ring.closed ≡ t.ring.closed + length blocks → texts blocks ++ u.ring.text ≡ t.ring.text ++ commit_bytes entry items → (t.written < reach u.ring) × (reach t.ring ≤ reach u.ring)
    further-by [] closed joined =
        let b = begun_some u.ring.text (omega (arith, ap length joined, length-append t.ring.text (commit_bytes entry items), some-bytes)) in
        (omega (arith, closed, b, tail_is), omega (arith, closed, b, begun_most t.ring.text))
    further-by (q ∷ qs) closed joined = (omega (arith, closed, tail_is), omega (arith, closed, begun_most t.ring.text))

    further : (t.written < reach u.ring) × (reach t.ring ≤ reach u.ring)
    further = further-by a.blocks closed-then a.joined

    placed : reach u.ring < length t.reached
    placed = omega (arith, places, ring_is.own_places, on.size)

    reached-is : u.reached ≡ set t.reached (reach u.ring) entry.number
    reached-is = ap (λ (v : TailState). v.reached) rest

    here-is : get_or u.reached (reach u.ring) 0 ≡ entry.number
    here-is = ap (λ (xs : List ℕ). get_or xs (reach u.ring) 0) reached-is ∙ get_or-set_same t.reached (reach u.ring) entry.number 0 placed

    there-is : (n : ℕ) → n ≢ reach u.ring → get_or u.reached n 0 ≡ get_or t.reached n 0
    there-is n ne = ap (λ (xs : List ℕ). get_or xs n 0) reached-is ∙ get_or-set_other t.reached (reach u.ring) n entry.number 0 ne

    -- the new record lies in all blocks, where no byte of it is left in the unfinished one
    lies-here : (i : ℕ) → entry.number ≡ j.opening.base + i + 1 → reach u.ring ≤ u.ring.closed → LiesIn k i (reach u.ring)
    lies-here i is le =
        let none : u.ring.text ≡ [] = none-begun u.ring.text (omega (arith, le)) in
        let all : since_mount k (reach u.ring) ≡ length k.log.tail.blocks = omega (arith, le, closed_is k seen u mounted-then) in
        record {
          there = omega (arith, is, number-is, long-then);
          whole = omega (
            arith,
            commits_fewer j.opening.base (i + 1) k.commits.records,
            ap length mounted-then.journal.records.joined,
            length-append (texts k.log.tail.blocks) u.ring.text,
            ap length none,
            ap (λ n. length (texts (take n k.log.tail.blocks))) all,
            ap (λ (xs : List Queued). length (texts xs)) (take-length k.log.tail.blocks),
          );
        }

    lies-there : (n i : ℕ) → get_or t.reached n 0 ≡ j.opening.base + i + 1 → n ≤ u.ring.closed → LiesIn k i n
    lies-there n i is le =
        let known = h.reached.known n i is in
        record {
          there = omega (arith, known, long-then);
          whole = omega (
            arith,
            lies_long j seen t h.mounted h.reached a.blocks (takes a.blocks a.filled) n i is (omega (arith, le, closed-then)),
            ap (λ (rs : List (List PlainItem)). length (commits_bytes j.opening.base rs)) (same-records (i + 1) known),
          );
        }

    reached-then : HoldsReached k u
    reached-then = record {
      count = h.reached.count;
      done_is = ap (λ (v : TailState). v.done) rest ∙ h.reached.done_is;
      whole = record {
        more = h.reached.whole.more;
        few = omega (arith, h.reached.whole.few, long-then);
        whole = omega (
          arith,
          written_longer j h.reached.count a.blocks h.mounted.journal.log.most h.reached.whole,
          ap (λ (rs : List (List PlainItem)). length (commits_bytes j.opening.base rs)) (same-records h.reached.count h.reached.whole.few),
        );
      };
      known = λ n i is. elim (cases_eq n (reach u.ring)) [
        | inl here ↦ omega (arith, ap (λ m. get_or u.reached m 0) here, here-is, is, number-is, long-then)
        | inr ne ↦ (let old = h.reached.known n i (sym (there-is n ne) ∙ is) in omega (arith, old, long-then))
      ];
      lies = λ n i is le. elim (cases_eq n (reach u.ring)) [
        | inl here ↦ subst (λ m. LiesIn k i m) (sym here) (lies-here i (sym here-is ∙ ap (λ m. get_or u.reached m 0) (sym here) ∙ is) (omega (arith, le, here)))
        | inr ne ↦ lies-there n i (sym (there-is n ne) ∙ is) le
      ];
      ahead = λ n past. there-is n (λ e. omega (arith, e, past)) ∙ h.reached.ahead n (omega (arith, past, further.1));
      last = inr (reach u.ring, omega (arith, further.0, ap (λ (v : TailState). v.written) rest), omega arith, omega (arith, here-is, number-is, long-then));
    }

    pub core_committed : IsCore seen from txns end (after_event s (Commit who entry items)) u
    core_committed =
        let f : Part → SharedState = λ (p : Part). record s { notes = s.notes ++ Commits entry ∷ []; lists = items ∷ s.lists; parts = finite.insert s.parts who (part_committed entry.number p) } in
        record {
          journal = k;
          size_is = h.size_is;
          from_is = h.from_is;
          txns_is = h.txns_is;
          opens = h.opens;
          mounted = mounted-then;
          shared = event_sound s h.shared (Commit who entry items) may;
          logged = agreed_after seen.calls s j h.shared h.logged h.mounted.journal entry items may.1 who may.0.0 may.0.1 a.blocks u.ring.chain u.ring.text id store;
          end_is = h.end_is;
          ids = by_there (λ x. x.ids ≤ end.ids) s who may.0.0 f may.0.1 h.ids;
          stores = by_there (λ x. x.stores ≤ end.stores) s who may.0.0 f may.0.1 h.stores;
          wants = by_there (λ x. (w : ℕ) → get_or u.wants w 0 ≡ wanted_by x.parts w) s who may.0.0 f may.0.1
              (λ w. ap (λ (v : TailState). get_or v.wants w 0) rest ∙ wants_then t.wants s.parts who (part_committed entry.number may.0.0) 0 lt refl h.wants w);
          reached = reached-then;
          faults = by_there (λ x. x.faults ≡ seen.faults) s who may.0.0 f may.0.1 h.faults;
        }
