-- The ring's calls, as what happens to the log.
use Rattle.std.proofs.Common.{◌≡◌, ℕ, zero, suc, ◌+◌, ◌^◌, ◌%◌, ◌≤◌, ◌<◌, ◌&&◌, if◌then◌else◌, Bool, true, false, inl, inr, List, [], ◌∷◌, ◌++◌, length, take, drop, refl, sym, subst, ◌∙◌, ap, arith, append-nil, length-append, length-drop}
use Rattle.std.specs.Prelude.{Some, None, nat_lt, slice_get, Option}
use Rattle.std.proofs.lemmas.List.{length-take, take-append-drop}
use Rattle.std.proofs.lemmas.Option.{same_Some, slice_get_cases}
use Rattle.fx_jblock.specs.Block.{journal_block}
use Rattle.fx_jblock.specs.declared.Start.{Start}
use Rattle.fx_journal.specs.Ring.{RingState, IsRing, IsLinked, Queued, HoldsQueue, Appended, first_place, next_block, next_place, number, padded, padded_by, padding, padding_by, texts, without_first, first_chain}
use Rattle.fx_journal.specs.Writing.{block_at, first_bytes}
use Rattle.fx_journal.proofs.Writes.{next-waits}
use Rattle.fx_pool.specs.Region.{Region}
use Rattle.fx_disk.specs.Record.{DiskRecord}
use Rattle.fx_disk.specs.Steps.{MadeOrNot, Writes}
use Rattle.fx_log.specs.Chosen.{start_of}
use Rattle.fx_log.specs.Log.{LogHead}
use Rattle.fx_log.specs.Ring.{place_in, bytes_in}
use Rattle.fx_log.proofs.LogHeads.{series-next}
use Rattle.fx_log.proofs.RingClosed.{linked-joined, linked-front, linked-back, one_chain, records-held, first_chain-joined, records-back, records-joined}
use Rattle.fx_log.proofs.RingPlaces.{drop-get, sequence-linked}
use Rattle.fx_supers.specs.Cells.{AreClosedBlocks}
use Rattle.fx_supers.specs.InMemory.{AppendsTo, IsRingFor}
use Rattle.fx_supers.specs.Supers.{Origin}
use Rattle.fx_supers.specs.SessionLog.{SessionLog, IsSessionLog, HasPlacesFrom, IsStartOf, MayClose, closed_session, epoch_of, first_in, live_first, read_in, written_session}

-- ---- blocks that follow those that were closed

-- Blocks were appended to the queue: with the blocks that were closed before they are all that were closed.
-- Where the queue was empty, the first of them goes on from the chain before.
module _ (size epoch : ℕ) (place : Start) (front queue more : List Queued) (old : ℕ) (region : Region) (ring : RingState)
    (closed : AreClosedBlocks size epoch place (front ++ queue) old) (holds : HoldsQueue ring region (queue ++ more)) (same : ring.epoch ≡ epoch) (at : first_place ring ≡ place.sequence + length front)
    (first : queue ≡ [] → first_chain more ring.chain ≡ old) where
  linked-queue : IsLinked epoch (place.sequence + length front) (queue ++ more) ring.chain
  linked-queue = subst (λ (n : ℕ). IsLinked epoch n (queue ++ more) ring.chain) at (subst (λ (e : ℕ). IsLinked e (first_place ring) (queue ++ more) ring.chain) same holds.linked)

  pub goes-on : first_chain more ring.chain ≡ old
  goes-on = by queue (linked-front epoch (place.sequence + length front) queue more ring.chain linked-queue) (linked-back epoch place.sequence front queue old closed.linked) first
    where
      by : (waiting : List Queued) → IsLinked epoch (place.sequence + length front) waiting (first_chain more ring.chain) → IsLinked epoch (place.sequence + length front) waiting old → (waiting ≡ [] → first_chain more ring.chain ≡ old) → first_chain more ring.chain ≡ old
      by [] one other none = none refl
      by (q ∷ qs) one other none = one_chain epoch (place.sequence + length front) (place.sequence + length front) q qs (first_chain more ring.chain) old one other

  pub blocks-appended : place.sequence + length ((front ++ queue) ++ more) + size < 2 ^ 64 → AreClosedBlocks size epoch place ((front ++ queue) ++ more) ring.chain
  blocks-appended low = record {
    records = records-joined (front ++ queue) more closed.records (records-back queue more (records-held region ring.epoch ring.buffers (queue ++ more) holds.held));
    first = first_chain-joined (front ++ queue) more ring.chain ∙ ap (first_chain (front ++ queue)) goes-on ∙ closed.first;
    linked = linked-joined epoch place.sequence (front ++ queue) more ring.chain (subst (λ (n : ℕ). IsLinked epoch place.sequence (front ++ queue) n) (sym goes-on) closed.linked)
        (subst (λ (n : ℕ). IsLinked epoch n more ring.chain) (omega (arith, length-append front queue)) (linked-back epoch (place.sequence + length front) queue more ring.chain linked-queue));
    low = low;
  }

-- ---- the log and the ring

front-back : (l : SessionLog) → take l.tail.written l.tail.blocks ++ drop l.tail.written l.tail.blocks ≡ l.tail.blocks
front-back l = take-append-drop l.tail.written l.tail.blocks

-- the place of the unfinished block
pub place-next : (head : LogHead) (place : head.place.sequence ≡ head.super.sequence + length head.read) (blocks : List Queued) (chain sequence closed : ℕ) (from : Origin) (start : Start)
    → IsStartOf head blocks chain from start → sequence ≡ start.sequence → (many : ℕ) → closed + first_in from ≡ length (read_in head from) + many → sequence + closed ≡ head.place.sequence + many
place-next head place blocks chain sequence closed None start is same many e = omega (arith, ap (λ (s : Start). s.sequence) is, e, place, same)
place-next head place blocks chain sequence closed (Some n) start is same many e = omega (arith, is.sequence, e, same)

places-next : (head : LogHead) (blocks : List Queued) (closed : ℕ) (from : Origin) → closed + first_in from ≡ length (read_in head from) + length blocks → closed ≤ head.super.ring → HasPlacesFrom head blocks from
places-next head blocks closed None e few = omega (arith, e, few)
places-next head blocks closed (Some n) e few = omega (arith, e, few)

module _ (l : SessionLog) (h : IsSessionLog l) (ring : RingState) (region : Region) (of : IsRingFor l ring region) where
  -- so many wait
  pub waiting : ring.queued + l.tail.written ≡ length l.tail.blocks
  waiting = omega (arith, of.queue.count, length-drop l.tail.written l.tail.blocks, h.most)

  pub place-is : l.head.place.sequence ≡ l.head.super.sequence + length l.head.read
  place-is = series-next l.head.super.generation _ l.head.place l.head.read h.head.series

  pub next-is : next_place ring ≡ l.head.place.sequence + length l.tail.blocks
  next-is = place-next l.head place-is l.tail.blocks l.tail.chain ring.start.sequence ring.closed l.supers.current.origin (start_of l.supers.current.super) h.current.begins of.sequence (length l.tail.blocks) of.closed

  -- the first of them
  pub first-is : first_place ring ≡ l.head.place.sequence + l.tail.written
  first-is = omega (arith, next-is, waiting)

  -- ---- further blocks are closed

  module _ (new : RingState) (pool : Region) (more : List Queued) (is : IsRing new) (start : new.start ≡ ring.start) (size : new.size ≡ ring.size) (epoch : new.epoch ≡ ring.epoch)
      (queued : new.queued + ring.closed ≡ ring.queued + new.closed) (holds : HoldsQueue new pool (drop l.tail.written l.tail.blocks ++ more)) (goes_on : first_chain more new.chain ≡ ring.chain) where
    same-start : new.start.sequence ≡ ring.start.sequence
    same-start = ap (λ s. s.sequence) start

    more-are : new.queued ≡ ring.queued + length more
    more-are = omega (arith, holds.count, length-append (drop l.tail.written l.tail.blocks) more, of.queue.count)

    closed-are : new.closed + live_first l ≡ length (read_in l.head l.supers.current.origin) + length (l.tail.blocks ++ more)
    closed-are = omega (arith, more-are, queued, of.closed, length-append l.tail.blocks more)

    next-then : next_place new ≡ l.head.place.sequence + length (l.tail.blocks ++ more)
    next-then = place-next l.head place-is l.tail.blocks l.tail.chain new.start.sequence new.closed l.supers.current.origin (start_of l.supers.current.super) h.current.begins (same-start ∙ of.sequence) (length (l.tail.blocks ++ more)) closed-are

    few-closed : new.closed ≤ l.head.super.ring
    few-closed = omega (arith, is.own_places, size, of.size)

    low-then : l.head.place.sequence + length (l.tail.blocks ++ more) + l.head.super.ring < 2 ^ 64
    low-then = omega (arith, next-then, same-start, of.sequence, few-closed, h.current.rules.sequence_below, h.head.rules.ring_most)

    first-stays : first_place new ≡ l.head.place.sequence + length (take l.tail.written l.tail.blocks)
    first-stays = omega (arith, next-then, more-are, waiting, length-append l.tail.blocks more, length-take l.tail.written l.tail.blocks, h.most)

    closed-before : AreClosedBlocks l.head.super.ring (epoch_of l.head) l.head.place (take l.tail.written l.tail.blocks ++ drop l.tail.written l.tail.blocks) l.tail.chain
    closed-before = subst (λ (qs : List Queued). AreClosedBlocks l.head.super.ring (epoch_of l.head) l.head.place qs l.tail.chain) (sym (front-back l)) h.closed

    pub ring-closes : epoch_of l.head ≤ l.supers.current.super.generation → MayClose l more new.chain
    ring-closes raised = record {
      closed = subst (λ (qs : List Queued). AreClosedBlocks l.head.super.ring (epoch_of l.head) l.head.place (qs ++ more) new.chain) (front-back l)
          (blocks-appended l.head.super.ring (epoch_of l.head) l.head.place (take l.tail.written l.tail.blocks) (drop l.tail.written l.tail.blocks) more l.tail.chain pool new closed-before holds (epoch ∙ of.epoch) first-stays
          (λ none. goes_on ∙ of.chain) (subst (λ (qs : List Queued). l.head.place.sequence + length (qs ++ more) + l.head.super.ring < 2 ^ 64) (sym (front-back l)) low-then));
      first = goes-on l.head.super.ring (epoch_of l.head) l.head.place (take l.tail.written l.tail.blocks) (drop l.tail.written l.tail.blocks) more l.tail.chain pool new closed-before holds (epoch ∙ of.epoch) first-stays (λ none. goes_on ∙ of.chain);
      places = places-next l.head (l.tail.blocks ++ more) new.closed l.supers.current.origin closed-are few-closed;
      raised = raised;
    }

    back-more : drop l.tail.written (l.tail.blocks ++ more) ≡ drop l.tail.written l.tail.blocks ++ more
    back-more = drop-more l.tail.written l.tail.blocks h.most
      where
        drop-more : (n : ℕ) (xs : List Queued) → n ≤ length xs → drop n (xs ++ more) ≡ drop n xs ++ more
        drop-more zero xs le = refl
        drop-more (suc n) [] le = absurd (omega (arith, le))
        drop-more (suc n) (x ∷ xs) le = drop-more n xs (omega (arith, le))

    pub ring-then : IsRingFor (closed_session l more new.chain new.text) new pool
    ring-then = record {
      sequence = same-start ∙ of.sequence;
      size = size ∙ of.size;
      epoch = epoch ∙ of.epoch;
      closed = closed-are;
      chain = refl;
      text = refl;
      queue = subst (HoldsQueue new pool) (sym back-more) holds;
    }

-- ---- record bytes are appended

module _ (l : SessionLog) (h : IsSessionLog l) (ring : RingState) (region : Region) (of : IsRingFor l ring region)
    (new : RingState) (pool : Region) (bytes : List ℕ) (is : IsRing new) (start : new.start ≡ ring.start) (size : new.size ≡ ring.size) (epoch : new.epoch ≡ ring.epoch)
    (queued : new.queued + ring.closed ≡ ring.queued + new.closed) (a : Appended ring new pool (drop l.tail.written l.tail.blocks) bytes) where
  pub appended : epoch_of l.head ≤ l.supers.current.super.generation → AppendsTo l bytes a.blocks new.chain new.text
  appended raised = record {
    may = ring-closes l h ring region of new pool a.blocks is start size epoch queued a.holds a.goes_on raised;
    joined = a.joined ∙ ap (λ (w : List ℕ). w ++ bytes) of.text;
  }

  pub appended-ring : IsRingFor (closed_session l a.blocks new.chain new.text) new pool
  appended-ring = ring-then l h ring region of new pool a.blocks is start size epoch queued a.holds a.goes_on

-- ---- the unfinished block is closed

padded-start : (ring : RingState) (text : List ℕ) → (padded_by ring text).start ≡ ring.start
padded-start ring [] = refl
padded-start ring (_ ∷ _) = refl

padded-size : (ring : RingState) (text : List ℕ) → (padded_by ring text).size ≡ ring.size
padded-size ring [] = refl
padded-size ring (_ ∷ _) = refl

padded-epoch : (ring : RingState) (text : List ℕ) → (padded_by ring text).epoch ≡ ring.epoch
padded-epoch ring [] = refl
padded-epoch ring (_ ∷ _) = refl

padded-queued : (ring : RingState) (text : List ℕ) → (padded_by ring text).queued + ring.closed ≡ ring.queued + (padded_by ring text).closed
padded-queued ring [] = refl
padded-queued ring (_ ∷ _) = omega arith

padding-goes_on : (ring : RingState) (text : List ℕ) → first_chain (padding_by ring text) (padded_by ring text).chain ≡ ring.chain
padding-goes_on ring [] = refl
padding-goes_on ring (_ ∷ _) = refl

padding-text : (ring : RingState) (text : List ℕ) → texts (padding_by ring text) ++ (padded_by ring text).text ≡ ring.text
padding-text ring [] = refl
padding-text ring (_ ∷ _) = append-nil ((ring.text ++ []) ++ []) ∙ append-nil (ring.text ++ []) ∙ append-nil ring.text

module _ (l : SessionLog) (h : IsSessionLog l) (ring : RingState) (region : Region) (of : IsRingFor l ring region)
    (new : RingState) (pool : Region) (is : IsRing new) (e : new ≡ padded ring) (holds : HoldsQueue new pool (drop l.tail.written l.tail.blocks ++ padding ring)) where
  padding-start : new.start ≡ ring.start
  padding-start = ap (λ (x : RingState). x.start) e ∙ padded-start ring ring.text

  padding-size : new.size ≡ ring.size
  padding-size = ap (λ (x : RingState). x.size) e ∙ padded-size ring ring.text

  padding-epoch : new.epoch ≡ ring.epoch
  padding-epoch = ap (λ (x : RingState). x.epoch) e ∙ padded-epoch ring ring.text

  padding-queued : new.queued + ring.closed ≡ ring.queued + new.closed
  padding-queued = subst (λ (x : RingState). x.queued + ring.closed ≡ ring.queued + x.closed) (sym e) (padded-queued ring ring.text)

  padding-on : first_chain (padding ring) new.chain ≡ ring.chain
  padding-on = subst (λ (x : RingState). first_chain (padding ring) x.chain ≡ ring.chain) (sym e) (padding-goes_on ring ring.text)

  pub padding-appends : epoch_of l.head ≤ l.supers.current.super.generation → AppendsTo l [] (padding ring) new.chain new.text
  padding-appends raised = record {
    may = ring-closes l h ring region of new pool (padding ring) is padding-start padding-size padding-epoch padding-queued holds padding-on raised;
    joined = subst (λ (x : RingState). texts (padding ring) ++ x.text ≡ ring.text) (sym e) (padding-text ring ring.text) ∙ of.text ∙ sym (append-nil l.tail.text);
  }

  pub padding-ring : IsRingFor (closed_session l (padding ring) new.chain new.text) new pool
  padding-ring = ring-then l h ring region of new pool (padding ring) is padding-start padding-size padding-epoch padding-queued holds padding-on

-- ---- the first block that is not written is written

found-next : (t : Bool) (x s : ℕ) → (if t then Some x else None) ≡ Some s → x ≡ s
found-next true x s e = same_Some x s e
found-next false x s e = cc e

module _ (l : SessionLog) (h : IsSessionLog l) (ring : RingState) (region : Region) (of : IsRingFor l ring region) where
  module _ (before sequence : ℕ) (next : next_block ring before ≡ Some sequence) where
    some-queued : 0 < ring.queued
    some-queued = next-waits ring before sequence next

    sequence-same : number (first_place ring) ≡ sequence
    sequence-same = found-next (nat_lt 0 ring.queued && nat_lt (number (first_place ring)) before) (number (first_place ring)) sequence next

    -- there is one
    pub next-queued : (q : Queued) × (slice_get l.tail.blocks l.tail.written ≡ Some q)
    next-queued = elim (slice_get_cases l.tail.blocks l.tail.written).1 [
      | inl some ↦ (some.0, some.2)
      | inr none ↦ absurd (omega (arith, none.0, some-queued, waiting l h ring region of))
    ]

    pub next-lt : l.tail.written < length l.tail.blocks
    next-lt = omega (arith, some-queued, waiting l h ring region of)

    -- where it is written
    pub next-place : block_at ring sequence ≡ place_in l.head.super.ring next-queued.0
    next-place =
        let at : next-queued.0.sequence ≡ number (l.head.place.sequence + l.tail.written) = sequence-linked (epoch_of l.head) l.head.place.sequence l.tail.blocks l.tail.chain l.tail.written next-queued.0 h.closed.linked next-queued.1 in
        let same : sequence ≡ next-queued.0.sequence = sym sequence-same ∙ ap number (first-is l h ring region of) ∙ sym at in
        ap (λ (n : ℕ). 2 + sequence % n) of.size ∙ ap (λ (n : ℕ). 2 + n % l.head.super.ring) same

    -- and with what
    pub next-bytes : first_bytes ring.epoch (drop l.tail.written l.tail.blocks) ≡ bytes_in (epoch_of l.head) next-queued.0
    next-bytes = ap (first_bytes ring.epoch) (drop-get l.tail.blocks l.tail.written next-queued.0 next-queued.1) ∙ ap (λ (n : ℕ). journal_block next-queued.0.sequence n next-queued.0.chain next-queued.0.text) of.epoch

  drop-one : (n : ℕ) (xs : List Queued) → drop 1 (drop n xs) ≡ drop (n + 1) xs
  drop-one zero xs = refl
  drop-one (suc n) [] = let further : suc (n + 1) ≡ suc n + 1 = omega arith in ap (λ (k : ℕ). drop {A = Queued} k []) further
  drop-one (suc n) (x ∷ xs) = let further : suc (n + 1) ≡ suc n + 1 = omega arith in drop-one n xs ∙ ap (λ (k : ℕ). drop k (x ∷ xs)) further

  pub written-ring : (new : RingState) (pool : Region) → new ≡ without_first ring → HoldsQueue new pool (drop 1 (drop l.tail.written l.tail.blocks)) → IsRingFor (written_session l) new pool
  written-ring new pool e holds = record {
    sequence = ap (λ (x : RingState). x.start.sequence) e ∙ of.sequence;
    size = ap (λ (x : RingState). x.size) e ∙ of.size;
    epoch = ap (λ (x : RingState). x.epoch) e ∙ of.epoch;
    closed = omega (arith, ap (λ (x : RingState). x.closed) e, of.closed);
    chain = ap (λ (x : RingState). x.chain) e ∙ of.chain;
    text = ap (λ (x : RingState). x.text) e ∙ of.text;
    queue = subst (HoldsQueue new pool) (drop-one l.tail.written l.tail.blocks) holds;
  }

-- a write at a place with bytes is one at an equal place with equal bytes
pub made-as : (before after : ℕ) (last ok : Bool) (told now : Option DiskRecord) (at place : ℕ) (bytes block : List ℕ) (keeps : Type 0) → at ≡ place → bytes ≡ block
    → MadeOrNot before after last ok (Writes told now at bytes ok) keeps → MadeOrNot before after last ok (Writes told now place block ok) keeps
made-as before after last ok told now at place bytes block keeps e f h =
    subst (λ (b : List ℕ). MadeOrNot before after last ok (Writes told now place b ok) keeps) f
    (subst (λ (a : ℕ). MadeOrNot before after last ok (Writes told now a bytes ok) keeps) e h)
