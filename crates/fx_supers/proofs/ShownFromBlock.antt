-- What every image left now shows of the ring: a prefix of what was read and closed, from each start.
use Rattle.std.proofs.Common.{◌≡◌, ℕ, ◌+◌, ◌^◌, ◌≤◌, ◌<◌, ◌⊎◌, inl, inr, List, [], length, take, drop, sym, subst, ◌∙◌, ap, arith, length-drop}
use Rattle.std.specs.Prelude.{Some, slice_get}
use Rattle.std.proofs.lemmas.Bool.{cases_lt}
use Rattle.std.proofs.lemmas.List.{length-map, length-take}
use Rattle.std.proofs.lemmas.Option.{slice_get_within, slice_get_cases}
use Rattle.fx_disk.specs.Record.{DiskRecord, LeftNow, cell_after, cell_now}
use Rattle.fx_disk.proofs.Cells.{image-candidate}
use Rattle.fx_jblock.specs.declared.Start.{Start}
use Rattle.fx_journal.specs.declared.stream.StreamBlock.{StreamBlock}
use Rattle.fx_journal.specs.Stream.{IsRun, StandsAt, bytes_for, place_of}
use Rattle.fx_journal.specs.Ring.{Queued, IsLinked}
use Rattle.fx_journal.proofs.Runs.{run_next, ended_run}
use Rattle.fx_log.specs.Chance.{IsTrueBlock}
use Rattle.fx_log.specs.Ring.{place_in, bytes_in, in_stream, as_stream}
use Rattle.fx_log.proofs.StreamNext.{Leads, leads, run-raised}
use Rattle.fx_supers.specs.Cells.{AreClosedBlocks, IsBlockFor, IsTriedBy, HoldsRing}
use Rattle.fx_supers.specs.Shown.{HasTrueRun, ShowsRun}
use Rattle.fx_supers.specs.SessionLog.{BeginsBefore}
use Rattle.fx_supers.proofs.BlockSequence.{same-sequence}
use Rattle.fx_supers.proofs.ClosedBlocks.{one-records, records-drop, linked-drop, get-of_drop, made-sequence}

module _ (r : DiskRecord) (from ring generation : ℕ) (place : Start) (blocks : List Queued) (chain : ℕ) (made : AreClosedBlocks ring (generation + 1) place blocks chain)
    (live written settled : ℕ) (h : HoldsRing r from ring (generation + 1) blocks live written settled)
    (filled : 1 ≤ ring) (room : ring + 2 ≤ length r.entry) (image : List (List ℕ)) (left : LeftNow r image) (most : ℕ) (upto : generation + 1 ≤ most) (fits : most < 2 ^ 64) where
  abbrev epoch : ℕ
  epoch = generation + 1

  on-disk : (n : ℕ) → place_of ring n < length r.entry
  on-disk n = omega (arith, filled, room)

  in-ring : (n : ℕ) → place_of ring n < ring + 2
  in-ring n = omega (arith, filled)

  -- ---- why a block of another time does not continue a run

  -- A block of the session that stands at a place is the one that belongs there.
  not-made : (at : Start) (k : ℕ) (block : StreamBlock) → at.sequence ≡ place.sequence + k → k < length blocks + ring → StandsAt image ring most at block
      → ((q : Queued) → slice_get blocks k ≡ Some q → bytes_for image ring q.sequence ≡ bytes_in epoch q → ⊥) → IsBlockFor ring epoch blocks (place_of ring at.sequence) (bytes_for image ring at.sequence) → ⊥
  not-made at k block is few stands none m =
      let mine : m.block.sequence ≡ place.sequence + m.index = made-sequence ring epoch place blocks chain made m.index m.block m.here in
      let within : m.index < length blocks = slice_get_within blocks m.index m.block m.here in
      let same : m.block.sequence ≡ at.sequence = same-sequence m.block.sequence at.sequence epoch block.epoch m.block.chain at.chain m.block.text block.records
      (omega (arith, mine, within, made.low)) (omega (arith, is, few, made.low)) (omega (arith, upto, fits)) (omega (arith, stands.continues.most, fits))
      (one-records blocks m.index m.block made.records m.here).room stands.continues.holds.room (sym m.bytes ∙ stands.continues.holds.bytes) in
      let index : m.index ≡ k = omega (arith, same, mine, is) in
      none m.block (subst (λ (i : ℕ). slice_get blocks i ≡ Some m.block) index m.here) (ap (bytes_for image ring) same ∙ m.bytes)

  -- So what continues a run where the session's own block does not stand was there before the mount.
  pub from-before : (at : Start) (k : ℕ) (block : StreamBlock) → at.sequence ≡ place.sequence + k → k < length blocks + ring → StandsAt image ring most at block
      → ((q : Queued) → slice_get blocks k ≡ Some q → bytes_for image ring q.sequence ≡ bytes_in epoch q → ⊥)
      → IsTrueBlock (cell_after r from (place_of ring at.sequence)) (cell_now r (place_of ring at.sequence)) generation (bytes_for image ring at.sequence) block.epoch
      → (block.epoch ≤ generation) × (bytes_for image ring at.sequence ≡ (cell_after r from (place_of ring at.sequence)).bytes)
  from-before at k block is few stands none true =
      let b : ℕ = place_of ring at.sequence in
      let t : IsTriedBy ring epoch blocks b (cell_after r from b) (cell_now r b) = h.tried b (omega arith) (in-ring at.sequence) in
      elim (t.held (bytes_for image ring at.sequence) (image-candidate r b image (on-disk at.sequence) left true.torn)) [
        | inl old ↦ (true.old (old, λ since. not-made at k block is few stands none (t.since (bytes_for image ring at.sequence) since)), old)
        | inr m ↦ absurd (not-made at k block is few stands none m)
      ]

  -- a settled block stands
  stands-settled : (k : ℕ) (q : Queued) → slice_get blocks k ≡ Some q → live ≤ k → k < settled → bytes_for image ring q.sequence ≡ bytes_in epoch q
  stands-settled k q e low lt = left.kept (place_in ring q) (on-disk q.sequence) (h.fixed k q e low lt) ∙ (h.good k q e low (omega (arith, lt, h.fewer))).last

  -- the blocks that stand hold all that were settled
  pub least-from : (one count : ℕ) → live ≤ one → one + count ≤ length blocks → ((q : Queued) → slice_get blocks (one + count) ≡ Some q → bytes_for image ring q.sequence ≡ bytes_in epoch q → ⊥) → settled ≤ one + count
  least-from one count low within none = elim (cases_lt (one + count) settled) [
    | inl lt ↦ elim (slice_get_cases blocks (one + count)).1 [
      | inl some ↦ absurd (none some.0 some.2 (stands-settled (one + count) some.0 some.2 (omega (arith, low)) lt))
      | inr past ↦ absurd (omega (arith, past.0, lt, h.fewer, h.most))
    ]
    | inr ge ↦ ge
  ]

  -- ---- a start of the session's

  module _ (n : ℕ) (start : Start) (begins : BeginsBefore epoch place blocks chain n start) (low : live ≤ n) (few : length blocks ≤ n + ring)
      (chance : HasTrueRun (cell_after r from) (cell_now r) generation image ring most start) where
    abbrev rest : List Queued
    rest = drop n blocks

    length-rest : length rest + n ≡ length blocks
    length-rest = omega (arith, length-drop n blocks, begins.within)

    lead : Leads image ring epoch start rest
    lead = leads image ring epoch start rest chain (omega arith) (omega (arith, begins.floor)) (omega (arith, begins.sequence, length-rest, made.low))
        (records-drop n blocks made.records) (sym begins.chain_is)
        (subst (λ (s : ℕ). IsLinked epoch s rest chain) (sym begins.sequence) (linked-drop n epoch place.sequence blocks chain begins.within made.linked))

    abbrev shown : List StreamBlock
    shown = as_stream epoch (take lead.count rest)

    run-shown : IsRun image ring most start shown lead.next
    run-shown = run-raised image ring epoch most start lead.next shown upto lead.run

    length-shown : length shown ≡ lead.count
    length-shown = omega (arith, length-map (take lead.count rest) (in_stream epoch), length-take lead.count rest, lead.most)

    next-is : lead.next.sequence ≡ place.sequence + (n + lead.count)
    next-is = omega (arith, run_next image ring most start lead.next shown run-shown, length-shown, begins.sequence)

    floor-is : lead.next.floor ≡ epoch
    floor-is = elim lead.floor [ inl none ↦ ap (λ (p : Start). p.floor) none.1 ∙ begins.floor | inr some ↦ some ]

    none-there : (q : Queued) → slice_get blocks (n + lead.count) ≡ Some q → bytes_for image ring q.sequence ≡ bytes_in epoch q → ⊥
    none-there q e same = lead.ends q (get-of_drop n blocks lead.count ∙ e) same

    ended : (length shown ≡ ring) ⊎ ((block : StreamBlock) → StandsAt image ring most lead.next block → ⊥)
    ended = elim (cases_lt lead.count ring) [
      | inl lt ↦ inr (λ block stands.
          let old = from-before lead.next (n + lead.count) block next-is (omega (arith, lead.most, length-rest, filled)) stands none-there (chance shown lead.next block run-shown (omega (arith, length-shown, lt)) stands) in
          omega (arith, old.0, floor-is, stands.continues.least))
      | inr ge ↦ inl (omega (arith, ge, length-shown, lead.most, length-rest, few))
    ]

    -- From there the stream is a prefix of the session's blocks, and has all that were settled.
    pub shows-block : ShowsRun image ring epoch most start [] blocks n settled
    shows-block = record {
      count = lead.count;
      least = least-from n lead.count low (omega (arith, lead.most, length-rest)) none-there;
      within = omega (arith, lead.most, length-rest);
      next = lead.next;
      stream = ended_run image ring most start lead.next shown fits (omega (arith, begins.sequence, begins.within, made.low)) run-shown (omega (arith, length-shown, lead.most, length-rest, few)) ended;
    }
