-- What every image left now shows of the ring from the start that the mount found.
use Rattle.std.proofs.Common.{◌≡◌, ℕ, ◌+◌, ◌%◌, ◌^◌, ◌≤◌, ◌<◌, ◌⊎◌, inl, inr, List, [], ◌∷◌, ◌++◌, length, take, get_or, sym, subst, ◌∙◌, ap, arith}
use Rattle.std.specs.Prelude.{Some, slice_get}
use Rattle.std.proofs.lemmas.Bool.{cases_lt}
use Rattle.std.proofs.lemmas.List.{append-nil, length-append, length-map, length-take}
use Rattle.std.proofs.lemmas.Option.{slice_get_within}
use Rattle.fx_disk.specs.Record.{DiskRecord, Cell, LeftNow, cell_after, cell_now}
use Rattle.fx_super.specs.Super.{Fields, KeepsRules}
use Rattle.fx_jblock.specs.declared.Start.{Start}
use Rattle.fx_journal.specs.declared.stream.StreamBlock.{StreamBlock}
use Rattle.fx_journal.specs.Stream.{IsRun, IsStream, StandsAs, StandsAt, bytes_for, place_of, place_after}
use Rattle.fx_journal.specs.Ring.{Queued}
use Rattle.fx_journal.proofs.Runs.{run_joined, run_more, run_next, same_run, same_stream, ended_run}
use Rattle.fx_log.specs.Chosen.{start_of}
use Rattle.fx_log.specs.Ring.{BeganWith, IsElsewhere, in_stream, as_stream}
use Rattle.fx_log.proofs.RingClosed.{rules-begun, place-begun}
use Rattle.fx_log.proofs.StreamNext.{Leads, leads, run-raised, stands-lower}
use Rattle.fx_log.proofs.RingPlaces.{same_place}
use Rattle.fx_supers.specs.Cells.{AreClosedBlocks, HoldsRing}
use Rattle.fx_supers.specs.Shown.{HasTrueRun, ShowsRun}
use Rattle.fx_supers.proofs.ShownFromBlock.{from-before, least-from}
use Rattle.fx_supers.proofs.ClosedBlocks.{made-sequence}

-- the place after a run has no greater floor than its blocks may have
run-floor : (image : List (List ℕ)) (ring generation : ℕ) (start next : Start) (blocks : List StreamBlock) → start.floor ≤ generation → IsRun image ring generation start blocks next → next.floor ≤ generation
run-floor image ring generation start next [] le run = omega (arith, le, ap (λ (p : Start). p.floor) run)
run-floor image ring generation start next (b ∷ bs) le run = run-floor image ring generation (place_after start b) next bs run.0.continues.most run.1

module _ (r : DiskRecord) (from : ℕ) (f : Fields) (first : List (List ℕ)) (read : List StreamBlock) (place : Start) (began : BeganWith r from f first read place)
    (blocks : List Queued) (chain : ℕ) (made : AreClosedBlocks f.ring (f.generation + 1) place blocks chain) (written settled : ℕ) (h : HoldsRing r from f.ring (f.generation + 1) blocks 0 written settled)
    (few : length read + length blocks ≤ f.ring) (image : List (List ℕ)) (left : LeftNow r image) (most : ℕ) (upto : f.generation + 1 ≤ most) (fits : most < 2 ^ 64)
    (chance : HasTrueRun (cell_after r from) (cell_now r) f.generation image f.ring most (start_of f)) where
  abbrev rules : KeepsRules f
  rules = rules-begun r from f first read place began

  abbrev epoch : ℕ
  epoch = f.generation + 1

  filled : 1 ≤ f.ring
  filled = omega (arith, rules.ring_least)

  room : f.ring + 2 ≤ length r.entry
  room = omega (arith, rules.blocks_least, began.blocks)

  -- a block of the disk that was not written since has the bytes that it began with
  still-bytes : (b : ℕ) → b < length r.entry → cell_now r b ≡ cell_after r from b → get_or first b [] ≡ get_or image b []
  still-bytes b lt same = began.begins.bytes b lt ∙ sym (left.kept b lt (ap (λ (c : Cell). c.loose) same ∙ began.begins.settled b lt) ∙ ap (λ (c : Cell). c.bytes) same)

  -- no block of the session belongs where a block that was read stands
  elsewhere : (n : ℕ) → n < length read → IsElsewhere f.ring blocks (place_of f.ring (f.sequence + n))
  elsewhere n lt i q e same =
      let within : i < length blocks = slice_get_within blocks i q e in
      let at : q.sequence ≡ f.sequence + (length read + i) = made-sequence f.ring epoch place blocks chain made i q e ∙ omega (arith, place-begun r from f first read place began) in
      let mods : q.sequence % f.ring ≡ (f.sequence + n) % f.ring = omega (arith, same) in
      let one : length read + i ≡ n = same_place f.ring f.sequence (length read + i) n (omega (arith, few, within)) (omega (arith, few, within, lt)) (ap (λ (k : ℕ). k % f.ring) (sym at) ∙ mods) in
      omega (arith, one, lt)

  run-read : IsRun image f.ring most (start_of f) read place
  run-read = run-raised image f.ring f.generation most (start_of f) place read (omega (arith, upto))
      (same_run first image f.ring f.generation (start_of f) place read
      (λ k lt. still-bytes (place_of f.ring (f.sequence + k)) (omega (arith, filled, room)) (h.others (place_of f.ring (f.sequence + k)) (omega arith) (omega (arith, filled)) (elsewhere k lt)))
      began.stream.run)

  floor-low : place.floor ≤ f.generation
  floor-low = run-floor first f.ring f.generation (start_of f) place read rules.floor_most began.stream.run

  lead : Leads image f.ring epoch place blocks
  lead = leads image f.ring epoch place blocks chain (omega arith) (omega (arith, floor-low)) (omega (arith, made.low)) made.records made.first made.linked

  abbrev closed : List StreamBlock
  closed = as_stream epoch (take lead.count blocks)

  abbrev whole : List StreamBlock
  whole = read ++ closed

  run-whole : IsRun image f.ring most (start_of f) whole lead.next
  run-whole = run_joined image f.ring most (start_of f) place lead.next read closed run-read (run-raised image f.ring epoch most place lead.next closed upto lead.run)

  length-whole : length whole ≡ length read + lead.count
  length-whole = omega (arith, length-append read closed, length-map (take lead.count blocks) (in_stream epoch), length-take lead.count blocks, lead.most)

  next-is : lead.next.sequence ≡ place.sequence + lead.count
  next-is = omega (arith, run_next image f.ring most (start_of f) lead.next whole run-whole, length-whole, place-begun r from f first read place began)

  -- What began could not go on after what was read, and after a block of this session nothing from before can.
  no-longer : (block : StreamBlock) → length whole < f.ring → StandsAt image f.ring most lead.next block
      → (block.epoch ≤ f.generation) × (bytes_for image f.ring lead.next.sequence ≡ (cell_after r from (place_of f.ring lead.next.sequence)).bytes) → ⊥
  no-longer block lt stands old = elim lead.floor [
    | inl none ↦
        let same : get_or first (place_of f.ring lead.next.sequence) [] ≡ bytes_for image f.ring lead.next.sequence = began.begins.bytes (place_of f.ring lead.next.sequence) (omega (arith, filled, room)) ∙ sym old.1 in
        let there : StandsAt first f.ring f.generation place block = subst (λ (p : Start). StandsAt first f.ring f.generation p block) none.1
        (stands-lower (get_or first (place_of f.ring lead.next.sequence) []) f.generation most lead.next block old.0 (subst (λ (bytes : List ℕ). StandsAs bytes most lead.next block) (sym same) stands)) in
        let longer : IsRun first f.ring f.generation (start_of f) (read ++ block ∷ []) (place_after place block) = run_more first f.ring f.generation (start_of f) place read block began.stream.run there in
        omega (arith, began.stream.longest (read ++ block ∷ []) (place_after place block) longer (omega (arith, length-append read (block ∷ []), lt, length-whole)), length-append read (block ∷ []))
    | inr some ↦ omega (arith, some, stands.continues.least, old.0)
  ]

  ended-whole : (length whole ≡ f.ring) ⊎ ((block : StreamBlock) → StandsAt image f.ring most lead.next block → ⊥)
  ended-whole = elim (cases_lt (length whole) f.ring) [
    | inl lt ↦ inr (λ block stands. no-longer block lt stands
        (from-before r from f.ring f.generation place blocks chain made 0 written settled h filled room image left most upto fits lead.next lead.count block next-is (omega (arith, lead.most, filled)) stands lead.ends
        (chance whole lead.next block run-whole lt stands)))
    | inr ge ↦ inl (omega (arith, ge, length-whole, lead.most, few))
  ]

  -- From the mount's start the stream is what was read and a prefix of the session's blocks, with all that were settled.
  pub shows-mount : ShowsRun image f.ring epoch most (start_of f) read blocks 0 settled
  shows-mount = record {
    count = lead.count;
    least = least-from r from f.ring f.generation place blocks chain made 0 written settled h filled room image left most upto fits 0 lead.count (omega arith) (omega (arith, lead.most))
        (λ q e same. (let none : 0 + lead.count ≡ lead.count = omega arith in lead.ends q (subst (λ (k : ℕ). slice_get blocks k ≡ Some q) none e) same));
    within = omega (arith, lead.most);
    next = lead.next;
    stream = ended_run image f.ring most (start_of f) lead.next whole fits (omega (arith, rules.sequence_below, rules.ring_most)) run-whole (omega (arith, length-whole, lead.most, few)) ended-whole;
  }

-- Before any block is closed, the stream of the superblock that was mounted is what was read.
pub shows-still : (r : DiskRecord) (from : ℕ) (f : Fields) (first : List (List ℕ)) (read : List StreamBlock) (place : Start) → BeganWith r from f first read place
    → (epoch live written settled : ℕ) → HoldsRing r from f.ring epoch [] live written settled → (image : List (List ℕ)) → LeftNow r image → ShowsRun image f.ring epoch f.generation (start_of f) read [] 0 settled
shows-still r from f first read place began epoch live written settled h image left =
    let rules : KeepsRules f = rules-begun r from f first read place began in
    record {
      count = 0;
      least = omega (arith, h.fewer, h.most);
      within = omega arith;
      next = place;
      stream = subst (λ (bs : List StreamBlock). IsStream image f.ring f.generation (start_of f) bs place) (sym (append-nil read))
          (same_stream first image f.ring f.generation (start_of f) place read (omega (arith, rules.ring_least))
          (λ b two lt.
          (let within : b < length r.entry = omega (arith, lt, rules.blocks_least, began.blocks) in
          let same : cell_now r b ≡ cell_after r from b = h.others b two lt (λ i q e. absurd (cc)) in
          began.begins.bytes b within ∙ sym (left.kept b within (ap (λ (c : Cell). c.loose) same ∙ began.begins.settled b within) ∙ ap (λ (c : Cell). c.bytes) same)))
          began.stream);
    }
