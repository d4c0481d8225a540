use Rattle.std.proofs.Common.{◌≡◌, Some, None, ◌-◌, ◌<◌, true, false, List, length, drop, arith, sym, subst, ◌∙◌, ap, refl}
use Rattle.std.proofs.lemmas.List.{get_or_default, length-drop}
use Rattle.fx_disk.proofs.Frames.{called_same, write_called}
use Rattle.fx_pool.specs.Region.{Run, IsOut, bytes_of}
use Rattle.fx_journal.specs.Ring.{RingState, IsRing, KeepsBuffers, KeepsRest, run_at, next_block, without_first}
use Rattle.fx_journal.specs.Writing.{wrote, block_at}
use Rattle.fx_journal.proofs.Buffers.{keeps-same}
use Rattle.fx_journal.proofs.Queues.{holds-first, seen-first}
use Rattle.fx_journal.proofs.Writes.{next-waits, first-written, written-as, ring-without_first}
use Rattle.fx_journal.proofs.ring.Ring.write_next.Goals as goal

pub returns-in_default : goal.returns-in_default
returns-in_default g c =
    let none : next_block c.args.self.now c.args.before ≡ None = sym c.next_to_write.ensures ∙ c.in_default.is in
    record {
      answer = ap wrote (sym none);
      nothing = λ e. (refl, refl, refl, refl);
      first = λ s e. cc;
      fault = tt;
      given = refl;
      kept = keeps-same c.args.self.now c.args.pool.now (subst IsRing c.self.view_is c.self.invariant.0) c.requires.buffers;
      disk = called_same (g.D.Disk.seen c.args.disk.now);
      reads = refl;
    }

pub unreachable-requires : goal.unreachable-requires
unreachable-requires g c =
    let some : next_block c.args.self.now c.args.before ≡ Some c.in-Some.sequence = sym c.next_to_write.ensures ∙ c.in-Some.is in
    let waits : 0 < c.args.self.now.queued = next-waits c.args.self.now c.args.before c.in-Some.sequence some in
    let bad : false ≡ true = c.in_default-front.ensures.variant.1 (omega (arith, waits, ap (λ (r : RingState). r.queued) c.self.view_is, c.self.invariant.0.buffers_len, c.self.inside.buffers.ok.0)) in
    cc

pub write_buffer-requires : goal.write_buffer-requires
write_buffer-requires g c =
    let i = c.self.inside in
    let kept : KeepsBuffers i.buffers.items c.args.pool.now = subst (λ (r : RingState). KeepsBuffers r.buffers c.args.pool.now) (sym c.self.view_is) c.requires.buffers in
    let some : 0 < length i.buffers.items = omega (arith, c.in-Some-front.ensures.variant.0 refl, i.buffers.ok.0) in
    let at : run_at i.buffers.items 0 ≡ c.in-Some-front.buffer.now = sym (c.in-Some-front.ensures.lookup ∙ get_or_default i.buffers.items 0 c.in-Some-front.buffer.now (record { start = 0; order = 0 }) some) in
    record {
      out = subst (λ (r : Run). IsOut c.args.pool.now r) at (kept.out 0 some);
      single = sym (ap (λ (r : Run). r.order) at) ∙ kept.single 0 some;
      within = omega (arith, c.requires.disk, c.block_number-at.ensures.within, ap (λ (r : RingState). r.size) c.self.view_is);
    }

pub returns-in-Err : goal.returns-in-Err
returns-in-Err g c =
    let i = c.self.inside in
    let some : next_block c.args.self.now c.args.before ≡ Some c.in-Some.sequence = sym c.next_to_write.ensures ∙ c.in-Some.is in
    let here : 0 < length i.buffers.items = omega (arith, c.in-Some-front.ensures.variant.0 refl, i.buffers.ok.0) in
    let at : run_at c.args.self.now.buffers 0 ≡ c.in-Some-front.buffer.now =
    ap (λ (r : RingState). run_at r.buffers 0) (sym c.self.view_is)
    ∙ sym (c.in-Some-front.ensures.lookup ∙ get_or_default i.buffers.items 0 c.in-Some-front.buffer.now (record { start = 0; order = 0 }) here) in
    let place : c.block_number-at.result ≡ block_at c.args.self.now c.in-Some.sequence = c.block_number-at.ensures.place ∙ ap (λ (r : RingState). block_at r c.in-Some.sequence) c.self.view_is in
    record {
      answer = tt;
      nothing = λ e. cc;
      first = λ s e. record {
        made = λ queue h.
            let same : c.in-Some.sequence ≡ s = cc in
            written-as _ _ _ _ _ _ _ (place ∙ ap (block_at c.args.self.now) same)
            (ap (bytes_of c.args.pool.now) (sym at) ∙ first-written c.args.self.now c.args.pool.now c.args.before s queue e h) c.in-Err.ensures.written;
        written = tt;
        queue = λ queue h. tt;
      };
      fault = (refl, refl);
      given = refl;
      kept = keeps-same c.args.self.now c.args.pool.now (subst IsRing c.self.view_is c.self.invariant.0) c.requires.buffers;
      disk = write_called _ _ _ _ _ c.in-Err.ensures.written;
      reads = c.in-Err.ensures.written.reads;
    }

pub give_first-requires : goal.give_first-requires
give_first-requires g c = record {
  buffers = subst (λ (r : RingState). KeepsBuffers r.buffers c.args.pool.now) (sym c.self.view_is) c.requires.buffers;
  enough = omega (arith, c.in-Some-front.ensures.variant.0 refl, c.self.inside.buffers.ok.0);
}

pub returns : goal.returns
returns g c =
    let i = c.self.inside in
    let ring : RingState = record { start = i.start; size = i.size; epoch = i.epoch; closed = i.closed; chain = i.chain; text = i.text.items; promised = i.promised; queued = i.queued; buffers = i.buffers.items } in
    let some : next_block c.args.self.now c.args.before ≡ Some c.in-Some.sequence = sym c.next_to_write.ensures ∙ c.in-Some.is in
    let waits : 0 < i.queued = omega (arith, next-waits c.args.self.now c.args.before c.in-Some.sequence some, ap (λ (r : RingState). r.queued) c.self.view_is) in
    let here : 0 < length i.buffers.items = omega (arith, c.in-Some-front.ensures.variant.0 refl, i.buffers.ok.0) in
    let at : run_at c.args.self.now.buffers 0 ≡ c.in-Some-front.buffer.now =
    ap (λ (r : RingState). run_at r.buffers 0) (sym c.self.view_is)
    ∙ sym (c.in-Some-front.ensures.lookup ∙ get_or_default i.buffers.items 0 c.in-Some-front.buffer.now (record { start = 0; order = 0 }) here) in
    let place : c.block_number-at.result ≡ block_at c.args.self.now c.in-Some.sequence = c.block_number-at.ensures.place ∙ ap (λ (r : RingState). block_at r c.in-Some.sequence) c.self.view_is in
    let left : c.give_first.new.buffers.items ≡ drop 1 i.buffers.items = c.give_first.ensures.left in
    let leaves : without_first ring ≡ without_first c.args.self.now = ap without_first c.self.view_is in
    record {
      answer = ap wrote (sym some);
      nothing = λ e. cc;
      first = λ s e. record {
        made = λ queue h.
            let same : c.in-Some.sequence ≡ s = cc in
            written-as _ _ _ _ _ _ _ (place ∙ ap (block_at c.args.self.now) same)
            (ap (bytes_of c.args.pool.now) (sym at) ∙ first-written c.args.self.now c.args.pool.now c.args.before s queue e h) c.in_default-write_buffer.ensures.written;
        written = ap (λ (l : List Run). let next : RingState = record { start = i.start; size = i.size; epoch = i.epoch; closed = i.closed; chain = i.chain; text = i.text.items; promised = i.promised; queued = i.queued - 1; buffers = l } in next) left ∙ leaves;
        queue = λ queue.
            seen-first ring c.args.self.now _ c.args.pool.now c.give_first.new.pool c.self.view_is
            (holds-first ring i.start i.closed 1 c.give_first.new.buffers.items c.args.pool.now c.give_first.new.pool c.self.invariant.0 refl waits left c.give_first.ensures.gave.bytes) queue;
      };
      given = omega (arith, c.give_first.ensures.gave.counted, ap length left, length-drop 1 i.buffers.items, here, ap (λ (r : RingState). length r.buffers) c.self.view_is);
      fault = tt;
      kept = record {
        size = ap (λ (r : RingState). r.size) c.self.view_is;
        epoch = ap (λ (r : RingState). r.epoch) c.self.view_is;
        ring = subst (λ (l : List Run). let next : RingState = record { start = i.start; size = i.size; epoch = i.epoch; closed = i.closed; chain = i.chain; text = i.text.items; promised = i.promised; queued = i.queued - 1; buffers = l } in IsRing next) (sym left) (ring-without_first ring c.self.invariant.0 waits);
        buffers = c.give_first.ensures.gave.buffers;
        others = subst (λ (r : RingState). KeepsRest r.buffers c.args.pool.now c.give_first.new.pool) c.self.view_is c.give_first.ensures.gave.others;
      };
      disk = write_called _ _ _ _ _ c.in_default-write_buffer.ensures.written;
      reads = c.in_default-write_buffer.ensures.written.reads;
    }
