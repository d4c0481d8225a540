use Rattle.std.proofs.Common.{◌≡◌, ℕ, ◌+◌, ◌<◌, List, ◌++◌, length, refl, sym, ◌∙◌, subst, ap, arith}
use Rattle.std.proofs.lemmas.List.{get_or_default}
use Rattle.fx_jblock.specs.Block.{Holds, body}
use Rattle.fx_sum.specs.Checksum.{fletch}
use Rattle.fx_pool.specs.Region.{bytes_of}
use Rattle.fx_journal.specs.Ring.{RingState, KeepsBuffers, run_at, number, next_place}
use Rattle.fx_journal.proofs.Queues.{holds-closes, seen-closes}
use Rattle.fx_journal.proofs.ring.Ring.close_with.Goals as goal

pub returns-clause-queue : goal.returns-clause-queue
returns-clause-queue c =
    let i = c.self.inside in
    let ring : RingState = record { start = i.start; size = i.size; epoch = i.epoch; closed = i.closed; chain = i.chain; text = i.text.items; promised = i.promised; queued = i.queued; buffers = i.buffers.items } in
    let kept : KeepsBuffers i.buffers.items c.args.pool.now = subst (λ (r : RingState). KeepsBuffers r.buffers c.args.pool.now) (sym c.self.view_is) c.requires.buffers in
    let sequence : c.next_sequence-sequence.result ≡ number (next_place ring) = c.next_sequence-sequence.ensures ∙ ap (λ (r : RingState). number (next_place r)) (sym c.self.view_is) in
    let text : c.deref-2.result.now ≡ i.text.items ++ c.args.piece.now = c.deref-2.ensures.value ∙ c.in-Ok.ensures.items in
    let room : i.queued < length i.buffers.items = omega (arith, c.in-Some.ensures.variant.0 refl, i.buffers.ok.0) in
    let at : c.in-Some.buffer.now ≡ run_at i.buffers.items i.queued = c.in-Some.ensures.lookup ∙ get_or_default i.buffers.items i.queued c.in-Some.buffer.now (record { start = 0; order = 0 }) room in
    let after : c.pack_into-self-inside.result ≡ fletch i.chain (body (number (next_place ring)) i.epoch (i.text.items ++ c.args.piece.now)) =
    c.pack_into-self-inside.ensures.chain
    ∙ ap (λ (s : ℕ). fletch i.chain (body s i.epoch c.deref-2.result.now)) sequence
    ∙ ap (λ (t : List ℕ). fletch i.chain (body (number (next_place ring)) i.epoch t)) text in
    let packed_1 = subst (λ (s : ℕ). Holds (bytes_of c.pack_into-self-inside.new.pool c.in-Some.buffer.now) s i.epoch i.chain c.deref-2.result.now) sequence c.pack_into-self-inside.ensures.holds in
    let packed = subst (λ (t : List ℕ). Holds (bytes_of c.pack_into-self-inside.new.pool c.in-Some.buffer.now) (number (next_place ring)) i.epoch i.chain t) text packed_1 in
    seen-closes ring c.args.self.now _ c.args.piece.now c.args.pool.now c.pack_into-self-inside.new.pool c.self.view_is
    (holds-closes ring c.args.piece.now _ _ _ c.args.pool.now c.pack_into-self-inside.new.pool c.in-Some.buffer.now c.self.invariant.0 kept after room at packed c.pack_into-self-inside.ensures.wrote.others)
