use Rattle.std.proofs.Common.{◌≡◌, ℕ, ◌+◌, ◌-◌, ◌<◌, List, ◌++◌, length, take, drop, sym, ◌∙◌, subst, ap, arith}
use Rattle.std.proofs.lemmas.List.{take-append-drop, length-append}
use Rattle.fx_pool.specs.Region.{Run}
use Rattle.fx_journal.specs.Ring.{KeepsBuffers, RingState, IsRing, begun}
use Rattle.fx_journal.proofs.Appending.{going-none, going-more, promise_left, promise_rest, promise_stays, ends-queue, ends-given, ends-others}
use Rattle.fx_journal.proofs.ring.Ring.append.Goals as goal

split_is : (xs front back : List ℕ) (n : ℕ) → front ≡ take n xs → back ≡ drop n xs → xs ≡ front ++ back
split_is xs front back n e f = sym (ap (λ (l : List ℕ). l ++ back) e ∙ ap (λ (l : List ℕ). take n xs ++ l) f ∙ take-append-drop n xs)

pub loop-piece-init : goal.loop-piece-init
loop-piece-init c = going-none c.args.self.now c.args.pool.now c.args.rec.now (subst IsRing c.self.view_is c.self.invariant.0) c.requires.buffers

pub close_with-requires : goal.close_with-requires
close_with-requires c =
    let i = c.loop-piece.invariant in
    let text : c.len.result ≡ length c.loop-piece.self.text = omega (arith, c.len.ensures, ap (λ (r : RingState). length r.text) c.self-in-loop-piece.view_is, c.self-in-loop-piece.inside.text.ok.0) in
    record {
      some = omega (arith, text, i.ring.unfinished_room, c.in-Some.ensures.cases.3);
      room = omega (arith, text, i.ring.unfinished_room, c.in-Some.ensures.cases.3);
      promised = promise_left c.args.self.now c.loop-piece.self c.args.pool.now c.loop-piece.pool c.loop-piece.rest.now c.args.rec.now i (subst IsRing c.self.view_is c.self.invariant.0) c.requires.promised (omega (arith, text, i.ring.unfinished_room, c.in-Some.ensures.cases.0));
      buffers = i.buffers;
    }

pub loop-piece-preserved : goal.loop-piece-preserved
loop-piece-preserved c =
    let i = c.loop-piece.invariant in
    let e = c.close_with.ensures in
    let text : c.len.result ≡ length c.loop-piece.self.text = omega (arith, c.len.ensures, ap (λ (r : RingState). length r.text) c.self-in-loop-piece.view_is, c.self-in-loop-piece.inside.text.ok.0) in
    let split : c.loop-piece.rest.now ≡ c.in-Some.piece.now ++ c.in-Some.later.now =
    split_is c.loop-piece.rest.now c.in-Some.piece.now c.in-Some.later.now (4064 - c.len.result) c.in-Some.ensures.cases.1 c.in-Some.ensures.cases.2 in
    going-more c.args.self.now c.loop-piece.self c.close_with.new.self c.args.pool.now c.loop-piece.pool c.close_with.new.pool c.in-Some.piece.now c.in-Some.later.now c.loop-piece.rest.now c.args.rec.now i
    split (omega (arith, text, i.ring.unfinished_room, c.in-Some.ensures.cases.3))
    (promise_left c.args.self.now c.loop-piece.self c.args.pool.now c.loop-piece.pool c.loop-piece.rest.now c.args.rec.now i (subst IsRing c.self.view_is c.self.invariant.0) c.requires.promised (omega (arith, text, i.ring.unfinished_room, c.in-Some.ensures.cases.0)))
    e.out e.kept.others e.closed e.kept.ring e.kept.buffers e.queue

pub loop-piece-smaller : goal.loop-piece-smaller
loop-piece-smaller c =
    let text : c.len.result ≡ length c.loop-piece.self.text = omega (arith, c.len.ensures, ap (λ (r : RingState). length r.text) c.self-in-loop-piece.view_is, c.self-in-loop-piece.inside.text.ok.0) in
    let smaller : length c.in-Some.later.now < length c.loop-piece.rest.now = omega (arith, text, c.loop-piece.invariant.ring.unfinished_room, c.in-Some.ensures.cases.4) in
    smaller

pub begin_with-requires : goal.begin_with-requires
begin_with-requires c =
    let i = c.loop-piece.invariant in
    let text : c.len.result ≡ length c.loop-piece.self.text = omega (arith, c.len.ensures, ap (λ (r : RingState). length r.text) c.self-in-loop-piece.view_is, c.self-in-loop-piece.inside.text.ok.0) in
    let room : length c.loop-piece.self.text + length c.loop-piece.rest.now < 4064 = omega (arith, text, i.ring.unfinished_room, c.in_default.ensures.cases) in
    record {
      room = room;
      promised = promise_rest c.args.self.now c.loop-piece.self c.args.pool.now c.loop-piece.pool c.loop-piece.rest.now c.args.rec.now i (subst IsRing c.self.view_is c.self.invariant.0) c.requires.promised room;
    }

pub give_promised-requires : goal.give_promised-requires
give_promised-requires c = record {
  promised = omega (arith, ap (λ (r : RingState). r.promised) c.self-2.view_is);
  buffers = subst (λ (l : List Run). KeepsBuffers l c.loop-piece.pool) (sym (ap (λ (r : RingState). r.buffers) c.begin_with.ensures.begun)) c.loop-piece.invariant.buffers;
}

pub overflow_sub-unused : goal.overflow_sub-unused
overflow_sub-unused c =
    let i = c.loop-piece.invariant in
    let text : c.len.result ≡ length c.loop-piece.self.text = omega (arith, c.len.ensures, ap (λ (r : RingState). length r.text) c.self-in-loop-piece.view_is, c.self-in-loop-piece.inside.text.ok.0) in
    let room : length c.loop-piece.self.text + length c.loop-piece.rest.now < 4064 = omega (arith, text, i.ring.unfinished_room, c.in_default.ensures.cases) in
    let stays = promise_stays c.args.self.now c.loop-piece.self c.args.pool.now c.loop-piece.pool c.loop-piece.rest.now c.args.rec.now i (subst IsRing c.self.view_is c.self.invariant.0) c.requires.promised room in
    omega (arith, stays, c.want_of.ensures, ap (λ (r : RingState). r.promised) c.self.view_is, ap (λ (r : RingState). r.promised) c.self-2.view_is, ap (λ (r : RingState). r.promised) c.begin_with.ensures.begun)

pub returns-clause-queue : goal.returns-clause-queue
returns-clause-queue c =
    ends-queue c.args.self.now c.loop-piece.self c.begin_with.new.self c.give_promised.new.self c.args.pool.now c.loop-piece.pool c.give_promised.new.pool c.loop-piece.rest.now c.args.rec.now _ c.loop-piece.invariant c.begin_with.ensures.begun c.give_promised.ensures.cancelled.ring c.give_promised.ensures.queue

pub returns-clause-kept : goal.returns-clause-kept
returns-clause-kept c = record {
  size = ap (λ (r : RingState). r.size) c.give_promised.ensures.cancelled.ring ∙ ap (λ (r : RingState). r.size) c.begin_with.ensures.begun ∙ c.loop-piece.invariant.size;
  epoch = ap (λ (r : RingState). r.epoch) c.give_promised.ensures.cancelled.ring ∙ ap (λ (r : RingState). r.epoch) c.begin_with.ensures.begun ∙ c.loop-piece.invariant.epoch;
  ring = c.give_promised.ensures.kept.ring;
  buffers = c.give_promised.ensures.kept.buffers;
  others = ends-others c.args.self.now c.loop-piece.self c.begin_with.new.self c.args.pool.now c.loop-piece.pool c.give_promised.new.pool c.loop-piece.rest.now c.args.rec.now c.loop-piece.invariant c.begin_with.ensures.begun c.give_promised.ensures.kept.others;
}

pub returns-clause-counts : goal.returns-clause-counts
returns-clause-counts c = record {
  promised = let i = c.loop-piece.invariant in
      let text : c.len.result ≡ length c.loop-piece.self.text = omega (arith, c.len.ensures, ap (λ (r : RingState). length r.text) c.self-in-loop-piece.view_is, c.self-in-loop-piece.inside.text.ok.0) in
      let room : length c.loop-piece.self.text + length c.loop-piece.rest.now < 4064 = omega (arith, text, i.ring.unfinished_room, c.in_default.ensures.cases) in
      let stays = promise_stays c.args.self.now c.loop-piece.self c.args.pool.now c.loop-piece.pool c.loop-piece.rest.now c.args.rec.now i (subst IsRing c.self.view_is c.self.invariant.0) c.requires.promised room in
      omega (arith, stays, c.want_of.ensures, ap (λ (r : RingState). r.promised) c.self.view_is, ap (λ (r : RingState). r.promised) c.self-2.view_is, ap (λ (r : RingState). r.promised) c.begin_with.ensures.begun, ap (λ (r : RingState). r.promised) c.give_promised.ensures.cancelled.ring);
  counted = omega (arith, c.loop-piece.invariant.counted, length-append c.loop-piece.self.text c.loop-piece.rest.now, ap (λ (r : RingState). length r.text) c.begin_with.ensures.begun, ap (λ (r : RingState). length r.text) c.give_promised.ensures.cancelled.ring, ap (λ (r : RingState). r.closed) c.begin_with.ensures.begun, ap (λ (r : RingState). r.closed) c.give_promised.ensures.cancelled.ring);
  queued = omega (arith, c.loop-piece.invariant.queued, ap (λ (r : RingState). r.queued) c.begin_with.ensures.begun, ap (λ (r : RingState). r.queued) c.give_promised.ensures.cancelled.ring, ap (λ (r : RingState). r.closed) c.begin_with.ensures.begun, ap (λ (r : RingState). r.closed) c.give_promised.ensures.cancelled.ring);
  start = ap (λ (r : RingState). r.start) c.give_promised.ensures.cancelled.ring ∙ ap (λ (r : RingState). r.start) c.begin_with.ensures.begun ∙ c.loop-piece.invariant.start;
  given = ends-given c.args.self.now c.loop-piece.self c.begin_with.new.self c.give_promised.new.self c.args.pool.now c.loop-piece.pool c.give_promised.new.pool c.loop-piece.rest.now c.args.rec.now _ c.loop-piece.invariant (subst IsRing c.self.view_is c.self.invariant.0) c.begin_with.ensures.ring c.give_promised.ensures.kept.ring c.begin_with.ensures.begun c.give_promised.ensures.cancelled.ring
      (omega (arith, ap (λ (r : RingState). r.promised) c.self-2.view_is)) c.give_promised.ensures.cancelled.given;
}
