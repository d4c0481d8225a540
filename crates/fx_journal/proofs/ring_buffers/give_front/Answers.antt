use Rattle.std.proofs.Common.{◌≡◌, true, false, List, drop, sym, subst, ap, arith}
use Rattle.fx_pool.specs.Region.{Run}
use Rattle.fx_journal.specs.Ring.{run_at, KeepsBuffers}
use Rattle.fx_journal.proofs.Counted.{given}
use Rattle.fx_journal.proofs.Buffers.{first-out, kept-first, others-given}
use Rattle.fx_journal.proofs.ring_buffers.give_front.Goals as goal

pub unreachable-requires : goal.unreachable-requires
unreachable-requires c = let bad : false ≡ true = c.in_default.ensures.variant.1 (omega (arith, c.args.buffers.now.ok.0)) in cc

pub give-requires : goal.give-requires
give-requires c = (first-out c.args.buffers.now.items c.pop_front.new.self.items c.in-Some.buffer c.args.pool.now c.in-Some.ensures.items c.requires.buffers).0

pub returns-clause-left : goal.returns-clause-left
returns-clause-left c = sym (ap (λ (l : List Run). drop 1 l) c.in-Some.ensures.items)

pub returns-clause-gave : goal.returns-clause-gave
returns-clause-gave c = record {
  buffers = kept-first c.in-Some.buffer c.pop_front.new.self.items c.args.pool.now c.give.new.self
      (subst (λ (l : List Run). KeepsBuffers l c.args.pool.now) c.in-Some.ensures.items c.requires.buffers) c.give.ensures.kept.sound c.give.ensures.still_out;
  others = others-given c.args.buffers.now.items c.in-Some.buffer 0 c.args.pool.now c.give.new.self c.requires.enough
      (ap (λ (l : List Run). run_at l 0) c.in-Some.ensures.items) c.give.ensures.kept.order c.give.ensures.kept.bytes c.give.ensures.still_out;
  bytes = c.give.ensures.kept.bytes;
  counted = let first = first-out c.args.buffers.now.items c.pop_front.new.self.items c.in-Some.buffer c.args.pool.now c.in-Some.ensures.items c.requires.buffers in
      given c.args.pool.now c.give.new.self c.in-Some.buffer c.requires.buffers.sound first.0 first.1 c.give.ensures.out;
}
