use Rattle.std.proofs.Common.{rules, List, [], ◌∷◌, length, take, refl, sym, ◌∙◌, subst, ap, arith}
use Rattle.std.proofs.lemmas.List.{take_at}
use Rattle.fx_pool.specs.Region.{Run}
use Rattle.fx_journal.specs.Ring.{KeepsBuffers}
use Rattle.fx_journal.proofs.Counted.{taken, free_left}
use Rattle.fx_journal.proofs.Buffers.{kept-push}
use Rattle.fx_journal.proofs.ring_buffers.take_block.Goals as goal

pub unreachable-requires : goal.unreachable-requires
unreachable-requires c = free_left c.args.pool.now c.requires.buffers.sound c.requires.blocks (c.in_default.ensures.none.0 refl)

pub returns-clause-took : goal.returns-clause-took
returns-clause-took c = record {
  buffers = subst (λ (l : List Run). KeepsBuffers l c.take.new.self) (sym c.in-Ok.ensures.items)
      (kept-push c.args.buffers.now.items c.in-Some.buffer c.args.pool.now c.take.new.self c.requires.buffers c.take.ensures.kept.sound c.in-Some.ensures.taken.is_out c.in-Some.ensures.taken.order c.take.ensures.still_out c.in-Some.ensures.taken.apart);
  kept = ap (take (length c.args.buffers.now.items)) c.in-Ok.ensures.items ∙ take_at c.args.buffers.now.items (c.in-Some.buffer ∷ []) (length c.args.buffers.now.items) (omega arith);
  len = search rules;
  others = c.take.ensures.still_out;
  bytes = c.take.ensures.kept.bytes;
  order = c.take.ensures.kept.order;
  counted = taken c.args.pool.now c.take.new.self c.in-Some.buffer c.take.ensures.kept.sound c.in-Some.ensures.taken.is_out c.in-Some.ensures.taken.order c.in-Some.ensures.taken.apart c.in-Some.ensures.taken.out;
}
