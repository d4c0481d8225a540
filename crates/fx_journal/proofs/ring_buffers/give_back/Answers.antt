use Rattle.std.proofs.Common.{◌≡◌, ◌-◌, true, false, List, [], ◌∷◌, ◌++◌, length, take, refl, sym, ◌∙◌, subst, ap, arith}
use Rattle.std.proofs.lemmas.List.{take_at, get_or_push, length_push}
use Rattle.fx_pool.specs.Region.{Run}
use Rattle.fx_journal.specs.Ring.{run_at, KeepsBuffers}
use Rattle.fx_journal.proofs.Counted.{given}
use Rattle.fx_journal.proofs.Buffers.{last-out, kept-last, others-given}
use Rattle.fx_journal.proofs.ring_buffers.give_back.Goals as goal

front_is : (own front : List Run) (x : Run) → own ≡ front ++ x ∷ [] → front ≡ take (length own - 1) own
front_is own front x e =
    sym (ap (λ (l : List Run). take (length own - 1) l) e ∙ take_at front (x ∷ []) (length own - 1) (omega (arith, ap length e, length_push front x)))

pub unreachable-requires : goal.unreachable-requires
unreachable-requires c = let bad : false ≡ true = c.in_default.ensures.variant.1 (omega (arith, c.args.buffers.now.ok.0)) in cc

pub give-requires : goal.give-requires
give-requires c = (last-out c.args.buffers.now.items c.pop_back.new.self.items c.in-Some.buffer c.args.pool.now c.in-Some.ensures.items c.requires.buffers).0

pub returns-clause-left : goal.returns-clause-left
returns-clause-left c = front_is c.args.buffers.now.items c.pop_back.new.self.items c.in-Some.buffer c.in-Some.ensures.items

pub returns-clause-gave : goal.returns-clause-gave
returns-clause-gave c = record {
  buffers = kept-last c.pop_back.new.self.items c.in-Some.buffer c.args.pool.now c.give.new.self
      (subst (λ (l : List Run). KeepsBuffers l c.args.pool.now) c.in-Some.ensures.items c.requires.buffers) c.give.ensures.kept.sound c.give.ensures.still_out;
  others = others-given c.args.buffers.now.items c.in-Some.buffer (length c.pop_back.new.self.items) c.args.pool.now c.give.new.self
      (omega (arith, ap length c.in-Some.ensures.items, length_push c.pop_back.new.self.items c.in-Some.buffer))
      (ap (λ (l : List Run). run_at l (length c.pop_back.new.self.items)) c.in-Some.ensures.items ∙ get_or_push c.pop_back.new.self.items c.in-Some.buffer (record { start = 0; order = 0 }) (length c.pop_back.new.self.items) refl)
      c.give.ensures.kept.order c.give.ensures.kept.bytes c.give.ensures.still_out;
  bytes = c.give.ensures.kept.bytes;
  counted = let last = last-out c.args.buffers.now.items c.pop_back.new.self.items c.in-Some.buffer c.args.pool.now c.in-Some.ensures.items c.requires.buffers in
      given c.args.pool.now c.give.new.self c.in-Some.buffer c.requires.buffers.sound last.0 last.1 c.give.ensures.out;
}
