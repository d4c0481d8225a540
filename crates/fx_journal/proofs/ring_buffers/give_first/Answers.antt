use Rattle.std.proofs.Common.{◌≡◌, ℕ, List, length, drop, refl, ◌∙◌, subst, ap, arith}
use Rattle.std.proofs.lemmas.List.{drop-drop, length-drop}
use Rattle.fx_pool.specs.Region.{Run}
use Rattle.fx_journal.specs.Buffers.{GaveBuffers}
use Rattle.fx_journal.proofs.Buffers.{gave-none, gave-first}
use Rattle.fx_journal.proofs.ring_buffers.give_first.Goals as goal

pub loop-init : goal.loop-init
loop-init c = (gave-none c.args.buffers.now.items c.args.pool.now c.requires.buffers, refl, refl)

pub give_front-requires : goal.give_front-requires
give_front-requires c = record {
  buffers = c.loop.invariant.0.buffers;
  enough = omega (arith, c.requires.enough, ap length c.loop.invariant.1, length-drop c.loop.counter c.args.buffers.now.items);
}

pub loop-preserved : goal.loop-preserved
loop-preserved c =
    let e = c.give_front.ensures in (
      gave-first c.args.buffers.now.items c.loop.buffers.items c.give_front.new.buffers.items c.args.pool.now c.loop.pool c.give_front.new.pool c.loop.counter c.loop.invariant.1 c.loop.invariant.0 e.gave,
      e.left ∙ ap (λ (l : List Run). drop 1 l) c.loop.invariant.1 ∙ drop-drop 1 c.loop.counter c.args.buffers.now.items,
      e.capacity ∙ c.loop.invariant.2,
    )

pub returns : goal.returns
returns c =
    let end : c.loop.counter ≡ c.args.count = omega arith in
    record {
      gave = subst (λ (k : ℕ). GaveBuffers c.args.buffers.now.items c.loop.buffers.items c.args.pool.now c.loop.pool k) end c.loop.invariant.0;
      left = c.loop.invariant.1 ∙ ap (λ (k : ℕ). drop k c.args.buffers.now.items) end;
      capacity = c.loop.invariant.2;
    }
