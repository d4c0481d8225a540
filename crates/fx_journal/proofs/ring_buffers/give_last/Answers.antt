use Rattle.std.proofs.Common.{◌≡◌, ℕ, ◌+◌, ◌-◌, List, length, take, refl, sym, ◌∙◌, subst, ap, arith}
use Rattle.std.proofs.lemmas.List.{take-take, length-take, take_all}
use Rattle.fx_pool.specs.Region.{Run}
use Rattle.fx_journal.specs.Buffers.{GaveBuffers}
use Rattle.fx_journal.proofs.Buffers.{gave-none, gave-last}
use Rattle.fx_journal.proofs.ring_buffers.give_last.Goals as goal

-- one fewer of the first
fewer : (own now : List Run) (n : ℕ) → now ≡ take (length own - n) own → take (length now - 1) now ≡ take (length own - (n + 1)) own
fewer own now n e =
    let len : length now ≡ length own - n = omega (arith, ap length e, length-take (length own - n) own) in
    let fewer_is : length now - 1 ≡ length own - (n + 1) = omega arith in
    ap (λ (l : List Run). take (length now - 1) l) e
    ∙ ap (λ (k : ℕ). take k (take (length own - n) own)) fewer_is
    ∙ take-take (length own - (n + 1)) (length own - n) own (omega arith)

pub loop-init : goal.loop-init
loop-init c = (gave-none c.args.buffers.now.items c.args.pool.now c.requires.buffers, sym (take_all (length c.args.buffers.now.items - 0) c.args.buffers.now.items (omega arith)), refl)

pub give_back-requires : goal.give_back-requires
give_back-requires c = record {
  buffers = c.loop.invariant.0.buffers;
  enough = omega (arith, c.requires.enough, ap length c.loop.invariant.1, length-take (length c.args.buffers.now.items - c.loop.counter) c.args.buffers.now.items);
}

pub loop-preserved : goal.loop-preserved
loop-preserved c =
    let e = c.give_back.ensures in (
      gave-last c.args.buffers.now.items c.loop.buffers.items c.give_back.new.buffers.items c.args.pool.now c.loop.pool c.give_back.new.pool (length c.args.buffers.now.items - c.loop.counter) c.loop.counter c.loop.invariant.1 c.loop.invariant.0 e.gave,
      e.left ∙ fewer c.args.buffers.now.items c.loop.buffers.items c.loop.counter c.loop.invariant.1,
      e.capacity ∙ c.loop.invariant.2,
    )

pub returns : goal.returns
returns c =
    let end : c.loop.counter ≡ c.args.count = omega arith in
    record {
      gave = subst (λ (k : ℕ). GaveBuffers c.args.buffers.now.items c.loop.buffers.items c.args.pool.now c.loop.pool k) end c.loop.invariant.0;
      left = c.loop.invariant.1 ∙ ap (λ (k : ℕ). take (length c.args.buffers.now.items - k) c.args.buffers.now.items) end;
      capacity = c.loop.invariant.2;
    }
