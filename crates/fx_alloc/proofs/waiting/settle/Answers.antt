use Rattle.std.proofs.Common.{◌≡◌, ◌<◌, ℕ, suc, List, ◌∷◌, [], length, All, IsNone, arith, refl, sym, ◌∙◌, ap, subst}
use Rattle.fx_alloc.specs.declared.uses.Use.TheVariants.{Free}
use Rattle.fx_alloc.specs.Uses.{put_all}
use Rattle.fx_alloc.specs.Space.{settled_blocks}
use Rattle.fx_alloc.specs.Inside.{waiting_blocks}
use Rattle.fx_alloc.proofs.SpaceMoves.{length-left}
use Rattle.fx_alloc.proofs.waiting.settle.Goals as goal

pub overflow_add-count : goal.overflow_add-count
overflow_add-count c =
    let e : length (settled_blocks c.args.number c.loop-block.waiting.items) ≡ suc (length (settled_blocks c.args.number c.take_settled.new.waiting.items)) = ap (λ (l : List ℕ). length l) c.in-Some.ensures.some.blocks in
    omega (arith, e, c.loop-block.invariant.counted, c.requires.few, length-left c.args.number c.args.waiting.now.items)

pub loop-block-preserved : goal.loop-block-preserved
unfolding put_all
loop-block-preserved c =
    let e : length (settled_blocks c.args.number c.loop-block.waiting.items) ≡ suc (length (settled_blocks c.args.number c.take_settled.new.waiting.items)) = ap (λ (l : List ℕ). length l) c.in-Some.ensures.some.blocks in
    let below : All (λ b. b < length c.args.uses.now) (c.in-Some.block ∷ waiting_blocks c.take_settled.new.waiting.items) = subst (λ (bs : List ℕ). All (λ b. b < length c.args.uses.now) bs) c.in-Some.ensures.some.all c.loop-block.invariant.below in
    record {
      same = subst (λ (bs : List ℕ). put_all Free bs c.loop-block.uses ≡ put_all Free (settled_blocks c.args.number c.args.waiting.now.items) c.args.uses.now) c.in-Some.ensures.some.blocks c.loop-block.invariant.same;
      left = sym c.in-Some.ensures.some.left ∙ c.loop-block.invariant.left;
      below = λ k d l. below (suc k) d (omega (arith, l));
      counted = omega (arith, e, c.loop-block.invariant.counted);
      capacity = c.in-Some.ensures.capacity ∙ c.loop-block.invariant.capacity;
    }

pub returns-clause-uses : goal.returns-clause-uses
unfolding put_all
returns-clause-uses c =
    let none : settled_blocks c.args.number c.loop-block.waiting.items ≡ [] = c.take_settled.ensures.none (subst (λ o. IsNone o) (sym c.in_default.is) refl) in
    subst (λ (bs : List ℕ). put_all Free bs c.loop-block.uses ≡ put_all Free (settled_blocks c.args.number c.args.waiting.now.items) c.args.uses.now) none c.loop-block.invariant.same
