use Rattle.std.proofs.Common.{◌∙◌, refl, subst}
use Rattle.std.proofs.lemmas.List.{take_all}
use Rattle.std.proofs.lemmas.List.Elements.{All-contains, All-more}
use Rattle.std.specs.List.{All}
use Rattle.fx_verify.specs.Kept.{plain_txns}
use Rattle.fx_worked.specs.Tried.{IsAsStated}
use Rattle.fx_worked.proofs.keeping.passes.Goals as goal

pub loop-block-preserved : goal.loop-block-preserved
loop-block-preserved c =
    All-more (IsAsStated (plain_txns c.args.txns.now) c.args.found.now) c.as_slice-blocks.result.now c.loop-block.block-index 0 c.loop-block-test.true c.loop-block.invariant (c.if-not-is_as_stated.ensures.0 refl)

pub returns : goal.returns
returns c =
    let all : All (IsAsStated (plain_txns c.args.txns.now) c.args.found.now) c.in_ok-blocks.blocks =
    subst (All (IsAsStated (plain_txns c.args.txns.now) c.args.found.now)) (take_all c.loop-block.block-index c.as_slice-blocks.result.now c.loop-block-test.false ∙ c.as_slice-blocks.ensures) c.loop-block.invariant in (
      λ _. λ b x live.
          All-contains (IsAsStated (plain_txns c.args.txns.now) c.args.found.now) c.in_ok-blocks.blocks b all ((c.in_ok-blocks.ensures.each b).1 (c.live_is_written.ensures (plain_txns c.args.txns.now) b x live)) x live,
      λ _. refl,
    )
