use Rattle.std.proofs.Common.{ℕ, List, ◌++◌, length, drop, replicate, sym, subst}
use Rattle.fx_super.specs.Layers.{IsPadded}
use Rattle.fx_super.proofs.Lists.{copied_is_padded}
use Rattle.fx_super.proofs.layers.LayerList.from_slice.Goals as goal

pub invariant_of-result : goal.invariant_of-result
invariant_of-result c =
    subst (λ (xs : List ℕ). IsPadded (xs ++ drop (length c.args.blocks.now) (replicate 32 0)) (length c.args.blocks.now)) (sym c.copy_from_slice.ensures.after) (copied_is_padded c.args.blocks.now c.requires)
