use Rattle.std.proofs.Common.{◌+◌, ◌++◌, ◌∷◌, [], ◌∙◌, sym, ap, append_assoc}
use Rattle.std.specs.List.{range_with_len}
use Rattle.fx_node.proofs.Taken.{range_more}
use Rattle.fx_node.proofs.reaping.push_blocks.Goals as goal

pub loop-place-preserved : goal.loop-place-preserved
loop-place-preserved c =
    let b = c.args.run.block in let n = c.loop-place.place in
    c.in_ok-push.ensures.items ∙ ap (λ xs. xs ++ (b + n) ∷ []) c.loop-place.invariant
    ∙ append_assoc c.args.blocks.now.items (range_with_len b n) ((b + n) ∷ []) ∙ ap (λ xs. c.args.blocks.now.items ++ xs) (sym (range_more b n))
