use Rattle.std.proofs.Common.{◌≡◌, ◌∙◌, ◌^◌, ℕ, List, Option, None, Some, replicate, set, ap, arith, rules}
use Rattle.fx_pool.proofs.Pools.{few-blocks, IsPool-whole}
use Rattle.fx_pool.proofs.pool.Pool.new.Goals as goal

pub new-requires : goal.new-requires
new-requires c = omega (arith, c.blocks-len.ensures, few-blocks c.args.order c.requires)

pub invariant_of-result : goal.invariant_of-result
invariant_of-result c =
    let f : c.insert.new.self ≡ set (replicate (2 ^ c.args.order) None) 0 (Some c.args.order) =
    c.insert.ensures ∙ ap (λ (l : List (Option ℕ)). set l 0 (Some c.args.order)) (c.in_ok-free.ensures ∙ ap (λ (n : ℕ). replicate n None) c.blocks-len.ensures) in
    let o : c.in_ok-vec.field-0.items ≡ replicate (2 ^ c.args.order) None =
    c.in_ok-vec.ensures.items_if_clones_equal (λ y e. search rules) ∙ ap (λ (n : ℕ). replicate n None) (c.from.ensures ∙ c.blocks-len.ensures) in
    IsPool-whole c.args.order c.insert.new.self c.in_ok-vec.field-0.items c.in_ok-vec-2.field-0.items c.requires f o
    (omega (arith, c.in_ok-vec-2.field-0.ok.0, c.in_ok-vec-2.ensures.len, c.blocks-len.ensures))

pub returns-clause-sound : goal.returns-clause-sound
returns-clause-sound c = invariant_of-result c
