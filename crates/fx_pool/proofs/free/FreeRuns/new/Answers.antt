use Rattle.std.proofs.Common.{◌≡◌, ◌∙◌, ℕ, None, replicate, ap, arith, rules}
use Rattle.fx_pool.proofs.Kept.{IsKept-new}
use Rattle.fx_pool.proofs.free.FreeRuns.new.Goals as goal

pub invariant_of-result : goal.invariant_of-result
invariant_of-result c =
    let o : c.in_ok-vec.field-0.items ≡ replicate c.from.result None = c.in_ok-vec.ensures.items_if_clones_equal (λ y e. search rules) in
    IsKept-new c.args.blocks c.in_ok-vec.field-0.items c.in_ok-vec-2.field-0.items c.in_ok-empty_lists.field-0.items c.requires
    (o ∙ ap (λ (n : ℕ). replicate n None) c.from.ensures)
    (omega (arith, c.in_ok-vec-2.field-0.ok.0, c.in_ok-vec-2.ensures.len, c.from-2.ensures))
    (omega (arith, c.in_ok-empty_lists.field-0.ok.0, c.in_ok-empty_lists.ensures.len))
    c.in_ok-empty_lists.ensures.empty
