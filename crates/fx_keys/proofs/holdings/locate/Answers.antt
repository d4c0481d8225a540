use Rattle.std.proofs.Common.{rules, ◌≡◌}
use Rattle.fx_keys.specs.declared.holdings.Hold.{Hold}
use Rattle.std.proofs.lemmas.List.Sorted.{answers_always}
use Rattle.fx_keys.proofs.HoldArrays.{located}
use Rattle.fx_keys.proofs.holdings.locate.Goals as goal

pub returns : goal.returns
returns c =
    located c.args.holds.now c.args.key c.binary_search_by_key.result c.requires c.binary_search_by_key.ensures.bound
    (c.binary_search_by_key.ensures.position (λ (h : Hold). h.key) (answers_always _ (λ a r. r ≡ a.0.now.key) _ (λ f a r q k. search rules)))
