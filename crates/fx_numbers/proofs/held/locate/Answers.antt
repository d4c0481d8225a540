use Rattle.std.proofs.Common.{rules, ◌≡◌}
use Rattle.std.proofs.lemmas.List.Sorted.{answers_always}
use Rattle.fx_numbers.specs.declared.held.HeldKey.{HeldKey}
use Rattle.fx_numbers.proofs.HeldLists.{found_held}
use Rattle.fx_numbers.proofs.held.locate.Goals as goal

pub returns : goal.returns
returns c =
    found_held c.args.held.now c.args.key c.binary_search_by_key.result c.requires c.binary_search_by_key.ensures.bound
    (c.binary_search_by_key.ensures.position (λ (h : HeldKey). h.key) (answers_always _ (λ a r. r ≡ a.0.now.key) _ (λ f a r q k. search rules)))
