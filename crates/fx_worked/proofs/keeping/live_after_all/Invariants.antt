use Rattle.std.proofs.Common.{◌≡◌, drop, ℕ, List}
use Rattle.std.specs.List.{fold}
use Rattle.fx_item.specs.Item.{PlainItem}
use Rattle.fx_verify.specs.Kept.{after_items, live_sum, plain_txns}
use Rattle.fx_worked.proofs.keeping.live_after_all.Given as goal

abbrev pub invariant-loop-items : goal.invariant-loop-items
invariant-loop-items l = fold (λ old (t : ℕ × List PlainItem). after_items l.block old t.1) l.live (plain_txns (drop l.items-index l.txns)) ≡ live_sum (plain_txns l.txns) l.block
