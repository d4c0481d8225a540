use Rattle.std.proofs.Common.{◌≡◌, ◌≤◌, [], vec_len}
use Rattle.std.specs.List.{All}
use Rattle.std.specs.Vec.{vec_capacity}
use Rattle.fx_pool.proofs.free.empty_lists.Given as goal

abbrev pub invariant-loop-order : goal.invariant-loop-order
invariant-loop-order l = (vec_len l.lists ≡ l.order) × All (λ list. (list.items ≡ []) × (l.room ≤ vec_capacity list)) l.lists.items
