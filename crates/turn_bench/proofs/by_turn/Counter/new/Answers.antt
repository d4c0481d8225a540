use Rattle.std.proofs.Common.{ℕ, List, sym, subst}
use Rattle.std.specs.Ordering.{nat_cmp}
use Rattle.std.specs.FinMap.{from_entries}
use Rattle.fx_turn.specs.Parts.{Has}
use Rattle.fx_turn.specs.PartLaws.{Has-push}
use Rattle.turn_bench.proofs.by_turn.Counter.new.Goals as goal

pub loop-thread-preserved : goal.loop-thread-preserved
loop-thread-preserved c = λ q less. subst (λ (es : List (ℕ × ℕ)). Has (from_entries {R = nat_cmp} es) q) (sym c.in_ok-push.ensures.items) (Has-push _ c.loop-thread.thread 0 c.loop-thread.invariant q less)
