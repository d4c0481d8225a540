use Rattle.std.proofs.Common.{take}
use Rattle.std.specs.List.{All}
use Rattle.fx_verify.specs.Kept.{plain_txns}
use Rattle.fx_worked.specs.Tried.{IsAsStated}
use Rattle.fx_worked.proofs.keeping.passes.Given as goal

abbrev pub invariant-loop-block : goal.invariant-loop-block
invariant-loop-block l = All (IsAsStated (plain_txns l.fn.txns) l.fn.found) (take l.block-index l.blocks)
