use Rattle.std.proofs.Common.{rules}
use Rattle.fx_verify.specs.Kept.{plain_txns}
use Rattle.fx_worked.proofs.Stated.{as_stated}
use Rattle.fx_worked.proofs.keeping.is_as_stated.Goals as goal

pub returns-in-Some : goal.returns-in-Some
returns-in-Some c = as_stated (plain_txns c.args.txns.now) c.args.found.now c.args.block c.in-Some.sum c.was_found.result (search rules) (search rules)
