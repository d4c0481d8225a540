use Rattle.std.proofs.Common.{sym, subst, arith}
use Rattle.fx_turn.specs.Parts.{Has}
use Rattle.fx_turn.specs.PartLaws.{Has-without}
use Rattle.turn_bench.proofs.by_turn.split_last.Goals as goal

pub returns-clause-threads : goal.returns-clause-threads
returns-clause-threads c = λ q less. subst (λ k. Has k.mine q) (sym c.split.ensures.rest) (Has-without c.args.who c.args.pass.now.mine q (λ e. omega arith) (c.requires.threads q (omega arith)))
