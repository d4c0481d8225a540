use Rattle.std.proofs.Common.{sym, subst, arith}
use Rattle.fx_turn.specs.Parts.{Has}
use Rattle.fx_turn.specs.PartLaws.{Has-without}
use Rattle.fx_turn.proofs.tests.split_last.Goals as goal

pub returns-clause-writers : goal.returns-clause-writers
returns-clause-writers c = λ q less. subst (λ k. Has k.mine q) (sym c.split.ensures.rest) (Has-without c.args.who c.args.pass.now.mine q (λ e. omega arith) (c.requires.writers q (omega arith)))
