use Rattle.std.proofs.Common.{rules, tests}
use Rattle.fx_alloc.proofs.Chaining.{ChainsUp-one}
use Rattle.fx_alloc.proofs.layers.take_back.Goals as goal

pub returns-clause-chain : goal.returns-clause-chain
returns-clause-chain c = ChainsUp-one c.args.uses.now c.args.links.now c.args.layers c.args.block c.requires.links (search (rules, tests))
