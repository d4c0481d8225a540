use Rattle.std.proofs.Common.{rules}
use Rattle.fx_jblock.proofs.Judging.{continues_fits}
use Rattle.fx_jblock.proofs.fits.Goals as goal

pub returns-clause-packed : goal.returns-clause-packed
returns-clause-packed c = λ epoch text h.
    continues_fits c.args.block.now c.args.seq c.args.floor c.args.generation c.args.chain c.judge.result epoch text (search rules) (search rules) (search rules) c.judge.ensures h
