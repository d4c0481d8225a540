use Rattle.fx_super.proofs.Judging.{decoded_super, decoded_version}
use Rattle.fx_super.proofs.decode.decode_super.Goals as goal

pub returns-clause-found : goal.returns-clause-found
returns-clause-found c = λ f h. decoded_super c.args.block.now c.judge.result f c.judge.ensures h

pub returns-clause-version : goal.returns-clause-version
returns-clause-version c = λ v h. decoded_version c.args.block.now c.judge.result v c.judge.ensures h
