use Rattle.fx_ckpt.proofs.Lasting.{put_lasts, start_lasts}
use Rattle.fx_ckpt.proofs.laws.put_lasts_law.Goals as goal

pub returns-clause-start : goal.returns-clause-start
returns-clause-start c = start_lasts

pub returns-clause-closed : goal.returns-clause-closed
returns-clause-closed c = put_lasts

pub returns-clause-written : goal.returns-clause-written
returns-clause-written c = λ log cut put. record { is = put.is; comes = put.comes; one = put.one }

pub returns-clause-flushed : goal.returns-clause-flushed
returns-clause-flushed c = λ log cut put. record { is = put.is; comes = put.comes; one = put.one }
